-- How many entries one-card poker has, and how many nodes are wanted between them.
use Rattle.std.proofs.Common.{◌≡◌, ℕ, ◌+◌, ◌-◌, ◌*◌, ◌≤◌, List, [], ◌∷◌, ◌++◌, length, map, refl, sym, ap, ◌∙◌, subst, arith}
use Rattle.std.proofs.lemmas.List.{length-append, length-map}
use Rattle.std.proofs.lemmas.List.FromFn.{length-range_with_len}
use Rattle.def_tree.specs.Rules.{most_nodes}
use Rattle.def_file.specs.Content.{Record, chance_record}
use Rattle.def_canon.proofs.NoFault.{described_have_no_fault}
use Rattle.def_canon.proofs.Sizes.{wanted_behind, wanted_behind-append, EntriesBegin, begin-append, wanted_described, begins_described}
use Rattle.def_canon.specs.Poker.{after_bet, after_check, answer, cards, deal_one, deal_two, dealt_card, entries, facing_bet, hand, hands, opening_set, others}
use Rattle.def_canon.specs.Poker.{rounds_with_cards}
use Rattle.def_canon.specs.PokerLaws.{PokerIsGame}
use Rattle.def_canon.proofs.Cards.{AreCards, cards_are, others_count}
use Rattle.def_canon.proofs.Described.{entries_describe, set_with, outcome_of_poker}

hand_wanted : (n i j k : ℕ) → 1 ≤ k → wanted_behind k (hand n i j) + 1 ≡ k
unfolding hand facing_bet opening_set after_check answer after_bet
hand_wanted n i j k some = omega arith

hand_begins : (n i j k : ℕ) → 1 ≤ k → EntriesBegin k (hand n i j)
unfolding hand facing_bet opening_set after_check answer after_bet
hand_begins n i j k some =
    (omega arith, (omega arith, (omega arith, (omega arith, (omega arith, (omega arith, (omega arith, (omega arith, (omega arith, tt)))))))))

hands_wanted : (n i : ℕ) (js : List ℕ) (k : ℕ) → length js ≤ k → wanted_behind k (hands n i js) + length js ≡ k
unfolding hands
hands_wanted n i [] k few = omega arith
hands_wanted n i (j ∷ js) k few =
    let first = hand_wanted n i j k (omega arith) in
    let later = hands_wanted n i js (wanted_behind k (hand n i j)) (omega arith) in
    omega (arith, wanted_behind-append k (hand n i j) (hands n i js), first, later)

hands_begin : (n i : ℕ) (js : List ℕ) (k : ℕ) → length js ≤ k → EntriesBegin k (hands n i js)
unfolding hands
hands_begin n i [] k few = tt
hands_begin n i (j ∷ js) k few =
    let first = hand_wanted n i j k (omega arith) in
    begin-append k (hand n i j) (hands n i js) (hand_begins n i j k (omega arith)) (hands_begin n i js (wanted_behind k (hand n i j)) (omega arith))

-- behind a deal as many more nodes are wanted as it has actions
deal_wanted : (n i k : ℕ) (rs : List Record)
    → wanted_behind k (chance_record (deal_two n i) ∷ rs) ≡ wanted_behind (k + length (others n i) - 1) rs
unfolding deal_two
deal_wanted n i k rs = ap (λ c. wanted_behind (k + c - 1) rs) (length-map (others n i) (dealt_card (n - 1)))

deal_begins : (n i k : ℕ) (rs : List Record) → 1 ≤ k → EntriesBegin (k + length (others n i) - 1) rs
    → EntriesBegin k (chance_record (deal_two n i) ∷ rs)
unfolding deal_two
deal_begins n i k rs some begins =
    (some, subst (λ c. EntriesBegin (k + c - 1) rs) (sym (length-map (others n i) (dealt_card (n - 1)))) begins)

rounds_wanted : (n : ℕ) (is : List ℕ) (k : ℕ) → length is ≤ k → wanted_behind k (rounds_with_cards n is) + length is ≡ k
unfolding rounds_with_cards
rounds_wanted n [] k few = omega arith
rounds_wanted n (i ∷ is) k few =
    let c = length (others n i) in
    let deal = deal_wanted n i k (hands n i (others n i) ++ rounds_with_cards n is) in
    let split = wanted_behind-append (k + c - 1) (hands n i (others n i)) (rounds_with_cards n is) in
    let first = hands_wanted n i (others n i) (k + c - 1) (omega arith) in
    let later = rounds_wanted n is (wanted_behind (k + c - 1) (hands n i (others n i))) (omega arith) in
    omega (arith, deal, split, first, later)

rounds_begin : (n : ℕ) (is : List ℕ) (k : ℕ) → length is ≤ k → EntriesBegin k (rounds_with_cards n is)
unfolding rounds_with_cards
rounds_begin n [] k few = tt
rounds_begin n (i ∷ is) k few =
    let c = length (others n i) in
    let first = hands_wanted n i (others n i) (k + c - 1) (omega arith) in
    deal_begins n i k (hands n i (others n i) ++ rounds_with_cards n is) (omega arith)
    (begin-append (k + c - 1) (hands n i (others n i)) (rounds_with_cards n is) (hands_begin n i (others n i) (k + c - 1) (omega arith))
    (rounds_begin n is (wanted_behind (k + c - 1) (hands n i (others n i))) (omega arith)))

hand_length : (n i j : ℕ) → length (hand n i j) ≡ 9
unfolding hand facing_bet
hand_length n i j = refl

hands_length : (n i : ℕ) (js : List ℕ) → length (hands n i js) ≡ 9 * length js
unfolding hands
hands_length n i [] = refl
hands_length n i (j ∷ js) =
    let later = hands_length n i js in
    omega (arith, length-append (hand n i j) (hands n i js), hand_length n i j, later)

rounds_length : (n : ℕ) → n ≤ 64 → (is : List ℕ) → AreCards n is → length (rounds_with_cards n is) ≤ 568 * length is
unfolding rounds_with_cards
rounds_length n limit [] are = omega arith
rounds_length n limit (i ∷ is) are =
    let later = rounds_length n limit is are.1 in
    let count = others_count n i are.0.0 are.0.1 in
    omega (arith, length-append (hands n i (others n i)) (rounds_with_cards n is), hands_length n i (others n i), later, count)

module _ (n : ℕ) (two : 2 ≤ n) (limit : n ≤ 64) where
  -- with 2 to 64 cards there are at most 36,353 entries
  pub entries_count : length (entries n) ≤ 36353
  unfolding entries
  entries_count =
      let count : length (cards n) ≡ n = length-range_with_len 1 n in
      omega (arith, rounds_length n limit (cards n) (cards_are n), count)

  -- within the limit of nodes
  pub entries_few : length (entries n) ≤ most_nodes
  entries_few = omega (arith, entries_count)

  -- each entry comes where a node is wanted, and behind the last none is
  pub entries_begin : EntriesBegin 1 (entries n)
  unfolding entries deal_one
  entries_begin =
      let count : length (cards n) ≡ n = length-range_with_len 1 n in
      let many : length (map (dealt_card n) (cards n)) ≡ length (cards n) = length-map (cards n) (dealt_card n) in
      (omega arith, rounds_begin n (cards n) (1 + length (map (dealt_card n) (cards n)) - 1) (omega arith))

  entries_end : wanted_behind 1 (entries n) ≡ 0
  unfolding entries deal_one
  entries_end =
      let count : length (cards n) ≡ n = length-range_with_len 1 n in
      let many : length (map (dealt_card n) (cards n)) ≡ length (cards n) = length-map (cards n) (dealt_card n) in
      let later = rounds_wanted n (cards n) (1 + length (map (dealt_card n) (cards n)) - 1) (omega arith) in
      omega arith

-- with 2 to 64 cards no entry has a fault, and the nodes are one whole tree
pub poker_is_game : PokerIsGame
poker_is_game n two limit =
    let each = entries_describe n two limit in (
      described_have_no_fault (set_with n) outcome_of_poker (entries n) each (entries_few n two limit),
      record {
        begins = begins_described (set_with n) outcome_of_poker (entries n) 1 each (entries_begin n two limit);
        ends = wanted_described (set_with n) outcome_of_poker (entries n) 1 each ∙ entries_end n two limit;
      },
    )
