-- Each entry of one-card poker describes its set and its outcome as its number says.
use Rattle.std.proofs.Common.{◌≡◌, ℕ, ◌+◌, ◌-◌, ◌≤◌, ◌⊎◌, inl, inr, false, cond, List, [], ◌∷◌, length, map, Some, refl, sym, ap, ◌∙◌, arith}
use Rattle.std.specs.Prelude.{if◌then◌else◌, nat_eq, nat_le}
use Rattle.std.proofs.lemmas.List.{length-map}
use Rattle.std.proofs.lemmas.List.FromFn.{length-range_with_len}
use Rattle.std.proofs.lemmas.Bool.{false_from_ne_true, le-leb, leb-true, ne_eqb}
use Rattle.def_tree.specs.declared.Kind.{Kind}
use Rattle.def_tree.specs.declared.Kind.TheVariants as movers
use Rattle.def_tree.specs.declared.Player.{Player}
use Rattle.def_tree.specs.declared.Player.TheVariants.{One, Two}
use Rattle.def_tree.specs.Rules.{most_actions}
use Rattle.def_file.specs.Content.{Action, SetMention, OutcomeMention, no_set_mention, no_outcome_mention, chance_record, player_record, leaf_record}
use Rattle.def_file.specs.Faults.{mover}
use Rattle.def_fraction.specs.Fraction.{Fraction}
use Rattle.def_canon.specs.Described.{Each, Describes}
use Rattle.def_canon.proofs.NoFault.{each_append}
use Rattle.def_canon.specs.Poker.{after_bet, after_check, answer, cards, deal_one, deal_two, dealt_card, entries, facing_bet, hand, hands, higher, opening_set}
use Rattle.def_canon.specs.Poker.{others, rounds_with_cards, wins_one, wins_two}
use Rattle.def_canon.proofs.Cards.{AreCards, cards_are, others_are, others_count}

-- the set with a number, and the outcome
abbrev pub set_with : ℕ → Kind → ℕ → SetMention
set_with n movers.Chance m = if nat_eq m 1 then deal_one n else deal_two n (m - 1)
set_with n movers.One m = if nat_le m n then opening_set m else answer n (m - n)
set_with n movers.Two m = if nat_le m n then after_check m else after_bet n (m - n)
set_with n movers.Leaf m = no_set_mention

abbrev pub outcome_of_poker : ℕ → OutcomeMention
outcome_of_poker m =
    if nat_eq m 1 then wins_one One
    else (if nat_eq m 2 then wins_one Two
    else (if nat_eq m 3 then wins_two One
    else (if nat_eq m 4 then wins_two Two else no_outcome_mention)))

-- a number that is above
pub above : (n i : ℕ) → 1 ≤ i → nat_le (n + i) n ≡ false
above n i low = false_from_ne_true _ (λ is. let le : n + i ≤ n = leb-true (n + i) n is in absurd (omega arith))

deal_describes : (n : ℕ) (set : SetMention) (actions : List Action) → set ≡ set_with n movers.Chance set.number
    → set.actions ≡ Some actions
    → 1 ≤ length actions → length actions ≤ most_actions → Describes (set_with n) outcome_of_poker (chance_record set)
deal_describes n set actions same gives some few = record {
  player = λ e. cc;
  set = λ _. record { same = same; actions = actions; gives = gives; some = some; few = few };
  outcome = record { same = refl; null = λ _. refl; two = λ inner. absurd (inner refl) };
}

move_describes : (n player : ℕ) (set : SetMention) (actions : List Action) → (player ≡ 1) ⊎ (player ≡ 2)
    → set ≡ set_with n (mover (player_record player set)) set.number → set.actions ≡ Some actions
    → length actions ≡ 2 → Describes (set_with n) outcome_of_poker (player_record player set)
move_describes n player set actions who same gives two = record {
  player = λ _. who;
  set = λ _. record { same = same; actions = actions; gives = gives; some = omega arith; few = omega arith };
  outcome = record { same = refl; null = λ _. refl; two = λ inner. absurd (inner refl) };
}

end_describes : (n : ℕ) (o : OutcomeMention) (one two : Fraction) → o ≡ outcome_of_poker o.number → 1 ≤ o.number
    → o.payoffs ≡ Some (one ∷ two ∷ [])
    → Describes (set_with n) outcome_of_poker (leaf_record o)
end_describes n o one two same some gives = record {
  player = λ e. cc;
  set = λ e. cc;
  outcome = record { same = same; null = λ none. absurd (omega arith); two = λ _. (one, two, gives) };
}

win_one : (n : ℕ) (p : Player) → Describes (set_with n) outcome_of_poker (leaf_record (wins_one p))
unfolding wins_one
win_one n One = end_describes n (wins_one One) _ _ refl (omega arith) refl
win_one n Two = end_describes n (wins_one Two) _ _ refl (omega arith) refl

win_two : (n : ℕ) (p : Player) → Describes (set_with n) outcome_of_poker (leaf_record (wins_two p))
unfolding wins_two
win_two n One = end_describes n (wins_two One) _ _ refl (omega arith) refl
win_two n Two = end_describes n (wins_two Two) _ _ refl (omega arith) refl

open_describes : (n i : ℕ) → i ≤ n → Describes (set_with n) outcome_of_poker (player_record 1 (opening_set i))
unfolding opening_set
open_describes n i high =
    move_describes n 1 (opening_set i) _ (inl refl) (ap (λ b. cond b (opening_set i) (answer n (i - n))) (sym (le-leb i n high))) refl refl

after_check_describes : (n j : ℕ) → j ≤ n → Describes (set_with n) outcome_of_poker (player_record 2 (after_check j))
unfolding after_check
after_check_describes n j high =
    move_describes n 2 (after_check j) _ (inr refl) (ap (λ b. cond b (after_check j) (after_bet n (j - n))) (sym (le-leb j n high))) refl refl

answer_describes : (n i : ℕ) → 1 ≤ i → Describes (set_with n) outcome_of_poker (player_record 1 (answer n i))
unfolding answer
answer_describes n i low =
    let back : n + i - n ≡ i = omega arith in
    move_describes n 1 (answer n i) _ (inl refl) (ap (answer n) (sym back)
    ∙ ap (λ b. cond b (opening_set (n + i)) (answer n (n + i - n))) (sym (above n i low))) refl refl

after_bet_describes : (n j : ℕ) → 1 ≤ j → Describes (set_with n) outcome_of_poker (player_record 2 (after_bet n j))
unfolding after_bet
after_bet_describes n j low =
    let back : n + j - n ≡ j = omega arith in
    move_describes n 2 (after_bet n j) _ (inr refl) (ap (after_bet n) (sym back)
    ∙ ap (λ b. cond b (after_check (n + j)) (after_bet n (n + j - n))) (sym (above n j low))) refl refl

hand_describes : (n i j : ℕ) → 1 ≤ i → i ≤ n → 1 ≤ j → j ≤ n
    → Each (Describes (set_with n) outcome_of_poker) (hand n i j)
unfolding hand facing_bet
hand_describes n i j i_low i_high j_low j_high = (
  open_describes n i i_high,
  (
    after_check_describes n j j_high,
    (
      win_one n (higher i j),
      (
        answer_describes n i i_low,
        (win_one n Two, (win_two n (higher i j), (after_bet_describes n j j_low, (win_one n One, (win_two n (higher i j), tt))))),
      ),
    ),
  ),
)

hands_describe : (n i : ℕ) → 1 ≤ i → i ≤ n → (js : List ℕ) → AreCards n js
    → Each (Describes (set_with n) outcome_of_poker) (hands n i js)
unfolding hands
hands_describe n i low high [] are = tt
hands_describe n i low high (j ∷ js) are =
    each_append (Describes (set_with n) outcome_of_poker) (hand n i j) (hands n i js)
    (hand_describes n i j low high are.0.0 are.0.1) (hands_describe n i low high js are.1)

module _ (n : ℕ) (two : 2 ≤ n) (limit : n ≤ 64) where
  deal_two_describes : (i : ℕ) → 1 ≤ i → i ≤ n → Describes (set_with n) outcome_of_poker (chance_record (deal_two n i))
  unfolding deal_two
  deal_two_describes i low high =
      let count = others_count n i low high in
      let many : length (map (dealt_card (n - 1)) (others n i)) ≡ length (others n i) = length-map (others n i) (dealt_card (n - 1)) in
      let not_first : nat_eq (1 + i) 1 ≡ false = ne_eqb (1 + i) 1 (omega arith) in
      let back : 1 + i - 1 ≡ i = omega arith in
      deal_describes n (deal_two n i) (map (dealt_card (n - 1)) (others n i))
      (ap (deal_two n) (sym back) ∙ ap (λ b. cond b (deal_one n) (deal_two n (1 + i - 1))) (sym not_first)) refl (omega arith) (omega arith)

  deal_one_describes : Describes (set_with n) outcome_of_poker (chance_record (deal_one n))
  unfolding deal_one
  deal_one_describes =
      let many : length (map (dealt_card n) (cards n)) ≡ length (cards n) = length-map (cards n) (dealt_card n) in
      let count : length (cards n) ≡ n = length-range_with_len 1 n in
      deal_describes n (deal_one n) (map (dealt_card n) (cards n)) refl refl (omega arith) (omega arith)

  rounds_describe : (is : List ℕ) → AreCards n is
      → Each (Describes (set_with n) outcome_of_poker) (rounds_with_cards n is)
  unfolding rounds_with_cards
  rounds_describe [] are = tt
  rounds_describe (i ∷ is) are = (
    deal_two_describes i are.0.0 are.0.1,
    each_append (Describes (set_with n) outcome_of_poker) (hands n i (others n i)) (rounds_with_cards n is)
        (hands_describe n i are.0.0 are.0.1 (others n i) (others_are n i)) (rounds_describe is are.1),
  )

  -- each entry describes its set and its outcome whole, as the game has them by their numbers
  pub entries_describe : Each (Describes (set_with n) outcome_of_poker) (entries n)
  unfolding entries
  entries_describe = (deal_one_describes, rounds_describe (cards n) (cards_are n))
