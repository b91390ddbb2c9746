-- The entries of one-card poker can be written.
use Rattle.std.proofs.Common.{◌≡◌, ℕ, ◌+◌, ◌-◌, ◌≤◌, Bool, true, false, List, [], ◌∷◌, ◌++◌, map, refl, arith, inl, inr, eq-eqb}
use Rattle.std.specs.Prelude.{◌&&◌, codes, nat_eq, nat_le, not}
use Rattle.std.specs.Char.{is_ascii_digit}
use Rattle.std.specs.Fmt.{decimal}
use Rattle.std.specs.Str.{all_ascii_digits}
use Rattle.std.proofs.lemmas.Bool.{leb-true, le-leb, ne_eqb, and_parts}
use Rattle.def_fraction.specs.Divisors.{gcd}
use Rattle.def_fraction.specs.Fraction.{most, one_over}
use Rattle.def_fraction.proofs.DivisorLemmas.{gcd-one}
use Rattle.def_fraction.proofs.TextLemmas.{decimal-numeral}
use Rattle.def_file_tokens.specs.Spelling.{bytes_of}
use Rattle.def_file_tokens.specs.Texts.{EndsPlainly}
use Rattle.def_tree.specs.declared.Player.{Player}
use Rattle.def_tree.specs.declared.Player.TheVariants.{One, Two}
use Rattle.def_file.specs.declared.EntryKind.TheVariants as kinds
use Rattle.def_file.specs.Content.{SetMention, OutcomeMention, named_action, chance_record, player_record, leaf_record}
use Rattle.def_file.specs.Game.{IsSmallFraction}
use Rattle.def_canon.specs.Canon.{canon, prologue_pieces}
use Rattle.def_canon.specs.Described.{Each}
use Rattle.def_canon.specs.Laws.{IsOfEntries}
use Rattle.def_canon.specs.Writable.{AreWritableActions, IsPlainPrologue, IsWritable, IsWritableOutcome, IsWritableSet}
use Rattle.def_canon.proofs.NoFault.{each_append}
use Rattle.def_canon.proofs.OwnLines.{own_lines}
use Rattle.def_canon.proofs.ReadBack.{canon_is_read_back, canon_of_lines, canon_stands_for_game}
use Rattle.def_canon.specs.PokerLaws.{PokerIsReadBack}
use Rattle.def_canon.specs.Poker.{after_bet, after_check, answer, cards, deal_one, deal_two, dealt_card, described_set, entries, facing_bet, hand, hands}
use Rattle.def_canon.specs.Poker.{higher, opening_set, others, poker, prologue, rounds_with_cards, wins_one, wins_two}
use Rattle.def_canon.proofs.Cards.{AreCards, cards_are, others_are}
use Rattle.def_canon.proofs.Described.{entries_describe, outcome_of_poker, set_with}
use Rattle.def_canon.proofs.PokerSizes.{entries_few, poker_is_game}

-- no backslash
abbrev plain : List ℕ → Bool
plain [] = true
plain (b ∷ bs) = not (nat_eq b 92) && plain bs

first_plain : (b : ℕ) (bs : List ℕ) → plain (b ∷ bs) ≡ true → (nat_eq b 92 ≡ false) × (plain bs ≡ true)
first_plain b bs e = chosen (nat_eq b 92) e
  where
    chosen : (x : Bool) → (not x && plain bs) ≡ true → (x ≡ false) × (plain bs ≡ true)
    chosen true e = cc
    chosen false e = (refl, (and_parts true (plain bs) e).1)

ends_plainly : (bs : List ℕ) → plain bs ≡ true → EndsPlainly bs
ends_plainly [] e [] same = cc
ends_plainly [] e (x ∷ front) same = cc
ends_plainly (b ∷ bs) e [] same =
    let is : b ≡ 92 = cc in
    let clash : nat_eq b 92 ≡ true = eq-eqb b 92 is in
    let no : nat_eq b 92 ≡ false = (first_plain b bs e).0 in
    cc
ends_plainly (b ∷ bs) e (x ∷ front) same =
    let rest : bs ≡ front ++ 92 ∷ [] = cc in
    ends_plainly bs (first_plain b bs e).1 front rest

plain_append : (xs ys : List ℕ) → plain xs ≡ true → plain ys ≡ true → plain (xs ++ ys) ≡ true
plain_append [] ys first second = second
plain_append (x ∷ xs) ys first second = let parts = first_plain x xs first in rw parts.0 (plain_append xs ys parts.1 second)

digits_plain : (ds : List ℕ) → all_ascii_digits ds ≡ true → plain ds ≡ true
digits_plain [] e = refl
digits_plain (d ∷ ds) e =
    let parts = and_parts (is_ascii_digit d) (all_ascii_digits ds) e in
    let range = and_parts (nat_le 48 d) (nat_le d 57) parts.0 in
    let high : d ≤ 57 = leb-true d 57 range.1 in
    let no : nat_eq d 92 ≡ false = ne_eqb d 92 (omega arith) in
    rw no (digits_plain ds parts.1)

decimal_plain : (n : ℕ) → n ≤ 64 → plain (decimal n) ≡ true
decimal_plain n few = digits_plain (decimal n) (and_parts _ _ (decimal-numeral n (omega arith))).0

before_number : (bs : List ℕ) (n : ℕ) → n ≤ 64 → plain bs ≡ true → EndsPlainly (bs ++ decimal n)
before_number bs n few is = ends_plainly (bs ++ decimal n) (plain_append bs (decimal n) is (decimal_plain n few))

behind_number : (bs : List ℕ) (n : ℕ) → n ≤ 64 → plain bs ≡ true → EndsPlainly (decimal n ++ bs)
behind_number bs n few is = ends_plainly (decimal n ++ bs) (plain_append (decimal n) bs (decimal_plain n few) is)

part_small : (n : ℕ) → 1 ≤ n → n ≤ 64 → IsSmallFraction (one_over n)
part_small n some few =
    let fits : nat_le n most ≡ true = le-leb n most (omega arith) in
    (record { positive = some; coprime = gcd-one n }, fits)

cards_writable : (n m : ℕ) → m ≤ 64 → 1 ≤ n → n ≤ 64 → (js : List ℕ) → AreCards m js
    → AreWritableActions kinds.Chance (map (dealt_card n) js)
cards_writable n m most_cards some few [] are = tt
cards_writable n m most_cards some few (j ∷ js) are =
    (ends_plainly (decimal j) (decimal_plain j (omega arith)), part_small n some few, cards_writable n m most_cards some few js are.1)

deal_written : (set : SetMention) → IsWritableSet kinds.Chance set → IsWritable (chance_record set)
deal_written set w = record { name = ends_plainly [] refl; mover = refl; set = λ _. w; outcome = inl refl }

move_one_written : (set : SetMention) → IsWritableSet kinds.Personal set → IsWritable (player_record 1 set)
move_one_written set w = record { name = ends_plainly [] refl; mover = inl refl; set = λ _. w; outcome = inl refl }

move_two_written : (set : SetMention) → IsWritableSet kinds.Personal set → IsWritable (player_record 2 set)
move_two_written set w = record { name = ends_plainly [] refl; mover = inr refl; set = λ _. w; outcome = inl refl }

end_written : (o : OutcomeMention) → IsWritableOutcome o → IsWritable (leaf_record o)
end_written o w = record { name = ends_plainly [] refl; mover = (refl, refl); set = λ e. cc; outcome = inr w }

win_one : (p : Player) → IsWritable (leaf_record (wins_one p))
unfolding wins_one gcd
win_one One = end_written (wins_one One) (record {
  not_null = λ e. absurd (omega arith);
  limit = omega arith;
  name = ends_plainly (codes "One wins 1") refl;
  one = _;
  two = _;
  gives = refl;
  one_small = (record { positive = omega arith; coprime = refl }, refl);
  two_small = (record { positive = omega arith; coprime = refl }, refl);
})
win_one Two = end_written (wins_one Two) (record {
  not_null = λ e. absurd (omega arith);
  limit = omega arith;
  name = ends_plainly (codes "Two wins 1") refl;
  one = _;
  two = _;
  gives = refl;
  one_small = (record { positive = omega arith; coprime = refl }, refl);
  two_small = (record { positive = omega arith; coprime = refl }, refl);
})

win_two : (p : Player) → IsWritable (leaf_record (wins_two p))
unfolding wins_two gcd
win_two One = end_written (wins_two One) (record {
  not_null = λ e. absurd (omega arith);
  limit = omega arith;
  name = ends_plainly (codes "One wins 2") refl;
  one = _;
  two = _;
  gives = refl;
  one_small = (record { positive = omega arith; coprime = refl }, refl);
  two_small = (record { positive = omega arith; coprime = refl }, refl);
})
win_two Two = end_written (wins_two Two) (record {
  not_null = λ e. absurd (omega arith);
  limit = omega arith;
  name = ends_plainly (codes "Two wins 2") refl;
  one = _;
  two = _;
  gives = refl;
  one_small = (record { positive = omega arith; coprime = refl }, refl);
  two_small = (record { positive = omega arith; coprime = refl }, refl);
})

moves_written : (number : ℕ) (name first second : List ℕ) → 1 ≤ number → number ≤ 128 → EndsPlainly name
    → plain first ≡ true → plain second ≡ true
    → IsWritableSet kinds.Personal (described_set number name (named_action first ∷ named_action second ∷ []))
moves_written number name first second some few plain_name a b = record {
  from_one = some;
  limit = omega arith;
  name = plain_name;
  actions = _;
  gives = refl;
  writable = (ends_plainly first a, refl, (ends_plainly second b, refl, tt));
}

module _ (n : ℕ) (two : 2 ≤ n) (limit : n ≤ 64) where
  hand_written : (i j : ℕ) → 1 ≤ i → i ≤ n → 1 ≤ j → j ≤ n → Each IsWritable (hand n i j)
  unfolding hand facing_bet opening_set after_check answer after_bet
  hand_written i j i_low i_high j_low j_high = (
    move_one_written (opening_set i) (moves_written i (decimal i) (codes "check") (codes "bet") i_low (omega arith)
        (ends_plainly (decimal i) (decimal_plain i (omega arith))) refl refl),
    (
      move_two_written (after_check j) (moves_written j (decimal j ++ codes " c") (codes "check") (codes "bet") j_low (omega arith)
          (behind_number (codes " c") j (omega arith) refl) refl refl),
      (
        win_one (higher i j),
        (
          move_one_written (answer n i) (moves_written (n + i) (decimal i ++ codes " cb") (codes "fold") (codes "call") (omega arith) (omega arith)
              (behind_number (codes " cb") i (omega arith) refl) refl refl),
          (
            win_one Two,
            (
              win_two (higher i j),
              (
                move_two_written (after_bet n j) (moves_written (n + j) (decimal j ++ codes " b") (codes "fold") (codes "call") (omega arith) (omega arith)
                    (behind_number (codes " b") j (omega arith) refl) refl refl),
                (win_one One, (win_two (higher i j), tt)),
              ),
            ),
          ),
        ),
      ),
    ),
  )

  hands_written : (i : ℕ) → 1 ≤ i → i ≤ n → (js : List ℕ) → AreCards n js → Each IsWritable (hands n i js)
  unfolding hands
  hands_written i low high [] are = tt
  hands_written i low high (j ∷ js) are =
      each_append IsWritable (hand n i j) (hands n i js) (hand_written i j low high are.0.0 are.0.1) (hands_written i low high js are.1)

  deal_two_written : (i : ℕ) → 1 ≤ i → i ≤ n → IsWritable (chance_record (deal_two n i))
  unfolding deal_two
  deal_two_written i low high = deal_written (deal_two n i) (record {
    from_one = omega arith;
    limit = omega arith;
    name = before_number (codes "deal two ") i (omega arith) refl;
    actions = _;
    gives = refl;
    writable = cards_writable (n - 1) n limit (omega arith) (omega arith) (others n i) (others_are n i);
  })

  deal_one_written : IsWritable (chance_record (deal_one n))
  unfolding deal_one
  deal_one_written = deal_written (deal_one n) (record {
    from_one = omega arith;
    limit = omega arith;
    name = ends_plainly (codes "deal one") refl;
    actions = _;
    gives = refl;
    writable = cards_writable n n limit (omega arith) limit (cards n) (cards_are n);
  })

  rounds_written : (is : List ℕ) → AreCards n is → Each IsWritable (rounds_with_cards n is)
  unfolding rounds_with_cards
  rounds_written [] are = tt
  rounds_written (i ∷ is) are = (
    deal_two_written i are.0.0 are.0.1,
    each_append IsWritable (hands n i (others n i)) (rounds_with_cards n is)
        (hands_written i are.0.0 are.0.1 (others n i) (others_are n i)) (rounds_written is are.1),
  )

  entries_written : Each IsWritable (entries n)
  unfolding entries
  entries_written = (deal_one_written, rounds_written (cards n) (cards_are n))

  prologue_plain : IsPlainPrologue (prologue n)
  unfolding prologue
  prologue_plain = record {
    title = before_number (codes "One-card poker ") n limit refl;
    one = ends_plainly (codes "One") refl;
    two = ends_plainly (codes "Two") refl;
    comment = ends_plainly [] refl;
  }

  of_entries : IsOfEntries (poker n)
  unfolding poker
  of_entries = record {
    prologue = prologue n;
    entries = entries n;
    sets = set_with n;
    outcomes = outcome_of_poker;
    plain = prologue_plain;
    described = entries_describe n two limit;
    writable = entries_written;
    few = entries_few n two limit;
    whole = (poker_is_game n two limit).1;
    game_is = refl;
  }

  -- the canonical form has the lines of these entries behind the prologue
  pub lines_are : canon (poker n) ≡ bytes_of (prologue_pieces (prologue n) ++ own_lines (entries n)) (10 ∷ [])
  unfolding of_entries
  lines_are = canon_of_lines (poker n) of_entries

-- with 2 to 64 cards the canonical form of the game stands for it, and is read as it
pub poker_is_read_back : PokerIsReadBack
poker_is_read_back n two limit =
    let of = of_entries n two limit in
    (canon_stands_for_game (poker n) of, canon_is_read_back (poker n) of)
