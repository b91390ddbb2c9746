-- The cards that are left, who wins, and what the title says.
use Rattle.std.proofs.Common.{◌≡◌, ◌≢◌, ℕ, zero, suc, ◌+◌, ◌<◌, ◌≤◌, Bool, true, false, cond, List, [], ◌∷◌, ◌++◌, refl, sym, ap, ◌∙◌, subst, arith}
use Rattle.std.specs.Prelude.{All, Contains, codes, nat_eq, nat_lt, not}
use Rattle.std.specs.List.{range_with_len}
use Rattle.std.specs.List.Sorted.{IsStrictlyIncreasing}
use Rattle.std.specs.Fmt.{decimal, digits}
use Rattle.std.specs.Str.Parse.{digits_value}
use Rattle.std.proofs.lemmas.Bool.{eqb-false, eqb-true, false_from_ne_true, lt-ltb, ltb-true, ne_eqb}
use Rattle.std.proofs.lemmas.Fmt.{decimal_is_IsNumeral}
use Rattle.std.proofs.lemmas.List.Elements.{All-nil, All-cons, Contains-append_right}
use Rattle.std.proofs.lemmas.List.FromFn.{get_or-range_with_len, length-range_with_len}
use Rattle.std.proofs.lemmas.List.Kept.{IsStrictlyIncreasing-filter}
use Rattle.def_tree.specs.declared.Player.TheVariants.{One, Two}
use Rattle.def_canon.specs.Poker.{cards, cards_without, others, poker, prologue}
use Rattle.def_canon.proofs.Cards.{AreCards, others_are, without-other, without-own}
use Rattle.def_poker.specs.Cards.{HigherCardWins, OthersRise, TitlesNameCards}

cards_rise : (a m : ℕ) → IsStrictlyIncreasing (range_with_len a m)
cards_rise a m k within =
    let long = length-range_with_len a m in
    omega (arith, get_or-range_with_len a m k 0 (omega arith), get_or-range_with_len a m (k + 1) 0 (omega arith))

all_cards : (n : ℕ) (js : List ℕ) → AreCards n js → All (λ j. (1 ≤ j) × (j ≤ n)) js
all_cards n [] are = All-nil (λ j. (1 ≤ j) × (j ≤ n))
all_cards n (j ∷ js) are = All-cons (λ j. (1 ≤ j) × (j ≤ n)) j js are.0 (all_cards n js are.1)

none_own : (i : ℕ) (js : List ℕ) → All (λ j. i ≢ j) (cards_without i js)
none_own i [] = All-nil (λ j. i ≢ j)
none_own i (j ∷ js) = chosen (nat_eq i j) refl (none_own i js)
  where
    chosen : (b : Bool) → nat_eq i j ≡ b → All (λ k. i ≢ k) (cards_without i js) → All (λ k. i ≢ k) (cards_without i (j ∷ js))
    chosen true is rest = subst (All (λ k. i ≢ k)) (sym (without-own i j js is)) rest
    chosen false is rest = subst (All (λ k. i ≢ k)) (sym (without-other i j js is))
        (All-cons (λ k. i ≢ k) j (cards_without i js) (eqb-false i j is) rest)

left_there : (i j a m : ℕ) → a ≤ j → j < a + m → i ≢ j → Contains (cards_without i (range_with_len a m)) j
left_there i j a zero low high other = absurd (omega arith)
left_there i j a (suc m) low high other =
    chosen (nat_eq a j) refl (λ later. left_there i j (a + 1) m later (omega arith) other)
  where
    rest : List ℕ
    rest = range_with_len (a + 1) m

    behind : (b : Bool) → nat_eq i a ≡ b → Contains (cards_without i rest) j → Contains (cards_without i (range_with_len a (suc m))) j
    behind true is there = subst (λ xs. Contains xs j) (sym (without-own i a rest is)) there
    behind false is there =
        subst (λ xs. Contains xs j) (sym (without-other i a rest is)) (Contains-append_right (a ∷ []) (cards_without i rest) j there)

    chosen : (b : Bool) → nat_eq a j ≡ b → (a + 1 ≤ j → Contains (cards_without i rest) j)
        → Contains (cards_without i (range_with_len a (suc m))) j
    chosen true is there =
        let same : a ≡ j = eqb-true a j is in
        let apart : nat_eq i a ≡ false = ne_eqb i a (λ own. other (own ∙ same)) in
        subst (λ xs. Contains xs j) (sym (without-other i a rest apart)) (0, omega arith, same)
    chosen false is there =
        let later : a ≡ j → ⊥ = eqb-false a j is in
        behind (nat_eq i a) refl (there (omega (arith, later)))

pub others_rise : OthersRise
others_rise n i = record {
  rise = IsStrictlyIncreasing-filter (λ j. not (nat_eq i j)) (cards n) (cards_rise 1 n);
  are_cards = all_cards n (others n i) (others_are n i);
  are_others = none_own i (cards n);
  all_there = λ j low high other. left_there i j 1 n low (omega arith) other;
}

pub higher_card_wins : HigherCardWins
higher_card_wins = record {
  one = λ i j less. ap (λ b. cond b One Two) (lt-ltb j i less);
  two = λ i j le. ap (λ b. cond b One Two)
      (false_from_ne_true (nat_lt j i) (λ is. let less : j < i = ltb-true j i is in absurd (omega (arith, le, less))));
}

behind_front : (front xs ys : List ℕ) → front ++ xs ≡ front ++ ys → xs ≡ ys
behind_front [] xs ys is = is
behind_front (c ∷ front) xs ys is = behind_front front xs ys (cc)

pub titles_name_cards : TitlesNameCards
unfolding poker prologue digits
titles_name_cards = record {
  apart = λ m n small few same.
      let numbers : decimal m ≡ decimal n = behind_front (codes "One-card poker ") (decimal m) (decimal n) same in
      sym (decimal_is_IsNumeral m small).1 ∙ ap (digits_value 10) numbers ∙ (decimal_is_IsNumeral n few).1;
  three = refl;
  most = refl;
}
