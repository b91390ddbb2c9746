-- One step of the pass over the sets, where worths are kept within a width that has room for the sums together.
use Rattle.std.proofs.Common.{◌≡◌, ℕ, ◌+◌, ◌^◌, ◌<◌, ◌≤◌, ◌≢◌, cond, eqb, false, List, [], length, get_or, slice_index, drop, ℤ, pos, ◌+ℤ◌, ◌-ℤ◌, ◌*ℤ◌}
use Rattle.std.proofs.Common.{unsigned_abs, FitsSigned, refl, sym, subst, ap, ◌∙◌, arith}
use Rattle.std.specs.List.{range_with_len}
use Rattle.std.specs.Int.{Width, int_wrap}
use Rattle.std.proofs.Math.Nat.{mul-le-mul_left}
use Rattle.std.proofs.lemmas.Bool.{eq-eqb}
use Rattle.std.proofs.lemmas.Bool.Decides.{nat_tests}
use Rattle.std.proofs.lemmas.List.{drop_all}
use Rattle.std.proofs.lemmas.Int.{int_wrap_fits, int_wrap-add_left}
use Rattle.def_sums.specs.Sum.{nat_sum_over}
use Rattle.def_sums.proofs.SumLaws.{nat_sum_over-same}
use Rattle.def_sums.proofs.Ranges.{All-range, at_most_sum}
use Rattle.def_sums.proofs.RingLaws.{+ℤ-zero}
use Rattle.def_plan.specs.Form.{InformationSet, PlacedSet, placed, sequences_of, sequence_count, AreInOrder}
use Rattle.def_plan.specs.Payoff.{worth}
use Rattle.def_plan.proofs.BadSets.{length-placed}
use Rattle.def_round.specs.Play.{regret_of, GivesAllUnits}
use Rattle.def_round.specs.Round.{round_values, regrets_after, set_value, values_from}
use Rattle.def_round.specs.Sizes.{size_of_sums}
use Rattle.def_round.proofs.Values.{set_value_same}
use Rattle.xg_closer.proofs.Sets.{IsAt}
use Rattle.xg_closer.proofs.SetValues.{full_worth, later_worth, SetFacts, set_facts}
use Rattle.def_plan.specs.FormRows.{amount_of}

-- each number that is no larger than the sums together fits the width
abbrev pub HasRoomFor : Width → (ℕ → ℤ) → List InformationSet → Type 0
HasRoomFor w sums sets = (v : ℤ) → unsigned_abs v ≤ size_of_sums sums sets → FitsSigned w v

-- the worths by the sets from place k on, as the width keeps them
pub record KeepsWorths (w : Width) (sums : ℕ → ℤ) (play : List ℕ) (sets : List InformationSet) (k : ℕ)
    (worths : List ℤ) : Type 0 where
  pub count : length worths ≡ sequence_count sets
  pub each : (s : ℕ) → s < sequence_count sets → amount_of worths s ≡ int_wrap w (later_worth sums play sets k s)

-- by such worths: what the value needs, what is added to a regret, and the worths with this set
pub record SetStep (w : Width) (sums : ℕ → ℤ) (play : List ℕ) (sets : List InformationSet) (old : List ℤ) (m : ℕ)
    (h : PlacedSet) (worths : List ℤ) : Type 0 where
  pub products : nat_sum_over (λ s. unsigned_abs (pos (slice_index play s) *ℤ amount_of worths s))
      (sequences_of h) < 2 ^ 126
  pub fits : FitsSigned w (set_value play (amount_of worths) h)
  pub growth : (s : ℕ) → h.first ≤ s → s < h.first + h.actions
      → unsigned_abs (amount_of worths s -ℤ set_value play (amount_of worths) h) < 2 ^ 126
  pub grows : (s : ℕ) → h.first ≤ s → s < h.first + h.actions
      → unsigned_abs (amount_of worths s -ℤ set_value play (amount_of worths) h) ≤ size_of_sums sums sets
  pub regret : (s : ℕ) → h.first ≤ s → s < h.first + h.actions
      → regret_of (regrets_after sums play sets old) s
      ≡ regret_of old s +ℤ (amount_of worths s -ℤ set_value play (amount_of worths) h)
  pub before : int_wrap w (amount_of worths h.before +ℤ set_value play (amount_of worths) h)
      ≡ int_wrap w (later_worth sums play sets m h.before)
  pub others : (s : ℕ) → s < sequence_count sets → s ≢ h.before
      → amount_of worths s ≡ int_wrap w (later_worth sums play sets m s)

-- before the pass the worths are the sums alone
pub first_worths : (w : Width) (play : List ℕ) (sets : List InformationSet) (k : ℕ) (rows : List ℤ) → length sets ≤ k
    → length rows ≡ sequence_count sets → HasRoomFor w (amount_of rows) sets
    → KeepsWorths w (amount_of rows) play sets k rows
first_worths w play sets k rows all count room = record {
  count = count;
  each = λ s low.
      let none : drop k (placed sets) ≡ [] = drop_all k (placed sets) (omega (arith, all, length-placed 1 sets)) in
      let is : later_worth (amount_of rows) play sets k s ≡ amount_of rows s =
      ap (λ hs. worth (amount_of rows) hs (values_from (amount_of rows) play hs) s) none ∙ +ℤ-zero (amount_of rows s) in
      let one_of = at_most_sum (λ s. unsigned_abs (amount_of rows s)) 0 (sequence_count sets) s (omega arith) (omega arith) in
      let light : unsigned_abs (amount_of rows s) ≤ size_of_sums (amount_of rows) sets = one_of in
      sym (int_wrap_fits w (amount_of rows s) (room (amount_of rows s) light)) ∙ ap (int_wrap w) (sym is);
}

test_no : (a b : ℕ) → a ≢ b → eqb a b ≡ false
test_no a b e = grind (arith, nat_tests)

-- by worths kept for the sets behind it, a set's step fits, adds the round's regrets, and makes the worths with it
pub set_step : (w : Width) (sums : ℕ → ℤ) (play : List ℕ) (sets : List InformationSet) (old worths : List ℤ) (m : ℕ)
    (h : PlacedSet)
    → AreInOrder sets → GivesAllUnits play sets → size_of_sums sums sets ≤ 2 ^ 82
    → HasRoomFor w sums sets → IsAt sets m h
    → KeepsWorths w sums play sets (m + 1) worths → SetStep w sums play sets old m h worths
set_step w sums play sets old worths m h order all_units small room at kept =
    let value : ℤ = get_or (round_values sums play sets) m (pos 0) in
    let f : SetFacts sums play sets old m h value = set_facts sums play sets old m h order all_units at in
    let worth_is : (s : ℕ) → h.first ≤ s → s < h.first + h.actions → amount_of worths s ≡ full_worth sums play sets s =
    λ s from to.
    kept.each s (omega (arith, at.inside)) ∙ ap (int_wrap w) (sym (f.as_later s from to))
    ∙ int_wrap_fits w (full_worth sums play sets s) (room (full_worth sums play sets s) (f.worth_small s from to)) in
    let value_is : set_value play (amount_of worths) h ≡ value =
    set_value_same play (amount_of worths) (full_worth sums play sets) h worth_is ∙ sym f.is_value in
    let same_products = nat_sum_over-same (λ s. unsigned_abs (pos (slice_index play s) *ℤ amount_of worths s))
    (λ s. unsigned_abs (pos (slice_index play s) *ℤ full_worth sums play sets s)) (range_with_len h.first h.actions)
    (All-range
    (λ s. unsigned_abs (pos (slice_index play s) *ℤ amount_of worths s) ≡ unsigned_abs (pos (slice_index play s) *ℤ full_worth sums play sets s))
    h.first h.actions
    (λ s from to. ap (λ x. unsigned_abs (pos (slice_index play s) *ℤ x)) (worth_is s from to))) in
    record {
      products = omega (arith, same_products, f.products, mul-le-mul_left 65536 small);
      fits = subst (FitsSigned w) (sym value_is) (room value f.value_small);
      growth = λ s from to. omega (
        arith,
        ap (λ x. unsigned_abs (x -ℤ set_value play (amount_of worths) h)) (worth_is s from to),
        ap (λ v. unsigned_abs (full_worth sums play sets s -ℤ v)) value_is,
        f.growth s from to,
      );
      grows = λ s from to. omega (
        arith,
        ap (λ x. unsigned_abs (x -ℤ set_value play (amount_of worths) h)) (worth_is s from to),
        ap (λ v. unsigned_abs (full_worth sums play sets s -ℤ v)) value_is,
        f.growth s from to,
      );
      regret = λ s from to. f.regret s from to ∙ ap (λ x. regret_of old s +ℤ (x -ℤ value)) (sym (worth_is s from to))
          ∙ ap (λ v. regret_of old s +ℤ (amount_of worths s -ℤ v)) (sym value_is);
      before =
          ap (λ x. int_wrap w (x +ℤ set_value play (amount_of worths) h)) (kept.each h.before (omega (arith, at.inside, at.earlier)))
          ∙ int_wrap-add_left w (later_worth sums play sets (m + 1) h.before) (set_value play (amount_of worths) h)
          ∙ ap (λ v. int_wrap w (later_worth sums play sets (m + 1) h.before +ℤ v)) value_is
          ∙ ap (λ t. int_wrap w (cond t (later_worth sums play sets (m + 1) h.before +ℤ value)
          (later_worth sums play sets (m + 1) h.before))) (sym (eq-eqb h.before h.before refl))
          ∙ ap (int_wrap w) (sym (f.step h.before));
      others = λ s low apart.
          let apart' : h.before ≢ s = λ e. apart (sym e) in
          kept.each s low
          ∙ ap (λ t. int_wrap w (cond t (later_worth sums play sets (m + 1) s +ℤ value)
          (later_worth sums play sets (m + 1) s))) (sym (test_no h.before s apart'))
          ∙ ap (int_wrap w) (sym (f.step s));
    }

-- the same, where the sets behind it are those from place k on
pub step_before : (w : Width) (sums : ℕ → ℤ) (play : List ℕ) (sets : List InformationSet) (old worths : List ℤ) (k m : ℕ)
    (h : PlacedSet)
    → k ≡ m + 1 → AreInOrder sets → GivesAllUnits play sets → size_of_sums sums sets ≤ 2 ^ 82
    → HasRoomFor w sums sets → IsAt sets m h
    → KeepsWorths w sums play sets k worths → SetStep w sums play sets old m h worths
step_before w sums play sets old worths k m h behind order all_units small room at kept =
    set_step w sums play sets old worths m h order all_units small room at (subst (λ n. KeepsWorths w sums play sets n worths) behind kept)
