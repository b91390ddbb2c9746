-- What a round is at one set, from the last set to the first.
use Rattle.std.proofs.Common.{◌≡◌, ℕ, suc, ◌+◌, ◌*◌, ◌<◌, ◌≤◌, cond, eqb, List, ◌∷◌, length, get_or, slice_index, Some, drop, ℤ, pos, ◌+ℤ◌, ◌-ℤ◌, ◌*ℤ◌}
use Rattle.std.proofs.Common.{unsigned_abs, All, refl, sym, ap, subst, ◌∙◌, arith, add-one}
use Rattle.std.specs.List.{AllZip}
use Rattle.std.proofs.lemmas.Option.{slice_get-get_or}
use Rattle.std.proofs.Math.Seq.{drop-cons}
use Rattle.def_sums.specs.Sum.{nat_sum_over}
use Rattle.def_sums.proofs.Ranges.{range-All, at_most_sum}
use Rattle.def_plan.specs.Form.{InformationSet, PlacedSet, placed, sequences_of, sequence_count, AreInOrder}
use Rattle.def_plan.specs.Payoff.{worth}
use Rattle.def_plan.proofs.Worths.{worth-cons, AllZip-at}
use Rattle.def_round.specs.Play.{units, regret_of, GivesAllUnits}
use Rattle.def_round.specs.Round.{set_value, values_from, round_values, regrets_after, IsRound}
use Rattle.def_round.specs.Sizes.{size_of_sums, IsWithin}
use Rattle.def_round.proofs.Values.{set_value_same, values_solve, values_are_unique, values_of_the_rest, worths_need_later_sets}
use Rattle.def_round.proofs.Regrets.{length-values_of, rounds_are_computed}
use Rattle.def_round.proofs.Trees.{values_within}
use Rattle.xg_closer.proofs.Sets.{IsAt}
use Rattle.xg_plan.proofs.PlaceLemmas.{no_place}

-- the worth of a sequence, by all sets, and by those from place k on
abbrev pub full_worth : (ℕ → ℤ) → List ℕ → List InformationSet → ℕ → ℤ
full_worth sums play sets s = worth sums (placed sets) (round_values sums play sets) s

abbrev pub later_worth : (ℕ → ℤ) → List ℕ → List InformationSet → ℕ → ℕ → ℤ
later_worth sums play sets k s = worth sums (drop k (placed sets)) (values_from sums play (drop k (placed sets))) s

-- the value, the worths, what is added to a regret, and what the value adds to the sequence before the set
pub record SetFacts (sums : ℕ → ℤ) (play : List ℕ) (sets : List InformationSet) (before : List ℤ) (m : ℕ)
    (h : PlacedSet) (value : ℤ) : Type 0 where
  pub is_value : value ≡ set_value play (full_worth sums play sets) h
  pub value_small : unsigned_abs value ≤ size_of_sums sums sets
  pub worth_small : (s : ℕ) → h.first ≤ s → s < h.first + h.actions
      → unsigned_abs (full_worth sums play sets s) ≤ size_of_sums sums sets
  pub growth : (s : ℕ) → h.first ≤ s → s < h.first + h.actions
      → unsigned_abs (full_worth sums play sets s -ℤ value) ≤ size_of_sums sums sets
  pub products : nat_sum_over (λ s. unsigned_abs (pos (slice_index play s) *ℤ full_worth sums play sets s))
      (sequences_of h) ≤ units * size_of_sums sums sets
  pub as_later : (s : ℕ) → h.first ≤ s → s < h.first + h.actions
      → full_worth sums play sets s ≡ later_worth sums play sets (m + 1) s
  pub step : (s : ℕ)
      → later_worth sums play sets m s
      ≡ cond (eqb h.before s) (later_worth sums play sets (m + 1) s +ℤ value) (later_worth sums play sets (m + 1) s)
  pub regret : (s : ℕ) → h.first ≤ s → s < h.first + h.actions
      → regret_of (regrets_after sums play sets before) s ≡ regret_of before s +ℤ (full_worth sums play sets s -ℤ value)

-- what is added at each set
added_at : (sums : ℕ → ℤ) (play : List ℕ) (sets : List InformationSet) (before : List ℤ) → AreInOrder sets
    → AllZip (λ h value. All (λ s. regret_of (regrets_after sums play sets before) s ≡ regret_of before s
    +ℤ (worth sums (placed sets) (round_values sums play sets) s -ℤ value)) (sequences_of h)) (placed sets) (round_values sums play sets)
added_at sums play sets before order =
    let r : IsRound sums play sets before (regrets_after sums play sets before) = (rounds_are_computed sums play sets before
    (regrets_after sums play sets before) order).1 refl in
    subst
    (λ (values : List ℤ). AllZip (λ h value. All (λ s. regret_of (regrets_after sums play sets before) s ≡ regret_of before s
    +ℤ (worth sums (placed sets) values s -ℤ value)) (sequences_of h)) (placed sets) values)
    (values_are_unique sums play sets r.values order r.are_values) r.adds_regrets.each_set

-- a round has a regret for each sequence
pub regrets_count : (sums : ℕ → ℤ) (play : List ℕ) (sets : List InformationSet) (before : List ℤ) → AreInOrder sets
    → length (regrets_after sums play sets before) ≡ sequence_count sets
regrets_count sums play sets before order =
    let r : IsRound sums play sets before (regrets_after sums play sets before) = (rounds_are_computed sums play sets before
    (regrets_after sums play sets before) order).1 refl in
    r.adds_regrets.all_sequences

step_of : (sums : ℕ → ℤ) (play : List ℕ) (sets : List InformationSet) (m : ℕ) (h : PlacedSet) (value : ℤ)
    → m < length (placed sets) → get_or (placed sets) m no_place ≡ h
    → value ≡ set_value play (later_worth sums play sets (m + 1)) h
    → (s : ℕ)
    → later_worth sums play sets m s
    ≡ cond (eqb h.before s) (later_worth sums play sets (m + 1) s +ℤ value) (later_worth sums play sets (m + 1) s)
step_of sums play sets m h value below at is s =
    let rest : List PlacedSet = drop (m + 1) (placed sets) in
    let split : drop m (placed sets) ≡ h ∷ rest = drop-cons (placed sets) m no_place below ∙ ap (λ x. x ∷ drop (suc m) (placed sets)) at
    ∙ ap (λ k. h ∷ drop k (placed sets)) (sym (add-one m)) in
    ap (λ hs. worth sums hs (values_from sums play hs) s) split
    ∙ worth-cons sums h rest (set_value play (later_worth sums play sets (m + 1)) h) (values_from sums play rest) s
    ∙ ap (λ v. cond (eqb h.before s) (later_worth sums play sets (m + 1) s +ℤ v) (later_worth sums play sets (m + 1) s)) (sym is)

-- a round's value at set m is by the worths, both are within the sums together, and regrets grow by worth less value
pub set_facts : (sums : ℕ → ℤ) (play : List ℕ) (sets : List InformationSet) (before : List ℤ) (m : ℕ) (h : PlacedSet)
    → AreInOrder sets → GivesAllUnits play sets → IsAt sets m h
    → SetFacts sums play sets before m h (get_or (round_values sums play sets) m (pos 0))
set_facts sums play sets before m h order all_units at =
    let values : List ℤ = round_values sums play sets in
    let value : ℤ = get_or values m (pos 0) in
    let within : IsWithin (size_of_sums sums sets) sums play sets values h value =
    subst (λ (p : PlacedSet). IsWithin (size_of_sums sums sets) sums play sets values p value) at.is
    (AllZip-at (IsWithin (size_of_sums sums sets) sums play sets values) (placed sets) values (values_within sums play sets order all_units) m no_place (pos 0)
    at.there) in
    let is : value ≡ set_value play (full_worth sums play sets) h =
    AllZip-at (λ h value. value ≡ set_value play (full_worth sums play sets) h) (placed sets) values (values_solve sums play sets order) m no_place (pos 0)
    at.there ∙ ap (set_value play (full_worth sums play sets)) at.is in
    let as_later : (s : ℕ) → h.first ≤ s → s < h.first + h.actions → full_worth sums play sets s ≡ later_worth sums play sets (m + 1) s =
    λ s from to. worths_need_later_sets sums sets values order (length-values_of sums play sets) m h
    (slice_get-get_or (placed sets) m no_place at.there ∙ ap Some at.is) s from
    ∙ ap (λ vs. worth sums (drop (m + 1) (placed sets)) vs s) (values_of_the_rest sums play sets (m + 1)) in
    let is_later : value ≡ set_value play (later_worth sums play sets (m + 1)) h = is
    ∙ set_value_same play (full_worth sums play sets) (later_worth sums play sets (m + 1)) h as_later in
    let added : All (λ s. regret_of (regrets_after sums play sets before) s ≡ regret_of before s +ℤ (full_worth sums play sets s -ℤ value)) (sequences_of h) =
    subst (λ (p : PlacedSet). All (λ s. regret_of (regrets_after sums play sets before) s ≡ regret_of before s +ℤ (full_worth sums play sets s -ℤ value))
    (sequences_of p)) at.is
    (AllZip-at (λ h value. All (λ s. regret_of (regrets_after sums play sets before) s ≡ regret_of before s +ℤ (full_worth sums play sets s -ℤ value))
    (sequences_of h)) (placed sets) values (added_at sums play sets before order) m no_place (pos 0) at.there) in
    record {
      is_value = is;
      value_small = within.its_value;
      worth_small = λ s from to. omega (arith, at_most_sum (λ s. unsigned_abs (full_worth sums play sets s)) h.first h.actions s from to, within.worths);
      growth = λ s from to. range-All (λ s. unsigned_abs (full_worth sums play sets s -ℤ value) ≤ size_of_sums sums sets) h.first h.actions within.each_growth s
          from to;
      products = within.products;
      as_later = as_later;
      step = step_of sums play sets m h value at.there at.is is_later;
      regret = λ s from to. range-All (λ s. regret_of (regrets_after sums play sets before) s ≡ regret_of before s +ℤ (full_worth sums play sets s -ℤ value))
          h.first h.actions added s from to;
    }
