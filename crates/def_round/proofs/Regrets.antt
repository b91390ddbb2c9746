-- The regrets after a round.
use Rattle.std.proofs.Common.{◌≡◌, ℕ, suc, ◌+◌, List, [], ◌∷◌, map, length, drop, All, arith, ap, sym, ◌∙◌, refl, subst}
use Rattle.std.specs.Prelude.{ℤ, pos, ◌+ℤ◌, ◌-ℤ◌}
use Rattle.std.proofs.lemmas.List.FromFn.{length-map-range_with_len}
use Rattle.std.proofs.Math.Seq.{drop-cons}
use Rattle.def_sums.proofs.Ranges.{All-range, range-All, map-range_same}
use Rattle.def_plan.specs.Form.{InformationSet, PlacedSet, placed, sequences_of}
use Rattle.def_plan.specs.Payoff.{worth}
use Rattle.def_plan.proofs.BadSets.{length-placed}
use Rattle.def_plan.proofs.Duality.{AllZip-weaker}
use Rattle.def_round.specs.Play.{regret_of}
use Rattle.def_round.specs.Round.{round_values, AddsRegrets, IsRound, set_regrets, regrets_with, regrets_after}
use Rattle.def_round.specs.Laws.{RoundsAreComputed}
use Rattle.def_round.proofs.Blocks.{same_at, blocks_zip, length-blocks_zip, drop-blocks_zip}
use Rattle.def_round.proofs.Values.{values_solve, values_are_unique, length-values_from}

module _ (sums : ℕ → ℤ) (sets : List InformationSet) (values : List ℤ) (before : List ℤ) where
  grown : PlacedSet → ℤ → ℕ → ℤ
  grown h value s = regret_of before s +ℤ (worth sums (placed sets) values s -ℤ value)

  block : PlacedSet → ℤ → List ℤ
  block h value = set_regrets sums (placed sets) values before h value

  block_long : (h : PlacedSet) (value : ℤ) → length (set_regrets sums (placed sets) values before h value) ≡ h.actions
  block_long h value = length-map-range_with_len (λ s. regret_of before s +ℤ (worth sums (placed sets) values s -ℤ value)) h.first h.actions

  -- what is computed is what a round adds
  pub computed_adds : length values ≡ length sets
      → AddsRegrets sums sets values before (regrets_with sums (placed sets) before values)
  computed_adds long = record {
    all_sequences = ap suc (length-blocks_zip (λ h v. set_regrets sums (placed sets) values before h v) block_long 1 sets values long) ∙ omega arith;
    none_of_empty = refl;
    each_set = AllZip-weaker
        (λ h v. map (λ s. regret_of (regrets_with sums (placed sets) before values) s) (sequences_of h) ≡ set_regrets sums (placed sets) values before h v)
        (λ h v. All (λ s. regret_of (regrets_with sums (placed sets) before values) s ≡ regret_of before s +ℤ (worth sums (placed sets) values s -ℤ v))
        (sequences_of h))
        (λ h v same. All-range (λ s. regret_of (regrets_with sums (placed sets) before values) s ≡ regret_of before s
        +ℤ (worth sums (placed sets) values s -ℤ v)) h.first h.actions
        (same_at (λ s. regret_of (regrets_with sums (placed sets) before values) s) (λ s. regret_of before s +ℤ (worth sums (placed sets) values s -ℤ v))
        h.first h.actions same))
        (placed sets) values
        (blocks_zip (λ h v. set_regrets sums (placed sets) values before h v) (pos 0) block_long (pos 0 ∷ []) 1 sets values long refl);
  }

  -- and nothing else is
  pub added_is_computed : (after : List ℤ) → AddsRegrets sums sets values before after
      → after ≡ regrets_with sums (placed sets) before values
  added_is_computed after adds =
      drop-cons after 0 (pos 0) (omega (arith, adds.all_sequences))
      ∙ ap (λ r. r ∷ drop 1 after) adds.none_of_empty
      ∙ ap (λ rs. pos 0 ∷ rs) (drop-blocks_zip (λ h v. set_regrets sums (placed sets) values before h v) (pos 0) after 1 sets values adds.all_sequences
      (AllZip-weaker
      (λ h v. All (λ s. regret_of after s ≡ regret_of before s +ℤ (worth sums (placed sets) values s -ℤ v)) (sequences_of h))
      (λ h v. map (λ s. regret_of after s) (sequences_of h) ≡ set_regrets sums (placed sets) values before h v)
      (λ h v all. map-range_same (λ s. regret_of after s) (λ s. regret_of before s +ℤ (worth sums (placed sets) values s -ℤ v)) h.first h.actions
      (range-All (λ s. regret_of after s ≡ regret_of before s +ℤ (worth sums (placed sets) values s -ℤ v)) h.first h.actions all))
      (placed sets) values adds.each_set))

-- a round has one value for each set
pub length-values_of : (sums : ℕ → ℤ) (play : List ℕ) (sets : List InformationSet)
    → length (round_values sums play sets) ≡ length sets
length-values_of sums play sets = length-values_from sums play (placed sets) ∙ length-placed 1 sets

-- regrets solve the equations of a round exactly where they are the computed ones
pub rounds_are_computed : RoundsAreComputed
rounds_are_computed sums play sets before after order = (computed, is_round)
  where
    computed : IsRound sums play sets before after → after ≡ regrets_after sums play sets before
    computed round =
        added_is_computed sums sets round.values before after round.adds_regrets
        ∙ ap (regrets_with sums (placed sets) before) (values_are_unique sums play sets round.values order round.are_values)

    is_round : after ≡ regrets_after sums play sets before → IsRound sums play sets before after
    is_round same = record {
      values = round_values sums play sets;
      are_values = values_solve sums play sets order;
      adds_regrets = subst (λ r. AddsRegrets sums sets (round_values sums play sets) before r) (sym same)
          (computed_adds sums sets (round_values sums play sets) before (length-values_of sums play sets));
    }
