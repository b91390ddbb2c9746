-- Rounds from sums that agree at the player's own sequences.
use Rattle.std.proofs.Common.{◌≡◌, ℕ, ◌+◌, ◌<◌, List, [], ◌∷◌, ◌++◌, zip, arith, ap, ◌∙◌, refl}
use Rattle.std.specs.Prelude.{ℤ, pos, ◌+ℤ◌, ◌-ℤ◌}
use Rattle.std.specs.List.{flat_map}
use Rattle.def_sums.specs.Sum.{nat_sum_over}
use Rattle.def_sums.proofs.Ranges.{map-range_same}
use Rattle.def_plan.specs.Form.{InformationSet, PlacedSet, placed_from, placed}
use Rattle.def_plan.specs.Payoff.{worth}
use Rattle.def_plan.proofs.Worths.{worth_same}
use Rattle.def_round.specs.Play.{regret_of}
use Rattle.def_round.specs.Round.{set_value, values_from, round_values, set_regrets, regrets_with}
use Rattle.def_round.specs.Laws.{RoundsNeedOwnSums}
use Rattle.def_round.proofs.Values.{set_value_same}

values_same : (sums other : ℕ → ℤ) (play : List ℕ) (first : ℕ) (hs : List InformationSet)
    → ((s : ℕ) → s < first + nat_sum_over (λ h. h.actions) hs → sums s ≡ other s)
    → values_from sums play (placed_from first hs) ≡ values_from other play (placed_from first hs)
values_same sums other play first [] agree = refl
values_same sums other play first (h ∷ hs) agree =
    let here : PlacedSet = record { first = first; before = h.before; actions = h.actions } in
    let rest : List PlacedSet = placed_from (first + h.actions) hs in
    let later = values_same sums other play (first + h.actions) hs (λ s low. agree s (omega arith)) in
    ap (λ vs. set_value play (worth sums rest vs) here ∷ vs) later
    ∙ ap (λ v. v ∷ values_from other play rest)
    (set_value_same play (worth sums rest (values_from other play rest)) (worth other rest (values_from other play rest)) here
    (λ s low high. worth_same sums other rest (values_from other play rest) s (agree s (omega arith))))

regrets_same : (sums other : ℕ → ℤ) (all : List PlacedSet) (values : List ℤ) (before : List ℤ) (first : ℕ)
    (hs : List InformationSet) (vs : List ℤ)
    → ((s : ℕ) → s < first + nat_sum_over (λ h. h.actions) hs → sums s ≡ other s)
    → flat_map (λ p. set_regrets sums all values before p.0 p.1) (zip (placed_from first hs) vs)
    ≡ flat_map (λ p. set_regrets other all values before p.0 p.1) (zip (placed_from first hs) vs)
regrets_same sums other all values before first [] vs agree = refl
regrets_same sums other all values before first (h ∷ hs) [] agree = refl
regrets_same sums other all values before first (h ∷ hs) (v ∷ vs) agree =
    let here : PlacedSet = record { first = first; before = h.before; actions = h.actions } in
    let rest : List PlacedSet = placed_from (first + h.actions) hs in
    ap (λ block. block ++ flat_map (λ p. set_regrets sums all values before p.0 p.1) (zip rest vs))
    (map-range_same (λ s. regret_of before s +ℤ (worth sums all values s -ℤ v)) (λ s. regret_of before s +ℤ (worth other all values s -ℤ v)) first h.actions
    (λ s low high. ap (λ w. regret_of before s +ℤ (w -ℤ v)) (worth_same sums other all values s (agree s (omega arith)))))
    ∙ ap (λ later. set_regrets other all values before here v ++ later) (regrets_same sums other all values before (first + h.actions) hs vs
    (λ s low. agree s (omega arith)))

-- sums that agree at a player's own sequences give the same values and the same regrets
pub rounds_need_own_sums : RoundsNeedOwnSums
rounds_need_own_sums = record {
  values = λ sums other play sets agree. values_same sums other play 1 sets agree;
  regrets = λ sums other play sets before agree.
      ap (regrets_with sums (placed sets) before) (values_same sums other play 1 sets agree)
      ∙ ap (λ later. pos 0 ∷ later) (regrets_same sums other (placed sets) (round_values other play sets) before 1 sets (round_values other play sets) agree);
}
