-- All rounds: the potentials of each set, and what the sums of plans pay.
use Rattle.std.proofs.Common.{◌≡◌, ℕ, ◌+◌, ◌*◌, ◌≤◌, ◌<◌, List, [], ◌∷◌, get_or, replicate, All, arith, ap, ◌∙◌, refl, subst}
use Rattle.std.specs.Prelude.{ℤ, pos, ◌+ℤ◌, ◌-ℤ◌, ◌≤ℤ◌}
use Rattle.def_plan.specs.Form.{InformationSet, PlacedSet, placed, sequences_of, AreInOrder}
use Rattle.def_plan.specs.Payoff.{worth}
use Rattle.def_plan.proofs.Worths.{AllZip-at}
use Rattle.def_round.specs.Play.{positive_part, regret_of, play_of}
use Rattle.def_round.specs.Round.{round_values, set_value, AddsRegrets, regrets_after}
use Rattle.def_round.proofs.Plays.{plays_all_units}
use Rattle.def_round.proofs.Proportion.{plays_are_in_proportion}
use Rattle.def_round.proofs.Regrets.{rounds_are_computed}
use Rattle.def_round.proofs.Values.{values_solve, values_are_unique}
use Rattle.def_closing.specs.Width.{root_up, AreWithinSpread, drift, regret_bound}
use Rattle.def_closing.proofs.Potential.{potential}
use Rattle.def_closing.proofs.SetBound.{potential_after, potential_after-square, one_of_potential}
use Rattle.def_closing.proofs.OneRound.{square_bound, side_bound, set_step}
use Rattle.def_plus.proofs.PlusRegrets.{none_yet}

-- the potential of each set after t of the rounds
abbrev pub SetWithin : ℕ → ℕ → ℕ → (PlacedSet → ℕ) → List ℤ → PlacedSet → Type 0
SetWithin root last t spread regrets h =
    potential (regret_of regrets) (sequences_of h)
    ≤ potential_after t (square_bound root spread h) (side_bound root last spread h) (drift root spread h * root_up h.actions)

abbrev pub AreWithin : ℕ → ℕ → ℕ → (PlacedSet → ℕ) → List InformationSet → List ℤ → Type 0
AreWithin root last t spread sets regrets = All (SetWithin root last t spread regrets) (placed sets)

no_potential : (n : ℕ) (xs : List ℕ) → potential (regret_of (replicate n (pos 0))) xs ≡ 0
no_potential n [] = refl
no_potential n (x ∷ xs) =
    let here : positive_part (regret_of (replicate n (pos 0)) x) ≡ 0 = ap positive_part (none_yet n x) in
    let square : positive_part (regret_of (replicate n (pos 0)) x) * positive_part (regret_of (replicate n (pos 0)) x) ≡ 0 =
    ap (λ k. k * k) here ∙ omega arith in
    omega (arith, square, no_potential n xs)

pub within_at_first : (root last : ℕ) (spread : PlacedSet → ℕ) (sets : List InformationSet) (n : ℕ)
    → AreWithin root last 0 spread sets (replicate n (pos 0))
within_at_first root last spread sets n k d low = omega (arith, no_potential n (sequences_of (get_or (placed sets) k d)))

-- one round more
pub within_next : (root last t : ℕ) (spread : PlacedSet → ℕ) (sums : ℕ → ℤ) (sets : List InformationSet) (before : List ℤ)
    → AreInOrder sets → t < last
    → AreWithinSpread root spread sets sums (play_of sets before)
    → AreWithin root last t spread sets before
    → AreWithin root last (t + 1) spread sets (regrets_after sums (play_of sets before) sets before)
within_next root last t spread sums sets before order early near so_far k d low =
    let play : List ℕ = play_of sets before in
    let values : List ℤ = round_values sums play sets in
    let after : List ℤ = regrets_after sums play sets before in
    let h : PlacedSet = get_or (placed sets) k d in
    let round = (rounds_are_computed sums play sets before after order).1 refl in
    let same : round.values ≡ values = values_are_unique sums play sets round.values order round.are_values in
    let adds : AddsRegrets sums sets values before after = subst (λ vs. AddsRegrets sums sets vs before after) same round.adds_regrets in
    let value : ℤ = get_or values k (pos 0) in
    let is_value : value ≡ set_value play (worth sums (placed sets) values) h =
    AllZip-at (λ h v. v ≡ set_value play (worth sums (placed sets) values) h) (placed sets) values (values_solve sums play sets order) k d (pos 0) low in
    let grown : All (λ s. regret_of after s ≡ regret_of before s +ℤ (worth sums (placed sets) values s -ℤ value)) (sequences_of h) =
    AllZip-at (λ h v. All (λ s. regret_of after s ≡ regret_of before s +ℤ (worth sums (placed sets) values s -ℤ v)) (sequences_of h)) (placed sets) values
    adds.each_set k d (pos 0) low in
    set_step root last t spread h play (worth sums (placed sets) values) value before after
    (order k d low).0 (omega arith) (plays_all_units sets before order k d low) (plays_are_in_proportion sets before k d low) is_value (near k d low) grown
    (so_far k d low)

-- each regret after all rounds
pub regrets_within : (root last : ℕ) (spread : PlacedSet → ℕ) (h : PlacedSet) (regrets : List ℤ)
    → SetWithin root last last spread regrets h → last * square_bound root spread h ≤ side_bound root last spread h * side_bound root last spread h
    → (s : ℕ) → h.first ≤ s → s < h.first + h.actions → regret_of regrets s ≤ℤ pos (regret_bound last root spread h)
regrets_within root last spread h regrets within enough =
    let square =
    potential_after-square last last (square_bound root spread h) (side_bound root last spread h) (drift root spread h * root_up h.actions) (omega arith)
    enough in
    one_of_potential (regret_of regrets) h.first h.actions (regret_bound last root spread h) (omega arith)
