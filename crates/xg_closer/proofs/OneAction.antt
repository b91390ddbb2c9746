-- A set with one action is worth what the action is worth.
use Rattle.std.proofs.Common.{◌≡◌, ℕ, List, ℤ, pos, ◌+ℤ◌, ◌-ℤ◌, ◌*ℤ◌, slice_index, arith, sym, ap, ◌∙◌}
use Rattle.std.specs.List.{range_with_len}
use Rattle.std.proofs.lemmas.Int.{ints}
use Rattle.def_sums.specs.Floor.{IsFloorOf, floor_div}
use Rattle.def_sums.specs.Sum.{nat_sum_over, sum_over}
use Rattle.def_sums.proofs.FloorLaws.{floor_div-only}
use Rattle.def_sums.proofs.RingLaws.{*ℤ_comm, +ℤ-*ℤ, +ℤ-zero, ≤ℤ_same}
use Rattle.def_plan.specs.Form.{PlacedSet, sequences_of}
use Rattle.def_round.specs.Play.{units}
use Rattle.xg_closer.specs.Closing.{value_by, weighed_worth}
use Rattle.def_plan.specs.FormRows.{amount_of}

whole_part : (worth : ℤ) → floor_div (pos 65536 *ℤ worth) 65536 ≡ worth
whole_part worth =
    let turned : worth *ℤ pos 65536 ≡ pos 65536 *ℤ worth = *ℤ_comm worth (pos 65536) in
    let next : (worth +ℤ pos 1) *ℤ pos 65536 ≡ worth *ℤ pos 65536 +ℤ pos 65536 = +ℤ-*ℤ worth (pos 1) (pos 65536) in
    let is : IsFloorOf (pos 65536 *ℤ worth) 65536 worth = record {
      at_most = ≤ℤ_same (worth *ℤ pos 65536) (pos 65536 *ℤ worth) turned;
      above = omega (arith, ints, turned, next);
    } in
    sym (floor_div-only (pos 65536 *ℤ worth) 65536 worth is)

-- a set with one action, which gets all units, is worth what this action is worth
pub only_value : (play : List ℕ) (worths : List ℤ) (h : PlacedSet) → h.actions ≡ 1
    → nat_sum_over (λ s. slice_index play s) (sequences_of h) ≡ units
    → value_by play worths h ≡ amount_of worths h.first
only_value play worths h one all =
    let given : slice_index play h.first ≡ 65536 = omega (arith, ap (λ n. nat_sum_over (λ s. slice_index play s) (range_with_len h.first n)) one, all) in
    ap (λ n. floor_div (sum_over (weighed_worth play worths) (range_with_len h.first n)) 65536) one
    ∙ ap (λ n. floor_div n 65536) (+ℤ-zero (weighed_worth play worths h.first))
    ∙ ap (λ n. floor_div (pos n *ℤ amount_of worths h.first) 65536) given
    ∙ whole_part (amount_of worths h.first)

-- so no regret grows
pub nothing_grows : (regret worth value : ℤ) → value ≡ worth → regret ≡ regret +ℤ (worth -ℤ value)
nothing_grows regret worth value same = omega (arith, ints, same)
