-- A bound of what one player is expected to get bounds the other.
use Rattle.std.proofs.Common.{ℕ, ◌*◌, List, ap, ◌∙◌, sym, subst}
use Rattle.std.specs.Prelude.{◌↔◌, pos, ◌*ℤ◌, ◌≤ℤ◌}
use Rattle.def_sums.proofs.RingLaws.{*ℤ_assoc, *ℤ_comm}
use Rattle.def_tree.specs.declared.Player.{Player}
use Rattle.def_tree.specs.declared.Player.TheVariants.{One, Two}
use Rattle.def_tree.specs.Opponent.{opponent}
use Rattle.def_tree.specs.Tree.{Forest}
use Rattle.def_fraction.specs.Fraction.{Fraction}
use Rattle.def_game_scale.specs.Tables.{Tables, game_sum}
use Rattle.def_game_scale.specs.Scale.{game_unit}
use Rattle.def_plan.specs.Payoff.{pay}
use Rattle.def_sequence_form.specs.Form.{form_of_game}
use Rattle.def_constant_sum.specs.Expected.{ArePlans, IsCompleteGame, expected_payoff}
use Rattle.def_fraction.specs.Order.{IsAtMost}
use Rattle.def_constant_sum.specs.Bounds.{IsPlanFor, payoff_by}
use Rattle.def_constant_sum.specs.Laws.{BoundsInWeights, EachBoundsTheOther}
use Rattle.def_constant_sum.proofs.Times.{Turns, least-times, most-times, sum-swapped, turned}
use Rattle.def_constant_sum.proofs.Payments.{expected_payoff-lowest, given-lowest, paid-times, scale, scale_some, together}

-- bounds in weights are bounds of expected payoffs
pub bounds_in_weights : BoundsInWeights
bounds_in_weights = record {
  gets = λ tables tree game root x p low. (
    λ h root_two y q. (gets_one tables tree game root root_two x y (record { one = p; two = q }) low).1 (h root_two y q),
    λ h root_two y q. (gets_one tables tree game root root_two x y (record { one = p; two = q }) low).0 (h root_two y q),
  );
  concedes = λ tables tree game root y q high. (
    λ h root_one x p. (concedes_one tables tree game root_one root x y (record { one = p; two = q }) high).1 (h root_one x p),
    λ h root_one x p. (concedes_one tables tree game root_one root x y (record { one = p; two = q }) high).0 (h root_one x p),
  );
}
  where
    gets_one : (tables : Tables) (tree : Forest) (game : IsCompleteGame tables tree) (root_one root_two : ℕ) (x y : List ℕ)
        → ArePlans tables tree root_one root_two x y → (low : Fraction)
        → IsAtMost low (expected_payoff One tables tree x y)
        ↔ ((low.num *ℤ pos (game_unit tables tree * root_one * root_two)) ≤ℤ (pay (form_of_game tables tree).leaves x y *ℤ pos low.den))
    gets_one tables tree game root_one root_two x y are low =
        let one : Fraction = expected_payoff One tables tree x y in
        let weighed = pay (form_of_game tables tree).leaves x y in
        subst (λ z. IsAtMost low one ↔ ((low.num *ℤ z) ≤ℤ (weighed *ℤ pos low.den)))
        (sym (*ℤ_assoc (pos (game_unit tables tree)) (pos root_one) (pos root_two)))
        (least-times (scale tables tree game root_one root_two x y are) low one weighed (scale_some tables tree game root_one root_two x y are)
        (expected_payoff-lowest tables tree game root_one root_two x y are One).positive
        (paid-times tables tree game root_one root_two x y are))

    concedes_one : (tables : Tables) (tree : Forest) (game : IsCompleteGame tables tree) (root_one root_two : ℕ) (x y : List ℕ)
        → ArePlans tables tree root_one root_two x y → (high : Fraction)
        → IsAtMost (expected_payoff One tables tree x y) high
        ↔ ((pay (form_of_game tables tree).leaves x y *ℤ pos high.den) ≤ℤ (high.num *ℤ pos (game_unit tables tree * root_two * root_one)))
    concedes_one tables tree game root_one root_two x y are high =
        let one : Fraction = expected_payoff One tables tree x y in
        let weighed = pay (form_of_game tables tree).leaves x y in
        let order = ap (λ z. pos (game_unit tables tree) *ℤ z) (*ℤ_comm (pos root_one) (pos root_two))
        ∙ sym (*ℤ_assoc (pos (game_unit tables tree)) (pos root_two) (pos root_one)) in
        subst (λ z. IsAtMost one high ↔ ((weighed *ℤ pos high.den) ≤ℤ (high.num *ℤ z))) order
        (most-times (scale tables tree game root_one root_two x y are) high one weighed (scale_some tables tree game root_one root_two x y are)
        (expected_payoff-lowest tables tree game root_one root_two x y are One).positive
        (paid-times tables tree game root_one root_two x y are))

-- what a plan is sure of, and what it keeps the other player to, add up to the game's sum
pub each_bounds_the_other : EachBoundsTheOther
each_bounds_the_other tables tree game player root own p bound some = record {
  sure = (
    λ h root_other other q. (turn player root root_other own other p q).least.0 (h root_other other q),
    λ h root_other other q. (turn player root root_other own other p q).least.1 (h root_other other q),
  );
  keeps = (
    λ h root_other other q. (turn player root root_other own other p q).most.0 (h root_other other q),
    λ h root_other other q. (turn player root root_other own other p q).most.1 (h root_other other q),
  );
}
  where
    turn : (player : Player) (root root_other : ℕ) (own other : List ℕ) → IsPlanFor player tables tree root own
        → IsPlanFor (opponent player) tables tree root_other other
        → Turns (payoff_by player player tables tree own other) (payoff_by (opponent player) player tables tree own other) (game_sum tables tree) bound
    turn One root root_other own other p q =
        let are : ArePlans tables tree root root_other own other = record { one = p; two = q } in
        let low = expected_payoff-lowest tables tree game.complete root root_other own other are in
        turned (expected_payoff One tables tree own other) (expected_payoff Two tables tree own other) (game_sum tables tree) bound (low One).positive
        (low Two).positive
        (given-lowest tables tree game.complete root root_other own other are game.constant_sum).positive some
        (together tables tree game.complete root root_other own other are game.constant_sum)
    turn Two root root_other own other p q =
        let are : ArePlans tables tree root_other root other own = record { one = q; two = p } in
        let low = expected_payoff-lowest tables tree game.complete root_other root other own are in
        turned (expected_payoff Two tables tree other own) (expected_payoff One tables tree other own) (game_sum tables tree) bound (low Two).positive
        (low One).positive
        (given-lowest tables tree game.complete root_other root other own are game.constant_sum).positive some
        (sum-swapped (expected_payoff Two tables tree other own) (expected_payoff One tables tree other own)
        ∙ together tables tree game.complete root_other root other own are game.constant_sum)
