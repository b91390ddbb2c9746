use Rattle.std.proofs.Common.{◌≤◌, subst, sym}
use Rattle.def_fraction.specs.Fraction.{Fraction}
use Rattle.def_payoffs.specs.Range.{IsGreatest, IsLeast}
use Rattle.xg_scale.specs.Range.{IsRangeOf}
use Rattle.xg_scale.proofs.RangeLemmas.{greatest_more, least_more}
use Rattle.xg_scale.proofs.range.range_with.Goals as goal

pub returns-in-Some : goal.returns-in-Some
returns-in-Some c = λ payoffs is.
    let so_far = subst (IsRangeOf payoffs) c.in-Some.is is in
    let least = c.known.ensures in
    let greatest = c.known-in-Some.ensures in (
      least_more payoffs c.known.result c.args.payoff c.lesser.result (subst (λ (f : Fraction). 1 ≤ f.den) (sym least.same) least.lowest.positive)
          (subst (IsLeast payoffs) (sym least.same) so_far.0) c.lesser.ensures.one c.lesser.ensures.first c.lesser.ensures.second,
      greatest_more payoffs c.known-in-Some.result c.args.payoff c.greater.result
          (subst (λ (f : Fraction). 1 ≤ f.den) (sym greatest.same) greatest.lowest.positive)
          (subst (IsGreatest payoffs) (sym greatest.same) so_far.1) c.greater.ensures.one c.greater.ensures.first c.greater.ensures.second,
    )
