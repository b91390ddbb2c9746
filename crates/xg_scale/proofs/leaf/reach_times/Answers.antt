use Rattle.std.proofs.Common.{◌≡◌, ◌∙◌, subst, sym}
use Rattle.std.specs.Prelude.{IsTrue}
use Rattle.def_fraction.specs.Fraction.{Fraction, IsInLowestTerms, fits, product_of}
use Rattle.xg_scale.proofs.FractionParts.{one_times}
use Rattle.xg_scale.proofs.leaf.reach_times.Goals as goal

pub returns-then-is_number_one : goal.returns-then-is_number_one
returns-then-is_number_one c =
    let payoff = c.known-payoff.ensures in
    let one = c.is_number_one.ensures c.if-is_number_one.true in
    let same : product_of c.args.reach c.args.payoff ≡ c.known-payoff.result =
    (λ i. product_of c.args.reach (sym payoff.same i))
    ∙ one_times c.args.reach c.known-payoff.result one.0 one.1 (subst IsInLowestTerms (sym payoff.same) payoff.lowest) in
    (subst (λ (f : Fraction). IsTrue (fits f)) (sym (same ∙ payoff.same)) payoff.small, sym same)
