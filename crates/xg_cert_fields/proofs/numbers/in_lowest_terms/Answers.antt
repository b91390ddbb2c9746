use Rattle.std.proofs.Common.{rules, ◌≡◌, ◌∙◌, ap, sym, unsigned_abs}
use Rattle.std.proofs.lemmas.Int.{to_z-of_z}
use mir.Val.{of_z, to_z}
use mir.Syntax.{w128}
use Rattle.def_fraction.specs.Fraction.{fraction_of}
use Rattle.xg_cert_fields.proofs.NumberLemmas.{kept_in_lowest_terms, lost_in_lowest_terms}
use Rattle.xg_cert_fields.proofs.numbers.in_lowest_terms.Goals as goal

pub returns-then-den : goal.returns-then-den
returns-then-den c =
    let exact : c.ratio-fraction.result ≡ fraction_of c.args.num (unsigned_abs c.args.den) =
    c.ratio-fraction.ensures ∙ ap (λ n. fraction_of n (unsigned_abs (to_z w128 (of_z w128 c.args.den)))) (to_z-of_z w128 c.args.num c.ranges.num)
    ∙ ap (λ d. fraction_of c.args.num (unsigned_abs d)) (to_z-of_z w128 c.args.den c.ranges.den) in
    let same : c.den.result ≡ c.args.den = search rules in
    kept_in_lowest_terms c.args.num c.args.den c.ratio-fraction.result exact c.requires.from_one (sym c.den.ensures.value ∙ same)

pub returns : goal.returns
returns c =
    let exact : c.ratio-fraction.result ≡ fraction_of c.args.num (unsigned_abs c.args.den) =
    c.ratio-fraction.ensures ∙ ap (λ n. fraction_of n (unsigned_abs (to_z w128 (of_z w128 c.args.den)))) (to_z-of_z w128 c.args.num c.ranges.num)
    ∙ ap (λ d. fraction_of c.args.num (unsigned_abs d)) (to_z-of_z w128 c.args.den c.ranges.den) in
    lost_in_lowest_terms c.args.num c.args.den c.ratio-fraction.result exact c.requires.from_one
    (λ same. c.if-den.false (ap (of_z w128) (c.den.ensures.value ∙ same)))
