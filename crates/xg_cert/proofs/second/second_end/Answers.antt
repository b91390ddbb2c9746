use Rattle.std.proofs.Common.{rules, ◌≡◌, ℕ, ◌*◌, pos, FitsSigned, to_z, of_z, unsigned_abs, ap, ◌∙◌, arith}
use Rattle.std.specs.Prelude.{◌-ℤ◌}
use Rattle.std.specs.Int.{w128}
use Rattle.std.proofs.lemmas.Int.{to_z-of_z, to_z_pos}
use Rattle.def_fraction.specs.Fraction.{Fraction, fraction_of}
use Rattle.def_game_scale.specs.Scale.{weight_of}
use Rattle.xg_cert.proofs.Seconds.{left-over, sum-small}
use Rattle.xg_cert.proofs.second.second_end.Goals as goal

pub left-requires-clause-first : goal.left-requires-clause-first
left-requires-clause-first c =
    let m : ℕ = c.args.unit * c.args.root in
    omega (
      arith,
      ap (λ (n : ℕ). unsigned_abs (weight_of n c.wide.result)) c.product-whole.ensures.value,
      ap (λ (f : Fraction). unsigned_abs (weight_of m f)) c.wide.ensures,
      sum-small c.args.unit c.args.root c.args.sum c.requires.unit.0 c.requires.end.of_root.1 c.requires.sum,
    )

pub left-requires-clause-second : goal.left-requires-clause-second
left-requires-clause-second c =
    omega (arith, ap (λ (n : ℕ). unsigned_abs (weight_of n c.args.end)) c.product-whole.ensures.value, c.requires.end.small)

pub returns : goal.returns
returns c =
    let n : ℕ = c.product-whole.result in
    let n_is : n ≡ c.args.unit * c.args.root = c.product-whole.ensures.value in
    let fits : FitsSigned w128 c.left.result = search rules in
    let left : to_z w128 (of_z w128 c.left.result) ≡ weight_of n c.args.sum -ℤ weight_of n c.args.end =
    to_z-of_z w128 c.left.result fits ∙ c.left.ensures.value ∙ (λ i. weight_of n (c.wide.ensures i) -ℤ weight_of n c.args.end) in
    let whole : to_z w128 n ≡ pos n = to_z_pos w128 n (omega (arith, n_is, c.product-whole.ensures.small)) in
    c.ratio.ensures ∙ (λ i. fraction_of (left i) (unsigned_abs (whole i)))
    ∙ (λ i. fraction_of (weight_of (n_is i) c.args.sum -ℤ weight_of (n_is i) c.args.end) (n_is i))
    ∙ left-over c.args.unit c.args.root c.args.sum c.args.end c.requires.unit.0 c.requires.sum c.requires.end
