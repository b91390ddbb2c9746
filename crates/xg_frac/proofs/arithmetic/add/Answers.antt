use Rattle.std.proofs.Common.{◌≡◌, pos, ◌*ℤ◌, ◌*◌, unsigned_abs, to_z, of_z, ap, ◌∙◌}
use Rattle.std.specs.Int.{w128}
use Rattle.std.proofs.lemmas.Int.{to_z-of_z}
use Rattle.def_fraction.specs.Fraction.{fraction_of}
use Rattle.xg_frac.proofs.PartLemmas.{ok_if-at, sum-value, product-at}
use Rattle.xg_frac.proofs.arithmetic.add.Goals as goal

pub returns : goal.returns
returns c =
    let a = c.args.a in
    let b = c.args.b in
    let left : c.product.result ≡ a.num *ℤ pos b.den = product-at _ c.num.result c.den.result _ _ c.product.ensures.value (record { sfits = c.num.type_inv })
    (record { sfits = c.den.type_inv }) c.num.ensures.value c.den.ensures.value in
    let right : c.product-2.result ≡ b.num *ℤ pos a.den = product-at _ c.num-2.result c.den-2.result _ _ c.product-2.ensures.value
    (record { sfits = c.num-2.type_inv }) (record { sfits = c.den-2.type_inv }) c.num-2.ensures.value c.den-2.ensures.value in
    let den : c.product-3.result ≡ pos a.den *ℤ pos b.den = product-at _ c.den-3.result c.den-4.result _ _ c.product-3.ensures.value
    (record { sfits = c.den-3.type_inv }) (record { sfits = c.den-4.type_inv }) c.den-3.ensures.value c.den-4.ensures.value in
    let below : unsigned_abs (to_z w128 (of_z w128 c.product-3.result)) ≡ a.den
    * b.den = ap unsigned_abs (to_z-of_z w128 c.product-3.result (record { sfits = c.product-3.type_inv }) ∙ den) in
    let num = sum-value c.product.result c.product-2.result (a.num *ℤ pos b.den) (b.num *ℤ pos a.den) c.product.ensures.size c.product-2.ensures.size left
    right in
    ok_if-at _ _ _ (ap (λ n. fraction_of n (unsigned_abs (to_z w128 (of_z w128 c.product-3.result)))) num ∙ ap (fraction_of _) below) c.in_lowest_terms.ensures
