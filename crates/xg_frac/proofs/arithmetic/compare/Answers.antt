use Rattle.std.proofs.Common.{◌≡◌, pos, ◌*ℤ◌, sym, ap, ◌∙◌, to_z, of_z}
use Rattle.std.specs.Int.{w128}
use Rattle.std.specs.Ordering.{int_cmp}
use Rattle.std.proofs.lemmas.Int.{to_z-of_z}
use Rattle.def_fraction.specs.Fraction.{order_of}
use Rattle.def_fraction.proofs.OrderLemmas.{order_of-same}
use Rattle.xg_frac.proofs.PartLemmas.{product-at}
use Rattle.xg_frac.proofs.arithmetic.compare.Goals as goal

pub returns-clause-same : goal.returns-clause-same
returns-clause-same c =
    let a = c.args.a in
    let b = c.args.b in
    let same = order_of-same a b c.num.ensures.lowest c.num-2.ensures.lowest in
    let left : c.product.result ≡ a.num *ℤ pos b.den = product-at _ c.num.result c.den.result _ _ c.product.ensures.value (record { sfits = c.num.type_inv })
    (record { sfits = c.den.type_inv }) c.num.ensures.value c.den.ensures.value in
    let right : c.product-2.result ≡ b.num *ℤ pos a.den = product-at _ c.num-2.result c.den-2.result _ _ c.product-2.ensures.value
    (record { sfits = c.num-2.type_inv }) (record { sfits = c.den-2.type_inv }) c.num-2.ensures.value c.den-2.ensures.value in
    let order : c.cmp.result ≡ order_of a b =
    c.cmp.ensures ∙ ap (λ m. int_cmp m (to_z w128 (of_z w128 c.product-2.result)))
    (to_z-of_z w128 c.product.result (record { sfits = c.product.type_inv }) ∙ left)
    ∙ ap (int_cmp (a.num *ℤ pos b.den)) (to_z-of_z w128 c.product-2.result (record { sfits = c.product-2.type_inv }) ∙ right) in
    (λ e. same.0 (sym order ∙ e), λ e. order ∙ same.1 e)
