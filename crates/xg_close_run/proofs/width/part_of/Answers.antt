use Rattle.std.proofs.Common.{◌≡◌, ◌∙◌, ◌*◌, ℤ, pos, unsigned_abs, ◌-ℤ◌, ◌*ℤ◌, ◌≤ℤ◌, ap, subst, sym, rules}
use Rattle.std.proofs.lemmas.Int.{to_z-of_z}
use mir.Syntax.{w128}
use mir.Val.{SFits, to_z, of_z}
use Rattle.xg_close_run.proofs.width.part_of.Goals as goal

pub returns-clause-part : goal.returns-clause-part
returns-clause-part c =
    let high = c.args.high in
    let low = c.args.low in
    let fits-num : SFits w128 c.num.result = search rules in
    let fits-den : SFits w128 c.den.result = search rules in
    let fits-num-2 : SFits w128 c.num-2.result = search rules in
    let fits-den-2 : SFits w128 c.den-2.result = search rules in
    let fits-product-most : SFits w128 c.product-most.result = search rules in
    let fits-product-least : SFits w128 c.product-least.result = search rules in
    let fits-den-3 : SFits w128 c.den-3.result = search rules in
    let fits-den-4 : SFits w128 c.den-4.result = search rules in
    let fits-product-den : SFits w128 c.product-den.result = search rules in
    let high_num = to_z-of_z w128 c.num.result fits-num ∙ c.num.ensures.value in
    let low_den = to_z-of_z w128 c.den.result fits-den ∙ c.den.ensures.value in
    let low_num = to_z-of_z w128 c.num-2.result fits-num-2 ∙ c.num-2.ensures.value in
    let high_den = to_z-of_z w128 c.den-2.result fits-den-2 ∙ c.den-2.ensures.value in
    let most_is : to_z w128 (of_z w128 c.product-most.result) ≡ high.num *ℤ pos low.den =
    to_z-of_z w128 c.product-most.result fits-product-most ∙ c.product-most.ensures.value
    ∙ λ i. high_num i *ℤ low_den i in
    let least_is : to_z w128 (of_z w128 c.product-least.result) ≡ low.num *ℤ pos high.den =
    to_z-of_z w128 c.product-least.result fits-product-least ∙ c.product-least.ensures.value
    ∙ λ i. low_num i *ℤ high_den i in
    let order : to_z w128 (of_z w128 c.product-least.result) ≤ℤ to_z w128 (of_z w128 c.product-most.result) =
    subst (λ (z : ℤ). z ≤ℤ to_z w128 (of_z w128 c.product-most.result)) (sym least_is)
    (subst (λ (z : ℤ). (low.num *ℤ pos high.den) ≤ℤ z) (sym most_is) c.requires) in
    let num_is : pos c.apart-num.result ≡ (high.num *ℤ pos low.den) -ℤ (low.num *ℤ pos high.den) =
    c.apart-num.ensures.apart order ∙ λ i. most_is i -ℤ least_is i in
    let high_den_again = to_z-of_z w128 c.den-3.result fits-den-3 ∙ c.den-3.ensures.value in
    let low_den_again = to_z-of_z w128 c.den-4.result fits-den-4 ∙ c.den-4.ensures.value in
    let den_is : unsigned_abs (to_z w128 (of_z w128 c.product-den.result)) ≡ high.den * low.den =
    ap unsigned_abs (to_z-of_z w128 c.product-den.result fits-product-den ∙ c.product-den.ensures.value
    ∙ λ i. high_den_again i *ℤ low_den_again i) in
    λ i. record { num = num_is i; den = den_is i * 100000 }
