use Rattle.std.proofs.Common.{◌≡◌, ◌-◌, ◌*◌, ◌^◌, ◌≤◌, ℤ, unsigned_abs, length, FitsSigned, rules, subst, sym, ◌∙◌}
use mir.Syntax.{w128}
use Rattle.std.proofs.lemmas.Int.{to_z-of_z}
use Rattle.xg_check.specs.Views.{row}
use Rattle.xg_check.proofs.ThreadSums.{sums_more}
use Rattle.xg_check.proofs.adding.put_sum.Goals as goal

pub returns-clause-sums : goal.returns-clause-sums
returns-clause-sums c =
    let leaves = c.args.form.now.leaves in
    let z = c.args.z in
    let fits : FitsSigned w128 c.sum_from-sum.result = search rules in
    let is : row c.set_at.new.sums (z - 1) ≡ c.sum_from-sum.result = c.set_at.ensures.here ∙ to_z-of_z w128 c.sum_from-sum.result fits in
    sums_more c.args.player leaves c.args.against.now c.args.sums.now c.set_at.new.sums z c.requires.from_one c.requires.behind
    (is ∙ c.sum_from-sum.ensures.sum)
    (subst (λ (t : ℤ). unsigned_abs t ≤ (length leaves - (z - 1)) * 2 ^ 99) (sym is) c.sum_from-sum.ensures.small)
    c.set_at.ensures.others
