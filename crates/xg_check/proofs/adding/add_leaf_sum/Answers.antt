use Rattle.std.proofs.Common.{◌≡◌, unsigned_abs, length, FitsSigned, to_z, of_z, ap, arith, rules, subst, sym, ◌∙◌}
use mir.Syntax.{w128}
use Rattle.std.proofs.lemmas.Int.{to_z-of_z}
use Rattle.def_plan.specs.Payoff.{leaf_sum}
use Rattle.def_plan.specs.Threads.{first_leaf}
use Rattle.xg_check.specs.ThreadSums.{IsNumberWithin, sum_on}
use Rattle.xg_check.specs.Views.{AddsAt}
use Rattle.xg_check.proofs.ThreadSums.{first_behind, small_behind, sum_behind, there_behind}
use Rattle.xg_check.proofs.adding.add_leaf_sum.Goals as goal

pub sum_on-sum-requires : goal.sum_on-sum-requires
sum_on-sum-requires c =
    let leaves = c.args.form.now.leaves in
    let s = c.args.sequence in
    subst (IsNumberWithin (length c.args.sums.now)) (sym c.first_leaf.ensures)
    (there_behind c.args.player s 0 leaves c.args.against.now c.args.sums.now (first_leaf c.args.player s leaves) c.requires.sum_count
    (first_behind c.args.player s leaves c.args.against.now))

pub returns-clause-added : goal.returns-clause-added
returns-clause-added c =
    let leaves = c.args.form.now.leaves in
    let player = c.args.player in
    let against = c.args.against.now in
    let s = c.args.sequence in
    let sums = c.args.sums.now in
    let fits : FitsSigned w128 c.sum_on-sum.result = search rules in
    let is : to_z w128 (of_z w128 c.sum_on-sum.result) ≡ leaf_sum player leaves against s =
    to_z-of_z w128 c.sum_on-sum.result fits ∙ c.sum_on-sum.ensures ∙ ap (sum_on sums) c.first_leaf.ensures
    ∙ sum_behind player s 0 leaves against sums (first_leaf player s leaves) c.requires.sums (first_behind player s leaves against) in
    subst (AddsAt c.args.rows.now c.add_at.new.rows s) is c.add_at.ensures.added

pub returns-clause-small : goal.returns-clause-small
returns-clause-small c =
    let leaves = c.args.form.now.leaves in
    let player = c.args.player in
    let against = c.args.against.now in
    let s = c.args.sequence in
    let sums = c.args.sums.now in
    let whole = sum_behind player s 0 leaves against sums (first_leaf player s leaves) c.requires.sums (first_behind player s leaves against) in
    let small = small_behind player s 0 leaves against sums (first_leaf player s leaves) c.requires.sums (first_behind player s leaves against) in
    omega (arith, ap unsigned_abs whole, small, c.leaf_count.ensures.count, c.leaf_count.ensures.limit)
