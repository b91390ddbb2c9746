use Rattle.std.proofs.Common.{◌+◌, ◌-◌, drop, sym, ◌∙◌, arith}
use Rattle.def_plan.specs.Threads.{sequence_of_leaf}
use Rattle.xg_touched.proofs.Following.{first_kept, first_none, first_past}
use Rattle.xg_touched.proofs.summing.next_within.Goals as goal

pub returns-in_err-next : goal.returns-in_err-next
returns-in_err-next c =
    let z = c.args.z in
    let leaves = c.args.form.now.leaves in
    c.from_residual.ensures
    ∙ sym (first_none c.args.player (sequence_of_leaf c.args.player z leaves) (z + 1) (c.args.last - z) (drop z leaves)
    (sym c.next_leaf.ensures ∙ c.in_err-next.was))

pub returns-then-next-last : goal.returns-then-next-last
returns-then-next-last c =
    let z = c.args.z in
    let leaves = c.args.form.now.leaves in
    sym (first_kept c.args.player (sequence_of_leaf c.args.player z leaves) (z + 1) (c.args.last - z) (drop z leaves) c.in_ok-next.next
    (sym c.next_leaf.ensures ∙ c.in_ok-next.was) (omega arith))

pub returns-else-next-last : goal.returns-else-next-last
returns-else-next-last c =
    let z = c.args.z in
    let leaves = c.args.form.now.leaves in
    sym (first_past c.args.player (sequence_of_leaf c.args.player z leaves) (z + 1) (c.args.last - z) (drop z leaves) c.in_ok-next.next
    (sym c.next_leaf.ensures ∙ c.in_ok-next.was) (omega arith))
