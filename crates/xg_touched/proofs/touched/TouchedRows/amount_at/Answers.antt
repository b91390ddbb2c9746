use Rattle.std.proofs.Common.{◌+◌, get_or, FitsSigned, ap, ◌∙◌, arith, rules}
use mir.Syntax.{w128}
use Rattle.std.proofs.lemmas.Int.{to_z-of_z}
use Rattle.xg_touched.specs.Threads.{thread_sum}
use Rattle.xg_touched.specs.Touched.{JobRows}
use Rattle.xg_touched.proofs.FirstLeaves.{thread_at}
use Rattle.xg_touched.proofs.touched.TouchedRows.amount_at.Goals as goal

pub thread_sum-requires-clause-from_one : goal.thread_sum-requires-clause-from_one
thread_sum-requires-clause-from_one c =
    let noted = c.index-leaf.ensures ∙ ap (λ (x : JobRows). get_or x.first_leaves c.args.i c.index-leaf.result.now) c.self.view_is in
    let thread = thread_at c.args.player _ c.args.against.now _ _ _ c.requires.rows c.requires.leaves c.requires.there c.requires.row noted in
    thread.from_one

pub thread_sum-requires-clause-in_order : goal.thread_sum-requires-clause-in_order
thread_sum-requires-clause-in_order c =
    let noted = c.index-leaf.ensures ∙ ap (λ (x : JobRows). get_or x.first_leaves c.args.i c.index-leaf.result.now) c.self.view_is in
    let thread = thread_at c.args.player _ c.args.against.now _ _ _ c.requires.rows c.requires.leaves c.requires.there c.requires.row noted in
    omega (arith, thread.in_order, ap (λ (x : JobRows). x.range.first + x.range.count) c.self.view_is)

pub returns : goal.returns
returns c =
    let form = c.args.form.now in
    let leaf = c.index-leaf.result.now in
    let noted = c.index-leaf.ensures ∙ ap (λ (x : JobRows). get_or x.first_leaves c.args.i leaf) c.self.view_is in
    let thread = thread_at c.args.player _ c.args.against.now _ _ _ c.requires.rows c.requires.leaves c.requires.there c.requires.row noted in
    let fits : FitsSigned w128 c.thread_sum.result = search rules in
    to_z-of_z w128 c.thread_sum.result fits ∙ c.thread_sum.ensures
    ∙ ap (λ (x : JobRows). thread_sum c.args.player form.leaves c.args.against.now leaf (x.range.first + x.range.count)) c.self.view_is
    ∙ thread.sum
