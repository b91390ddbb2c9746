use Rattle.std.proofs.Common.{◌≡◌, ◌+◌, rules, sym, ◌∙◌, subst}
use Rattle.std.proofs.lemmas.Int.{to_z-of_z}
use mir.Syntax.{w128}
use mir.Val.{SFits, to_z, of_z}
use Rattle.xg_rowcore.specs.Packets.{entry_in}
use Rattle.def_words.specs.Amounts.{IsNext}
use Rattle.xg_words.specs.Holdings.{AreLeft, reached_after}
use Rattle.xg_words.proofs.Left.{left_is_next, left_next}
use Rattle.xg_words.proofs.board.WordBoard.add_entry.Goals as goal

pub add_amount-requires-clause-next : goal.add_amount-requires-clause-next
add_amount-requires-clause-next g c =
    let entries = c.args.packet.now.entries.list in
    let worker = c.args.worker.now in
    let fits : SFits w128 c.entry-row.result.1 = search rules in
    let same : to_z w128 (of_z w128 c.entry-row.result.1) ≡ (entry_in entries c.args.i).amount =
    to_z-of_z w128 c.entry-row.result.1 fits ∙ c.entry-row.ensures.amount in
    let next =
    left_is_next g.N.RowName.jobs g.N.RowName.amount g.N.RowName.rows c.args.packet.now.job entries c.args.i worker.reached worker.numbers c.requires.last.0
    c.requires.packet c.requires.left c.requires.there c.requires.job c.requires.last.1 in
    subst (λ a. IsNext g.N.RowName.jobs g.N.RowName.amount c.entry-row.result.0 a worker.reached worker.numbers) (sym same)
    (subst (λ r. IsNext g.N.RowName.jobs g.N.RowName.amount r (entry_in entries c.args.i).amount worker.reached worker.numbers) (sym c.entry-row.ensures.row)
    next)

pub returns-clause-left : goal.returns-clause-left
returns-clause-left g c =
    let entries = c.args.packet.now.entries.list in
    let fits : SFits w128 c.entry-row.result.1 = search rules in
    let same : to_z w128 (of_z w128 c.entry-row.result.1) ≡ (entry_in entries c.args.i).amount =
    to_z-of_z w128 c.entry-row.result.1 fits ∙ c.entry-row.ensures.amount in
    let reached = c.add_amount.ensures.reached ∙ (λ k. reached_after (c.entry-row.ensures.row k) (same k) c.args.worker.now.reached) in
    subst (AreLeft g.N.RowName.amount g.N.RowName.rows c.args.packet.now.job entries (c.args.i + 1)) (sym reached)
    (left_next g.N.RowName.amount g.N.RowName.rows c.args.packet.now.job entries c.args.i c.args.worker.now.reached c.requires.packet c.requires.left
    c.requires.there)
