use Rattle.std.proofs.Common.{ℕ, ap, sym, ◌∙◌}
use Rattle.def_history.proofs.JobRows.{by_number}
use Rattle.xg_rowcore.specs.Packets.{Listed, entries_at_rows}
use Rattle.xg_touched.specs.Touched.{JobRows}
use Rattle.xg_touched.proofs.touched.TouchedRows.packet_into.Goals as goal

pub returns-clause-entries : goal.returns-clause-entries
returns-clause-entries c =
    let form = c.args.form.now in
    let rows = ap (λ (x : JobRows). x.rows) c.requires.rows in
    let room = ap (λ (x : Listed). x.room) c.put_rows_of_one-ones.ensures.entries ∙ ap (λ (x : Listed). x.room) c.start_with.ensures.entries in
    let chained = ap (λ (x : Listed). x.chained) c.put_rows_of_one-ones.ensures.entries ∙ ap (λ (x : Listed). x.chained) c.start_with.ensures.entries in
    let amounts = λ (row : ℕ). sym (by_number form c.args.one.now c.args.two.now c.args.self.now.range row c.requires.leaves) in
    c.put_rows_of_two.ensures.entries
    ∙ (λ i. record { list = entries_at_rows (λ row. amounts row i) (rows i); room = room i; chained = chained i })
