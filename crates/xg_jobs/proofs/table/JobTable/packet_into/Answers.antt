use Rattle.std.proofs.Common.{◌+◌, ◌≤◌, List, length, get_or, sym, ap, subst, ◌∙◌, arith}
use Rattle.def_history.specs.Ranges.{LeafRange}
use Rattle.def_history.specs.Leaves.{amounts}
use Rattle.def_history.specs.Packets.{IsPacketOf}
use Rattle.def_history.specs.JobPackets.{packet_of}
use Rattle.def_history.specs.JobRows.{leaf_amount}
use Rattle.def_history.proofs.JobPackets.{touched_rows_make_packets}
use Rattle.def_plan.specs.FormRows.{row_count}
use Rattle.xg_rowcore.specs.Packets.{Listed}
use Rattle.xg_jobs.specs.Table.{TableOfJobs}
use Rattle.xg_jobs.proofs.TouchedJobs.{job_is_touched}
use Rattle.xg_jobs.proofs.table.JobTable.packet_into.Goals as goal

pub packet_into-requires-clause-leaves : goal.packet_into-requires-clause-leaves
packet_into-requires-clause-leaves c =
    let known = job_is_touched c.args.input.now.form.now c.args.self.now c.args.job c.index-touched.result.now c.requires.table c.requires.job
    (c.index-touched.ensures ∙ ap (λ (t : TableOfJobs). get_or t.touched c.args.job c.index-touched.result.now) c.self.view_is) in
    known.inside

pub packet_into-requires-clause-rows : goal.packet_into-requires-clause-rows
packet_into-requires-clause-rows c =
    let known = job_is_touched c.args.input.now.form.now c.args.self.now c.args.job c.index-touched.result.now c.requires.table c.requires.job
    (c.index-touched.ensures ∙ ap (λ (t : TableOfJobs). get_or t.touched c.args.job c.index-touched.result.now) c.self.view_is) in
    known.rows

pub packet_into-requires-clause-room : goal.packet_into-requires-clause-room
packet_into-requires-clause-room c =
    let known = job_is_touched c.args.input.now.form.now c.args.self.now c.args.job c.index-touched.result.now c.requires.table c.requires.job
    (c.index-touched.ensures ∙ ap (λ (t : TableOfJobs). get_or t.touched c.args.job c.index-touched.result.now) c.self.view_is) in
    omega (arith, known.few, c.requires.room)

pub returns-clause-rows : goal.returns-clause-rows
returns-clause-rows c =
    let form = c.args.input.now.form.now in
    let one = c.args.input.now.one.now in
    let two = c.args.input.now.two.now in
    let known = job_is_touched c.args.input.now.form.now c.args.self.now c.args.job c.index-touched.result.now c.requires.table c.requires.job
    (c.index-touched.ensures ∙ ap (λ (t : TableOfJobs). get_or t.touched c.args.job c.index-touched.result.now) c.self.view_is) in
    ap (λ (l : Listed). l.list) c.packet_into.ensures.entries ∙ ap (packet_of form one two) (sym known.range_is)

pub returns-clause-packet : goal.returns-clause-packet
returns-clause-packet c =
    let form = c.args.input.now.form.now in
    let one = c.args.input.now.one.now in
    let two = c.args.input.now.two.now in
    let ranges : List LeafRange = c.args.self.now.ranges in
    let known = job_is_touched c.args.input.now.form.now c.args.self.now c.args.job c.index-touched.result.now c.requires.table c.requires.job
    (c.index-touched.ensures ∙ ap (λ (t : TableOfJobs). get_or t.touched c.args.job c.index-touched.result.now) c.self.view_is) in
    let list = ap (λ (l : Listed). l.list) c.packet_into.ensures.entries ∙ ap (packet_of form one two) (sym known.range_is) in
    let inside = subst (λ (r : LeafRange). r.first + r.count ≤ length form.leaves) (sym known.range_is) known.inside in
    subst (IsPacketOf (amounts (leaf_amount form one two) ranges) (row_count form) c.args.job) (sym list)
    (touched_rows_make_packets form one two ranges c.args.job inside)
