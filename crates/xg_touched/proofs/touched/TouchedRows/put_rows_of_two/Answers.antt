use Rattle.std.proofs.Common.{◌≡◌, ℕ, ◌<◌, ◌≤◌, List, length, get_or, ℤ, FitsSigned, to_z, of_z, ap, sym, subst, rules, ◌∙◌, arith}
use Rattle.std.specs.List.Sorted.{IsStrictlyIncreasing}
use mir.Syntax.{w128}
use Rattle.std.proofs.lemmas.Int.{to_z-of_z}
use Rattle.std.specs.Prelude.{slice_index}
use Rattle.def_plan.specs.Form.{SequenceForm, sequence_count}
use Rattle.def_history.specs.JobRows.{job_leaves}
use Rattle.xg_rowcore.specs.Packets.{Listed}
use Rattle.xg_touched.specs.Filling.{amount_upto}
use Rattle.xg_touched.specs.Touched.{JobRows, job_rows}
use Rattle.xg_touched.proofs.FirstLeaves.{amount_of_two}
use Rattle.xg_touched.proofs.Filling.{length-upto, upto_all, upto_more}
use Rattle.xg_touched.proofs.Rising.{no_smaller}
use Rattle.xg_touched.proofs.Touching.{touched_rise}
use Rattle.xg_touched.proofs.touched.TouchedRows.put_rows_of_two.Goals as goal

-- the rows behind player one's are player two's
row_of_two : (form : SequenceForm) (job : JobRows) → job ≡ job_rows form job.range → (ones i : ℕ) → ones ≤ i → i < length job.rows
    → (ones < length job.rows → sequence_count form.sets_one ≤ slice_index job.rows ones)
    → sequence_count form.sets_one ≤ slice_index job.rows i
row_of_two form job is ones i past low others =
    let rise = touched_rise form (job_leaves form job.range) in
    let up : IsStrictlyIncreasing job.rows = subst IsStrictlyIncreasing (sym (ap (λ (x : JobRows). x.rows) is)) rise in
    omega (arith, no_smaller job.rows up ones i past low, others (omega (arith, past)))

pub put-requires : goal.put-requires
put-requires c =
    let rows = c.args.self.now.rows in
    let f : ℕ → ℤ = amount_upto c.args.form.now c.args.one.now c.args.two.now c.args.self.now.range.first c.args.self.now.range.count in
    omega (arith, c.len-i-end.ensures, c.loop-i-test.true, ap length c.loop-i.invariant.list, length-upto f c.loop-i.i rows)

pub loop-i-preserved : goal.loop-i-preserved
loop-i-preserved c =
    let rows : List ℕ = c.args.self.now.rows in
    let i : ℕ = c.loop-i.i in
    let f : ℕ → ℤ = amount_upto c.args.form.now c.args.one.now c.args.two.now c.args.self.now.range.first c.args.self.now.range.count in
    let low : i < length rows = omega (arith, c.len-i-end.ensures, c.loop-i-test.true) in
    let fits : FitsSigned w128 c.amount_at.result = search rules in
    let amount : ℤ = to_z w128 (of_z w128 c.amount_at.result) in
    let past = row_of_two c.args.form.now c.args.self.now c.requires.rows c.args.ones i c.loop-i.auto.i low c.requires.others in
    let own = amount_of_two c.args.form.now c.args.one.now c.args.two.now c.args.self.now.range (get_or rows i 0) past in
    let amount_is : amount ≡ f (get_or rows i 0) = to_z-of_z w128 c.amount_at.result fits ∙ c.amount_at.ensures ∙ own in
    record {
      job = c.put.ensures.job ∙ c.loop-i.invariant.job;
      list = upto_more f i amount rows _ _ low amount_is c.loop-i.invariant.list c.put.ensures.entries;
      room = ap (λ (x : Listed). x.room) c.put.ensures.entries ∙ c.loop-i.invariant.room;
      chained = ap (λ (x : Listed). x.chained) c.put.ensures.entries ∙ c.loop-i.invariant.chained;
    }

pub amount_at-requires-clause-row : goal.amount_at-requires-clause-row
amount_at-requires-clause-row c =
    let low : c.loop-i.i < length c.args.self.now.rows = omega (arith, c.len-i-end.ensures, c.loop-i-test.true) in
    row_of_two c.args.form.now c.args.self.now c.requires.rows c.args.ones c.loop-i.i c.loop-i.auto.i low c.requires.others

pub returns : goal.returns
returns c =
    let rows : List ℕ = c.args.self.now.rows in
    let f : ℕ → ℤ = amount_upto c.args.form.now c.args.one.now c.args.two.now c.args.self.now.range.first c.args.self.now.range.count in
    let all : length rows ≤ c.loop-i.i = omega (arith, c.len-i-end.ensures, c.loop-i-test.false) in
    let list = c.loop-i.invariant.list ∙ upto_all f c.loop-i.i rows all in
    record {
      job = c.loop-i.invariant.job;
      entries = λ t. record { list = list t; room = c.loop-i.invariant.room t; chained = c.loop-i.invariant.chained t };
    }
