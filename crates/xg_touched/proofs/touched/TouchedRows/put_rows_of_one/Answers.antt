use Rattle.std.proofs.Common.{◌≡◌, ℕ, ◌<◌, List, length, get_or, ℤ, FitsSigned, to_z, of_z, ap, sym, refl, rules, ◌∙◌, arith}
use mir.Syntax.{w128}
use Rattle.std.proofs.lemmas.Int.{to_z-of_z}
use Rattle.xg_rowcore.specs.Packets.{Listed}
use Rattle.def_plan.specs.Form.{sequence_count}
use Rattle.def_plan.proofs.Rows.{in_row_of_one}
use Rattle.def_history.specs.JobRows.{job_leaves}
use Rattle.xg_touched.specs.Filling.{amount_upto, entries_upto}
use Rattle.xg_touched.specs.Touched.{JobRows}
use Rattle.xg_touched.proofs.Filling.{length-upto, upto_more, upto_none}
use Rattle.xg_touched.proofs.touched.TouchedRows.put_rows_of_one.Goals as goal

pub loop-i-init : goal.loop-i-init
loop-i-init c =
    let f : ℕ → ℤ = amount_upto c.args.form.now c.args.one.now c.args.two.now c.args.self.now.range.first c.args.self.now.range.count in
    record { job = refl; list = c.requires.zeros ∙ sym (upto_none f c.args.self.now.rows); room = refl; chained = refl }

pub put-requires : goal.put-requires
put-requires c =
    let rows = c.args.self.now.rows in
    let f : ℕ → ℤ = amount_upto c.args.form.now c.args.one.now c.args.two.now c.args.self.now.range.first c.args.self.now.range.count in
    let long = ap length c.rows-rows.ensures ∙ ap (λ (x : JobRows). length x.rows) c.self.view_is in
    omega (arith, long, c.loop-i-test.true, ap length c.loop-i.invariant.list, length-upto f c.loop-i.i rows)

pub loop-i-preserved : goal.loop-i-preserved
loop-i-preserved c =
    let rows : List ℕ = c.args.self.now.rows in
    let i : ℕ = c.loop-i.i in
    let f : ℕ → ℤ = amount_upto c.args.form.now c.args.one.now c.args.two.now c.args.self.now.range.first c.args.self.now.range.count in
    let long = ap length c.rows-rows.ensures ∙ ap (λ (x : JobRows). length x.rows) c.self.view_is in
    let low : i < length rows = omega (arith, long, c.loop-i-test.true) in
    let fits : FitsSigned w128 c.amount_at.result = search rules in
    let amount : ℤ = to_z w128 (of_z w128 c.amount_at.result) in
    let rows_are = c.rows-rows.ensures ∙ ap (λ (x : JobRows). x.rows) c.self.view_is in
    let leaves = job_leaves c.args.form.now c.args.self.now.range in
    let below : get_or rows i 0 < sequence_count c.args.form.now.sets_one =
    omega (arith, ap (λ rs. get_or rs i 0) rows_are, c.if-rows-i.false, c.sequence_count-count.ensures.count) in
    let own = in_row_of_one c.args.form.now c.args.one.now c.args.two.now leaves (get_or rows i 0) below in
    let amount_is : amount ≡ f (get_or rows i 0) = to_z-of_z w128 c.amount_at.result fits ∙ c.amount_at.ensures ∙ sym own in
    record {
      job = c.put.ensures.job ∙ c.loop-i.invariant.job;
      list = upto_more f i amount rows _ _ low amount_is c.loop-i.invariant.list c.put.ensures.entries;
      room = ap (λ (x : Listed). x.room) c.put.ensures.entries ∙ c.loop-i.invariant.room;
      chained = ap (λ (x : Listed). x.chained) c.put.ensures.entries ∙ c.loop-i.invariant.chained;
    }

pub returns : goal.returns
returns c =
    let f : ℕ → ℤ = amount_upto c.args.form.now c.args.one.now c.args.two.now c.args.self.now.range.first c.args.self.now.range.count in
    let long = ap length c.rows-rows.ensures ∙ ap (λ (x : JobRows). length x.rows) c.self.view_is in
    let all : c.loop-i.i ≡ length c.rows-rows.result.now = omega (arith, c.loop-i-test.false) in
    let list = c.loop-i.invariant.list ∙ ap (λ k. entries_upto f k c.args.self.now.rows) all in
    record {
      ones = omega (arith, long);
      others = λ below. absurd (omega (arith, long));
      job = c.loop-i.invariant.job;
      entries = λ t. record { list = list t; room = c.loop-i.invariant.room t; chained = c.loop-i.invariant.chained t };
    }
