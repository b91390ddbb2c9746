use Rattle.std.proofs.Common.{◌≡◌, length, to_z, of_z, arith, rules, FitsSigned, sym}
use Rattle.std.specs.Int.{w128}
use Rattle.std.proofs.lemmas.Int.{to_z-of_z}
use Rattle.xg_jobs.proofs.RowLemmas.{put_one, put_two}
use Rattle.xg_jobs.proofs.rows.Rows.put.Goals as goal

pub returns-then-row-count-clause-rows : goal.returns-then-row-count-clause-rows
returns-then-row-count-clause-rows c =
    let fits : FitsSigned w128 c.args.amount = search rules in
    let same : to_z w128 (of_z w128 c.args.amount) ≡ c.args.amount = to_z-of_z w128 c.args.amount fits in
    let view = c.self.view_is in
    rw (sym view) (put_one c.self.inside.one.items c.self.inside.two.items c.args.row _ c.args.amount same (omega arith))

pub returns-else-row-count-clause-rows : goal.returns-else-row-count-clause-rows
returns-else-row-count-clause-rows c =
    let fits : FitsSigned w128 c.args.amount = search rules in
    let same : to_z w128 (of_z w128 c.args.amount) ≡ c.args.amount = to_z-of_z w128 c.args.amount fits in
    let view = c.self.view_is in
    let count : c.len-count.result ≡ length c.self.inside.one.items = omega arith in
    rw (sym view, count) (put_two c.self.inside.one.items c.self.inside.two.items c.args.row _ c.args.amount same (omega arith))
