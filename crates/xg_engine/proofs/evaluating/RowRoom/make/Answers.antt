use Rattle.std.proofs.Common.{rules, ◌∙◌}
use Rattle.def_tree.specs.declared.Player.TheVariants.{One, Two}
use Rattle.xg_jobs.specs.Rows.{ArePlainSums}
use Rattle.xg_reply.proofs.RowSizes.{count_of_rows}
use Rattle.xg_engine.proofs.evaluating.RowRoom.make.Goals as goal

pub returns-in-Ok-clause-room : goal.returns-in-Ok-clause-room
returns-in-Ok-clause-room g c =
    let form = c.args.source.now.form.now in
    let rows = c.replace.new.dest in
    let sums : ArePlainSums form c.args.one.now c.args.two.now rows = search rules in
    record {
      one = count_of_rows form One c.args.two.now rows.one sums.one;
      two = count_of_rows form Two c.args.one.now rows.two sums.two;
      small_one = c.small_rows.ensures.count_one ∙ c.requires.room.small_one;
      small_two = c.small_rows.ensures.count_two ∙ c.requires.room.small_two;
    }
