use Rattle.std.proofs.Common.{◌∙◌, ap, arith, length}
use Rattle.xg_sets.specs.OfPlayer.{of_player}
use Rattle.xg_seq.specs.Table.{set_numbers_from}
use Rattle.xg_seq.proofs.RowLemmas.{keeps_sets, rows_are_few, sets_of_rows}
use Rattle.xg_seq.proofs.rows.table_of.Goals as goal

pub set_numbers_of-requires : goal.set_numbers_of-requires
set_numbers_of-requires c =
    omega (
      arith,
      rows_are_few c.in_ok-rows.rows.items (of_player c.args.player c.args.sets.now).sets c.in_ok-rows.ensures c.requires.order,
      c.requires.limit,
      ap length c.deref.ensures.value,
    )

pub of-requires : goal.of-requires
of-requires c =
    keeps_sets c.in_ok-rows.rows.items c.in_ok-set_numbers.set_numbers.items (of_player c.args.player c.args.sets.now).sets c.in_ok-rows.ensures
    (c.in_ok-set_numbers.ensures ∙ ap (set_numbers_from 1) c.deref.ensures.value) c.requires.order c.requires.limit c.requires.few_actions

pub returns : goal.returns
returns c = c.of.ensures ∙ sets_of_rows c.in_ok-rows.rows.items (of_player c.args.player c.args.sets.now).sets c.in_ok-rows.ensures
