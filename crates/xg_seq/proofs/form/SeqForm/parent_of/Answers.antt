use Rattle.std.proofs.Common.{◌-◌}
use Rattle.def_plan.specs.Form.{player_sets}
use Rattle.xg_seq.specs.Table.{placed_of_row}
use Rattle.xg_seq.proofs.RowLemmas.{place_shows}
use Rattle.xg_seq.proofs.form.SeqForm.parent_of.Goals as goal

pub returns : goal.returns
returns c = let read = rw c.table.ensures at c.row.ensures in place_shows (player_sets c.args.self.now c.args.player) (λ h. h.before) (c.args.set - 1)
    (placed_of_row c.row.result) read.place
