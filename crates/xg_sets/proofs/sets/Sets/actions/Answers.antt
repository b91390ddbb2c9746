use Rattle.std.proofs.Common.{◌-◌, ap}
use Rattle.xg_sets.proofs.ShownLemmas.{row_shows}
use Rattle.xg_sets.specs.OfPlayer.{of_player}
use Rattle.xg_sets.proofs.sets.Sets.actions.Goals as goal

pub returns : goal.returns
returns c = row_shows c.table.result.now.rows (of_player c.args.player c.args.self.now).sets (λ set. set.actions) (c.args.set - 1) c.row.result
    (ap (λ t. t.sets) c.table.ensures.of_player) c.row.ensures
