use Rattle.std.proofs.Common.{◌-◌, ap}
use Rattle.xg_sets.proofs.ShownLemmas.{first_shows}
use Rattle.xg_sets.specs.OfPlayer.{of_player}
use Rattle.xg_sets.proofs.sets.Sets.first_node.Goals as goal

pub returns : goal.returns
returns c = first_shows c.table.result.now.rows (of_player c.args.player c.args.self.now).first_nodes (c.args.set - 1) c.row.result
    (ap (λ t. t.first_nodes) c.table.ensures.of_player) c.row.ensures
