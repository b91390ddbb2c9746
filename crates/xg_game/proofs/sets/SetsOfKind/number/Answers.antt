use Rattle.std.proofs.Common.{ap, ◌∙◌}
use Rattle.def_file.specs.Faults.{set_at}
use Rattle.xg_game.proofs.TableLemmas.{set_number}
use Rattle.xg_game.proofs.sets.SetsOfKind.number.Goals as goal

pub returns : goal.returns
returns c = set_number c.self.inside.actions c.self.inside.sets c.args.i c.number.result c.number.ensures
    ∙ ap (λ table. (set_at table c.args.i).number) c.self.view_is
