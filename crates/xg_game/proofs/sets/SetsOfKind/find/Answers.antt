use Rattle.std.proofs.Common.{ap, ◌∙◌}
use Rattle.def_file.specs.Faults.{set_place_of}
use Rattle.xg_game.proofs.TableLemmas.{set_place}
use Rattle.xg_game.proofs.sets.SetsOfKind.find.Goals as goal

pub returns-clause-place : goal.returns-clause-place
returns-clause-place c = c.find.ensures.place ∙ set_place c.self.inside.actions c.args.number c.self.inside.sets
    ∙ ap (set_place_of c.args.number) c.self.view_is
