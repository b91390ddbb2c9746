use Rattle.std.proofs.Common.{ap, ◌∙◌}
use Rattle.def_file.specs.Faults.{outcome_place_of}
use Rattle.xg_game.proofs.TableLemmas.{outcome_place}
use Rattle.xg_game.proofs.outcomes.OutcomeTable.find.Goals as goal

pub returns-clause-place : goal.returns-clause-place
returns-clause-place c = c.find.ensures.place ∙ outcome_place c.args.number c.self.inside.outcomes ∙ ap (outcome_place_of c.args.number) c.self.view_is
