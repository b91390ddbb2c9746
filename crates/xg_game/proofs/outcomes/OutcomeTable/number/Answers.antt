use Rattle.std.proofs.Common.{ap, ◌∙◌}
use Rattle.def_file.specs.Faults.{outcome_at}
use Rattle.xg_game.proofs.TableLemmas.{outcome_number}
use Rattle.xg_game.proofs.outcomes.OutcomeTable.number.Goals as goal

pub returns : goal.returns
returns c = outcome_number c.self.inside.outcomes c.args.i c.number.result c.number.ensures ∙ ap (λ table. (outcome_at table c.args.i).number) c.self.view_is
