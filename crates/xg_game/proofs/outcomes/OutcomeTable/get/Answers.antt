use Rattle.std.proofs.Common.{ap, ◌∙◌}
use Rattle.def_file.specs.Faults.{outcome_at}
use Rattle.xg_game.proofs.TableLemmas.{outcome_value}
use Rattle.xg_game.proofs.outcomes.OutcomeTable.get.Goals as goal

pub returns-clause-name : goal.returns-clause-name
returns-clause-name c = ap (λ s. s.name) (outcome_value c.self.inside.outcomes c.args.i c.get.result.now c.get.ensures)
    ∙ ap (λ table. (outcome_at table c.args.i).name) c.self.view_is

pub returns-clause-one : goal.returns-clause-one
returns-clause-one c = ap (λ s. s.one) (outcome_value c.self.inside.outcomes c.args.i c.get.result.now c.get.ensures)
    ∙ ap (λ table. (outcome_at table c.args.i).one) c.self.view_is

pub returns-clause-two : goal.returns-clause-two
returns-clause-two c = ap (λ s. s.two) (outcome_value c.self.inside.outcomes c.args.i c.get.result.now c.get.ensures)
    ∙ ap (λ table. (outcome_at table c.args.i).two) c.self.view_is
