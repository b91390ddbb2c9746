use Rattle.std.proofs.Common.{length, ap, ◌∙◌}
use Rattle.def_file.specs.Faults.{set_at}
use Rattle.xg_game.proofs.TableLemmas.{set_value, within_at}
use Rattle.xg_game.proofs.sets.SetsOfKind.get.Goals as goal

pub of-requires : goal.of-requires
of-requires c =
    within_at (length c.self.inside.actions) c.self.inside.sets c.args.i c.get-known.result.now c.get-known.ensures c.self.invariant

pub returns-clause-name : goal.returns-clause-name
returns-clause-name c =
    ap (λ s. s.name) (set_value c.self.inside.actions c.self.inside.sets c.args.i c.get-known.result.now c.get-known.ensures)
    ∙ ap (λ table. (set_at table c.args.i).name) c.self.view_is

pub returns-clause-actions : goal.returns-clause-actions
returns-clause-actions c =
    c.of.ensures
    ∙ ap (λ s. s.actions) (set_value c.self.inside.actions c.self.inside.sets c.args.i c.get-known.result.now c.get-known.ensures)
    ∙ ap (λ table. (set_at table c.args.i).actions) c.self.view_is
