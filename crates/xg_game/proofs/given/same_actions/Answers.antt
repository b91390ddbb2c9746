use Rattle.std.proofs.Common.{◌≡◌, true, false, sym, ◌∙◌}
use Rattle.def_file.specs.Faults.{same_action}
use Rattle.xg_game.specs.Actions.{action_kept}
use Rattle.xg_record.specs.Entry.{actions_seen}
use Rattle.xg_record.specs.Seen.{action_seen}
use Rattle.xg_game.proofs.PairLemmas.{after_same, at_other}
use Rattle.xg_game.proofs.given.same_actions.Goals as goal

pub returns-then-not-same_action : goal.returns-then-not-same_action
returns-then-not-same_action c =
    let other : same_action c.args.kind (action_kept c.get-action.result) (action_seen c.get.result) ≡ false = sym c.same_action.ensures
    ∙ c.if-not-same_action.true in
    sym (at_other (same_action c.args.kind) c.args.kept.now (actions_seen c.args.given.now) c.loop-i.i _ _ c.get-action.ensures c.get.ensures other)
    ∙ c.loop-i.invariant.1

pub loop-i-preserved : goal.loop-i-preserved
loop-i-preserved c =
    let same : same_action c.args.kind (action_kept c.get-action.result) (action_seen c.get.result) ≡ true = sym c.same_action.ensures
    ∙ c.if-not-same_action.false in (
      c.loop-i.invariant.0,
      after_same (same_action c.args.kind) c.args.kept.now (actions_seen c.args.given.now) c.loop-i.i _ _ c.get-action.ensures c.get.ensures same
          ∙ c.loop-i.invariant.1,
    )
