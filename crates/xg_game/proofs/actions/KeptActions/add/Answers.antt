use Rattle.xg_record.specs.Entry.{actions_seen}
use Rattle.xg_record.specs.Seen.{action_seen}
use Rattle.xg_game.proofs.ActionLemmas.{first_more}
use Rattle.xg_game.proofs.actions.KeptActions.add.Goals as goal

pub loop-i-preserved : goal.loop-i-preserved
loop-i-preserved c =
    first_more c.args.self.now (actions_seen c.args.actions.now) c.loop-i.i (action_seen c.get-action.result) c.loop-i.self c.push.new.self c.get-action.ensures
    c.loop-i.invariant c.in_ok-push.ensures.ok
