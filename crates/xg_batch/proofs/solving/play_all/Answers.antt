use Rattle.xg_batch.proofs.SolvedItems.{played_of_left}
use Rattle.xg_batch.proofs.solving.play_all.Goals as goal

pub returns-in-Ok : goal.returns-in-Ok
returns-in-Ok g c =
    played_of_left c.args.settings _ c.in_ok-engine.engine c.run.new.self c.in_ok-engine.ensures.opened c.in-Ok.ensures.game
    c.in-Ok.ensures.left
