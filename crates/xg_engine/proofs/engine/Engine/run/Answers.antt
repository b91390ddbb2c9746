use Rattle.xg_engine.proofs.Growing.{plain_limits}
use Rattle.xg_engine.proofs.engine.Engine.run.Goals as goal

pub run_variant-requires-clause-limits : goal.run_variant-requires-clause-limits
run_variant-requires-clause-limits g c κs within = plain_limits c.args.settings c.requires.limits
