use Rattle.xg_plus.proofs.plus_engine.PlusEngine.run.Goals as goal

pub run_variant-requires-clause-limits : goal.run_variant-requires-clause-limits
run_variant-requires-clause-limits g c κs within = record {
  few_rounds = c.requires.limits.few_rounds;
  some_every = c.requires.limits.some_every;
  small_every = c.requires.limits.small_every;
  some_scale = c.requires.limits.some_scale;
  small_scale = c.requires.limits.small_scale;
}
