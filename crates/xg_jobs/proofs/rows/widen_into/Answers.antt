use Rattle.std.proofs.Common.{pos, arith, ◌∙◌}
use Rattle.std.proofs.lemmas.List.{ext_get_or}
use Rattle.xg_jobs.proofs.rows.widen_into.Goals as goal

pub returns : goal.returns
returns c =
    ext_get_or (pos 0) c.loop-s.amounts c.args.small.now (c.loop-s.invariant.0 ∙ c.requires)
    (λ s low. c.loop-s.invariant.1 s (omega (arith, low, c.loop-s.invariant.0)))
