use Rattle.std.proofs.Common.{pos, arith, sym, ◌∙◌}
use Rattle.std.proofs.lemmas.List.{ext_get_or}
use Rattle.xg_closer.proofs.closing.copy_wide.Goals as goal

pub returns : goal.returns
returns c =
    ext_get_or (pos 0) c.loop-s.regrets c.args.small_regrets.now (c.loop-s.invariant.0 ∙ sym c.requires)
    (λ s low. c.loop-s.invariant.1 s (omega (arith, low, c.loop-s.invariant.0)))
