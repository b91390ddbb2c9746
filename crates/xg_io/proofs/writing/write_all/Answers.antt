use Rattle.std.proofs.Common.{◌∙◌, rules}
use Rattle.xg_io.proofs.KnownBytesInPieces.{go_on, a_front, cut_off}
use Rattle.xg_io.proofs.writing.write_all.Goals as goal

pub loop-rest-preserved : goal.loop-rest-preserved
loop-rest-preserved g c = record {
  so_far = go_on _ _ _ _ _ _ c.loop-rest.invariant.so_far c.in-Ok.ensures.appended;
  blameless = c.in-Ok.ensures.cause ∙ c.loop-rest.invariant.blameless;
}

pub returns-in-Err-clause-prefix : goal.returns-in-Err-clause-prefix
returns-in-Err-clause-prefix g c = a_front _ _ _ _ _ c.loop-rest.invariant.so_far c.in-Err.ensures.same_written (search rules)

pub returns-in-Err-clause-rest : goal.returns-in-Err-clause-rest
returns-in-Err-clause-rest g c =
    cut_off _ _ _ _ _ _ c.loop-rest.invariant.so_far c.in-Err.ensures.same_written c.in-Err.ensures.failed_piece (search rules)
