use Rattle.std.proofs.Common.{arith, pos}
use Rattle.std.proofs.lemmas.List.{ext_get_or}
use Rattle.xg_reply.proofs.reply.put_rows.Goals as goal

pub returns-clause-worths : goal.returns-clause-worths
returns-clause-worths c =
    ext_get_or (pos 0) c.loop-s.into.worths c.args.rows.now c.loop-s.invariant.many
    (λ t low. c.loop-s.invariant.worths t (omega arith))
