use Rattle.std.proofs.Common.{◌≡◌, ℕ, ◌<◌, length}
use Rattle.xg_reply.proofs.reply.put_rows.Given as goal
use Rattle.def_plan.specs.FormRows.{amount_of}

abbrev pub invariant-loop-s : goal.invariant-loop-s
invariant-loop-s l = record {
  worths : (t : ℕ) → t < l.s → amount_of l.into.worths t ≡ amount_of l.rows t;
  many : length l.into.worths ≡ length l.rows;
  reply : l.into.reply ≡ l.initial.into.reply;
}
