use Rattle.std.proofs.Common.{arith}
use Rattle.xg_rowcore.proofs.Histories.{length_legal}
use Rattle.xg_rowcore.proofs.stripe.Stripe.jobs_added.Goals as goal

pub overflow_cast-result : goal.overflow_cast-result
overflow_cast-result g c = omega (arith, length_legal g.N.RowName.jobs c.self.inside.order.items c.self.invariant.1, c.self.invariant.4, c.len.ensures)
