use Rattle.std.proofs.Common.{arith}
use Rattle.def_tree.specs.declared.Player.TheVariants.{One, Two}
use Rattle.xg_sets.proofs.ShownLemmas.{counted_for_nodes}
use Rattle.xg_form_tests.proofs.sets_tests.sequences_at.Goals as goal

pub sequence_at-one-requires-clause-there : goal.sequence_at-one-requires-clause-there
sequence_at-one-requires-clause-there g c = omega (arith, counted_for_nodes c.args.tree.now c.args.sets.now One c.requires)

pub sequence_at-two-requires-clause-there : goal.sequence_at-two-requires-clause-there
sequence_at-two-requires-clause-there g c = omega (arith, counted_for_nodes c.args.tree.now c.args.sets.now Two c.requires)
