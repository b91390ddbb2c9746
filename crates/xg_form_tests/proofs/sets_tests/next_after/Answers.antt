use Rattle.std.proofs.Common.{ap, arith, length}
use Rattle.def_sequence_form.proofs.ListedNodes.{sets_list_their_nodes}
use Rattle.def_sequence_form.proofs.Nodes.{sets_are_exact}
use Rattle.xg_form_tests.proofs.sets_tests.next_after.Goals as goal

pub next_node-requires-clause-there : goal.next_node-requires-clause-there
next_node-requires-clause-there g c =
    omega (arith, ap (λ s. length s.next_nodes) (sets_are_exact.only c.args.tree.now c.args.sets.now c.requires), sets_list_their_nodes.count c.args.tree.now)
