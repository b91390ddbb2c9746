use Rattle.std.proofs.Common.{◌≡◌, ◌++◌, take}
use Rattle.xg_form_tests.proofs.made.put.Given as goal

abbrev pub invariant-loop-node : goal.invariant-loop-node
invariant-loop-node g l = l.builder ≡ l.initial.builder ++ take l.node-index l.nodes
