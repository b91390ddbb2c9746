use Rattle.std.proofs.Common.{ap, sym, ◌∙◌}
use Rattle.def_tree.specs.Tree.{leaf_count}
use Rattle.xg_tree.proofs.KeptLemmas.{prefix_seen}
use Rattle.xg_tree.proofs.tree.Tree.leaves.Goals as goal

pub returns : goal.returns
returns c = c.self.invariant.ends ∙ ap leaf_count (sym (prefix_seen c.self.inside.nodes.items c.args.self.now c.self.view_is))
