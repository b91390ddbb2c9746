use Rattle.std.proofs.Common.{ap, sym, ◌∙◌, length}
use Rattle.xg_tree.proofs.KeptLemmas.{game_tree_seen, prefix_seen}
use Rattle.xg_tree.proofs.tree.Tree.len.Goals as goal

pub returns-clause-count : goal.returns-clause-count
returns-clause-count c = c.len.ensures ∙ c.self.inside.nodes.ok.0 ∙ ap length (sym (prefix_seen c.self.inside.nodes.items c.args.self.now c.self.view_is))

pub returns-clause-rules : goal.returns-clause-rules
returns-clause-rules c = game_tree_seen c.self.inside.nodes.items c.self.inside.links.items c.self.inside.leaves c.args.self.now c.self.view_is c.self.invariant
