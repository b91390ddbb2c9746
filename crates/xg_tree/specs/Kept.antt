-- What a `Tree` keeps of its nodes.
use Rattle.std.specs.Prelude.{◌≡◌, ℕ, ◌≤◌, List, length}
use Rattle.def_tree.specs.declared.Node.{Node}
use Rattle.def_tree.specs.Tree.{IsWhole, forest_of, leaf_count}
use Rattle.def_tree.specs.Rules.{KeepRules, most_nodes}
use Rattle.xg_tree.specs.declared.links.Links.{Links}
use Rattle.xg_tree.specs.Linked.{stored}

pub record IsKeptTree (nodes : List Node) (links : List Links) (ended : ℕ) : Type 0 where
  pub whole : IsWhole nodes
  pub rules : KeepRules nodes
  pub limit : length nodes ≤ most_nodes
  pub stored : links ≡ stored (forest_of nodes)
  pub ends : ended ≡ leaf_count nodes
