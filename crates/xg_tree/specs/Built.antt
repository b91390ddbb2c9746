-- What a `Builder` keeps of its nodes.
use Rattle.std.specs.Prelude.{◌≡◌, ℕ, ◌≤◌, List, length}
use Rattle.def_tree.specs.declared.Node.{Node}
use Rattle.def_tree.specs.Tree.{Begins, leaf_count, wanted}
use Rattle.def_tree.specs.Rules.{KeepRules, most_nodes}
use Rattle.xg_tree.specs.declared.links.Links.{Links}
use Rattle.xg_tree.specs.Linked.{linked}
use Rattle.xg_tree.specs.Sizes.{SizeLists, HoldSizes}

pub record IsBuilt (nodes : List Node) (links : List Links) (wanting ended : ℕ) (sizes : SizeLists) : Type 0 where
  pub begins : Begins 1 nodes
  pub rules : KeepRules nodes
  pub limit : length nodes ≤ most_nodes
  pub wants : wanting ≡ wanted 1 nodes
  pub ends : ended ≡ leaf_count nodes
  pub linked : links ≡ linked nodes
  pub joins : HoldSizes nodes sizes
