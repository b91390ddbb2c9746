use Rattle.std.proofs.Common.{◌≡◌, ap, sym, ◌∙◌}
use Rattle.def_tree.specs.Tree.{wanted}
use Rattle.xg_tree.proofs.BuiltLemmas.{kept_of_built}
use Rattle.xg_tree.proofs.KeptLemmas.{game_tree_seen, prefix_seen}
use Rattle.xg_tree.proofs.builder.Builder.finish.Goals as goal

pub returns-clause-nodes : goal.returns-clause-nodes
returns-clause-nodes c = prefix_seen c.self.inside.nodes.items c.of.result (sym c.of.ensures) ∙ c.self.view_is

pub returns-clause-rules : goal.returns-clause-rules
returns-clause-rules c =
    let none : wanted 1 c.self.inside.nodes.items ≡ 0 = ap (wanted 1) c.self.view_is ∙ c.requires in
    game_tree_seen c.self.inside.nodes.items c.self.inside.links.items c.self.inside.leaves c.of.result (sym c.of.ensures)
    (kept_of_built c.self.inside.nodes.items c.self.inside.links.items c.self.inside.wanted c.self.inside.leaves c.self.inside.sizes c.self.invariant none)

pub of-requires : goal.of-requires
of-requires c =
    kept_of_built c.self.inside.nodes.items c.self.inside.links.items c.self.inside.wanted c.self.inside.leaves c.self.inside.sizes c.self.invariant
    (ap (wanted 1) c.self.view_is ∙ c.requires)
