use Rattle.std.proofs.Common.{ap, ◌∙◌}
use Rattle.xg_tree.specs.Linked.{links_at, numbered}
use Rattle.xg_tree.proofs.KeptLemmas.{next_sibling_seen, links_there}
use Rattle.xg_tree.proofs.tree.Tree.next_sibling.Goals as goal

pub links_at-requires : goal.links_at-requires
links_at-requires c =
    links_there c.self.inside.nodes.items c.self.inside.links.items c.deref.result.now c.self.inside.leaves c.args.self.now c.args.k c.self.view_is
    c.self.invariant c.deref.ensures.value c.requires.there

pub returns : goal.returns
returns c =
    c.numbered.ensures ∙ ap (λ l. numbered l.next_sibling) (c.links_at.ensures ∙ ap (λ l. links_at l c.args.k) c.deref.ensures.value)
    ∙ next_sibling_seen c.self.inside.nodes.items c.self.inside.links.items c.self.inside.leaves c.args.self.now c.args.k c.self.view_is c.self.invariant
    c.requires.from_one
