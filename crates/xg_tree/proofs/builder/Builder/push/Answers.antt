use Rattle.std.proofs.Common.{◌≡◌, ◌≢◌, ◌+◌, ◌-◌, ◌^◌, ◌<◌, ◌++◌, ◌∷◌, [], ap, sym, subst, ◌∙◌, arith, rules, length}
use Rattle.std.specs.Vec.{vec_len}
use Rattle.def_tree.specs.Rules.{Fits}
use Rattle.def_tree.specs.Tree.{leaf_count, wanted}
use Rattle.xg_tree.specs.Linked.{ComeAfterParents, linked_next}
use Rattle.xg_tree.specs.Sizes.{with_size}
use Rattle.xg_tree.proofs.BuiltLemmas.{IsBuilt-push, IsBuilt-same, links_as_nodes, links_in_order, wanted_fits}
use Rattle.xg_tree.proofs.builder.Builder.push.Goals as goal

pub overflow_add-self-2 : goal.overflow_add-self-2
overflow_add-self-2 c =
    let fits : Fits c.self.inside.nodes.items c.args.node = subst (λ nodes. Fits nodes c.args.node) (sym c.self.view_is) c.requires.fits in
    let wants : c.self.inside.wanted ≡ wanted 1 c.self.inside.nodes.items = c.self.invariant.wants in
    let long : vec_len c.self.inside.nodes ≡ length c.self.inside.nodes.items = c.self.inside.nodes.ok.0 in
    let short : length c.self.inside.nodes.items < 1048576 = omega (arith, c.len.ensures, c.if-len-ge-MOST_NODES.false) in
    let bound : wanted 1 c.self.inside.nodes.items - 1 + c.args.node.children < 2
    ^ 32 = wanted_fits c.self.inside.nodes.items c.args.node c.self.invariant.rules fits short in
    let below : c.self.inside.wanted - 1 + c.args.node.children < 2 ^ 32 = omega arith in
    search rules

pub invariant_of-self-2 : goal.invariant_of-self-2
invariant_of-self-2 c =
    let fits : Fits c.self.inside.nodes.items c.args.node = subst (λ nodes. Fits nodes c.args.node) (sym c.self.view_is) c.requires.fits in
    let wants : c.self.inside.wanted ≡ wanted 1 c.self.inside.nodes.items = c.self.invariant.wants in
    let some : c.self.inside.wanted ≢ 0 = λ none. c.requires.incomplete (ap (wanted 1) (sym c.self.view_is) ∙ sym wants ∙ none) in
    let long : vec_len c.self.inside.nodes ≡ length c.self.inside.nodes.items = c.self.inside.nodes.ok.0 in
    let short : length c.self.inside.nodes.items < 1048576 = omega (arith, c.len.ensures, c.if-len-ge-MOST_NODES.false) in
    let nodes : c.push_reserved.new.self.items ≡ c.self.inside.nodes.items ++ c.args.node ∷ [] = search rules in
    let sizes : c.note.new.self ≡ with_size c.self.inside.sizes c.args.node = search rules in
    let leaves : c.self.inside.leaves + c.leaves_in.result ≡ c.self.inside.leaves
    + leaf_count (c.args.node ∷ []) = ap (λ n. c.self.inside.leaves + n) c.leaves_in.ensures in
    let links : c.put_next.new.links.items ≡ linked_next c.self.inside.links.items c.args.node.children = c.put_next.ensures
    ∙ ap (λ l. linked_next l c.args.node.children) c.reserve-2.ensures.items in
    IsBuilt-same _ _ _ _ _ _ _ _ _ nodes links leaves sizes
    (IsBuilt-push c.self.inside.nodes.items c.self.inside.links.items c.self.inside.wanted c.self.inside.leaves c.self.inside.sizes c.args.node c.self.invariant
    some fits short)

pub put_next-requires-clause-limit : goal.put_next-requires-clause-limit
put_next-requires-clause-limit c =
    let long : vec_len c.self.inside.nodes ≡ length c.self.inside.nodes.items = c.self.inside.nodes.ok.0 in
    let same : length c.self.inside.links.items ≡ length c.self.inside.nodes.items = links_as_nodes c.self.inside.nodes.items c.self.inside.links.items
    c.self.inside.wanted c.self.inside.leaves c.self.inside.sizes c.self.invariant in
    omega (arith, c.len.ensures, c.if-len-ge-MOST_NODES.false, ap length c.reserve-2.ensures.items)

pub put_next-requires-clause-ordered : goal.put_next-requires-clause-ordered
put_next-requires-clause-ordered c =
    subst ComeAfterParents (sym c.reserve-2.ensures.items) (links_in_order c.self.inside.nodes.items c.self.inside.links.items c.self.inside.wanted
    c.self.inside.leaves c.self.inside.sizes c.self.invariant)
