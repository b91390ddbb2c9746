-- A node's children by their links.
use Rattle.std.proofs.Common.{◌≡◌, ℕ, zero, suc, ◌+◌, ◌-◌, ◌<◌, ◌≤◌, length, get_or, refl, sym, ap, ◌∙◌, arith, inl, inr, Some, None, slice_get}
use Rattle.std.proofs.lemmas.Bool.{cases_lt}
use Rattle.std.proofs.lemmas.Option.{get_or_from_slice_get, slice_get-get_or, slice_get_past, slice_get_within}
use Rattle.std.proofs.lemmas.List.{get_or_past}
use Rattle.def_tree.specs.Links.{LinksFollowChildren, NodeLinks, children_of, links, links_of, next_sibling_of, no_links, parent_of}
use Rattle.def_tree.specs.Tree.{Forest, IsTree, node_count}
use Rattle.def_tree.proofs.Linking.{links_tell_children}

-- the child at a place is one of the tree's nodes, and the one at the next place is its next sibling
pub record IsChildAt (tree : Forest) (k i child : ℕ) : Type 0 where
  pub from_one : 1 ≤ child
  pub there : child ≤ node_count tree
  pub next : next_sibling_of tree child ≡ slice_get (children_of tree k) (i + 1)

pub child_at : (tree : Forest) (k i child : ℕ) → IsTree tree → 1 ≤ k → k ≤ node_count tree
    → slice_get (children_of tree k) i ≡ Some child → IsChildAt tree k i child
child_at tree k i child is low high at = record {
  from_one = from child parent;
  there = inside;
  next = elim (cases_lt (i + 1) (length (children_of tree k))) [
    | inl more ↦
        let s : ℕ = get_or (children_of tree k) (i + 1) 0 in
        let found = slice_get-get_or (children_of tree k) (i + 1) 0 more in
        (told.next_sibling child s).1 (k, (i, at, found)) ∙ sym found
    | inr past ↦
        let last : length (children_of tree k) - 1 ≡ i = omega (arith, within, past) in
        told.last_child child k (ap (slice_get (children_of tree k)) last ∙ at)
        ∙ sym (slice_get_past (children_of tree k) (i + 1) past)
  ];
}
  where
    told : LinksFollowChildren tree
    told = links_tell_children tree is

    within : i < length (children_of tree k)
    within = slice_get_within (children_of tree k) i child at

    parent : parent_of tree child ≡ Some k
    parent = (told.parent child k).1 (low, (i, within, get_or_from_slice_get (children_of tree k) i child child at))

    from : (child : ℕ) → parent_of tree child ≡ Some k → 1 ≤ child
    from zero e =
        let root : parent_of tree 1 ≡ None = (told.root 1 (omega arith) (omega (arith, low, high))).1 refl in
        let no : None ≡ Some k = sym root ∙ e in cc no
    from (suc n) e = omega arith

    inside : child ≤ node_count tree
    inside = elim (cases_lt (node_count tree) child) [
      | inr not_past ↦ not_past
      | inl past ↦
          let behind : length (links tree) ≤ child - 1 = omega (arith, told.each, past) in
          let none : links_of tree child ≡ no_links = get_or_past (links tree) (child - 1) no_links behind in
          let no : None ≡ Some k = sym (ap (λ (l : NodeLinks). l.parent) none) ∙ parent in cc no
    ]
