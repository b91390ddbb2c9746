-- The links of nodes say the same as the lists of children.
use Rattle.std.proofs.Common.{◌≡◌, ◌↔◌, ℕ, zero, suc, ◌+◌, ◌-◌, ◌<◌, ◌≤◌, List, [], ◌∷◌, ◌++◌, length, get_or, refl, ap, sym, subst, ◌∙◌, arith, inl, inr, ◌⊎◌}
use Rattle.std.proofs.Common.{length-append, Some, None, Option, slice_get}
use Rattle.std.specs.Prelude.{Contains}
use Rattle.std.proofs.lemmas.Bool.{cases_lt}
use Rattle.std.proofs.lemmas.Option.{slice_get_within, slice_get_past, slice_get-get_or, get_or_from_slice_get}
use Rattle.std.proofs.lemmas.List.{get_or-append-add, get_or-append_right, get_or_past}
use Rattle.std.proofs.Math.ListN.{get_or-append}
use Rattle.def_tree.specs.declared.Node.{Node}
use Rattle.def_tree.specs.Tree.{Forest, bare, grown, prefix, node_count}
use Rattle.def_tree.specs.Links.{roots_from, children_from, children_of, NodeLinks, links_from, links, no_links, links_of, parent_of, next_sibling_of}
use Rattle.def_tree.specs.Links.{ComesAfter, ComesLast, LinksFollowChildren, LinksTellChildren, LinkRows}

pub link_rows : LinkRows
link_rows = record {
  leaf = record { parent = refl; first_child = refl; next_sibling = refl };
  chain = record { parent = refl; first_child = refl; next_sibling = refl };
  pennies = record { parent = refl; first_child = refl; next_sibling = refl };
  several_depths = record { parent = refl; first_child = refl; next_sibling = refl };
  nested_chance = record { parent = refl; first_child = refl; next_sibling = refl };
}

node_count-grown : (node : Node) (below beside : Forest)
    → node_count (grown node below beside) ≡ 1 + node_count below + node_count beside
node_count-grown node below beside = omega (arith, length-append (prefix below) (prefix beside))

pub length-links_from : (above : Option ℕ) (k : ℕ) (trees : Forest) → length (links_from above k trees) ≡ node_count trees
length-links_from above k bare = refl
length-links_from above k (grown node below beside) =
    let under : length (links_from (Some k) (k + 1) below) ≡ node_count below = length-links_from (Some k) (k + 1) below in
    let after : length (links_from above (k + 1 + node_count below) beside) ≡ node_count beside = length-links_from above (k + 1 + node_count below) beside in
    omega (arith, length-append (links_from (Some k) (k + 1) below) (links_from above (k + 1 + node_count below) beside), node_count-grown node below beside)

length-children_from : (k : ℕ) (trees : Forest) → length (children_from k trees) ≡ node_count trees
length-children_from k bare = refl
length-children_from k (grown node below beside) =
    let under : length (children_from (k + 1) below) ≡ node_count below = length-children_from (k + 1) below in
    let after : length (children_from (k + 1 + node_count below) beside) ≡ node_count beside = length-children_from (k + 1 + node_count below) beside in
    omega (arith, length-append (children_from (k + 1) below) (children_from (k + 1 + node_count below) beside), node_count-grown node below beside)

slice_get-front : {A : Type 0} (xs ys : List A) (i : ℕ) (x : A) → slice_get xs i ≡ Some x → slice_get (xs ++ ys) i ≡ Some x
slice_get-front [] ys i x e = cc e
slice_get-front (y ∷ xs) ys zero x e = e
slice_get-front (y ∷ xs) ys (suc i) x e = slice_get-front xs ys i x e

slice_get-behind : {A : Type 0} (xs ys : List A) (i : ℕ) → slice_get (xs ++ ys) (length xs + i) ≡ slice_get ys i
slice_get-behind [] ys i = ap (slice_get ys) (omega arith)
slice_get-behind (x ∷ xs) ys i =
    let next : length (x ∷ xs) + i ≡ suc (length xs + i) = omega arith in ap (slice_get (x ∷ (xs ++ ys))) next ∙ slice_get-behind xs ys i

-- node c has these links: its parent, and the sibling that comes after it at place i of its siblings
record IsLinked (above : Option ℕ) (k : ℕ) (trees : Forest) (c : ℕ) (parent : Option ℕ) (siblings : List ℕ) (i : ℕ) : Type 0 where
  low : k ≤ c
  found : NodeLinks
  there : slice_get (links_from above k trees) (c - k) ≡ Some found
  parent_is : found.parent ≡ parent
  next_is : found.next_sibling ≡ slice_get siblings (suc i)

linked_below : (above : Option ℕ) (k : ℕ) (node : Node) (below beside : Forest) (c : ℕ) (parent : Option ℕ) (siblings : List ℕ) (i : ℕ)
    → IsLinked (Some k) (k + 1) below c parent siblings i → IsLinked above k (grown node below beside) c parent siblings i
linked_below above k node below beside c parent siblings i linked =
    let low : k + 1 ≤ c = linked.low in
    let place : c - k ≡ suc (c - (k + 1)) = omega arith in
    record {
      low = omega arith;
      found = linked.found;
      there = ap (slice_get (links_from above k (grown node below beside))) place
          ∙ slice_get-front (links_from (Some k) (k + 1) below) (links_from above (k + 1 + node_count below) beside) (c - (k + 1)) linked.found linked.there;
      parent_is = linked.parent_is;
      next_is = linked.next_is;
    }

linked_beside : (above : Option ℕ) (k : ℕ) (node : Node) (below beside : Forest) (c : ℕ) (parent : Option ℕ) (siblings : List ℕ) (i : ℕ)
    → IsLinked above (k + 1 + node_count below) beside c parent siblings i → IsLinked above k (grown node below beside) c parent siblings i
linked_beside above k node below beside c parent siblings i linked =
    let low : k + 1 + node_count below ≤ c = linked.low in
    let long : length (links_from (Some k) (k + 1) below) ≡ node_count below = length-links_from (Some k) (k + 1) below in
    let place : c - k ≡ suc (length (links_from (Some k) (k + 1) below) + (c - (k + 1 + node_count below))) = omega arith in
    record {
      low = omega arith;
      found = linked.found;
      there = ap (slice_get (links_from above k (grown node below beside))) place
          ∙ slice_get-behind (links_from (Some k) (k + 1) below) (links_from above (k + 1 + node_count below) beside) (c - (k + 1 + node_count below))
          ∙ linked.there;
      parent_is = linked.parent_is;
      next_is = linked.next_is;
    }

-- a top node is below the parent of all, and the top node after it is its next sibling
root_linked : (above : Option ℕ) (k : ℕ) (trees : Forest) (i c : ℕ) → slice_get (roots_from k trees) i ≡ Some c
    → IsLinked above k trees c above (roots_from k trees) i
root_linked above k bare i c e = cc e
root_linked above k (grown node below beside) zero c e =
    let same : k ≡ c = cc in
    let place : c - k ≡ 0 = omega arith in
    record {
      low = omega arith;
      found = _;
      there = ap (slice_get (links_from above k (grown node below beside))) place;
      parent_is = refl;
      next_is = refl;
    }
root_linked above k (grown node below beside) (suc i) c e =
    let linked = root_linked above (k + 1 + node_count below) beside i c e in
    linked_beside above k node below beside c above (roots_from k (grown node below beside)) (suc i)
    (record { low = linked.low; found = linked.found; there = linked.there; parent_is = linked.parent_is; next_is = linked.next_is })

-- the children of node p
abbrev kids : ℕ → Forest → ℕ → List ℕ
kids k trees p = get_or (children_from k trees) (p - k) []

kids-here : (k : ℕ) (node : Node) (below beside : Forest) (p : ℕ) → p ≡ k
    → kids k (grown node below beside) p ≡ roots_from (k + 1) below
kids-here k node below beside p same =
    let place : p - k ≡ 0 = omega arith in ap (λ n. get_or (children_from k (grown node below beside)) n []) place

kids-below : (k : ℕ) (node : Node) (below beside : Forest) (p : ℕ) → k + 1 ≤ p → p < k + 1 + node_count below
    → kids k (grown node below beside) p ≡ kids (k + 1) below p
kids-below k node below beside p low high =
    let place : p - k ≡ suc (p - (k + 1)) = omega arith in
    let long : length (children_from (k + 1) below) ≡ node_count below = length-children_from (k + 1) below in
    ap (λ n. get_or (children_from k (grown node below beside)) n []) place
    ∙ get_or-append (children_from (k + 1) below) (children_from (k + 1 + node_count below) beside) [] (p - (k + 1)) (omega arith)

kids-beside : (k : ℕ) (node : Node) (below beside : Forest) (p : ℕ) → k + 1 + node_count below ≤ p
    → kids k (grown node below beside) p ≡ kids (k + 1 + node_count below) beside p
kids-beside k node below beside p low =
    let long : length (children_from (k + 1) below) ≡ node_count below = length-children_from (k + 1) below in
    let place : p - k ≡ suc (length (children_from (k + 1) below) + (p - (k + 1 + node_count below))) = omega arith in
    ap (λ n. get_or (children_from k (grown node below beside)) n []) place
    ∙ get_or-append-add (children_from (k + 1) below) (children_from (k + 1 + node_count below) beside) (p - (k + 1 + node_count below)) []

-- a child is below its parent, and the child after it is its next sibling
child_linked : (above : Option ℕ) (k : ℕ) (trees : Forest) (p i c : ℕ) → k ≤ p → slice_get (kids k trees p) i ≡ Some c
    → IsLinked above k trees c (Some p) (kids k trees p) i
child_linked above k bare p i c low e = cc e
child_linked above k (grown node below beside) p i c low e = elim (cases_lt k p) [
  | inr here ↦
      let same : p ≡ k = omega arith in
      let is : kids k (grown node below beside) p ≡ roots_from (k + 1) below = kids-here k node below beside p same in
      let linked : IsLinked (Some k) (k + 1) below c (Some k) (roots_from (k + 1) below) i = root_linked (Some k) (k + 1) below i c
      (ap (λ xs. slice_get xs i) (sym is) ∙ e) in
      subst (λ xs. IsLinked above k (grown node below beside) c (Some p) xs i) (sym is)
      (subst (λ n. IsLinked above k (grown node below beside) c (Some n) (roots_from (k + 1) below) i) (sym same)
      (linked_below above k node below beside c (Some k) (roots_from (k + 1) below) i linked))
  | inl beyond ↦ elim (cases_lt p (k + 1 + node_count below)) [
    | inl within ↦
        let is : kids k (grown node below beside) p ≡ kids (k + 1) below p = kids-below k node below beside p (omega arith) within in
        let linked : IsLinked (Some k) (k + 1) below c (Some p) (kids (k + 1) below p) i = child_linked (Some k) (k + 1) below p i c (omega arith)
        (ap (λ xs. slice_get xs i) (sym is) ∙ e) in
        subst (λ xs. IsLinked above k (grown node below beside) c (Some p) xs i) (sym is)
        (linked_below above k node below beside c (Some p) (kids (k + 1) below p) i linked)
    | inr past ↦
        let is : kids k (grown node below beside) p ≡ kids (k + 1 + node_count below) beside p = kids-beside k node below beside p past in
        let linked : IsLinked above (k + 1 + node_count below) beside c (Some p) (kids (k + 1 + node_count below) beside p) i = child_linked above
        (k + 1 + node_count below) beside p i c past (ap (λ xs. slice_get xs i) (sym is) ∙ e) in
        subst (λ xs. IsLinked above k (grown node below beside) c (Some p) xs i) (sym is)
        (linked_beside above k node below beside c (Some p) (kids (k + 1 + node_count below) beside p) i linked)
  ]
]

record IsRoot (k : ℕ) (trees : Forest) (c : ℕ) : Type 0 where
  i : ℕ
  at : slice_get (roots_from k trees) i ≡ Some c

record IsChild (k : ℕ) (trees : Forest) (c : ℕ) : Type 0 where
  p : ℕ
  i : ℕ
  low : k ≤ p
  at : slice_get (kids k trees p) i ≡ Some c

-- each node is a top node or some node's child
root_or_child : (k : ℕ) (trees : Forest) (c : ℕ) → k ≤ c → c < k + node_count trees
    → IsRoot k trees c ⊎ IsChild k trees c
root_or_child k bare c low high = absurd (omega arith)
root_or_child k (grown node below beside) c low high =
    let many : node_count (grown node below beside) ≡ 1 + node_count below + node_count beside = node_count-grown node below beside in
    elim (cases_lt k c) [
      | inr here ↦ let same : k ≡ c = omega arith in inl (record { i = 0; at = ap Some same })
      | inl beyond ↦ elim (cases_lt c (k + 1 + node_count below)) [
        | inl within ↦ elim (root_or_child (k + 1) below c (omega arith) within) [
          | inl root ↦ inr (record {
            p = k;
            i = root.i;
            low = omega arith;
            at = ap (λ xs. slice_get xs root.i) (kids-here k node below beside k refl)
                ∙ root.at;
          })
          | inr child ↦
              let low : k + 1 ≤ child.p = child.low in
              elim (cases_lt child.p (k + 1 + node_count below)) [
                | inl there ↦ inr (record {
                  p = child.p;
                  i = child.i;
                  low = omega arith;
                  at = ap (λ xs. slice_get xs child.i) (kids-below k node below beside child.p low there) ∙ child.at;
                })
                | inr out ↦
                    let long : length (children_from (k + 1) below) ≡ node_count below = length-children_from (k + 1) below in
                    let none : kids (k + 1) below child.p ≡ [] = get_or_past (children_from (k + 1) below) (child.p - (k + 1)) [] (omega arith) in
                    let e : None ≡ Some c = ap (λ xs. slice_get xs child.i) (sym none) ∙ child.at in cc e
              ]
        ]
        | inr past ↦ elim (root_or_child (k + 1 + node_count below) beside c past (omega arith)) [
          | inl root ↦ inl (record { i = suc root.i; at = root.at })
          | inr child ↦
              let low : k + 1 + node_count below ≤ child.p = child.low in
              inr (record {
                p = child.p;
                i = child.i;
                low = omega arith;
                at = ap (λ xs. slice_get xs child.i) (kids-beside k node below beside child.p low)
                    ∙ child.at;
              })
        ]
      ]
    ]

-- a node's first child is the head of its children
first_child-head : (above : Option ℕ) (k : ℕ) (trees : Forest) (j : ℕ)
    → (get_or (links_from above k trees) j no_links).first_child ≡ slice_get (get_or (children_from k trees) j []) 0
first_child-head above k bare j = refl
first_child-head above k (grown node below beside) zero = refl
first_child-head above k (grown node below beside) (suc j) =
    let after : ℕ = k + 1 + node_count below in
    let long : length (links_from (Some k) (k + 1) below) ≡ node_count below = length-links_from (Some k) (k + 1) below in
    let wide : length (children_from (k + 1) below) ≡ node_count below = length-children_from (k + 1) below in
    elim (cases_lt j (node_count below)) [
      | inl within ↦
          ap (λ l. l.first_child) (get_or-append (links_from (Some k) (k + 1) below) (links_from above after beside) no_links j (omega arith))
          ∙ first_child-head (Some k) (k + 1) below j
          ∙ ap (λ xs. slice_get xs 0) (sym (get_or-append (children_from (k + 1) below) (children_from after beside) [] j (omega arith)))
      | inr past ↦
          ap (λ l. l.first_child) (get_or-append_right (links_from (Some k) (k + 1) below) (links_from above after beside) (node_count below) j no_links long
          past)
          ∙ first_child-head above after beside (j - node_count below)
          ∙ ap (λ xs. slice_get xs 0) (sym (get_or-append_right (children_from (k + 1) below) (children_from after beside) (node_count below) j [] wide past))
    ]

-- what links say of one tree, whose root is node 1
module _ (node : Node) (below : Forest) where
  abbrev whole : Forest
  whole = grown node below bare

  -- a child has the links that its place among its siblings gives it
  record TellsChild (k p i : ℕ) : Type 0 where
    parent : parent_of whole k ≡ Some p
    next : next_sibling_of whole k ≡ slice_get (children_of whole p) (suc i)

  tells_child : (k p i : ℕ) → 1 ≤ p → slice_get (children_of whole p) i ≡ Some k → TellsChild k p i
  tells_child k p i low e =
      let linked = child_linked None 1 whole p i k low e in
      let is : links_of whole k ≡ linked.found = get_or_from_slice_get (links whole) (k - 1) linked.found no_links linked.there in
      record { parent = ap (λ l. l.parent) is ∙ linked.parent_is; next = ap (λ l. l.next_sibling) is ∙ linked.next_is }

  -- the root has neither parent nor sibling, and a number that is no node's has no links
  record IsAlone (k : ℕ) : Type 0 where
    parent : parent_of whole k ≡ None
    next : next_sibling_of whole k ≡ None

  root_alone : (k : ℕ) → k ≤ 1 → IsAlone k
  root_alone k low = let place : k - 1 ≡ 0 = omega arith in
      record { parent = ap (λ n. (get_or (links whole) n no_links).parent) place; next = ap (λ n. (get_or (links whole) n no_links).next_sibling) place }

  only_root : (k i : ℕ) → slice_get (1 ∷ []) i ≡ Some k → k ≡ 1
  only_root k zero e = let same : 1 ≡ k = cc in omega arith
  only_root k (suc i) e = cc e

  alone_or_child : (k : ℕ) → IsAlone k ⊎ IsChild 1 whole k
  alone_or_child k = elim (cases_lt 1 k) [
    | inr low ↦ inl (root_alone k low)
    | inl some ↦ elim (cases_lt k (1 + node_count whole)) [
      | inr past ↦
          let long : length (links whole) ≡ node_count whole = length-links_from None 1 whole in
          let none : links_of whole k ≡ no_links = get_or_past (links whole) (k - 1) no_links (omega arith) in
          inl (record { parent = ap (λ l. l.parent) none; next = ap (λ l. l.next_sibling) none })
      | inl within ↦ elim (root_or_child 1 whole k (omega arith) within) [
        | inr child ↦ inr child
        | inl root ↦ let only : k ≡ 1 = only_root k root.i root.at in inl (root_alone k (omega arith))
      ]
    ]
  ]

  parent_iff : (k p : ℕ) → (parent_of whole k ≡ Some p) ↔ ((1 ≤ p) × Contains (children_of whole p) k)
  parent_iff k p = (
    λ e. elim (alone_or_child k) [
      | inl alone ↦ let none : None ≡ Some p = sym alone.parent ∙ e in cc none
      | inr child ↦
          let told : TellsChild k child.p child.i = tells_child k child.p child.i child.low child.at in
          let some : Some child.p ≡ Some p = sym told.parent ∙ e in
          let same : child.p ≡ p = cc in
          subst (λ n. (1 ≤ n) × Contains (children_of whole n) k) same (
            child.low,
            (
              child.i,
              slice_get_within (children_of whole child.p) child.i k child.at,
              get_or_from_slice_get (children_of whole child.p) child.i k k child.at,
            ),
          )
    ],
    λ h. (tells_child k p h.1.0 h.0 (slice_get-get_or (children_of whole p) h.1.0 k h.1.1 ∙ ap Some h.1.2)).parent,
  )

  root_iff : (k : ℕ) → 1 ≤ k → k ≤ node_count whole → (parent_of whole k ≡ None) ↔ (k ≡ 1)
  root_iff k low high = (
    λ e. elim (root_or_child 1 whole k low (omega arith)) [
      | inl root ↦ only_root k root.i root.at
      | inr child ↦
          let told : TellsChild k child.p child.i = tells_child k child.p child.i child.low child.at in
          let none : Some child.p ≡ None = sym told.parent ∙ e in cc none
    ],
    λ e. (root_alone k (omega arith)).parent,
  )

  -- a number at a place among some node's children is a child's, also where that node goes by 0
  tells_next : (k p i : ℕ) → slice_get (children_of whole p) i ≡ Some k
      → next_sibling_of whole k ≡ slice_get (children_of whole p) (suc i)
  tells_next k zero i e = (tells_child k 1 i (omega arith) e).next
  tells_next k (suc p) i e = (tells_child k (suc p) i (omega arith) e).next

  next_sibling_iff : (k s : ℕ) → (next_sibling_of whole k ≡ Some s) ↔ ((p : ℕ) × ComesAfter (children_of whole p) k s)
  next_sibling_iff k s = (
    λ e. elim (alone_or_child k) [
      | inl alone ↦ let none : None ≡ Some s = sym alone.next ∙ e in cc none
      | inr child ↦
          let next : child.i + 1 ≡ suc child.i = omega arith in
          (child.p, (child.i, child.at, ap (slice_get (children_of whole child.p)) next ∙ sym (tells_next k child.p child.i child.at) ∙ e))
    ],
    λ h. let next : suc h.1.0 ≡ h.1.0 + 1 = omega arith in tells_next k h.0 h.1.0 h.1.1 ∙ ap (slice_get (children_of whole h.0)) next ∙ h.1.2,
  )

  last_alone : (k p : ℕ) → ComesLast (children_of whole p) k → next_sibling_of whole k ≡ None
  last_alone k p last = tells_next k p (length (children_of whole p) - 1) last
      ∙ slice_get_past (children_of whole p) (suc (length (children_of whole p) - 1)) (omega arith)

  links_follow_children : LinksFollowChildren whole
  links_follow_children = record {
    each = length-links_from None 1 whole;
    first_child = λ k. first_child-head None 1 whole (k - 1);
    parent = parent_iff;
    root = root_iff;
    next_sibling = next_sibling_iff;
    last_child = last_alone;
    root_alone = refl;
  }

pub links_tell_children : LinksTellChildren
links_tell_children bare is = absurd (omega (arith, is.one))
links_tell_children (grown node below bare) is = links_follow_children node below
links_tell_children (grown node below (grown other under rest)) is = absurd (omega (arith, is.one))
