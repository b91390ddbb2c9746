-- The links of nodes that come one after the other.
use Rattle.std.proofs.Common.{◌≡◌, ◌≢◌, ℕ, zero, suc, max, cond, ◌+◌, ◌-◌, ◌<◌, ◌≤◌, List, [], ◌∷◌, ◌++◌, length, get_or, set, refl, ap, sym, ◌∙◌, arith, inl}
use Rattle.std.proofs.Common.{inr, length-append, true, false}
use Rattle.std.specs.Prelude.{nat_eq}
use Rattle.std.proofs.lemmas.Bool.{cases_lt, eq-eqb, ne_eqb}
use Rattle.std.proofs.lemmas.List.{set-set, length-set, set-append_left, get_or-set_same, get_or-set_other, get_or_past}
use Rattle.std.proofs.Math.ListN.{get_or-append}
use Rattle.std.proofs.Math.Seq.{get_or-append_seam, set-append_seam}
use Rattle.def_tree.specs.declared.Node.{Node}
use Rattle.def_tree.specs.Tree.{Forest, bare, grown, prefix, node_count}
use Rattle.xg_tree.specs.declared.links.Links.{Links}
use Rattle.xg_tree.specs.declared.links.NodePlace.{NodePlace}
use Rattle.xg_tree.specs.Linked.{link_numbers, place_numbers, links_at, with_next, place_from, next_place, first_below, linked_at, linked_next, linked_on}
use Rattle.xg_tree.specs.Linked.{ComeAfterParents, stored_from}

place-none : (n : ℕ) (links : List Links) (previous : ℕ) → place_from n links 0 previous ≡ place_numbers 0 previous
place-none zero links previous = refl
place-none (suc n) links previous = refl

-- a node with children to come is the place
pub place-stop : (n : ℕ) (links : List Links) (k previous : ℕ) → (links_at links k).next_sibling ≢ 0
    → place_from n links k previous ≡ place_numbers k previous
place-stop zero links k previous some = refl
place-stop (suc n) links zero previous some = refl
place-stop (suc n) links (suc i) previous some =
    ap (λ b. cond b (place_from n links (links_at links (suc i)).parent (suc i)) (place_numbers (suc i) previous))
    (ne_eqb (links_at links (suc i)).next_sibling 0 some)

place-fuel : (m n : ℕ) (links : List Links) (k previous : ℕ) → ComeAfterParents links → k ≤ m → k ≤ n
    → place_from m links k previous ≡ place_from n links k previous
place-fuel zero n links zero previous ordered h g = sym (place-none n links previous)
place-fuel zero n links (suc i) previous ordered h g = absurd (omega arith)
place-fuel (suc m) n links zero previous ordered h g = sym (place-none n links previous)
place-fuel (suc m) zero links (suc i) previous ordered h g = absurd (omega arith)
place-fuel (suc m) (suc n) links (suc i) previous ordered h g =
    let before : (links_at links (suc i)).parent < suc i = ordered (suc i) (omega arith) in
    ap (λ p. cond (nat_eq (links_at links (suc i)).next_sibling 0) p (place_numbers (suc i) previous))
    (place-fuel m n links (links_at links (suc i)).parent (suc i) ordered (omega arith) (omega arith))

-- from a node without children to come the search goes on at its parent
pub place-up : (n : ℕ) (links : List Links) (k previous : ℕ) → ComeAfterParents links → 1 ≤ k → k ≤ n
    → (links_at links k).next_sibling ≡ 0
    → place_from n links k previous ≡ place_from n links (links_at links k).parent k
place-up zero links k previous ordered some high none = absurd (omega arith)
place-up (suc n) links zero previous ordered some high none = absurd (omega arith)
place-up (suc n) links (suc i) previous ordered some high none =
    let before : (links_at links (suc i)).parent < suc i = ordered (suc i) (omega arith) in
    ap (λ b. cond b (place_from n links (links_at links (suc i)).parent (suc i)) (place_numbers (suc i) previous))
    (eq-eqb (links_at links (suc i)).next_sibling 0 none)
    ∙ place-fuel n (suc n) links (links_at links (suc i)).parent (suc i) ordered (omega arith) (omega arith)

pub record IsPlaceWithin (place : NodePlace) (k previous : ℕ) : Type 0 where
  pub parent_low : place.parent ≤ k
  pub previous_low : place.previous ≤ max k previous

-- the place is among the nodes up to the one where the search begins
pub place-within : (n : ℕ) (links : List Links) (k previous : ℕ) → ComeAfterParents links
    → IsPlaceWithin (place_from n links k previous) k previous
place-within zero links k previous ordered = record { parent_low = omega arith; previous_low = omega arith }
place-within (suc n) links zero previous ordered = record { parent_low = omega arith; previous_low = omega arith }
place-within (suc n) links (suc i) previous ordered =
    let before : (links_at links (suc i)).parent < suc i = ordered (suc i) (omega arith) in
    let above = place-within n links (links_at links (suc i)).parent (suc i) ordered in
    let low : (place_from n links (links_at links (suc i)).parent (suc i)).parent ≤ (links_at links (suc i)).parent = above.parent_low in
    let last : (place_from n links (links_at links (suc i)).parent (suc i)).previous ≤ max (links_at links (suc i)).parent (suc i) = above.previous_low in
    elim (nat_eq (links_at links (suc i)).next_sibling 0) as (λ b. IsPlaceWithin
    (cond b (place_from n links (links_at links (suc i)).parent (suc i)) (place_numbers (suc i) previous)) (suc i) previous) [
      | true ↦ record { parent_low = omega arith; previous_low = omega arith }
      | false ↦ record { parent_low = omega arith; previous_low = omega arith }
    ]

-- Reading and setting links by a node's number.

pub length-with_next : (links : List Links) (k next : ℕ) → length (with_next links k next) ≡ length links
length-with_next links zero next = refl
length-with_next links (suc i) next = length-set links i (record (links_at links (suc i)) { next_sibling = next })

pub links_at-front : (xs ys : List Links) (k : ℕ) → k ≤ length xs → links_at (xs ++ ys) k ≡ links_at xs k
links_at-front xs ys zero h = refl
links_at-front xs ys (suc i) h = get_or-append xs ys (link_numbers 0 0 0) i (omega arith)

pub links_at-seam : (xs : List Links) (x : Links) (ys : List Links) (k : ℕ) → k ≡ length xs + 1 → links_at (xs ++ x ∷ ys) k ≡ x
links_at-seam xs x ys zero h = absurd (omega arith)
links_at-seam xs x ys (suc i) h = let at : i ≡ length xs = omega arith in
    ap (λ n. get_or (xs ++ x ∷ ys) n (link_numbers 0 0 0)) at ∙ get_or-append_seam xs x ys (link_numbers 0 0 0)

links_at-past : (links : List Links) (k : ℕ) → length links < k → links_at links k ≡ link_numbers 0 0 0
links_at-past links zero h = refl
links_at-past links (suc i) h = get_or_past links i (link_numbers 0 0 0) (omega arith)

pub with_next-front : (xs ys : List Links) (k next : ℕ) → k ≤ length xs → with_next (xs ++ ys) k next ≡ with_next xs k next ++ ys
with_next-front xs ys zero next h = refl
with_next-front xs ys (suc i) next h =
    ap (λ l. set (xs ++ ys) i (record l { next_sibling = next })) (links_at-front xs ys (suc i) h)
    ∙ set-append_left xs ys i (record (links_at xs (suc i)) { next_sibling = next }) (omega arith)

pub with_next-seam : (xs : List Links) (x : Links) (ys : List Links) (k next : ℕ) → k ≡ length xs + 1
    → with_next (xs ++ x ∷ ys) k next ≡ xs ++ record x { next_sibling = next } ∷ ys
with_next-seam xs x ys zero next h = absurd (omega arith)
with_next-seam xs x ys (suc i) next h = let at : i ≡ length xs = omega arith in
    ap (λ l. set (xs ++ x ∷ ys) i (record l { next_sibling = next })) (links_at-seam xs x ys (suc i) h)
    ∙ ap (λ n. set (xs ++ x ∷ ys) n (record x { next_sibling = next })) at ∙ set-append_seam xs x ys (record x { next_sibling = next })

pub with_next-twice : (links : List Links) (k next last : ℕ) → k ≤ length links
    → with_next (with_next links k next) k last ≡ with_next links k last
with_next-twice links zero next last h = refl
with_next-twice links (suc i) next last h =
    let changed : Links = record (links_at links (suc i)) { next_sibling = next } in
    ap (λ l. set (set links i changed) i (record l { next_sibling = last })) (get_or-set_same links i changed (link_numbers 0 0 0) (omega arith))
    ∙ set-set links i changed (record (links_at links (suc i)) { next_sibling = last })

pub next-with_next : (links : List Links) (k next : ℕ) → 1 ≤ k → k ≤ length links
    → (links_at (with_next links k next) k).next_sibling ≡ next
next-with_next links zero next some h = absurd (omega arith)
next-with_next links (suc i) next some h = ap (λ l. l.next_sibling) (get_or-set_same links i (record (links_at links (suc i)) { next_sibling = next })
    (link_numbers 0 0 0) (omega arith))

parent-with_next : (links : List Links) (k next j : ℕ) → (links_at (with_next links k next) j).parent ≡ (links_at links j).parent
parent-with_next links k next zero = refl
parent-with_next links zero next (suc j) = refl
parent-with_next links (suc i) next (suc j) =
    let changed : Links = record (links_at links (suc i)) { next_sibling = next } in
    elim (cases_lt j (length links)) [
      | inr past ↦
          let long : length (set links i changed) ≡ length links = length-set links i changed in
          ap (λ l. l.parent) (get_or_past (set links i changed) j (link_numbers 0 0 0) (omega arith) ∙ sym (get_or_past links j (link_numbers 0 0 0) past))
      | inl within ↦ elim (cases_lt i j) [
        | inl low ↦ ap (λ l. l.parent) (get_or-set_other links i j changed (link_numbers 0 0 0) (λ e. absurd (omega arith)))
        | inr high ↦ elim (cases_lt j i) [
          | inl beyond ↦ ap (λ l. l.parent) (get_or-set_other links i j changed (link_numbers 0 0 0) (λ e. absurd (omega arith)))
          | inr here ↦ let same : j ≡ i = omega arith in
              ap (λ n. (get_or (set links i changed) n (link_numbers 0 0 0)).parent) same
              ∙ ap (λ l. l.parent) (get_or-set_same links i changed (link_numbers 0 0 0) (omega arith))
              ∙ ap (λ n. (get_or links n (link_numbers 0 0 0)).parent) (sym same)
        ]
      ]
    ]

-- Nodes come after their parents.

ComeAfterParents-push : (links : List Links) (x : Links) → ComeAfterParents links → x.parent ≤ length links → ComeAfterParents (links ++ x ∷ [])
ComeAfterParents-push links x ordered low k some = elim (cases_lt (length links) k) [
  | inr within ↦ let is : (links_at (links ++ x ∷ []) k).parent ≡ (links_at links k).parent = ap (λ l. l.parent) (links_at-front links (x ∷ []) k within) in
      let before : (links_at links k).parent < k = ordered k some in omega arith
  | inl beyond ↦ elim (cases_lt (length links + 1) k) [
    | inr here ↦ let is : (links_at (links ++ x ∷ []) k).parent ≡ x.parent = ap (λ l. l.parent) (links_at-seam links x [] k (omega arith)) in omega arith
    | inl past ↦ let is : (links_at (links ++ x ∷ []) k).parent ≡ 0 = ap (λ l. l.parent)
        (links_at-past (links ++ x ∷ []) k (omega (arith, length-append links (x ∷ [])))) in omega arith
  ]
]

ComeAfterParents-with_next : (links : List Links) (k next : ℕ) → ComeAfterParents links → ComeAfterParents (with_next links k next)
ComeAfterParents-with_next links k next ordered j some =
    let same : (links_at (with_next links k next) j).parent ≡ (links_at links j).parent = parent-with_next links k next j in
    let before : (links_at links j).parent < j = ordered j some in omega arith

pub ComeAfterParents-next : (links : List Links) (children : ℕ) → ComeAfterParents links → ComeAfterParents (linked_next links children)
ComeAfterParents-next links children ordered =
    let place : NodePlace = next_place links in
    let within = place-within (length links) links (length links) 0 ordered in
    let low : place.parent ≤ length links = within.parent_low in
    let told : List Links = with_next links place.previous (length links + 1) in
    let front : List Links = with_next told place.parent ((links_at links place.parent).next_sibling - 1) in
    let long : length front ≡ length told = length-with_next told place.parent ((links_at links place.parent).next_sibling - 1) in
    let wide : length told ≡ length links = length-with_next links place.previous (length links + 1) in
    ComeAfterParents-push front (link_numbers place.parent (first_below (length links + 1) children) children)
    (ComeAfterParents-with_next told place.parent ((links_at links place.parent).next_sibling - 1)
    (ComeAfterParents-with_next links place.previous (length links + 1) ordered)) (omega arith)

pub ComeAfterParents-on : (links : List Links) (nodes : List Node) → ComeAfterParents links → ComeAfterParents (linked_on links nodes)
ComeAfterParents-on links [] ordered = ordered
ComeAfterParents-on links (node ∷ rest) ordered = ComeAfterParents-on (linked_next links node.children) rest (ComeAfterParents-next links node.children ordered)

pub none_in_order : ComeAfterParents []
none_in_order zero some = absurd (omega arith)
none_in_order (suc k) some = omega arith

pub linked_on-append : (links : List Links) (xs ys : List Node) → linked_on links (xs ++ ys) ≡ linked_on (linked_on links xs) ys
linked_on-append links [] ys = refl
linked_on-append links (x ∷ xs) ys = linked_on-append (linked_next links x.children) xs ys

pub length-linked_next : (links : List Links) (children : ℕ) → length (linked_next links children) ≡ length links + 1
length-linked_next links children =
    let place : NodePlace = next_place links in
    let told : List Links = with_next links place.previous (length links + 1) in
    let front : List Links = with_next told place.parent ((links_at links place.parent).next_sibling - 1) in
    let long : length front ≡ length told = length-with_next told place.parent ((links_at links place.parent).next_sibling - 1) in
    let wide : length told ≡ length links = length-with_next links place.previous (length links + 1) in
    omega (arith, length-append front (link_numbers place.parent (first_below (length links + 1) children) children ∷ []))

pub length-linked_on : (links : List Links) (nodes : List Node) → length (linked_on links nodes) ≡ length links + length nodes
length-linked_on links [] = omega arith
length-linked_on links (node ∷ rest) = omega (arith, length-linked_on (linked_next links node.children) rest, length-linked_next links node.children)

pub length-stored_from : (parent k : ℕ) (trees : Forest) → length (stored_from parent k trees) ≡ node_count trees
length-stored_from parent k bare = refl
length-stored_from parent k (grown node below beside) =
    let under : length (stored_from k (k + 1) below) ≡ node_count below = length-stored_from k (k + 1) below in
    let after : length (stored_from parent (k + 1 + node_count below) beside)
    ≡ node_count beside = length-stored_from parent (k + 1 + node_count below) beside in
    omega (
      arith,
      length-append (stored_from k (k + 1) below) (stored_from parent (k + 1 + node_count below) beside),
      length-append (prefix below) (prefix beside),
    )

-- the place of the next node is among the nodes before it
pub place_low : (links : List Links) → ComeAfterParents links → (next_place links).parent ≤ length links
place_low links ordered = (place-within (length links) links (length links) 0 ordered).parent_low

pub previous_low : (links : List Links) → ComeAfterParents links → (next_place links).previous ≤ length links
previous_low links ordered =
    let low : (next_place links).previous ≤ max (length links) 0 = (place-within (length links) links (length links) 0 ordered).previous_low in omega arith

-- the siblings before the next node and its parent are told of it as well where it stands already
pub told_front : (links : List Links) (x : Links) (previous next parent to_come : ℕ) → previous ≤ length links → parent ≤ length links
    → with_next (with_next (links ++ x ∷ []) previous next) parent to_come ≡ with_next (with_next links previous next) parent to_come ++ x ∷ []
told_front links x previous next parent to_come p q =
    let long : length (with_next links previous next) ≡ length links = length-with_next links previous next in
    ap (λ l. with_next l parent to_come) (with_next-front links (x ∷ []) previous next p)
    ∙ with_next-front (with_next links previous next) (x ∷ []) parent to_come (omega arith)

-- the links with those of one node more
pub put_is : (links : List Links) (place : NodePlace) (count first to_come children : ℕ) → place ≡ next_place links
    → count ≡ length links → first ≡ first_below (count + 1) children
    → to_come ≡ (links_at links place.parent).next_sibling - 1 →
    with_next (with_next links place.previous (count + 1)) place.parent to_come ++ link_numbers place.parent first children ∷ [] ≡ linked_next links children
put_is links place count first to_come children is long below left =
    let under : first ≡ first_below (length links + 1) children = below ∙ ap (λ n. first_below (n + 1) children) long in
    (λ i. with_next (with_next links place.previous (long i + 1)) place.parent (left i) ++ link_numbers place.parent (under i) children ∷ [])
    ∙ ap (λ p. linked_at links p children) is
