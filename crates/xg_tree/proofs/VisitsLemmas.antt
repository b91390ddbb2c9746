-- The walk by the links of nodes is the walk through their tree.
use Rattle.std.proofs.Common.{◌≡◌, ◌≢◌, ℕ, zero, suc, cond, true, false, ◌+◌, ◌<◌, ◌≤◌, List, [], ◌∷◌, ◌++◌, length, get_or, drop, refl, ap, sym, subst, ◌∙◌}
use Rattle.std.proofs.Common.{arith, append_assoc, append-nil, add-one, drop-cons, length-append}
use Rattle.std.specs.Prelude.{nat_eq}
use Rattle.std.proofs.lemmas.Bool.{eq-eqb, ne_eqb}
use Rattle.std.proofs.Math.ListN.{drop_of_length-le}
use Rattle.def_tree.specs.declared.Node.{Node}
use Rattle.def_tree.specs.Tree.{Forest, bare, grown, forest_of, prefix, node_count, tree_count}
use Rattle.def_tree.specs.Events.{Event, Enter, Leave, events_from, events, Accepts, Leads}
use Rattle.def_tree.proofs.Forests.{prefix-forest_of}
use Rattle.def_tree.proofs.Lists.{tree_of_whole}
use Rattle.xg_tree.specs.declared.links.Links.{Links}
use Rattle.xg_tree.specs.Linked.{ComeAfterParents, first_root, link_numbers, links_at, stored, stored_from}
use Rattle.xg_tree.specs.Kept.{IsKeptTree}
use Rattle.xg_tree.specs.Visits.{left_after, leaving, leaving_from, visit_events, walk_events_from}
use Rattle.xg_tree.proofs.LinkedLemmas.{ComeAfterParents-on, links_at-seam, length-stored_from, none_in_order}
use Rattle.xg_tree.proofs.JoinedLemmas.{linked-whole}

module _ {V : Type 0} (may_enter : V → ℕ → Node → Type 0) (enters : V → ℕ → Node → V → Type 0)
    (may_leave : V → ℕ → Type 0) (leaves : V → ℕ → V → Type 0) where
  -- of a walk that began at `start`, these steps are still to come, and the visitor is `now`
  pub record IsGoing (whole : List Event) (start : V) (rest : List Event) (now : V) : Type 0 where
    pub accepts : Accepts may_enter enters may_leave leaves rest now
    pub leads : (end : V) → Leads may_enter enters may_leave leaves rest now end
        → Leads may_enter enters may_leave leaves whole start end

  pub going_begins : (whole : List Event) (start : V) → Accepts may_enter enters may_leave leaves whole start
      → IsGoing whole start whole start
  going_begins whole start accepts = record { accepts = accepts; leads = λ end leads. leads }

  pub going_enters : (whole : List Event) (start : V) (k : ℕ) (node : Node) (rest : List Event) (now next : V)
      → IsGoing whole start (Enter k node ∷ rest) now → enters now k node next → IsGoing whole start rest next
  going_enters whole start k node rest now next going step = record {
    accepts = going.accepts.1 next step;
    leads = λ end leads. going.leads end (next, step, leads);
  }

  pub going_leaves : (whole : List Event) (start : V) (k : ℕ) (rest : List Event) (now next : V)
      → IsGoing whole start (Leave k ∷ rest) now → leaves now k next → IsGoing whole start rest next
  going_leaves whole start k rest now next going step = record { accepts = going.accepts.1 next step; leads = λ end leads. going.leads end (next, step, leads) }

  -- the first steps of those to come are accepted, and lead on
  pub going_accepts : (whole : List Event) (start : V) (first rest : List Event) (now : V)
      → IsGoing whole start (first ++ rest) now → Accepts may_enter enters may_leave leaves first now
  going_accepts whole start [] rest now going = tt
  going_accepts whole start (Enter k node ∷ first) rest now going =
      (going.accepts.0, λ next step. going_accepts whole start first rest next (going_enters whole start k node (first ++ rest) now next going step))
  going_accepts whole start (Leave k ∷ first) rest now going =
      (going.accepts.0, λ next step. going_accepts whole start first rest next (going_leaves whole start k (first ++ rest) now next going step))

  pub going_on : (whole : List Event) (start : V) (first rest : List Event) (now next : V)
      → IsGoing whole start (first ++ rest) now → Leads may_enter enters may_leave leaves first now next
      → IsGoing whole start rest next
  going_on whole start [] rest now next going leads = subst (IsGoing whole start rest) (sym leads) going
  going_on whole start (Enter k node ∷ first) rest now next going leads =
      going_on whole start first rest leads.0 next (going_enters whole start k node (first ++ rest) now leads.0 going leads.1) leads.2
  going_on whole start (Leave k ∷ first) rest now next going leads =
      going_on whole start first rest leads.0 next (going_leaves whole start k (first ++ rest) now leads.0 going leads.1) leads.2

  pub going_ends : (whole : List Event) (start now : V) → IsGoing whole start [] now
      → Leads may_enter enters may_leave leaves whole start now
  going_ends whole start now going = going.leads now refl

leaving-none : (n : ℕ) (links : List Links) → leaving_from n links 0 ≡ []
leaving-none zero links = refl
leaving-none (suc n) links = refl

left_after-last : (links : List Links) (k : ℕ) → (links_at links k).next_sibling ≡ 0 → left_after links k ≡ (links_at links k).parent
left_after-last links k last = ap (λ b. cond b (links_at links k).parent 0) (eq-eqb (links_at links k).next_sibling 0 last)

left_after-other : (links : List Links) (k : ℕ) → (links_at links k).next_sibling ≢ 0 → left_after links k ≡ 0
left_after-other links k more = ap (λ b. cond b (links_at links k).parent 0) (ne_eqb (links_at links k).next_sibling 0 more)

-- a node that is left with another comes before it
pub left_before : (links : List Links) (k : ℕ) → ComeAfterParents links → 1 ≤ k → left_after links k < k
left_before links k ordered some =
    let before : (links_at links k).parent < k = ordered k some in
    elim (nat_eq (links_at links k).next_sibling 0) as (λ b. cond b (links_at links k).parent 0 < k) [ true ↦ before | false ↦ omega arith ]

leaving-fuel : (m n : ℕ) (links : List Links) (k : ℕ) → ComeAfterParents links → k ≤ m → k ≤ n
    → leaving_from m links k ≡ leaving_from n links k
leaving-fuel zero n links zero ordered h g = sym (leaving-none n links)
leaving-fuel zero n links (suc i) ordered h g = absurd (omega arith)
leaving-fuel (suc m) n links zero ordered h g = sym (leaving-none n links)
leaving-fuel (suc m) zero links (suc i) ordered h g = absurd (omega arith)
leaving-fuel (suc m) (suc n) links (suc i) ordered h g =
    let before : left_after links (suc i) < suc i = left_before links (suc i) ordered (omega arith) in
    ap (λ rest. Leave (suc i) ∷ rest) (leaving-fuel m n links (left_after links (suc i)) ordered (omega arith) (omega arith))

leaving-cons : (n : ℕ) (links : List Links) (k : ℕ) → ComeAfterParents links → 1 ≤ k → k ≤ n
    → leaving_from n links k ≡ Leave k ∷ leaving_from n links (left_after links k)
leaving-cons zero links k ordered some high = absurd (omega arith)
leaving-cons (suc n) links zero ordered some high = absurd (omega arith)
leaving-cons (suc n) links (suc i) ordered some high =
    let before : left_after links (suc i) < suc i = left_before links (suc i) ordered (omega arith) in
    ap (λ rest. Leave (suc i) ∷ rest) (leaving-fuel n (suc n) links (left_after links (suc i)) ordered (omega arith) (omega arith))

-- a node is left, and then those that are left with it
pub leaving_opened : (links : List Links) (k : ℕ) → ComeAfterParents links → 1 ≤ k → k ≤ length links
    → leaving links k ≡ Leave k ∷ leaving links (left_after links k)
leaving_opened links k ordered some high = leaving-cons (length links) links k ordered some high

visits_from-append : (links : List Links) (k : ℕ) (xs ys : List Node)
    → walk_events_from links k (xs ++ ys) ≡ walk_events_from links k xs ++ walk_events_from links (k + length xs) ys
visits_from-append links k [] ys = ap (λ n. walk_events_from links n ys) (omega arith)
visits_from-append links k (x ∷ xs) ys =
    let far : k + 1 + length xs ≡ k + length (x ∷ xs) = omega arith in
    ap (λ rest. visit_events links k x ++ rest) (visits_from-append links (k + 1) xs ys
    ∙ ap (λ n. walk_events_from links (k + 1) xs ++ walk_events_from links n ys) far)
    ∙ sym (append_assoc (visit_events links k x) (walk_events_from links (k + 1) xs) (walk_events_from links (k + length (x ∷ xs)) ys))

-- the nodes of the trees from k on have the links of these trees, below a parent
abbrev HasLinks : List Links → ℕ → ℕ → Forest → Type 0
HasLinks links parent k bare = Unit {0}
HasLinks links parent k (grown node below beside) =
    (links_at links k ≡ link_numbers parent (first_root (k + 1) below) (first_root (k + 1 + node_count below) beside))
    × HasLinks links k (k + 1) below × HasLinks links parent (k + 1 + node_count below) beside

has_links : (front back : List Links) (parent k : ℕ) (trees : Forest) → k ≡ length front + 1
    → HasLinks (front ++ (stored_from parent k trees ++ back)) parent k trees
has_links front back parent k bare at = tt
has_links front back parent k (grown node below beside) at =
    let after : ℕ = k + 1 + node_count below in
    let x : Links = link_numbers parent (first_root (k + 1) below) (first_root after beside) in
    let inner : List Links = stored_from k (k + 1) below in
    let outer : List Links = stored_from parent after beside in
    let whole : List Links = front ++ (x ∷ ((inner ++ outer) ++ back)) in
    let far : length (front ++ x ∷ inner) ≡ length front + suc (length inner) = length-append front (x ∷ inner) in
    let long : length inner ≡ node_count below = length-stored_from k (k + 1) below in
    let opened : length (front ++ x ∷ []) ≡ length front + 1 = length-append front (x ∷ []) in
    let under : (front ++ x ∷ []) ++ (inner ++ (outer ++ back)) ≡ whole =
    append_assoc front (x ∷ []) (inner ++ (outer ++ back)) ∙ ap (λ rest. front ++ (x ∷ rest)) (sym (append_assoc inner outer back))
    in let behind : (front ++ x ∷ inner) ++ (outer ++ back) ≡ whole =
    append_assoc front (x ∷ inner) (outer ++ back) ∙ ap (λ rest. front ++ (x ∷ rest)) (sym (append_assoc inner outer back))
    in (
      links_at-seam front x ((inner ++ outer) ++ back) k at,
      subst (λ l. HasLinks l k (k + 1) below) under (has_links (front ++ x ∷ []) (outer ++ back) k (k + 1) below (omega arith)),
      subst (λ l. HasLinks l parent after beside) behind (has_links (front ++ x ∷ inner) back parent after beside (omega arith)),
    )

nodes_in : (node : Node) (below beside : Forest) → node_count (grown node below beside) ≡ 1 + node_count below + node_count beside
nodes_in node below beside = omega (arith, length-append (prefix below) (prefix beside))

module _ (links : List Links) (ordered : ComeAfterParents links) where
  -- with the last node below a node it is left, and then come the trees beside it
  then_beside : (parent k after : ℕ) (beside : Forest) → (links_at links k).parent ≡ parent
      → (links_at links k).next_sibling ≡ first_root after beside → 1 ≤ k → k < after → after + node_count beside ≤ length links + 1
      → (1 ≤ tree_count beside → walk_events_from links after (prefix beside) ≡ events_from after beside ++ leaving links parent)
      → leaving links k ++ walk_events_from links after (prefix beside) ≡ Leave k ∷ (events_from after beside ++ leaving links parent)
  then_beside parent k after bare above next some later high walks =
      append-nil (leaving links k) ∙ leaving_opened links k ordered some (omega arith)
      ∙ ap (λ n. Leave k ∷ leaving links n) (left_after-last links k next ∙ above)
  then_beside parent k after (grown other under rest) above next some later high walks =
      let many : node_count (grown other under rest) ≡ 1 + node_count under + node_count rest = nodes_in other under rest in
      let alone : leaving links k ≡ Leave k ∷ [] =
      leaving_opened links k ordered some (omega arith) ∙ ap (λ n. Leave k ∷ leaving links n) (left_after-other links k (λ e. absurd (omega arith)))
      ∙ ap (λ l. Leave k ∷ l) (leaving-none (length links) links)
      in (λ i. alone i ++ walks (omega arith) i)

  -- after a node is entered come the trees below it
  then_below : (parent k : ℕ) (node : Node) (below : Forest) (rest : List Event)
      → (links_at links k).first_child ≡ first_root (k + 1) below
      → (1 ≤ tree_count below → walk_events_from links (k + 1) (prefix below) ≡ events_from (k + 1) below ++ leaving links k)
      → visit_events links k node ++ (walk_events_from links (k + 1) (prefix below) ++ rest) ≡ Enter k node
      ∷ (events_from (k + 1) below ++ (leaving links k ++ rest))
  then_below parent k node bare rest first walks =
      ap (λ b. (Enter k node ∷ cond b (leaving links k) []) ++ rest) (eq-eqb (links_at links k).first_child 0 first)
  then_below parent k node (grown other under others) rest first walks =
      let some : (links_at links k).first_child ≢ 0 = λ e. absurd (omega arith) in
      ap (λ b. (Enter k node ∷ cond b (leaving links k) []) ++ (walk_events_from links (k + 1) (prefix (grown other under others)) ++ rest))
      (ne_eqb (links_at links k).first_child 0 some)
      ∙ ap (λ l. Enter k node ∷ (l ++ rest)) (walks (omega arith))
      ∙ ap (λ l. Enter k node ∷ l) (append_assoc (events_from (k + 1) (grown other under others)) (leaving links k) rest)

  -- visits to the nodes of some trees walk through them, and leave the nodes above that are left with the last one
  walks : (trees : Forest) (parent k : ℕ) → HasLinks links parent k trees → 1 ≤ k
      → k + node_count trees ≤ length links + 1 → 1 ≤ tree_count trees
      → walk_events_from links k (prefix trees) ≡ events_from k trees ++ leaving links parent
  walks bare parent k has some high one = absurd (omega arith)
  walks (grown node below beside) parent k has some high one =
      let after : ℕ = k + 1 + node_count below in
      let many : node_count (grown node below beside) ≡ 1 + node_count below + node_count beside = nodes_in node below beside in
      ap (λ l. visit_events links k node ++ l) (visits_from-append links (k + 1) (prefix below) (prefix beside))
      ∙ then_below parent k node below (walk_events_from links after (prefix beside)) (ap (λ l. l.first_child) has.0)
      (λ some_below. walks below k (k + 1) has.1 (omega arith) (omega arith) some_below)
      ∙ ap (λ l. Enter k node ∷ (events_from (k + 1) below ++ l))
      (then_beside parent k after beside (ap (λ l. l.parent) has.0) (ap (λ l. l.next_sibling) has.0) some (omega arith) (omega arith)
      (λ some_beside. walks beside parent after has.2 (omega arith) (omega arith) some_beside))
      ∙ ap (λ l. Enter k node ∷ l) (sym (append_assoc (events_from (k + 1) below) (Leave k ∷ events_from after beside) (leaving links parent)))

-- the links that are kept have each node after its parent
pub kept_in_order : (nodes : List Node) (links : List Links) (ended : ℕ) → IsKeptTree nodes links ended → ComeAfterParents links
kept_in_order nodes links ended kept = subst ComeAfterParents (linked-whole nodes kept.whole ∙ sym kept.stored) (ComeAfterParents-on [] nodes none_in_order)

-- visits to all nodes are the walk through the tree
pub visits_seen : (nodes : List Node) (links : List Links) (ended : ℕ) (tree : Forest) → forest_of nodes ≡ tree
    → IsKeptTree nodes links ended → walk_events_from links 1 nodes ≡ events tree
visits_seen nodes links ended tree e kept =
    let trees : Forest = forest_of nodes in
    let one : tree_count trees ≡ 1 = (tree_of_whole nodes kept.whole).one in
    let has : HasLinks links 0 1 trees = subst (λ l. HasLinks l 0 1 trees) (append-nil (stored trees) ∙ sym kept.stored) (has_links [] [] 0 1 trees refl) in
    let long : length links ≡ node_count trees = ap length kept.stored ∙ length-stored_from 0 1 trees in
    ap (walk_events_from links 1) (sym (prefix-forest_of nodes)) ∙ walks links (kept_in_order nodes links ended kept) trees 0 1 has (omega arith) (omega arith)
    (omega arith)
    ∙ ap (λ l. events trees ++ l) (leaving-none (length links) links) ∙ append-nil (events trees) ∙ ap events e

-- the visits from a node on begin with that to it
pub visits_opened : (links : List Links) (nodes : List Node) (at : ℕ) (d : Node) → at < length nodes →
    walk_events_from links (at + 1) (drop at nodes) ≡ visit_events links (at + 1) (get_or nodes at d)
    ++ walk_events_from links (at + 1 + 1) (drop (at + 1) nodes)
visits_opened links nodes at d there = ap (walk_events_from links (at + 1))
    (drop-cons nodes at d there ∙ ap (λ n. get_or nodes at d ∷ drop n nodes) (sym (add-one at)))

module _ {V : Type 0} (may_enter : V → ℕ → Node → Type 0) (enters : V → ℕ → Node → V → Type 0)
    (may_leave : V → ℕ → Type 0) (leaves : V → ℕ → V → Type 0) where
  -- a node is left, and those that are left with it are still to be left
  pub left_on : (whole : List Event) (start : V) (links : List Links) (k after : ℕ) (now next : V) → ComeAfterParents links → 1 ≤ k
      → k ≤ length links → after ≡ left_after links k
      → IsGoing may_enter enters may_leave leaves whole start (leaving links k) now → leaves now k next
      → IsGoing may_enter enters may_leave leaves whole start (leaving links after) next
  left_on whole start links k after now next ordered some high is going step =
      subst (λ n. IsGoing may_enter enters may_leave leaves whole start (leaving links n) next) (sym is)
      (going_leaves may_enter enters may_leave leaves whole start k (leaving links (left_after links k)) now next
      (subst (λ l. IsGoing may_enter enters may_leave leaves whole start l now) (leaving_opened links k ordered some high) going) step)

  -- a walk through a tree has visits to all its nodes to come
  pub walk_begins : (nodes : List Node) (links : List Links) (ended : ℕ) (tree : Forest) (start : V) → forest_of nodes ≡ tree
      → IsKeptTree nodes links ended → Accepts may_enter enters may_leave leaves (events tree) start
      → IsGoing may_enter enters may_leave leaves (events tree) start (walk_events_from links 1 nodes) start
  walk_begins nodes links ended tree start e kept accepts =
      subst (λ rest. IsGoing may_enter enters may_leave leaves (events tree) start rest start) (sym (visits_seen nodes links ended tree e kept))
      (going_begins may_enter enters may_leave leaves (events tree) start accepts)

  -- of a walk, the visits from a node on are to come
  abbrev IsAtNode : List Event → V → List Node → List Links → ℕ → V → Type 0
  IsAtNode whole start nodes links at now = IsGoing may_enter enters may_leave leaves whole start (walk_events_from links (at + 1) (drop at nodes)) now

  opened : (whole : List Event) (start : V) (nodes : List Node) (links : List Links) (at : ℕ) (d : Node) (now : V) → at < length nodes
      → IsAtNode whole start nodes links at now →
      IsGoing may_enter enters may_leave leaves whole start (visit_events links (at + 1) (get_or nodes at d)
      ++ walk_events_from links (at + 1 + 1) (drop (at + 1) nodes)) now
  opened whole start nodes links at d now there going =
      subst (λ rest. IsGoing may_enter enters may_leave leaves whole start rest now) (visits_opened links nodes at d there) going

  -- the next of them is accepted
  pub visit_accepted : (whole : List Event) (start : V) (nodes seen : List Node) (links read : List Links) (at : ℕ) (d : Node) (now : V)
      → seen ≡ nodes → read ≡ links → at < length seen → IsAtNode whole start nodes links at now →
      Accepts may_enter enters may_leave leaves (visit_events read (at + 1) (get_or seen at d)) now
  visit_accepted whole start nodes seen links read at d now same alike there going =
      subst (λ xs. Accepts may_enter enters may_leave leaves (visit_events read (at + 1) (get_or xs at d)) now) (sym same)
      (subst (λ ls. Accepts may_enter enters may_leave leaves (visit_events ls (at + 1) (get_or nodes at d)) now) (sym alike)
      (going_accepts may_enter enters may_leave leaves whole start (visit_events links (at + 1) (get_or nodes at d))
      (walk_events_from links (at + 1 + 1) (drop (at + 1) nodes)) now
      (opened whole start nodes links at d now (omega (arith, ap length same)) going)))

  -- and leads to the node behind it
  pub visit_over : (whole : List Event) (start : V) (nodes seen : List Node) (links read : List Links) (at : ℕ) (d : Node) (now next : V)
      → seen ≡ nodes → read ≡ links → at < length seen → IsAtNode whole start nodes links at now
      → Leads may_enter enters may_leave leaves (visit_events read (at + 1) (get_or seen at d)) now next
      → IsAtNode whole start nodes links (at + 1) next
  visit_over whole start nodes seen links read at d now next same alike there going leads =
      going_on may_enter enters may_leave leaves whole start (visit_events links (at + 1) (get_or nodes at d))
      (walk_events_from links (at + 1 + 1) (drop (at + 1) nodes)) now next
      (opened whole start nodes links at d now (omega (arith, ap length same)) going)
      (subst (λ ls. Leads may_enter enters may_leave leaves (visit_events ls (at + 1) (get_or nodes at d)) now next) alike
      (subst (λ xs. Leads may_enter enters may_leave leaves (visit_events read (at + 1) (get_or xs at d)) now next) same leads))

  -- behind the last node the walk is over
  pub walk_over : (whole : List Event) (start : V) (nodes : List Node) (links : List Links) (at : ℕ) (now : V)
      → length nodes ≤ at → IsAtNode whole start nodes links at now → Leads may_enter enters may_leave leaves whole start now
  walk_over whole start nodes links at now past going =
      going_ends may_enter enters may_leave leaves whole start now
      (subst (λ xs. IsGoing may_enter enters may_leave leaves whole start (walk_events_from links (at + 1) xs) now) (drop_of_length-le nodes past) going)

-- links that are read are as many as the nodes
pub links_as_nodes : (nodes : List Node) (links : List Links) (ended : ℕ) → IsKeptTree nodes links ended
    → length links ≡ length nodes
links_as_nodes nodes links ended kept =
    ap length kept.stored ∙ length-stored_from 0 1 (forest_of nodes) ∙ ap length (prefix-forest_of nodes)
