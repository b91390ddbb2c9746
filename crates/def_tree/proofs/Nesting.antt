-- A walk keeps to the nesting of the nodes, and leaves each node once.
use Rattle.std.proofs.Common.{◌≡◌, ℕ, suc, ◌+◌, ◌-◌, ◌<◌, ◌≤◌, cond, List, [], ◌∷◌, ◌++◌, length, refl, ap, sym, subst, ◌∙◌, arith, inl, inr, ◌⊎◌, ◌≢◌}
use Rattle.std.proofs.Common.{length-append}
use Rattle.std.specs.Prelude.{filter, nat_eq}
use Rattle.std.proofs.lemmas.Bool.{cases_lt, eq-eqb, ne_eqb}
use Rattle.std.proofs.lemmas.List.Elements.{filter-append}
use Rattle.def_tree.specs.declared.Node.{Node}
use Rattle.def_tree.specs.Tree.{Forest, bare, grown, prefix, node_count, tree_count, HasItsChildren}
use Rattle.def_tree.specs.Events.{Event, Enter, Leave, events_from, events, left, OpenNode, KeepsNesting, outside, LeavesAfterLastChild, LeavesEachOnce}

-- steps, and then others
KeepsNesting-append : (opened between end : List OpenNode) (xs ys : List Event) → KeepsNesting opened xs between
    → KeepsNesting between ys end → KeepsNesting opened (xs ++ ys) end
KeepsNesting-append opened between end [] ys h k = subst (λ o. KeepsNesting o ys end) (sym h) k
KeepsNesting-append [] between end (Enter n node ∷ xs) ys h k = absurd h
KeepsNesting-append (top ∷ outer) between end (Enter n node ∷ xs) ys h k = (
  h.0,
  KeepsNesting-append (record { number = n; to_come = node.children } ∷ (record { number = top.number; to_come = top.to_come - 1 } ∷ outer)) between end
      xs ys h.1 k,
)
KeepsNesting-append [] between end (Leave n ∷ xs) ys h k = absurd h
KeepsNesting-append (top ∷ outer) between end (Leave n ∷ xs) ys h k = (h.0, h.1, KeepsNesting-append outer between end xs ys h.2 k)

-- so many fewer trees are to come under the innermost open node
abbrev fewer : OpenNode → ℕ → List OpenNode → List OpenNode
fewer top n outer = record { number = top.number; to_come = top.to_come - n } ∷ outer

nests : (k : ℕ) (trees : Forest) (top : OpenNode) (outer : List OpenNode) → HasItsChildren trees
    → tree_count trees ≤ top.to_come
    → KeepsNesting (top ∷ outer) (events_from k trees) (fewer top (tree_count trees) outer)
nests k bare top outer has enough = let same : top.to_come ≡ top.to_come - 0 = omega arith in ap (λ n. record { number = top.number; to_come = n } ∷ outer) same
nests k (grown node below beside) top outer has enough =
    let this : OpenNode = record { number = k; to_come = node.children } in
    let next : OpenNode = record { number = top.number; to_come = top.to_come - 1 } in
    let count : tree_count below ≡ node.children = has.0 in
    let inside : KeepsNesting (this ∷ (next ∷ outer)) (events_from (k + 1) below) (fewer this (tree_count below) (next ∷ outer)) = nests (k + 1) below this
    (next ∷ outer) has.1 (omega arith) in
    let later : KeepsNesting (next ∷ outer) (events_from (k + 1 + node_count below) beside) (fewer next (tree_count beside) outer) = nests
    (k + 1 + node_count below) beside next outer has.2 (omega arith) in
    let rest : top.to_come - 1 - tree_count beside ≡ top.to_come - suc (tree_count beside) = omega arith in (
      omega arith,
      KeepsNesting-append (this ∷ (next ∷ outer)) (fewer this (tree_count below) (next ∷ outer)) (fewer top (suc (tree_count beside)) outer)
          (events_from (k + 1) below)
          (Leave k ∷ events_from (k + 1 + node_count below) beside) inside (
            refl,
            omega arith,
            subst (λ n. KeepsNesting (next ∷ outer) (events_from (k + 1 + node_count below) beside)
                (record { number = top.number; to_come = n } ∷ outer)) rest later,
          ),
    )

-- a walk leaves a node after its last child, with all below it, and before it enters any other node
pub leaves_after_last_child : LeavesAfterLastChild
leaves_after_last_child tree is =
    let one : tree_count tree ≡ 1 = is.one in
    let none : 1 - tree_count tree ≡ 0 = omega arith in
    subst (λ n. KeepsNesting (outside 1) (events tree) (outside n)) none (nests 1 tree (record { number = 0; to_come = 1 }) [] is.children (omega arith))

left-append : (xs ys : List Event) → left (xs ++ ys) ≡ left xs ++ left ys
left-append [] ys = refl
left-append (Enter k node ∷ xs) ys = left-append xs ys
left-append (Leave k ∷ xs) ys = ap (λ rest. k ∷ rest) (left-append xs ys)

-- how a number comes among those that are left
abbrev as_left : ℕ → List Event → List ℕ
as_left n steps = filter (λ k. nat_eq k n) (left steps)

as_left-append : (n : ℕ) (xs ys : List Event) → as_left n (xs ++ ys) ≡ as_left n xs ++ as_left n ys
as_left-append n xs ys = ap (filter (λ k. nat_eq k n)) (left-append xs ys) ∙ filter-append (λ k. nat_eq k n) (left xs) (left ys)

left_other : (n k : ℕ) (rest : List Event) → k ≢ n → as_left n (Leave k ∷ rest) ≡ as_left n rest
left_other n k rest other = ap (λ b. cond b (k ∷ as_left n rest) (as_left n rest)) (ne_eqb k n other)

left_here : (n k : ℕ) (rest : List Event) → k ≡ n → as_left n (Leave k ∷ rest) ≡ n ∷ as_left n rest
left_here n k rest same = ap (λ b. cond b (k ∷ as_left n rest) (as_left n rest)) (eq-eqb k n same) ∙ ap (λ m. m ∷ as_left n rest) same

abbrev nodes_in : Forest → ℕ
nodes_in trees = length (prefix trees)

nodes_in-grown : (node : Node) (below beside : Forest)
    → nodes_in (grown node below beside) ≡ 1 + nodes_in below + nodes_in beside
nodes_in-grown node below beside = omega (arith, length-append (prefix below) (prefix beside))

-- no node outside of these trees is left
none_left : (n k : ℕ) (trees : Forest) → (n < k) ⊎ (k + nodes_in trees ≤ n) → as_left n (events_from k trees) ≡ []
none_left n k bare out = refl
none_left n k (grown node below beside) out =
    let many : nodes_in (grown node below beside) ≡ 1 + nodes_in below + nodes_in beside = nodes_in-grown node below beside in
    let other : k ≢ n = elim out [ inl low ↦ λ e. absurd (omega arith) | inr high ↦ λ e. absurd (omega arith) ] in
    let inside : (n < k + 1) ⊎ (k + 1 + nodes_in below ≤ n) = elim out [ inl low ↦ inl (omega arith) | inr high ↦ inr (omega arith) ] in
    let behind : (n < k + 1 + nodes_in below) ⊎ (k + 1 + nodes_in below + nodes_in beside ≤ n) = elim out
    [ inl low ↦ inl (omega arith) | inr high ↦ inr (omega arith) ] in
    as_left-append n (events_from (k + 1) below) (Leave k ∷ events_from (k + 1 + nodes_in below) beside)
    ∙ (λ i. none_left n (k + 1) below inside i ++ (left_other n k (events_from (k + 1 + nodes_in below) beside) other
    ∙ none_left n (k + 1 + nodes_in below) beside behind) i)

left_once : (n k : ℕ) (trees : Forest) → k ≤ n → n < k + nodes_in trees → as_left n (events_from k trees) ≡ n ∷ []
left_once n k bare low high = absurd (omega arith)
left_once n k (grown node below beside) low high =
    let many : nodes_in (grown node below beside) ≡ 1 + nodes_in below + nodes_in beside = nodes_in-grown node below beside in
    let later : ℕ = k + 1 + nodes_in below in
    let rest : List Event = events_from later beside in
    as_left-append n (events_from (k + 1) below) (Leave k ∷ rest)
    ∙ elim (cases_lt k n) [
      | inl beyond ↦
          elim (cases_lt n later) [
            | inl within ↦ λ i.
                left_once n (k + 1) below (omega arith) (omega arith) i
                ++ (left_other n k rest (λ e. absurd (omega arith)) ∙ none_left n later beside (inl (omega arith))) i
            | inr past ↦ λ i.
                none_left n (k + 1) below (inr (omega arith)) i ++ (left_other n k rest (λ e. absurd (omega arith))
                ∙ left_once n later beside past (omega arith)) i
          ]
      | inr not_beyond ↦ λ i.
          none_left n (k + 1) below (inl (omega arith)) i ++ (left_here n k rest (omega arith)
          ∙ ap (λ ks. n ∷ ks) (none_left n later beside (inl (omega arith)))) i
    ]

-- a walk leaves each node once
pub leaves_each_once : LeavesEachOnce
leaves_each_once tree k low high = left_once k 1 tree low (omega arith)
