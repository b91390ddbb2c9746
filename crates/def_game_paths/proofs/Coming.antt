-- The node that comes after the first n, and the nodes behind it.
use Rattle.std.proofs.Common.{◌≡◌, ℕ, suc, ◌+◌, ◌<◌, List, [], ◌∷◌, ◌++◌, length, get_or, take, drop, map, ap, sym, subst, ◌∙◌, arith, Some, slice_get}
use Rattle.std.proofs.lemmas.List.{get_or-map, length-map, map-append, take-append-drop, take_more}
use Rattle.std.proofs.lemmas.Option.{get_or_from_slice_get}
use Rattle.std.proofs.Math.Seq.{drop-cons}
use Rattle.def_tree.specs.declared.Node.{Node}
use Rattle.def_tree.specs.Tree.{Forest, node_count, prefix}
use Rattle.def_tree.specs.Rules.{Fits, IsGameTree, KeepRules}
use Rattle.def_game_paths.specs.Paths.{Visit, visits}
use Rattle.def_game_paths.specs.Coming.{no_visit, visit_after}
use Rattle.def_game_paths.proofs.Visits.{map-visits_from}
use Rattle.def_game_paths.proofs.Order.{KeepFrom-append, visited_node}

-- as many nodes are visited as the tree has
pub length-visits : (tree : Forest) → length (visits tree) ≡ node_count tree
length-visits tree = sym (length-map (visits tree) visited_node) ∙ ap length (map-visits_from (λ _. []) 1 tree)

-- v is the node after the first n, and keeps the rules after them
pub record IsNext (tree : Forest) (n : ℕ) (v : Visit) : Type 0 where
  pub there : n < length (visits tree)
  pub cons : drop n (visits tree) ≡ v ∷ drop (n + 1) (visits tree)
  pub taken : take (n + 1) (visits tree) ≡ take n (visits tree) ++ v ∷ []
  pub fits : Fits (map visited_node (take n (visits tree))) v.node

-- the node after the first n is the next one
pub next_visit : (tree : Forest) (n : ℕ) → IsGameTree tree → n < node_count tree → IsNext tree n (visit_after tree n)
next_visit tree n game there =
    let all : List Visit = visits tree in
    let v : Visit = get_or all n no_visit in
    let nodes : map visited_node all ≡ prefix tree = map-visits_from (λ _. []) 1 tree in
    let here : n < length all = omega (arith, length-visits tree) in
    let on : suc n ≡ n + 1 = omega arith in
    let cons : drop n all ≡ v ∷ drop (n + 1) all = drop-cons all n no_visit here ∙ ap (λ m. v ∷ drop m all) on in
    let parts : map visited_node (take n all) ++ v.node ∷ map visited_node (drop (n + 1) all) ≡ prefix tree =
    ap (λ vs. map visited_node (take n all) ++ map visited_node vs) (sym cons) ∙ sym (map-append visited_node (take n all) (drop n all))
    ∙ ap (map visited_node) (take-append-drop n all) ∙ nodes in
    record {
      there = here;
      cons = cons;
      taken = take_more all n no_visit here;
      fits = (KeepFrom-append (map visited_node (take n all)) (v.node ∷ map visited_node (drop (n + 1) all)) (subst KeepRules (sym parts) game.rules)).0;
    }

-- the tree's node there is the node that is visited
pub next_node : (tree : Forest) (n m : ℕ) (x : Node) → n < node_count tree → m ≡ n → slice_get (prefix tree) m ≡ Some x
    → (visit_after tree n).node ≡ x
next_node tree n m x there same read =
    let nodes : map visited_node (visits tree) ≡ prefix tree = map-visits_from (λ _. []) 1 tree in
    sym (get_or-map visited_node (visits tree) n no_visit x (omega (arith, length-visits tree)))
    ∙ get_or_from_slice_get (map visited_node (visits tree)) n x x (ap (λ ns. slice_get ns n) nodes ∙ ap (slice_get (prefix tree)) (sym same) ∙ read)
