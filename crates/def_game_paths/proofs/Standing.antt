-- A walk that stands before trees at a node's actions: the first node that comes, the trees below it, and those beside it.
use Rattle.std.proofs.Common.{◌≡◌, ℕ, ◌+◌, ◌<◌, List, [], ◌∷◌, ◌++◌, length, drop, ap, sym, ◌∙◌, arith, append_assoc, inl, inr}
use Rattle.std.proofs.lemmas.Bool.{cases_lt}
use Rattle.std.proofs.lemmas.List.{drop-drop, length-map}
use Rattle.std.proofs.Math.ListN.{drop_of_length-le}
use Rattle.std.proofs.Math.Seq.{drop-append_seam}
use Rattle.def_tree.specs.declared.Node.{Node}
use Rattle.def_tree.specs.Tree.{Forest, grown, node_count}
use Rattle.def_tree.specs.Rules.{IsGameTree}
use Rattle.def_game_paths.specs.Coming.{visit_after}
use Rattle.def_game_paths.specs.Paths.{Move, Visit, visits, visits_from}
use Rattle.def_game_paths.proofs.Coming.{IsNext, length-visits, next_visit}
use Rattle.def_game_paths.proofs.Order.{visited_node}
use Rattle.def_game_paths.proofs.Visits.{map-visits_from}

length-visits_from : (above : ℕ → List Move) (action : ℕ) (trees : Forest)
    → length (visits_from above action trees) ≡ node_count trees
length-visits_from above action trees =
    sym (length-map (visits_from above action trees) visited_node) ∙ ap length (map-visits_from above action trees)

-- the paths to the children of a node
abbrev pub paths_below : Node → List Move → ℕ → List Move
paths_below node path action = record { node = node; action = action } ∷ path

-- behind the first n nodes comes x, then the trees below it, then those beside it, and then later nodes
pub record StandsBefore (tree : Forest) (n : ℕ) (above : ℕ → List Move) (action : ℕ) (x : Node) (below beside : Forest)
    (later : List Visit) : Type 0 where
  pub there : n < node_count tree
  pub is_next : IsNext tree n (visit_after tree n)
  pub first : visit_after tree n ≡ record { path = above action; node = x }
  pub under : drop (n + 1) (visits tree) ≡ visits_from (paths_below x (above action)) 1 below ++ (visits_from above (action + 1) beside ++ later)
  pub aside : drop (n + 1 + node_count below) (visits tree) ≡ visits_from above (action + 1) beside ++ later

module _ (tree : Forest) (game : IsGameTree tree) (n : ℕ) (above : ℕ → List Move) (action : ℕ) (x : Node)
    (below beside : Forest) (later : List Visit)
    (visits_are : drop n (visits tree) ≡ visits_from above action (grown x below beside) ++ later) where
  abbrev here : Visit
  here = record { path = above action; node = x }

  abbrev down : List Visit
  down = visits_from (paths_below x (above action)) 1 below

  abbrev behind : List Visit
  behind = visits_from above (action + 1) beside ++ later

  cons : drop n (visits tree) ≡ here ∷ (down ++ behind)
  cons = visits_are ∙ ap (λ vs. here ∷ vs) (append_assoc down (visits_from above (action + 1) beside) later)

  there : n < node_count tree
  there = elim (cases_lt n (length (visits tree))) [
    | inl inside ↦ omega (arith, length-visits tree)
    | inr past ↦
        let none : [] ≡ here ∷ (down ++ behind) = sym (drop_of_length-le (visits tree) past) ∙ cons in
        cc none
  ]

  next : IsNext tree n (visit_after tree n)
  next = next_visit tree n game there

  both : visit_after tree n ∷ drop (n + 1) (visits tree) ≡ here ∷ (down ++ behind)
  both = sym next.cons ∙ cons

  under : drop (n + 1) (visits tree) ≡ down ++ behind
  under = cc both

  pub stands_before : StandsBefore tree n above action x below beside later
  stands_before = record {
    there = there;
    is_next = next;
    first = cc both;
    under = under;
    aside =
        sym (drop-drop (node_count below) (n + 1) (visits tree))
        ∙ (λ i. drop (sym (length-visits_from (paths_below x (above action)) 1 below) i) (under i))
        ∙ drop-append_seam down behind;
  }
