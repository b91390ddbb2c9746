-- Each visit's path leads from the root to its node, and is as long as the node is deep.
use Rattle.std.proofs.Common.{◌≡◌, ℕ, suc, ◌+◌, ◌-◌, ◌<◌, ◌≤◌, List, [], ◌∷◌, ◌++◌, length, map, refl, ap, subst, ◌∙◌, arith}
use Rattle.std.specs.Prelude.{All}
use Rattle.std.proofs.lemmas.List.{map-append}
use Rattle.std.proofs.lemmas.List.Elements.{All-nil, All-cons, All-append}
use Rattle.def_tree.specs.Tree.{Forest, bare, grown, tree_count, drop_trees}
use Rattle.def_game_paths.specs.Paths.{Move, Visit, visits_from, LeadsTo, LeadsToNode, PathsLeadToNodes, depths_from, PathsAreDepths}

-- where each path above leads to its tree, each visit's path leads to its node
lead_from : (tree : Forest) (above : ℕ → List Move) (action : ℕ) (trees : Forest)
    → ((a : ℕ) → action ≤ a → a < action + tree_count trees → LeadsTo tree (above a) (drop_trees (a - action) trees))
    → All (LeadsToNode tree) (visits_from above action trees)
lead_from tree above action bare lead = All-nil (LeadsToNode tree)
lead_from tree above action (grown node below beside) lead =
    let none : action - action ≡ 0 = omega arith in
    let here : LeadsTo tree (above action) (grown node below beside) = subst (λ n. LeadsTo tree (above action) (drop_trees n (grown node below beside))) none
    (lead action (omega arith) (omega arith)) in
    let down : ℕ → List Move = λ next. record { node = node; action = next } ∷ above action in
    All-cons (LeadsToNode tree) (record { path = above action; node = node }) (visits_from down 1 below ++ visits_from above (action + 1) beside)
    (below, beside, here)
    (All-append (LeadsToNode tree) (visits_from down 1 below) (visits_from above (action + 1) beside)
    (lead_from tree down 1 below (λ a low high. (below, beside, here, low, omega arith, refl)))
    (lead_from tree above (action + 1) beside (λ a low high.
    let next : a - action ≡ suc (a - (action + 1)) = omega arith in
    subst (λ n. LeadsTo tree (above a) (drop_trees n (grown node below beside))) next (lead a (omega arith) (omega arith)))))

-- each visit's path leads from the root to its node
pub paths_lead_to_nodes : PathsLeadToNodes
paths_lead_to_nodes tree one = lead_from tree (λ _. []) 1 tree (λ a low high. let none : a - 1 ≡ 0 = omega arith in ap (λ n. drop_trees n tree) none)

paths_deep : (above : ℕ → List Move) (action depth : ℕ) (trees : Forest) → ((a : ℕ) → length (above a) ≡ depth)
    → map (λ v. length v.path) (visits_from above action trees) ≡ depths_from depth trees
paths_deep above action depth bare deep = refl
paths_deep above action depth (grown node below beside) deep =
    let down : ℕ → List Move = λ next. record { node = node; action = next } ∷ above action in
    let rest : map (λ (v : Visit). length v.path) (visits_from down 1 below ++ visits_from above (action + 1) beside) ≡ depths_from (depth + 1) below
    ++ depths_from depth beside =
    map-append (λ (v : Visit). length v.path) (visits_from down 1 below) (visits_from above (action + 1) beside)
    ∙ (λ i. paths_deep down 1 (depth + 1) below (λ a. omega (arith, deep action)) i ++ paths_deep above (action + 1) depth beside deep i) in
    λ i. deep action i ∷ rest i

-- a path has as many moves as its node is below the root
pub paths_are_depths : PathsAreDepths
paths_are_depths tree = paths_deep (λ _. []) 1 0 tree (λ a. refl)
