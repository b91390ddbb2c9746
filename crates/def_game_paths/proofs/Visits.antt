-- The nodes that are visited, and the own choices on a path.
use Rattle.std.proofs.Common.{◌≡◌, ℕ, ◌+◌, true, false, cond, List, [], ◌∷◌, ◌++◌, map, refl, ap, ◌∙◌}
use Rattle.std.specs.Prelude.{filter}
use Rattle.std.proofs.lemmas.List.{map-append}
use Rattle.def_tree.specs.Tree.{Forest, bare, grown, prefix}
use Rattle.def_tree.specs.Rules.{is_same_kind}
use Rattle.def_game_paths.specs.Paths.{Choice, Move, OwnChoicesAreMoves, Visit, own_choices, visits_from}

-- the nodes that are visited are those of the trees, in prefix order
pub map-visits_from : (above : ℕ → List Move) (action : ℕ) (trees : Forest)
    → map (λ visit. visit.node) (visits_from above action trees) ≡ prefix trees
map-visits_from above action bare = refl
map-visits_from above action (grown node below beside) =
    ap (λ rest. node ∷ rest)
    (map-append (λ (visit : Visit). visit.node) (visits_from (λ next. record { node = node; action = next } ∷ above action) 1 below)
    (visits_from above (action + 1) beside)
    ∙ (λ i. map-visits_from (λ next. record { node = node; action = next } ∷ above action) 1 below i ++ map-visits_from above (action + 1) beside i))

-- a player's own choices are all the moves made at the player's nodes, each by its set and its action
pub own_choices_are_moves : OwnChoicesAreMoves
own_choices_are_moves kind [] = refl
own_choices_are_moves kind (move ∷ rest) =
    let choice : Move → Choice = λ m. record { set = m.node.set; action = m.action } in
    elim (is_same_kind kind move.node.kind) as (λ b. cond b (choice move ∷ own_choices kind rest) (own_choices kind rest)
    ≡ map choice (cond b (move ∷ filter (λ m. is_same_kind kind m.node.kind) rest) (filter (λ m. is_same_kind kind m.node.kind) rest))) [
      | true ↦ ap (λ choices. choice move ∷ choices) (own_choices_are_moves kind rest)
      | false ↦ own_choices_are_moves kind rest
    ]
