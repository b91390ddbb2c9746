-- Small games, worked out.
use Rattle.std.specs.Prelude.{◌≡◌, [], ◌∷◌, Some, None, map}
use Rattle.def_tree.specs.declared.Kind.TheVariants.{Chance, One, Two}
use Rattle.def_tree.specs.Tree.{Forest, forest_of}
use Rattle.def_tree.specs.Rules.{inner_node, leaf_node, matching_pennies}
use Rattle.def_game_paths.specs.Paths.{leaf_visits}
use Rattle.def_game_paths.specs.Recall.{recall_break}
use Rattle.def_game_paths.specs.Sequences.{choice_of, number_break, sequence_at, sequences_before, set_sizes}

-- a driver who can't tell two exits apart, so that a set holds a node and one below it
abbrev pub absent_driver : Forest
absent_driver = forest_of (inner_node One 1 2 ∷ leaf_node 0 ∷ inner_node One 1 2 ∷ leaf_node 1 ∷ leaf_node 2 ∷ [])

-- the same for player two, below a choice of player one
abbrev pub absent_partner : Forest
absent_partner = forest_of (inner_node One 1 2 ∷ inner_node Two 1 2 ∷ leaf_node 0 ∷ leaf_node 1 ∷ inner_node Two 2 2
    ∷ inner_node Two 1 2 ∷ leaf_node 0 ∷ leaf_node 1 ∷ leaf_node 2 ∷ [])

-- chance comes to one set after two other draws
abbrev pub forgetful_chance : Forest
forgetful_chance = forest_of (inner_node Chance 1 2 ∷ inner_node Chance 2 1 ∷ leaf_node 0 ∷ inner_node Chance 2 1
    ∷ leaf_node 0 ∷ [])

pub record RecallRows : Type 0 where
  pub absent : recall_break absent_driver ≡ Some (record { node = 3; earlier = 1 })
  pub partner : recall_break absent_partner ≡ Some (record { node = 6; earlier = 2 })
  pub pennies : recall_break matching_pennies ≡ None
  pub chance : recall_break forgetful_chance ≡ None
  pub absent_number : number_break absent_driver ≡ Some (record { node = 3; earlier = 1 })
  pub partner_number : number_break absent_partner ≡ Some (record { node = 6; earlier = 2 })
  pub pennies_number : number_break matching_pennies ≡ None

-- in matching pennies each player has one set of two actions, and the leaves have these sequences
pub record SequenceRows : Type 0 where
  pub sizes_one : set_sizes One matching_pennies ≡ 2 ∷ []
  pub sizes_two : set_sizes Two matching_pennies ≡ 2 ∷ []
  pub before_two : sequences_before Two matching_pennies ≡ 0 ∷ []
  pub last_choices : map (choice_of (set_sizes One matching_pennies)) (0 ∷ 1 ∷ 2 ∷ 3 ∷ []) ≡ None
      ∷ Some (record { set = 1; action = 1 }) ∷ Some (record { set = 1; action = 2 }) ∷ None ∷ []
  pub leaves_one : map (sequence_at One matching_pennies) (leaf_visits matching_pennies) ≡ 1 ∷ 1 ∷ 2 ∷ 2 ∷ []
  pub leaves_two : map (sequence_at Two matching_pennies) (leaf_visits matching_pennies) ≡ 1 ∷ 2 ∷ 1 ∷ 2 ∷ []
