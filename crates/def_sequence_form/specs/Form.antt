-- The sequence form of a game in a tree (von Stengel 1996), and its list of leaves.
use Rattle.std.specs.Prelude.{List, [], ◌∷◌, map, ℤ}
use Rattle.def_tree.specs.declared.Kind.{Kind}
use Rattle.def_tree.specs.declared.Kind.TheVariants.{One, Two}
use Rattle.def_tree.specs.Tree.{Forest}
use Rattle.def_fraction.specs.Fraction.{Fraction}
use Rattle.def_game_paths.specs.Paths.{Visit, visits, leaf_visits, Choice, own_choices}
use Rattle.def_game_paths.specs.Sequences.{set_firsts, sequence_at}
use Rattle.def_game_scale.specs.Tables.{Tables, reach, payoff_one, payoff_two}
use Rattle.def_game_scale.specs.Scale.{weights}
use Rattle.def_plan.specs.Form.{InformationSet, Leaf, SequenceForm}

-- a leaf: its reach, both payoffs, and both players' own choices on its path, the last ones first
pub record LeafEntry : Type 0 where
  pub reach : Fraction
  pub payoff_one : Fraction
  pub payoff_two : Fraction
  pub choices_one : List Choice
  pub choices_two : List Choice

abbrev pub leaf_entry : Tables → Visit → LeafEntry
leaf_entry tables leaf = record {
  reach = reach tables leaf.path;
  payoff_one = payoff_one tables leaf;
  payoff_two = payoff_two tables leaf;
  choices_one = own_choices One leaf.path;
  choices_two = own_choices Two leaf.path;
}

abbrev pub leaf_list : Tables → Forest → List LeafEntry
leaf_list tables tree = map (leaf_entry tables) (leaf_visits tree)

-- the sets of a kind, in the order of their first nodes
abbrev pub information_sets : Kind → Forest → List InformationSet
information_sets kind tree = map (λ v. record { before = sequence_at kind tree v; actions = v.node.children })
    (set_firsts kind 0 (visits tree))

-- the leaves with their sequences, and with these weights in turn
abbrev pub leaves_with : Forest → List Visit → List ℤ → List Leaf
leaves_with tree [] weights = []
leaves_with tree (v ∷ rest) [] = []
leaves_with tree (v ∷ rest) (weight ∷ weights) =
    record { sequence_one = sequence_at One tree v; sequence_two = sequence_at Two tree v; weight = weight }
    ∷ leaves_with tree rest weights

-- the sequence form of a tree with a weight for each leaf
abbrev pub form_of : Forest → List ℤ → SequenceForm
form_of tree weights = record {
  sets_one = information_sets One tree;
  sets_two = information_sets Two tree;
  leaves = leaves_with tree (leaf_visits tree) weights;
}

abbrev pub form_of_game : Tables → Forest → SequenceForm
form_of_game tables tree = form_of tree (weights tables tree)
