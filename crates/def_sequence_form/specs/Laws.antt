-- What holds of a tree's sets, its sequence form and its list of leaves.
-- Each is the contract of a function of this crate.
use Rattle.std.specs.Prelude.{◌≡◌, ◌↔◌, ℕ, ◌+◌, ◌-◌, ◌<◌, ◌≤◌, true, false, List, [], ◌∷◌, length, map, slice_index}
use Rattle.std.specs.Prelude.{slice_index_or, sum, All, Option, Some, None, Ok, Err, ℤ, unsigned_abs}
use Rattle.def_tree.specs.declared.Kind.{Kind}
use Rattle.def_tree.specs.declared.Kind.TheVariants.{One, Two}
use Rattle.def_tree.specs.Tree.{Forest, prefix, node_count, leaf_count, is_leaf_kind}
use Rattle.def_tree.specs.Rules.{IsGameTree, set_count, most_actions}
use Rattle.def_game_paths.specs.Paths.{Visit, visits, Choice, own_choices}
use Rattle.def_game_paths.specs.Recall.{HasPerfectRecall, IsFirstBreak, RecallBreak, is_personal}
use Rattle.def_game_paths.specs.Sequences.{choice_of, first_sequence, sequence_at, sequences_before, set_sizes}
use Rattle.def_game_scale.specs.Tables.{Tables}
use Rattle.def_game_scale.specs.Scale.{game_mass}
use Rattle.def_plan.specs.Payoff.{mass_of}
use Rattle.def_plan.specs.Form.{InformationSet, PlacedSet, placed, sequence_count, AreInOrder, Leaf, SequenceForm}
use Rattle.def_sequence_form.specs.Form.{LeafEntry, leaf_list, information_sets, form_of, form_of_game}
use Rattle.def_sequence_form.specs.Sets.{PlayerSets, TreeSets, tree_sets, sets_or_break}

-- each set has actions, and the sequence before it comes before its own
abbrev pub FormIsInOrder : Type 0
FormIsInOrder = (tree : Forest) → IsGameTree tree → (kind : Kind) → is_leaf_kind kind ≡ false
    → AreInOrder (information_sets kind tree)

-- there are sets exactly where both players have perfect recall, and otherwise its first break
pub record SetsAreExact : Type 0 where
  pub found : (tree : Forest) → (sets_or_break tree ≡ Ok (tree_sets tree)) ↔ HasPerfectRecall tree
  pub only : (tree : Forest) (sets : TreeSets) → sets_or_break tree ≡ Ok sets → sets ≡ tree_sets tree
  pub broken : (tree : Forest) (d : Visit) (broken : RecallBreak) → sets_or_break tree ≡ Err broken
      → IsFirstBreak (λ k. slice_index_or (visits tree) (k - 1) d) (length (visits tree)) broken

-- with perfect recall a set's own sequence before it is that of each of its nodes, which all have its actions
abbrev pub SetsHaveTheirNodes : Type 0
SetsHaveTheirNodes = (tree : Forest) → IsGameTree tree → HasPerfectRecall tree → (kind : Kind) → is_personal kind ≡ true
    → (none : InformationSet) →
    All (λ v. v.node.kind ≡ kind → slice_index_or (information_sets kind tree) (v.node.set - 1) none
    ≡ record { before = sequence_at kind tree v; actions = v.node.children }) (visits tree)

-- the form counts and places a tree's sequences as they are numbered in the tree,
-- and has no more sets and sequences than the tree has nodes
pub record NumbersAsTheTree (tree : Forest) (kind : Kind) : Type 0 where
  pub count : sequence_count (information_sets kind tree) ≡ 1 + sum (set_sizes kind tree)
  pub sets : length (information_sets kind tree) ≡ set_count kind (prefix tree)
  pub places : (i : ℕ) (d : PlacedSet) → i < length (information_sets kind tree)
      → slice_index_or (placed (information_sets kind tree)) i d
      ≡ record {
        first = first_sequence (set_sizes kind tree) (i + 1);
        before = slice_index (sequences_before kind tree) i;
        actions = slice_index (set_sizes kind tree) i;
      }
  pub actions : All (λ set. (1 ≤ set.actions) × (set.actions ≤ most_actions)) (information_sets kind tree)
  pub few_sets : length (information_sets kind tree) ≤ node_count tree
  pub few_sequences : sequence_count (information_sets kind tree) ≤ node_count tree

abbrev pub FormNumbersAsTheTree : Type 0
FormNumbersAsTheTree = (tree : Forest) → IsGameTree tree → (kind : Kind) → is_leaf_kind kind ≡ false
    → NumbersAsTheTree tree kind

-- the last own choice of a list in which it stands first
abbrev pub last_of_choices : List Choice → Option Choice
last_of_choices [] = None
last_of_choices (choice ∷ _) = Some choice

-- an entry of the list of leaves and the form's leaf there: each of the leaf's sequences is one of its player's, and
-- ends with the entry's last own choice
pub record LeafHasItsChoices (tree : Forest) (form : SequenceForm) (entry : LeafEntry) (leaf : Leaf) : Type 0 where
  pub below_one : leaf.sequence_one < sequence_count form.sets_one
  pub below_two : leaf.sequence_two < sequence_count form.sets_two
  pub last_one : choice_of (set_sizes One tree) leaf.sequence_one ≡ last_of_choices entry.choices_one
  pub last_two : choice_of (set_sizes Two tree) leaf.sequence_two ≡ last_of_choices entry.choices_two

-- two leaves have the same sequences exactly where their entries have the same own choices
pub record TellsChoices (entry other : LeafEntry) (leaf other_leaf : Leaf) : Type 0 where
  pub one : (leaf.sequence_one ≡ other_leaf.sequence_one) ↔ (entry.choices_one ≡ other.choices_one)
  pub two : (leaf.sequence_two ≡ other_leaf.sequence_two) ↔ (entry.choices_two ≡ other.choices_two)

-- the form of a tree with a weight for each leaf has the leaves of the tree's list, in its order
pub record LeavesAreTheList (tables : Tables) (tree : Forest) (weights : List ℤ) : Type 0 where
  pub count : length (form_of tree weights).leaves ≡ leaf_count (prefix tree)
  pub entries : length (leaf_list tables tree) ≡ leaf_count (prefix tree)
  pub weights_are : map (λ leaf. leaf.weight) (form_of tree weights).leaves ≡ weights
  pub each : (z : ℕ) (entry : LeafEntry) (leaf : Leaf) → z < leaf_count (prefix tree) →
      LeafHasItsChoices tree (form_of tree weights) (slice_index_or (leaf_list tables tree) z entry)
      (slice_index_or (form_of tree weights).leaves z leaf)
  pub pairs : HasPerfectRecall tree → (y z : ℕ) (entry : LeafEntry) (leaf : Leaf) → y < leaf_count (prefix tree)
      → z < leaf_count (prefix tree) →
      TellsChoices (slice_index_or (leaf_list tables tree) y entry) (slice_index_or (leaf_list tables tree) z entry)
      (slice_index_or (form_of tree weights).leaves y leaf) (slice_index_or (form_of tree weights).leaves z leaf)

abbrev pub FormHasTheLeafList : Type 0
FormHasTheLeafList = (tables : Tables) (tree : Forest) (weights : List ℤ) → IsGameTree tree
    → length weights ≡ leaf_count (prefix tree) → LeavesAreTheList tables tree weights

-- the sizes of the form's weights add up to the game's mass
pub record FormHasTheMass : Type 0 where
  pub of_weights : (tree : Forest) (weights : List ℤ) → length weights ≡ leaf_count (prefix tree)
      → mass_of (form_of tree weights).leaves ≡ sum (map unsigned_abs weights)
  pub of_game : (tables : Tables) (tree : Forest) → mass_of (form_of_game tables tree).leaves ≡ game_mass tables tree

-- what is answered of a player's sets: those of the form, and for each node the number of the sequence that ends with
-- the player's last own choice before it
pub record TellsEachNode (tree : Forest) (kind : Kind) (known : PlayerSets) : Type 0 where
  pub sets : known.sets ≡ information_sets kind tree
  pub count : length known.at_nodes ≡ node_count tree
  pub last : (k : ℕ) (d : Visit) → k < node_count tree
      → choice_of (map (λ set. set.actions) known.sets) (slice_index known.at_nodes k)
      ≡ last_of_choices (own_choices kind (slice_index_or (visits tree) k d).path)

pub record TreeSetsTellNodes : Type 0 where
  pub one : (tree : Forest) → IsGameTree tree → TellsEachNode tree One (tree_sets tree).one
  pub two : (tree : Forest) → IsGameTree tree → TellsEachNode tree Two (tree_sets tree).two
