-- A form's sets in lists of numbers, and what holds of its leaves.
use Rattle.std.specs.Prelude.{◌≡◌, ℕ, ◌<◌, ◌≤◌, List, length, map, All, ℤ}
use Rattle.def_tree.specs.declared.Player.{Player}
use Rattle.def_tree.specs.Tree.{Forest}
use Rattle.def_tree.specs.Rules.{most_nodes}
use Rattle.def_game_paths.specs.Paths.{leaf_visits}
use Rattle.def_sums.specs.Limits.{most_mass}
use Rattle.def_plan.specs.Form.{InformationSet, Leaf as FormLeaf, SequenceForm, placed, player_sets, sequence_count}
use Rattle.def_plan.specs.Payoff.{mass_of}
use Rattle.def_sequence_form.specs.Form.{leaves_with}
use Rattle.xg_seq.specs.declared.leaf.Leaf.{Leaf}

abbrev pub leaf_of : Leaf → FormLeaf
leaf_of z = record { sequence_one = z.seq1; sequence_two = z.seq2; weight = z.w }

-- the leaves of the tree, with these weights in turn
abbrev pub AreLeaves : Forest → List ℤ → List Leaf → Type 0
AreLeaves tree weights leaves = map leaf_of leaves ≡ leaves_with tree (leaf_visits tree) weights

abbrev pub form_with : List InformationSet → List InformationSet → List Leaf → SequenceForm
form_with one two leaves = record { sets_one = one; sets_two = two; leaves = map leaf_of leaves }

-- the first sequence of each of a player's sets
abbrev pub firsts_of : Player → SequenceForm → List ℕ
firsts_of player form = map (λ h. h.first) (placed (player_sets form player))

-- how many actions each of a player's sets has
abbrev pub form_action_counts : Player → SequenceForm → List ℕ
form_action_counts player form = map (λ h. h.actions) (player_sets form player)

-- the player's sequence before each of the sets
abbrev pub form_sequences_before : Player → SequenceForm → List ℕ
form_sequences_before player form = map (λ h. h.before) (player_sets form player)

-- the leaf's sequences are sequences of their players
pub record HasSequences (form : SequenceForm) (z : FormLeaf) : Type 0 where
  pub one : z.sequence_one < sequence_count form.sets_one
  pub two : z.sequence_two < sequence_count form.sets_two

pub record KeepsLeaves (form : SequenceForm) : Type 0 where
  pub sequences : All (HasSequences form) form.leaves
  pub count : length form.leaves ≤ most_nodes
  pub mass : mass_of form.leaves ≤ most_mass
