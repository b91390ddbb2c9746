-- The form of a game's tree, with a weight for each leaf, is in order and within the limits.
use Rattle.std.proofs.Common.{◌≡◌, ◌<◌, ◌≤◌, false, List, [], length, map, ap, ◌∙◌, arith, ℤ}
use Rattle.std.specs.Prelude.{sum, unsigned_abs}
use Rattle.def_tree.specs.declared.Kind.{Kind}
use Rattle.def_tree.specs.declared.Player.{Player}
use Rattle.def_tree.specs.declared.Player.TheVariants.{One, Two}
use Rattle.def_tree.specs.Tree.{Forest, is_leaf_kind, leaf_count, prefix}
use Rattle.def_tree.specs.Rules.{IsGameTree}
use Rattle.def_game_scale.specs.Tables.{Tables}
use Rattle.def_sums.specs.Limits.{most_mass}
use Rattle.def_plan.specs.Form.{InformationSet, Leaf as FormLeaf, SequenceForm, leaf_sequence, player_sets, sequence_count}
use Rattle.def_sequence_form.specs.Form.{form_of, information_sets, leaf_entry}
use Rattle.def_sequence_form.specs.Sets.{TreeSets, tree_sets}
use Rattle.def_sequence_form.proofs.Leaves.{form_has_the_leaf_list, form_has_the_mass}
use Rattle.def_sequence_form.proofs.Sets.{form_numbers_as_the_tree}
use Rattle.def_game_paths.specs.Coming.{no_visit}
use Rattle.xg_seq.specs.declared.leaf.Leaf.{Leaf}
use Rattle.xg_seq.specs.Leaves.{AreLeaves, HasSequences, KeepsLeaves, form_with}
use Rattle.xg_seq.specs.Table.{HaveFewActions, most_sequences}
use Rattle.xg_seq.proofs.LeafLemmas.{leaves_are_few}

-- the sequences of a game's tree are within the limit
pub sets_in_limit : (tree : Forest) → IsGameTree tree → (kind : Kind) → is_leaf_kind kind ≡ false
    → sequence_count (information_sets kind tree) ≤ most_sequences
sets_in_limit tree game kind inner = omega (arith, (form_numbers_as_the_tree tree game kind inner).few_sequences, game.limit)

-- no set of a game's tree has too many actions
pub sets_have_few_actions : (tree : Forest) → IsGameTree tree → (kind : Kind) → is_leaf_kind kind ≡ false
    → HaveFewActions (information_sets kind tree)
sets_have_few_actions tree game kind inner = λ h d there. ((form_numbers_as_the_tree tree game kind inner).actions h d there).1

abbrev no_tables : Tables
no_tables = record { chance = []; outcomes = [] }

-- the form of a game's tree keeps the rules of its leaves
pub keeps_leaves : (tree : Forest) (weights : List ℤ) → IsGameTree tree → length weights ≡ leaf_count (prefix tree)
    → sum (map unsigned_abs weights) ≤ most_mass → KeepsLeaves (form_of tree weights)
keeps_leaves tree weights game many mass =
    let list = form_has_the_leaf_list no_tables tree weights game many in
    record {
      sequences = λ z d there.
          let each = list.each z (leaf_entry no_tables no_visit) d (omega (arith, list.count)) in
          record { one = each.below_one; two = each.below_two };
      count = omega (arith, list.count, leaves_are_few tree, game.limit);
      mass = omega (arith, form_has_the_mass.of_weights tree weights many);
    }

-- a leaf's sequences are sequences of their players
pub sequence_there : (form : SequenceForm) (player : Player) (z : FormLeaf) → HasSequences form z
    → leaf_sequence player z < sequence_count (player_sets form player)
sequence_there form One z has = has.one
sequence_there form Two z has = has.two

-- the sets and the leaves make the form
pub form_is : (tree : Forest) (weights : List ℤ) (sets : TreeSets) (one two : List InformationSet) (leaves : List Leaf)
    → sets ≡ tree_sets tree → one ≡ sets.one.sets → two ≡ sets.two.sets → AreLeaves tree weights leaves →
    form_with one two leaves ≡ form_of tree weights
form_is tree weights sets one two leaves known is_one is_two are = λ i. record {
  sets_one = (is_one ∙ ap (λ (s : TreeSets). s.one.sets) known) i;
  sets_two = (is_two ∙ ap (λ (s : TreeSets). s.two.sets) known) i;
  leaves = are i;
}
