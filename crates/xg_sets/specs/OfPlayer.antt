-- Both players' sets, as their tables have them.
use Rattle.std.specs.Prelude.{ℕ, List, map}
use Rattle.def_tree.specs.declared.Player.{Player}
use Rattle.def_tree.specs.declared.Player.TheVariants.{One, Two}
use Rattle.def_plan.specs.Form.{InformationSet}
use Rattle.def_sequence_form.specs.Sets.{PlayerSets, TreeSets}
use Rattle.xg_sets.specs.declared.table.FoundSet.{FoundSet}
use Rattle.xg_sets.specs.Table.{SetsUpTo}

abbrev pub set_in_row : FoundSet → InformationSet
set_in_row row = record { before = row.before; actions = row.actions }

abbrev pub as_player_sets : SetsUpTo → PlayerSets
as_player_sets table = record {
  sets = map set_in_row table.rows;
  first_nodes = map (λ row. row.node) table.rows;
  at_nodes = table.at_nodes;
}

abbrev pub of_player : Player → TreeSets → PlayerSets
of_player One sets = sets.one
of_player Two sets = sets.two

-- how many actions each of a player's sets has
abbrev pub action_counts : Player → TreeSets → List ℕ
action_counts player sets = map (λ set. set.actions) (of_player player sets).sets

-- the player's sequence before each of the sets
abbrev pub sequences_before_sets : Player → TreeSets → List ℕ
sequences_before_sets player sets = map (λ set. set.before) (of_player player sets).sets
