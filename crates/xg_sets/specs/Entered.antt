-- What is kept once the first k nodes of a tree were entered.
use Rattle.std.specs.Prelude.{◌≡◌, ℕ, ◌+◌, ◌-◌, ◌<◌, ◌≤◌, true, false, List, length, map, take, drop, sum}
use Rattle.std.specs.Prelude.{slice_index_or, Option, Some}
use Rattle.def_tree.specs.declared.Kind.{Kind}
use Rattle.def_tree.specs.declared.Kind.TheVariants.{One, Two}
use Rattle.def_tree.specs.declared.Node.{Node}
use Rattle.def_tree.specs.Tree.{Forest}
use Rattle.def_tree.specs.Rules.{is_same_kind}
use Rattle.def_game_paths.specs.Paths.{Move, Visit, own_choices, visits}
use Rattle.def_game_paths.specs.Recall.{first_break, first_of_set}
use Rattle.def_game_paths.specs.Sequences.{differ_in_number, first_sequence, number_break, sequence_at, sequence_number}
use Rattle.def_game_paths.specs.Sequences.{set_firsts, set_sizes, sizes_so_far}
use Rattle.def_sequence_form.specs.Sets.{first_number, next_numbers}
use Rattle.def_sequence_form.specs.SetNodes.{is_in_set}
use Rattle.xg_sets.specs.declared.building.RecallFault.{RecallFault}
use Rattle.xg_sets.specs.declared.building.RecallFault.TheVariants.{NotRecall, NoMemory}
use Rattle.xg_sets.specs.declared.movers.Sequences.{Sequences}
use Rattle.xg_sets.specs.declared.table.FoundSet.{FoundSet}
use Rattle.xg_sets.specs.Table.{SetsUpTo}
use Rattle.xg_sets.specs.OfPlayer.{set_in_row}

-- a search for the first node of the set finds the row's node, and the sequence there is the row's
pub record IsFirstNode (tree : Forest) (kind : Kind) (row : FoundSet) (x : Node) (v : Visit) : Type 0 where
  pub found : first_of_set 1 x (visits tree) ≡ Some (record { number = row.node; visit = v })
  pub kinds : v.node.kind ≡ kind
  pub before : sequence_at kind tree v ≡ row.before

-- the row of the kind's set of this number
pub record IsRowOf (tree : Forest) (kind : Kind) (set : ℕ) (row : FoundSet) : Type 0 where
  pub first : row.first ≡ first_sequence (set_sizes kind tree) set
  pub node : (x : Node) → x.kind ≡ kind → x.set ≡ set → (v : Visit) × IsFirstNode tree kind row x v

-- of these nodes it is the last one in the kind's set of this number
pub record IsLastNode (kind : Kind) (set : ℕ) (nodes : List Visit) (last : ℕ) : Type 0 where
  pub from_one : 1 ≤ last
  pub there : last ≤ length nodes
  pub is_in : (d : Visit) → is_in_set kind set (slice_index_or nodes (last - 1) d) ≡ true
  pub later : (j : ℕ) (d : Visit) → last ≤ j → j < length nodes → is_in_set kind set (slice_index_or nodes j d) ≡ false

-- a player's sets so far, each with its first and its last node, and the sequences at the first k nodes
pub record IsTableUpTo (tree : Forest) (kind : Kind) (k : ℕ) (table : SetsUpTo) : Type 0 where
  pub sets : map set_in_row table.rows ≡ map (λ v. record {
    before = sequence_at kind tree v;
    actions = v.node.children;
  }) (set_firsts kind 0 (take k (visits tree)))
  pub each : (i : ℕ) (d : FoundSet) → i < length table.rows → IsRowOf tree kind (i + 1) (slice_index_or table.rows i d)
  pub nodes : map (λ row. row.node) table.rows ≡ map (first_number tree) (set_firsts kind 0 (take k (visits tree)))
  pub lasts : (i : ℕ) (d : FoundSet) → i < length table.rows
      → IsLastNode kind (i + 1) (take k (visits tree)) (slice_index_or table.rows i d).last
  pub next : table.next ≡ 1 + sum (sizes_so_far kind (take k (visits tree)))
  pub at_nodes : table.at_nodes ≡ map (sequence_at kind tree) (take k (visits tree))

-- both players' tables and the next nodes, where recall breaks at none of the first k nodes
pub record AreTablesOf (tree : Forest) (k : ℕ) (one two : SetsUpTo) (next_nodes : List (Option ℕ)) : Type 0 where
  pub table_one : IsTableUpTo tree One k one
  pub table_two : IsTableUpTo tree Two k two
  pub next_are : next_nodes ≡ next_numbers 1 (take k (visits tree))
  pub no_break : number_break tree ≡ first_break (differ_in_number tree) (visits tree) (k + 1) (drop k (visits tree))

-- the number of the kind's sequence on a path
abbrev pub path_number : Kind → Forest → List Move → ℕ
path_number kind tree path = sequence_number (set_sizes kind tree) (own_choices kind path)

-- both players' sequences on a path
pub record AreAt (tree : Forest) (path : List Move) (at : Sequences) : Type 0 where
  pub one : at.one ≡ path_number One tree path
  pub two : at.two ≡ path_number Two tree path

-- the kind's sequence at the first child of the node that is visited
pub record IsAtFirstChild (tree : Forest) (kind : Kind) (v : Visit) (sequence : ℕ) : Type 0 where
  pub own : is_same_kind kind v.node.kind ≡ true → sequence ≡ first_sequence (set_sizes kind tree) v.node.set
  pub other : is_same_kind kind v.node.kind ≡ false → sequence ≡ sequence_at kind tree v

pub record AreAtFirstChild (tree : Forest) (v : Visit) (below : Sequences) : Type 0 where
  pub one : IsAtFirstChild tree One v below.one
  pub two : IsAtFirstChild tree Two v below.two

-- the first break of recall, by numbers
abbrev pub FindsBreak : Forest → RecallFault → Type 0
FindsBreak tree (NotRecall node earlier) = number_break tree ≡ Some (record { node = node; earlier = earlier })
FindsBreak tree NoMemory = Unit {0}
