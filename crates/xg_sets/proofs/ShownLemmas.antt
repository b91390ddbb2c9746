-- What the tables show before the first node, and after the last.
use Rattle.std.proofs.Common.{◌≡◌, ℕ, ◌+◌, ◌≤◌, false, List, [], length, take, map, refl, ap, sym, ◌∙◌, arith, Some, None, Ok, slice_get}
use Rattle.std.specs.Prelude.{Option}
use Rattle.std.specs.Option.{option_map}
use Rattle.std.proofs.lemmas.List.{drop_all, length-map, take_all}
use Rattle.std.proofs.lemmas.Option.{slice_get-map}
use Rattle.def_tree.specs.declared.Kind.{Kind}
use Rattle.def_tree.specs.declared.Kind.TheVariants.{One, Two}
use Rattle.def_tree.specs.declared.Player.{Player}
use Rattle.def_tree.specs.declared.Player.TheVariants.{One as First, Two as Second}
use Rattle.def_tree.specs.Tree.{Forest, is_leaf_kind, node_count}
use Rattle.def_tree.specs.Rules.{IsGameTree}
use Rattle.def_game_paths.specs.Paths.{Visit, visits}
use Rattle.def_game_paths.specs.Recall.{HasPerfectRecall, recall_break, first_break}
use Rattle.def_game_paths.specs.Sequences.{differ_in_number, sequence_at, set_firsts}
use Rattle.def_game_paths.proofs.Breaks.{break_first, recall_of_none}
use Rattle.def_game_paths.proofs.Counts.{sequences_are_few}
use Rattle.def_game_paths.proofs.Numbers.{numbers_find_the_break}
use Rattle.def_game_paths.proofs.Coming.{length-visits}
use Rattle.def_plan.specs.Form.{InformationSet}
use Rattle.def_sequence_form.specs.Form.{information_sets}
use Rattle.def_sequence_form.specs.Sets.{TreeSets, first_nodes, first_number, next_nodes, next_numbers, sets_with_nodes, sets_or_break, tree_sets}
use Rattle.def_sequence_form.specs.Sets.{unless_broken}
use Rattle.def_sequence_form.proofs.Nodes.{sets_are_exact}
use Rattle.def_sequence_form.proofs.Sets.{set_of_visit}
use Rattle.xg_sets.specs.declared.building.RecallFault.{RecallFault}
use Rattle.xg_sets.specs.declared.building.RecallFault.TheVariants.{NotRecall, NoMemory}
use Rattle.xg_sets.specs.declared.table.FoundSet.{FoundSet}
use Rattle.xg_sets.specs.Fault.{IsFirstBreakOf, TellsBreakOf}
use Rattle.xg_sets.specs.Entered.{FindsBreak, IsTableUpTo, AreTablesOf}
use Rattle.xg_sets.specs.Table.{HasFewRows, SetsUpTo}
use Rattle.xg_sets.specs.OfPlayer.{of_player, set_in_row, as_player_sets}

-- what a row tells of its set stands at the set's place
pub row_shows : (rows : List FoundSet) (sets : List InformationSet) (f : InformationSet → ℕ) (i : ℕ) (row : FoundSet)
    → map set_in_row rows ≡ sets → slice_get rows i ≡ Some row → slice_get (map f sets) i ≡ Some (f (set_in_row row))
row_shows rows sets f i row same read =
    ap (λ xs. slice_get (map f xs) i) (sym same) ∙ slice_get-map f (map set_in_row rows) i
    ∙ ap (option_map f) (slice_get-map set_in_row rows i ∙ ap (option_map set_in_row) read)

abbrev pub no_sets : SetsUpTo
no_sets = record { rows = []; at_nodes = []; next = 1 }

table_starts : (tree : Forest) (kind : Kind) → IsTableUpTo tree kind 0 no_sets
table_starts tree kind = record {
  sets = refl;
  each = λ i d there. absurd (omega arith);
  nodes = refl;
  lasts = λ i d there. absurd (omega arith);
  next = refl;
  at_nodes = refl;
}

-- before the first node no set has come
pub tables_start : (tree : Forest) → AreTablesOf tree 0 no_sets no_sets []
tables_start tree = record { table_one = table_starts tree One; table_two = table_starts tree Two; next_are = refl; no_break = refl }

-- what numbers find is the break that is answered
pub tells_break : (tree : Forest) → IsGameTree tree → (fault : RecallFault) → FindsBreak tree fault
    → TellsBreakOf tree fault
tells_break tree game NoMemory found = tt
tells_break tree game (NotRecall node earlier) found = ap (λ o. unless_broken o (tree_sets tree)) (sym (numbers_find_the_break tree game) ∙ found)

-- what numbers find is the first break
pub is_first_break : (tree : Forest) → IsGameTree tree → (fault : RecallFault) → FindsBreak tree fault
    → IsFirstBreakOf tree fault
is_first_break tree game NoMemory found = tt
is_first_break tree game (NotRecall node earlier) found = λ d. break_first tree d (record { node = node; earlier = earlier })
    (sym (numbers_find_the_break tree game) ∙ found)

module _ (tree : Forest) (game : IsGameTree tree) (n : ℕ) (last : n ≡ node_count tree) where
  all_taken : take n (visits tree) ≡ visits tree
  all_taken = take_all n (visits tree) (omega (arith, length-visits tree))

  table_shows : (kind : Kind) (table : SetsUpTo) → IsTableUpTo tree kind n table
      → as_player_sets table ≡ sets_with_nodes kind tree
  table_shows kind table stands =
      let sets : map set_in_row table.rows ≡ information_sets kind tree = stands.sets
      ∙ ap (λ vs. map (set_of_visit kind tree) (set_firsts kind 0 vs)) all_taken in
      let at_nodes : table.at_nodes ≡ map (sequence_at kind tree) (visits tree) = stands.at_nodes ∙ ap (map (sequence_at kind tree)) all_taken in
      let nodes : map (λ (row : FoundSet). row.node) table.rows ≡ first_nodes kind tree = stands.nodes
      ∙ ap (λ vs. map (first_number tree) (set_firsts kind 0 vs)) all_taken in
      λ i. record { sets = sets i; first_nodes = nodes i; at_nodes = at_nodes i }

  -- a table of all nodes has 1048576 rows at most
  pub has_few : (kind : Kind) → is_leaf_kind kind ≡ false → (table : SetsUpTo) → IsTableUpTo tree kind n table
      → HasFewRows table
  has_few kind inner table stands =
      let few = sequences_are_few tree game kind inner in
      let limit : node_count tree ≤ 1048576 = game.limit in
      let firsts : List Visit = set_firsts kind 0 (visits tree) in
      let sets : map set_in_row table.rows ≡ map (set_of_visit kind tree) firsts = stands.sets
      ∙ ap (λ vs. map (set_of_visit kind tree) (set_firsts kind 0 vs)) all_taken in
      omega (
        arith,
        few.few_sets,
        length-map firsts (λ (w : Visit). w.node.children),
        length-map firsts (set_of_visit kind tree),
        length-map table.rows set_in_row,
        ap length sets,
      )

  no_break : (one two : SetsUpTo) (numbers : List (Option ℕ)) → AreTablesOf tree n one two numbers
      → recall_break tree ≡ None
  no_break one two numbers stand =
      sym (numbers_find_the_break tree game) ∙ stand.no_break ∙ ap (first_break (differ_in_number tree) (visits tree) (n + 1))
      (drop_all n (visits tree) (omega (arith, length-visits tree)))

  -- where both tables are those of all nodes, their sets are those of the tree, and no break is
  pub tables_show : (one two : SetsUpTo) (numbers : List (Option ℕ)) → AreTablesOf tree n one two numbers
      → sets_or_break tree ≡ Ok (record { one = as_player_sets one; two = as_player_sets two; next_nodes = numbers })
  tables_show one two numbers stand =
      let next : numbers ≡ next_nodes tree = stand.next_are ∙ ap (next_numbers 1) all_taken in
      ap (λ o. unless_broken o (tree_sets tree)) (no_break one two numbers stand)
      ∙ (λ i. Ok (record { one = sym (table_shows One one stand.table_one) i; two = sym (table_shows Two two stand.table_two) i; next_nodes = sym next i }))

  -- a tree whose tables are those of all nodes has perfect recall
  pub has_recall : (one two : SetsUpTo) (numbers : List (Option ℕ)) → AreTablesOf tree n one two numbers
      → HasPerfectRecall tree
  has_recall one two numbers stand = recall_of_none tree (no_break one two numbers stand)

-- what a row tells of its set's first node stands at the set's place
pub first_shows : (rows : List FoundSet) (numbers : List ℕ) (i : ℕ) (row : FoundSet)
    → map (λ (r : FoundSet). r.node) rows ≡ numbers → slice_get rows i ≡ Some row → slice_get numbers i ≡ Some row.node
first_shows rows numbers i row same read =
    ap (λ xs. slice_get xs i) (sym same) ∙ slice_get-map (λ (r : FoundSet). r.node) rows i ∙ ap (option_map (λ (r : FoundSet). r.node)) read

-- a sequence is answered for each node of the tree
pub counted_for_nodes : (tree : Forest) (sets : TreeSets) (player : Player) → sets_or_break tree ≡ Ok sets
    → length (of_player player sets).at_nodes ≡ node_count tree
counted_for_nodes tree sets player known = ap (λ all. length (of_player player all).at_nodes) (sets_are_exact.only tree sets known) ∙ many player
  where
    many : (player : Player) → length (of_player player (tree_sets tree)).at_nodes ≡ node_count tree
    many First = length-map (visits tree) (sequence_at One tree) ∙ length-visits tree
    many Second = length-map (visits tree) (sequence_at Two tree) ∙ length-visits tree
