-- What refuses the range of payoffs.
use Rattle.std.proofs.Common.{◌≡◌, ◌≤◌, [], length, ap, subst, arith, Some, None}
use Rattle.std.specs.Prelude.{Option, Result, Ok, Err, IfErr}
use Rattle.std.proofs.lemmas.List.{length-map}
use Rattle.def_file.specs.Content.{GameFile}
use Rattle.def_file.specs.Game.{IsWholeGame}
use Rattle.def_game_paths.specs.Paths.{leaf_visits, visits}
use Rattle.def_game_scale.specs.Faults.{GameFault, found_by, node_fault, or_else}
use Rattle.def_game_scale.specs.Tables.{AreFractions, payoff_one}
use Rattle.def_game_scale.proofs.First.{number_first}
use Rattle.def_game_numbers.specs.Numbers.{tables_of}
use Rattle.def_payoffs.specs.Range.{leaf_payoffs}
use Rattle.def_tree.proofs.HasLeaf.{has_leaf, have_children}
use Rattle.def_sequence_form.proofs.Leaves.{leaves_counted}
use Rattle.def_tree.specs.Tree.{leaf_count, prefix}
use Rattle.xg_game.specs.declared.fault.Refused.{Refused}
use Rattle.xg_game.specs.declared.fault.Refused.TheVariants.{File, NoMemory}
use Rattle.xg_scale.specs.FaultOfFile.{RefusesBy}
use Rattle.xg_scale.specs.Words.{HasNoNumberFault}

-- where nothing is found first or else, nothing is found first, and nothing else
none_first : (a b : Option GameFault) → or_else a b ≡ None → a ≡ None
none_first None b is = cc
none_first (Some x) b is = absurd cc

none_else : (a b : Option GameFault) → or_else a b ≡ None → b ≡ None
none_else None b is = is
none_else (Some x) b is = absurd cc

-- nothing refuses but want of memory
only_memory : (refused : Refused) → RefusesBy None refused → refused ≡ NoMemory
only_memory (File fault) refuses = absurd cc
only_memory NoMemory refuses = cc

pub range_refused : {T : Type 0} (game : GameFile) (r : Result T Refused) → AreFractions (tables_of game)
    → IfErr r (RefusesBy (found_by (node_fault (tables_of game)) [] (visits game.tree))) → HasNoNumberFault game
    → IfErr r (λ refused. refused ≡ NoMemory)
range_refused game (Ok x) lowest refuses passes = tt
range_refused game (Err refused) lowest refuses passes =
    let none = (number_first (tables_of game) game.tree lowest).none.1 passes in
    let nodes : found_by (node_fault (tables_of game)) [] (visits game.tree) ≡ None = none_first _ _ (none_else _ _ (none_else _ _ none)) in
    only_memory refused (subst (λ found. RefusesBy found refused) nodes refuses)

-- each game has a leaf, and so a payoff
pub some_payoff : (game : GameFile) → IsWholeGame game → leaf_payoffs (tables_of game) game.tree ≡ [] → ⊥
some_payoff game whole none =
    let some : 1 ≤ leaf_count (prefix game.tree) =
    has_leaf game.tree whole.tree.children (omega (arith, whole.tree.one)) (have_children (prefix game.tree) whole.together.rules) in
    let count : length (leaf_payoffs (tables_of game) game.tree) ≡ length (leaf_visits game.tree) =
    length-map (leaf_visits game.tree) (payoff_one (tables_of game)) in
    let counted : length (leaf_visits game.tree) ≡ leaf_count (prefix game.tree) = leaves_counted game.tree in
    let nothing : length (leaf_payoffs (tables_of game) game.tree) ≡ 0 = ap length none in
    absurd (omega arith)
