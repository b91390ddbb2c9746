-- A file's game in numbers.
use Rattle.std.proofs.Common.{◌≡◌, ℕ, ◌≤◌, List, ap}
use Rattle.std.specs.Prelude.{false}
use Rattle.def_tree.specs.declared.Kind.{Kind}
use Rattle.def_tree.specs.Tree.{is_leaf_kind}
use Rattle.def_file.specs.Content.{GameFile}
use Rattle.def_file_form.proofs.WholeGames.{stands_for_whole_game}
use Rattle.def_game_scale.specs.Scale.{all_fractions, game_unit}
use Rattle.def_game_scale.proofs.Expected.{fractions-lowest}
use Rattle.def_game_scale.proofs.First.{game_first}
use Rattle.def_game_scale.proofs.Units.{unit-positive}
use Rattle.def_game_numbers.specs.Faultless.{IsFaultless}
use Rattle.def_game_numbers.specs.Numbers.{as_file_fault, tables_of}
use Rattle.def_game_numbers.proofs.Fractions.{tables_lowest}
use Rattle.def_plan.specs.Form.{AreInOrder}
use Rattle.def_sequence_form.specs.Form.{information_sets}
use Rattle.def_sequence_form.proofs.Sets.{form_is_in_order}
use Rattle.def_file_form.specs.Laws.{StandsFor}
use Rattle.def_check.specs.Accepted.{IsAccepted}

module _ (bytes : List ℕ) (game : GameFile) (stands : StandsFor bytes game) where
  -- the game's sets are in order, and its unit isn't 0
  pub sets_in_order : (kind : Kind) → is_leaf_kind kind ≡ false → AreInOrder (information_sets kind game.tree)
  sets_in_order kind personal =
      let whole = (stands_for_whole_game bytes game stands).0 in
      form_is_in_order game.tree
      (record { tree = whole.tree; rules = whole.together.rules; limit = whole.together.limit }) kind personal

  -- the unit of the game that a file stands for is at least 1
  pub some_unit : 1 ≤ game_unit (tables_of game) game.tree
  some_unit =
      let fractions = tables_lowest game (stands_for_whole_game bytes game stands).1 in
      unit-positive (all_fractions (tables_of game) game.tree) (fractions-lowest (tables_of game) game.tree fractions)

-- an accepted file's game has no fault
pub faultless_game : (bytes : List ℕ) (game : GameFile) → IsAccepted bytes game → IsFaultless game
faultless_game bytes game is =
    let whole = stands_for_whole_game bytes game is.readable.stands in
    record {
      whole = whole.0;
      fractions = whole.1;
      no_fault = ap as_file_fault
          ((game_first (tables_of game) game.tree (tables_lowest game whole.1)).none.1 (is.numbers, is.recall));
    }
