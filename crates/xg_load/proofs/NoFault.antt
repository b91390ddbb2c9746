-- A game without a fault has none in its numbers.
use Rattle.std.proofs.Common.{◌≡◌, Some, None, refl}
use Rattle.std.specs.Prelude.{Option}
use Rattle.def_file.specs.Content.{GameFile}
use Rattle.def_game_scale.specs.Faults.{GameFault, game_fault}
use Rattle.def_game_scale.specs.Tables.{AreFractions}
use Rattle.def_game_scale.proofs.First.{game_first}
use Rattle.def_game_numbers.specs.Numbers.{as_file_fault, game_file_fault, tables_of}
use Rattle.xg_scale.specs.Words.{HasNoNumberFault}

none_is_none : (found : Option GameFault) → as_file_fault found ≡ None → found ≡ None
none_is_none None none = refl
none_is_none (Some fault) none = absurd cc

pub no_number_fault : (game : GameFile) → AreFractions (tables_of game) → game_file_fault game ≡ None
    → HasNoNumberFault game
no_number_fault game lowest none =
    ((game_first (tables_of game) game.tree lowest).none.0 (none_is_none (game_fault (tables_of game) game.tree) none)).0
