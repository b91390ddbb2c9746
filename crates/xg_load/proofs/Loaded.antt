-- What reading bytes and opening their game give together.
use Rattle.std.proofs.Common.{◌≡◌, ℕ, ◌≤◌, List, length, Option, Some, None, Ok, Err, ap, sym, ◌∙◌}
use Rattle.std.specs.Prelude.{Result}
use Rattle.def_file.specs.declared.FileFault.{FileFault}
use Rattle.def_file.specs.declared.FileFault.TheVariants.{TooLong}
use Rattle.def_file.specs.Content.{GameFile}
use Rattle.def_file.specs.Reading.{game_at, most_bytes}
use Rattle.def_check.specs.Accepting.{accepted, read_as_accepted, unless_faulty}
use Rattle.def_check.proofs.Checked.{fault_any_length, read_within}
use Rattle.def_game_numbers.specs.Numbers.{as_file_fault, tables_of}
use Rattle.def_game_scale.specs.Faults.{GameFault, game_fault}
use Rattle.xg_game.specs.Refusals.{Answers}
use Rattle.xg_game.specs.declared.fault.Refused.{Refused}
use Rattle.xg_game.specs.declared.fault.Refused.TheVariants.{File, NoMemory}
use Rattle.xg_load.specs.Accepted.{Opens}

module _ (bytes : List ℕ) (short : length bytes ≤ most_bytes) where
  -- a game that was read is accepted or refused as it is opened
  pub opened_is_accepted : (game : GameFile) (result : Result GameFile Refused) → game_at bytes ≡ Ok game
      → Opens game result → Answers result (read_as_accepted bytes)
  opened_is_accepted game (Ok same) read is =
      ap accepted (read_within bytes short ∙ read) ∙ ap (λ (o : Option FileFault). unless_faulty o game) is.1 ∙ ap Ok (sym is.0)
  opened_is_accepted game (Err (File fault)) read is =
      ap accepted (read_within bytes short ∙ read) ∙ ap (λ (o : Option FileFault). unless_faulty o game) is
  opened_is_accepted game (Err NoMemory) read is = tt

  -- bytes that can't be read are refused
  pub unread_is_refused : (why : Refused) → Answers {X = GameFile} (Err why) (game_at bytes)
      → Answers {X = GameFile} (Err why) (read_as_accepted bytes)
  unread_is_refused (File fault) read = ap accepted (read_within bytes short ∙ read)
  unread_is_refused NoMemory read = tt

-- whatever the game is, it isn't too long
no_game_is_long : (found : Option GameFault) → as_file_fault found ≡ Some TooLong → ⊥
no_game_is_long None is = absurd cc
no_game_is_long (Some fault) is = fault_any_length fault cc

pub opened_any_length : (game : GameFile) (result : Result GameFile Refused) → Opens game result
    → result ≡ Err (File TooLong) → ⊥
opened_any_length game (Ok same) opens is = absurd cc
opened_any_length game (Err (File fault)) opens is =
    let same : fault ≡ TooLong = cc in
    no_game_is_long (game_fault (tables_of game) game.tree) (opens ∙ ap Some same)
opened_any_length game (Err NoMemory) opens is = absurd cc
