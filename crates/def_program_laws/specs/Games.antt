-- Worked rows: one-card poker with two and with three cards, and the canonical form of a game.
use Rattle.std.specs.Prelude.{◌≡◌, ℕ, List, None, Result, Ok, Err}
use Rattle.def_file.specs.declared.FileFault.{FileFault}
use Rattle.def_file.specs.Content.{GameFile}
use Rattle.def_canon.specs.Canon.{canon}
use Rattle.def_canon.specs.Poker.{poker}
use Rattle.def_check.specs.Accepting.{read_as_accepted}
use Rattle.def_game_numbers.specs.Numbers.{game_file_fault}
use Rattle.def_plan.specs.Kuhn.{kuhn}
use Rattle.def_program.specs.Text.{form_of_file}
use Rattle.def_program_laws.specs.Files.{quoted_canonically, quoted_file}

-- with three cards it is Kuhn's game
pub record PokerGameRows : Type 0 where
  pub three_cards : form_of_file (poker 3) ≡ kuhn
  pub two_faultless : game_file_fault (poker 2) ≡ None

pub record PokerFaultRows : Type 0 where
  pub three_faultless : game_file_fault (poker 3) ≡ None

abbrev canonical_form : Result GameFile FileFault → Result (List ℕ) FileFault
canonical_form (Ok game) = Ok (canon game)
canonical_form (Err fault) = Err fault

-- a set that comes again, and outcomes at nodes that are no leaves
pub record CanonicalRows : Type 0 where
  pub quoted : canonical_form (read_as_accepted quoted_file) ≡ Ok quoted_canonically
