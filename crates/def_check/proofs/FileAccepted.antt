-- Which files are accepted, by the laws of what they rest on.
use Rattle.def_file_form.proofs.WholeGames.{stands_for_whole_game}
use Rattle.def_file_form.proofs.ReportedFaultIsFirst.{fault_first}
use Rattle.def_file_form.proofs.FirstFaultIsReported.{first_faulted}
use Rattle.def_game_scale.proofs.First.{game_first}
use Rattle.def_game_scale.proofs.Sound.{sound}
use Rattle.def_game_numbers.proofs.Fractions.{tables_lowest}
use Rattle.def_check.specs.FileLaws.{AcceptedGamesAreSound, AcceptedWithoutFault, FileReadingIsExact, RefusedWithTheFirst}
use Rattle.def_check.proofs.Refused.{GameLaws, accepted_sound, accepted_whole, reading_exact, refused_with_first}

-- the laws of the crates below
reading_is_exact : FileReadingIsExact
reading_is_exact = reading_exact fault_first first_faulted

game_laws : GameLaws
game_laws = record { whole = stands_for_whole_game; fractions = tables_lowest; first = game_first; sound = sound }

-- a file is refused exactly with its first fault
pub first_refused : RefusedWithTheFirst
first_refused = refused_with_first reading_is_exact game_laws

-- a file is accepted exactly where it can be read and its game has no fault
pub accepted_whole_file : AcceptedWithoutFault
accepted_whole_file = accepted_whole reading_is_exact game_laws

-- an accepted file's game is sound
pub accepted_games_sound : AcceptedGamesAreSound
accepted_games_sound = accepted_sound reading_is_exact game_laws

-- reading is exact
pub reading_is : FileReadingIsExact
reading_is = reading_is_exact
