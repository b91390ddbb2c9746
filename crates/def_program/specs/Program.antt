-- The program as a function of the words and of what the files hold.
--     Answer                   the status, what is written, and the line that says why there is nothing
--     program words told       the answer, where the bytes of the files that it rests on are told
use Rattle.std.specs.Prelude.{ℕ, nat_lt, if◌then◌else◌, List, [], ◌∷◌, length, Option, Some, None, Result, Ok, Err}
use Rattle.std.specs.Option.{option_and_then, option_map}
use Rattle.def_file.specs.declared.FileFault.{FileFault}
use Rattle.def_file.specs.declared.FileFault.TheVariants.{TooLong}
use Rattle.def_file.specs.Content.{GameFile}
use Rattle.def_file.specs.Reading.{most_bytes}
use Rattle.def_cert_verdict.specs.Verdict.{Verdict}
use Rattle.def_game_numbers.specs.Numbers.{game_file_fault}
use Rattle.def_canon.specs.Canon.{canon}
use Rattle.def_canon.specs.Poker.{poker}
use Rattle.def_check.specs.Accepting.{read_as_accepted, unless_faulty}
use Rattle.def_check.specs.Check.{Refusal, checked, most_cert_bytes}
use Rattle.def_plus.specs.declared.Variant.{Variant}
use Rattle.def_plus.specs.declared.Variant.TheVariants.{Plain}
use Rattle.def_plus.specs.declared.Variant.TheVariants as variants
use Rattle.def_command.specs.Grammar.{Batch, Check, Command, Drill, Gen, Info, Plus, Solve, Upgrade}
use Rattle.def_command.specs.declared.Settings.{Settings}
use Rattle.def_command.specs.Grammar.{command_of_words}
use Rattle.def_program.specs.Text.{info_text, played_text}
use Rattle.def_program.specs.BatchText.{batch_text}
use Rattle.def_program.specs.TextLines.{fault_line, usage_line}
use Rattle.def_program.specs.CheckLines.{cert_long_line, check_text, refusal_line, upgraded_text}

pub record Answer : Type 0 where
  pub status : ℕ
  pub text : List ℕ
  pub line : List ℕ

-- this text is written
abbrev pub success : List ℕ → Answer
success bytes = record { status = 0; text = bytes; line = [] }

-- nothing is written, for the reason that this line says
abbrev pub refusal : List ℕ → Answer
refusal reason = record { status = 1; text = []; line = reason }

-- the words aren't taken
abbrev pub usage : Answer
usage = record { status = 2; text = []; line = usage_line }

-- what is written of an accepted file's game
abbrev pub game_answer : (GameFile → List ℕ) → Result GameFile FileFault → Answer
game_answer text (Ok game) = success (text game)
game_answer text (Err fault) = refusal (fault_line fault)

abbrev pub file_answer : (GameFile → List ℕ) → List ℕ → Answer
file_answer text bytes = game_answer text (read_as_accepted bytes)

abbrev pub played : Variant → Settings → GameFile → List ℕ
played variant settings game = played_text variant game settings

abbrev pub solved : Settings → GameFile → List ℕ
solved settings game = played Plain settings game

-- what is said of a check, with this text of what is accepted
abbrev pub check_answer : (Verdict → List ℕ) → Result Verdict Refusal → Answer
check_answer text (Ok shown) = success (text shown)
check_answer text (Err why) = refusal (refusal_line why)

-- where the certificate is too long, that counts before all else that the file's bytes say
abbrev pub certificate_answer : (List ℕ → Verdict → List ℕ) → List ℕ → List ℕ → Answer
certificate_answer text file certificate = if nat_lt most_cert_bytes (length certificate)
    then refusal cert_long_line else check_answer (text certificate) (checked file certificate)

-- of a file that is too long nothing else is asked, and its certificate isn't opened
abbrev pub check_told : (List ℕ → Verdict → List ℕ) → List ℕ → Option (List ℕ) → Option Answer
check_told text file certificate = if nat_lt most_bytes (length file) then Some (refusal (fault_line TooLong))
    else option_map (certificate_answer text file) certificate

-- a command that checks, with its text of what is accepted
abbrev pub both_told : (List ℕ → Verdict → List ℕ) → Option (List ℕ) → Option (List ℕ) → Option Answer
both_told text file certificate = option_and_then (λ bytes. check_told text bytes certificate) file

-- what is written of a game that isn't read from a file, unless it has a fault
abbrev pub made_answer : (GameFile → List ℕ) → GameFile → Answer
made_answer text game = game_answer text (unless_faulty (game_file_fault game) game)

-- the bytes of all these files, where each is told
abbrev pub all_told : (List ℕ → Option (List ℕ)) → List (List ℕ) → Option (List (List ℕ))
all_told told [] = Some []
all_told told (name ∷ names) =
    option_and_then (λ bytes. option_map (λ files. bytes ∷ files) (all_told told names)) (told name)

abbrev pub command_answer : Command → (List ℕ → Option (List ℕ)) → Option Answer
command_answer (Solve file settings rows) told = option_map (file_answer (solved settings)) (told file)
command_answer (Info file) told = option_map (file_answer info_text) (told file)
command_answer (Check file certificate) told = both_told check_text (told file) (told certificate)
command_answer (Upgrade file certificate) told = both_told upgraded_text (told file) (told certificate)
command_answer (Gen cards) told = Some (success (canon (poker cards)))
command_answer (Drill cards settings rows) told = Some (made_answer (solved settings) (poker cards))
command_answer (Plus file settings rows) told = option_map (file_answer (played variants.Plus settings)) (told file)
command_answer (Batch files settings workers) told =
    option_map (λ contents. success (batch_text settings contents)) (all_told told files)

abbrev pub answer_of : Option Command → (List ℕ → Option (List ℕ)) → Option Answer
answer_of None told = Some usage
answer_of (Some command) told = command_answer command told

abbrev pub program : List (List ℕ) → (List ℕ → Option (List ℕ)) → Option Answer
program words told = answer_of (command_of_words words) told
