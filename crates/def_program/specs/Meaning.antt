-- What the words mean by the bytes that the files tell, in the format's own words. Where a file that an answer rests on
-- isn't told, that answer isn't meant.
--     CommandMeans command told a    the command means this answer, by cases of the command
--     Means words told a             the words mean it
use Rattle.std.specs.Prelude.{◌≡◌, ◌⊎◌, ℕ, ◌<◌, ◌≤◌, List, length, map, All, Option, Some, None, IsSome, IsSomeAnd}
use Rattle.std.specs.Prelude.{Result, Ok, Err}
use Rattle.std.specs.List.{AllZip}
use Rattle.def_file.specs.declared.FileFault.{FileFault}
use Rattle.def_file.specs.Content.{GameFile}
use Rattle.def_file.specs.declared.FileFault.TheVariants.{TooLong}
use Rattle.def_file.specs.Reading.{most_bytes}
use Rattle.def_cert_verdict.specs.Verdict.{Verdict}
use Rattle.def_canon.specs.Canon.{canon}
use Rattle.def_canon.specs.Poker.{poker}
use Rattle.def_check.specs.Check.{Refusal, most_cert_bytes}
use Rattle.def_check.specs.Checking.{Checks}
use Rattle.def_check.specs.Accepted.{IsAccepted}
use Rattle.def_batch.specs.Batch.{BatchEntry, Kept, Long, batch_room}
use Rattle.def_batch.specs.Laws.{HaveEntries}
use Rattle.def_command.specs.Grammar.{Batch, Check, Command, Drill, Gen, Info, Plus, Solve, Upgrade}
use Rattle.def_command.specs.declared.Settings.{Settings}
use Rattle.def_command.specs.Grammar.{command_of_words, named_files}
use Rattle.def_program.specs.Text.{info_text}
use Rattle.def_program.specs.BatchText.{parts_text}
use Rattle.def_program.specs.TextLines.{fault_line}
use Rattle.def_program.specs.CheckLines.{cert_long_line, check_text, upgraded_text}
use Rattle.def_plus.specs.declared.Variant.TheVariants as variants
use Rattle.def_program.specs.Program.{Answer, check_answer, played, refusal, solved, success, usage}
use Rattle.def_check.specs.FirstFault.{IsFirstFault}

-- a command that writes this text of the game of a file of these bytes: the text, or the line of the file's first fault
pub data FileMeans (text : GameFile → List ℕ) (bytes : List ℕ) (answer : Answer) : Type 0 where
  written : (game : GameFile) → IsAccepted bytes game → answer ≡ success (text game) → FileMeans text bytes answer
  refused : (fault : FileFault) → IsFirstFault bytes fault → answer ≡ refusal (fault_line fault)
      → FileMeans text bytes answer

-- a certificate that is too long, or what was found of both files and is said of it; this text is for one that is
-- accepted
pub data CertificateMeans (text : List ℕ → Verdict → List ℕ) (file certificate : List ℕ) (answer : Answer)
    : Type 0 where
  too_long : most_cert_bytes < length certificate → answer ≡ refusal cert_long_line
      → CertificateMeans text file certificate answer
  within : length certificate ≤ most_cert_bytes → (found : Result Verdict Refusal) → Checks file certificate found
      → answer ≡ check_answer (text certificate) found → CertificateMeans text file certificate answer

-- a check of a file of these bytes: one that is too long is refused, whatever the certificate
pub data CheckMeans (text : List ℕ → Verdict → List ℕ) (file : List ℕ) (certificate : Option (List ℕ))
    (answer : Answer) : Type 0 where
  file_too_long : most_bytes < length file → answer ≡ refusal (fault_line TooLong)
      → CheckMeans text file certificate answer
  file_within : length file ≤ most_bytes → IsSomeAnd certificate (λ bytes. CertificateMeans text file bytes answer)
      → CheckMeans text file certificate answer

-- a command that checks means something only where its file is told
abbrev pub BothMean : (List ℕ → Verdict → List ℕ) → Option (List ℕ) → Option (List ℕ) → Answer → Type 0
BothMean text file certificate answer = IsSomeAnd file (λ bytes. CheckMeans text bytes certificate answer)

-- an item is what an entry stands for: the game of an accepted file, or the first fault of one that isn't
abbrev pub IsItemOfEntry : BatchEntry → Result GameFile FileFault → Type 0
IsItemOfEntry (Kept bytes) (Ok game) = IsAccepted bytes game
IsItemOfEntry (Kept bytes) (Err fault) = IsFirstFault bytes fault
IsItemOfEntry Long item = item ≡ Err TooLong

-- files of these bytes: each is kept, or too long for the room that the earlier ones leave, and the text has a part for
-- each in their order, whatever the others are
pub record BatchMeans (settings : Settings) (files : List (List ℕ)) (answer : Answer) : Type 0 where
  pub entries : List BatchEntry
  pub items : List (Result GameFile FileFault)
  pub have : HaveEntries batch_room files entries
  pub stand : AllZip IsItemOfEntry entries items
  pub text : answer ≡ success (parts_text settings 1 items)

-- a batch means something only where all its files are told
abbrev pub AllMean : Settings → List (Option (List ℕ)) → Answer → Type 0
AllMean settings contents answer = (files : List (List ℕ)) × (contents ≡ map Some files)
    × BatchMeans settings files answer

-- `gen` means the canonical form of one-card poker, and `drill` what `solve` means of a file of these bytes
abbrev pub CommandMeans : Command → (List ℕ → Option (List ℕ)) → Answer → Type 0
CommandMeans (Solve file settings rows) told answer =
    IsSomeAnd (told file) (λ bytes. FileMeans (solved settings) bytes answer)
CommandMeans (Info file) told answer = IsSomeAnd (told file) (λ bytes. FileMeans info_text bytes answer)
CommandMeans (Check file certificate) told answer = BothMean check_text (told file) (told certificate) answer
CommandMeans (Upgrade file certificate) told answer = BothMean upgraded_text (told file) (told certificate) answer
CommandMeans (Gen cards) told answer = answer ≡ success (canon (poker cards))
CommandMeans (Drill cards settings rows) told answer = FileMeans (solved settings) (canon (poker cards)) answer
CommandMeans (Plus file settings rows) told answer =
    IsSomeAnd (told file) (λ bytes. FileMeans (played variants.Plus settings) bytes answer)
CommandMeans (Batch files settings workers) told answer = AllMean settings (map told files) answer

-- words that aren't taken mean the usage
abbrev pub IsMeant : Option Command → (List ℕ → Option (List ℕ)) → Answer → Type 0
IsMeant None told answer = answer ≡ usage
IsMeant (Some command) told answer = CommandMeans command told answer

abbrev pub Means : List (List ℕ) → (List ℕ → Option (List ℕ)) → Answer → Type 0
Means words told answer = IsMeant (command_of_words words) told answer

-- whatever answer the words mean has this property
abbrev pub EachMeant : (Answer → Type 0) → (Answer → Type 0) → Type 0
EachMeant meant P = (answer : Answer) → meant answer → P answer

-- no other answer is meant
abbrev pub MeansOnly : (Answer → Type 0) → Answer → Type 0
MeansOnly meant answer = (other : Answer) → meant other → other ≡ answer

-- each file that the words name is told
abbrev pub FilesAreTold : List (List ℕ) → (List ℕ → Option (List ℕ)) → Type 0
FilesAreTold words told = All (λ file. IsSome (told file)) (named_files words)

-- this status, or that of want of memory
abbrev pub EndsWith : ℕ → ℕ → Type 0
EndsWith status result = (result ≡ status) ⊎ (result ≡ 5)
