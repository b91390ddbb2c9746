-- What is answered, by the form of a file and by its first fault.
use Rattle.std.proofs.Common.{◌≡◌, ◌≢◌, List, ℕ, Result, Ok, Err, sym, ◌∙◌}
use Rattle.std.specs.Prelude.{IfOk}
use Rattle.def_file.specs.declared.FileFault.{FileFault}
use Rattle.def_file.specs.declared.FileFault.TheVariants.{TooLong}
use Rattle.def_file.specs.Content.{GameFile}
use Rattle.def_file.specs.Reading.{game_at}
use Rattle.def_file.proofs.AnyLength.{game_any_length}
use Rattle.def_file_form.specs.Laws.{StandsFor, AcceptedIsFile, FileIsAccepted}
use Rattle.def_file_form.specs.First.{FirstFault}
use Rattle.def_file_form.specs.FaultLaws.{FileFaultIsFirst, FirstIsFileFault}
use Rattle.xg_game.specs.declared.fault.Refused.{Refused}
use Rattle.xg_game.specs.declared.fault.Refused.TheVariants.{File, NoMemory}
use Rattle.xg_game.specs.Refusals.{Answers}

-- a game that is answered is the one that the bytes stand for
pub answer_found : AcceptedIsFile → (bytes : List ℕ) (answer : Result GameFile Refused) → Answers answer (game_at bytes)
    → IfOk answer (λ game. StandsFor bytes game)
answer_found law bytes (Ok game) h = law bytes game h
answer_found law bytes (Err (File fault)) h = tt
answer_found law bytes (Err NoMemory) h = tt

-- the answer is what another reading gives, where that is the same
answer_as : (answer : Result GameFile Refused) (read other : Result GameFile FileFault) → Answers answer read
    → read ≡ other → Answers answer other
answer_as (Ok game) read other h same = sym same ∙ h
answer_as (Err (File fault)) read other h same = sym same ∙ h
answer_as (Err NoMemory) read other h same = tt

-- where the bytes stand for a game, it is the answer, unless memory runs out
pub answer_only : FileIsAccepted → (bytes : List ℕ) (answer : Result GameFile Refused) → Answers answer (game_at bytes)
    → (game : GameFile) → StandsFor bytes game → Answers answer (Ok game)
answer_only law bytes answer h game stands = answer_as answer (game_at bytes) (Ok game) h (law bytes game stands)

-- a fault that is answered is the first one of the file
pub answer_first : FileFaultIsFirst → (bytes : List ℕ) (answer : Result GameFile Refused)
    → Answers answer (game_at bytes) → (fault : FileFault) → answer ≡ Err (File fault) → FirstFault bytes fault
answer_first law bytes (Ok game) h fault e = cc
answer_first law bytes (Err NoMemory) h fault e = cc
answer_first law bytes (Err (File other)) h fault e =
    let same : other ≡ fault = cc in
    law bytes fault (h ∙ (λ i. Err (same i)))

-- where a file has a first fault, it is the answer, unless memory runs out
pub answer_faults : FirstIsFileFault → (bytes : List ℕ) (answer : Result GameFile Refused)
    → Answers answer (game_at bytes) → (fault : FileFault) → FirstFault bytes fault → Answers answer (Err fault)
answer_faults law bytes answer h fault first = answer_as answer (game_at bytes) (Err fault) h (law bytes fault first)

-- no file is refused as too long
pub answer_any_length : (bytes : List ℕ) (answer : Result GameFile Refused) → Answers answer (game_at bytes)
    → answer ≢ Err (File TooLong)
answer_any_length bytes (Ok game) h e = cc
answer_any_length bytes (Err NoMemory) h e = cc
answer_any_length bytes (Err (File fault)) h e = game_any_length bytes (h
    ∙ (let same : ◌≡◌ {A = Result GameFile Refused} (Err (File fault)) (Err (File TooLong)) = e in cc))
