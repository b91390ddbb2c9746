-- How a command ends on the file that was loaded, whose content may be told.
use Rattle.std.proofs.Common.{◌≡◌, ℕ, ◌<◌, List, Option, Some, None, Result, Ok, Err, refl, sym, ◌∙◌, ap, subst}
use Rattle.std.specs.Prelude.{IfSome, IsSomeAnd}
use Rattle.def_outside.specs.Calls.{FilesCall, SinkCall, HasNoFault, IsUntouched, HasFailedOnce, Wrote, WroteFront}
use Rattle.def_file.specs.declared.FileFault.{FileFault}
use Rattle.def_file.specs.declared.FileFault.TheVariants.{TooLong}
use Rattle.def_file.specs.Content.{GameFile}
use Rattle.def_file.specs.Reading.{most_bytes}
use Rattle.def_check.specs.Accepting.{read_as_accepted}
use Rattle.def_program.specs.Program.{game_answer, refusal, success}
use Rattle.def_program.specs.Meaning.{FileMeans, MeansOnly}
use Rattle.def_program.specs.Lines.{of_file}
use Rattle.def_program.specs.TextLines.{fault_line}
use Rattle.def_program.proofs.Meant.{file_computed}
use Rattle.xg_load.specs.declared.loading.LoadFault.{LoadFault}
use Rattle.xg_load.specs.declared.loading.LoadFault.TheVariants as faults
use Rattle.xg_load.specs.declared.ending.Ending.{Ending}
use Rattle.xg_load.specs.declared.ending.Ending.TheVariants.{Done, Refused, ReadFault, WriteFault, NoMemory}
use Rattle.xg_load.specs.Loads.{Loads, LoadHasCause}
use Rattle.xg_load.specs.Endings.{IsLineIfRoom, IsUnloaded, Tells}
use Rattle.xg_run.specs.Concludes.{Concludes, FileTold, IsCut, IsDone}

module _ (text : GameFile → List ℕ) (content : Option (List ℕ)) where
  -- only the answer of what was loaded is meant
  loaded_means : (r : Result GameFile FileFault) → IfSome content (λ bytes. read_as_accepted bytes ≡ r)
      → MeansOnly (FileTold text content) (game_answer text r)
  loaded_means r is answer means = by_content content is means
    where
      by_content : (told : Option (List ℕ)) → IfSome told (λ bytes. read_as_accepted bytes ≡ r)
          → IsSomeAnd told (λ bytes. FileMeans text bytes answer) → answer ≡ game_answer text r
      by_content None is means = absurd means
      by_content (Some bytes) is means = sym (file_computed text bytes answer means) ∙ ap (game_answer text) is

  module _ (files : FilesCall) (out : SinkCall) (read : HasNoFault files.faults) (game : GameFile)
      (loaded : Loads content (Ok game)) (bytes : List ℕ) (is : bytes ≡ text game) where
    means_text : MeansOnly (FileTold text content) (success bytes)
    means_text answer means = loaded_means (Ok game) loaded answer means ∙ ap success (sym is)

    -- the text of an accepted game was written, or cut off
    pub done : HasNoFault out.faults → Wrote out bytes → IsDone (FileTold text content) files out
    done written wrote = record { text = bytes; means = means_text; read = read; written = written; wrote = wrote }

    pub cut_off : HasFailedOnce out.faults → WroteFront out bytes → IsCut (FileTold text content) files out
    cut_off cause front = record { text = bytes; means = means_text; read = read; cause = cause; front = front }

    -- the same by the end of a run on the game
    pub ended : (ending : Ending) → Tells bytes out ending → Concludes ⊥ (FileTold text content) files out ending
    ended Done tells = done tells.0 tells.1
    ended WriteFault tells = cut_off tells.0 tells.1
    ended NoMemory untouched = untouched
    ended (Refused line) tells = absurd tells
    ended ReadFault tells = absurd tells

  module _ (files : FilesCall) (out : SinkCall) (untouched : IsUntouched out) where
    refused : (fault : FileFault) (ending : Ending) → IsLineIfRoom (fault_line fault) ending
        → Loads content (Err (faults.Refused fault)) → (fault ≡ TooLong → most_bytes < files.taken)
        → HasNoFault files.faults → Concludes ⊥ (FileTold text content) files out ending
    refused fault (Refused line) is loaded counted read = record {
      means = λ answer means. loaded_means (Err fault) loaded answer means ∙ ap refusal (sym is);
      fits = of_file fault refl is counted;
      read = read;
      untouched = untouched;
    }
    refused fault NoMemory is loaded counted read = untouched
    refused fault Done is loaded counted read = absurd is
    refused fault ReadFault is loaded counted read = absurd is
    refused fault WriteFault is loaded counted read = absurd is

    -- no game was loaded: the file has this first fault, the files failed, or memory ran out
    pub turned_down : (why : LoadFault) (ending : Ending) → IsUnloaded why ending → Loads content (Err why)
        → (why ≡ faults.Refused TooLong → most_bytes < files.taken)
        → LoadHasCause {T = GameFile} files.faults.before files.faults.now (Err why)
        → Concludes ⊥ (FileTold text content) files out ending
    turned_down (faults.Refused fault) ending is loaded counted cause =
        refused fault ending is loaded (λ e. counted (ap faults.Refused e)) cause
    turned_down faults.ReadFault ending is loaded counted cause =
        subst (λ (e : Ending). Concludes ⊥ (FileTold text content) files out e) (sym is)
        (record { cause = cause; untouched = untouched })
    turned_down faults.NoMemory ending is loaded counted cause =
        subst (λ (e : Ending). Concludes ⊥ (FileTold text content) files out e) (sym is) untouched
