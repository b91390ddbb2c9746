-- What the files of a batch stand for.
use Rattle.std.proofs.Common.{◌≡◌, ℕ, ◌≤◌, List, length, Option, Some, None, Result, Ok, Err, refl, sym, ap, ◌∙◌, arith}
use Rattle.def_file.specs.declared.FileFault.{FileFault}
use Rattle.def_file.specs.declared.FileFault.TheVariants.{TooLong}
use Rattle.def_file.specs.Content.{GameFile}
use Rattle.def_file.specs.Reading.{game_at, most_bytes}
use Rattle.def_file.proofs.AnyLength.{game_any_length}
use Rattle.def_game_scale.specs.Faults.{GameFault, game_fault}
use Rattle.def_game_numbers.specs.Numbers.{as_file_fault, tables_of}
use Rattle.def_check.specs.Accepting.{accepted, unless_faulty}
use Rattle.def_check.proofs.Checked.{fault_any_length, read_within}
use Rattle.def_check.proofs.FileAccepted.{accepted_whole_file, first_refused}
use Rattle.def_batch.specs.Batch.{Kept, Long, batch_entries, batch_room, item_of}
use Rattle.def_batch.specs.Laws.{KeptFilesAreJudgedAlone, RefusedAsTooLong}
use Rattle.def_batch.proofs.Entries.{bytes_of_one, kept_within}

pub judged_alone : KeptFilesAreJudgedAlone
judged_alone bytes = record { accepted = accepted_whole_file bytes; refused = first_refused bytes }

-- no bytes within the limit are too long
accepted_any_length : (read : Result GameFile FileFault) → (read ≡ Err TooLong → ⊥) → accepted read ≡ Err TooLong → ⊥
accepted_any_length (Err fault) any is = let same : fault ≡ TooLong = cc in any (ap Err same)
accepted_any_length (Ok game) any is = faulty (game_fault (tables_of game) game.tree) is
  where
    faulty : (o : Option GameFault) → unless_faulty (as_file_fault o) game ≡ Err TooLong → ⊥
    faulty None is = cc
    faulty (Some found) is = fault_any_length found cc

pub short_any_length : (bytes : List ℕ) → length bytes ≤ most_bytes → item_of (Kept bytes) ≡ Err TooLong → ⊥
short_any_length bytes short is =
    accepted_any_length (game_at bytes) (game_any_length bytes) (ap accepted (sym (read_within bytes short)) ∙ is)

pub refused_long : RefusedAsTooLong
refused_long files i (Kept bytes) has = (
  λ is. absurd (short_any_length bytes
      (omega (arith, bytes_of_one (batch_entries batch_room files) i (Kept bytes) has, kept_within batch_room files)) is),
  λ same. absurd cc,
)
refused_long files i Long has = (λ is. refl, λ same. refl)
