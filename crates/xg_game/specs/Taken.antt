-- What becomes of a `GameMaker` that takes an entry, or refuses it.
use Rattle.std.specs.Prelude.{◌≡◌, ◌↔◌, true, Some, None, Err, Result, OnOk}
use Rattle.def_file.specs.Adding.{with_record}
use Rattle.def_file.specs.Content.{Record}
use Rattle.def_file.specs.Faults.{record_fault}
use Rattle.def_file.specs.declared.FileFault.{FileFault}
use Rattle.xg_game.specs.Made.{Made}
use Rattle.xg_game.specs.declared.fault.Refused.{Refused}
use Rattle.xg_game.specs.declared.fault.Refused.TheVariants.{File, NoMemory}

pub record IsTaken {X : Type 0} (old : Made) (entry : Record) (result : Result X Refused) (new : Made) : Type 0 where
  pub ok : OnOk result (new ≡ record old { contents = with_record old.contents entry })
  pub accepted : OnOk result (record_fault old.contents entry ≡ None)
  pub refused : (fault : FileFault) → result ≡ Err (File fault)
      → (record_fault old.contents entry ≡ Some fault) × (new ≡ old)
  pub faults : (fault : FileFault) → record_fault old.contents entry ≡ Some fault → result ≡ Err (File fault)
  pub spent : (result ≡ Err NoMemory) ↔ (new.spent ≡ true)
  pub prologue : new.prologue ≡ old.prologue
