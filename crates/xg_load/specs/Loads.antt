-- What loading a game answers, where the bytes of the file are told.
use Rattle.std.specs.Prelude.{◌≡◌, ℕ, List, Option, IfSome, Result, Ok, Err}
use Rattle.def_outside.specs.Cause.{RoseByOne}
use Rattle.def_file.specs.Content.{GameFile}
use Rattle.def_check.specs.Accepting.{read_as_accepted}
use Rattle.xg_load.specs.declared.loading.LoadFault.{LoadFault}
use Rattle.xg_load.specs.declared.loading.LoadFault.TheVariants.{ReadFault, Refused, NoMemory}

-- the game of an accepted file, or the file's first fault
abbrev pub Loads : Option (List ℕ) → Result GameFile LoadFault → Type 0
Loads told (Ok game) = IfSome told (λ bytes. read_as_accepted bytes ≡ Ok game)
Loads told (Err (Refused fault)) = IfSome told (λ bytes. read_as_accepted bytes ≡ Err fault)
Loads told (Err ReadFault) = Unit {0}
Loads told (Err NoMemory) = Unit {0}

-- exactly one fault is counted where the file can't be read, and else none
abbrev pub LoadHasCause : {T : Type 0} → ℕ → ℕ → Result T LoadFault → Type 0
LoadHasCause before now (Ok _) = now ≡ before
LoadHasCause before now (Err ReadFault) = RoseByOne before now
LoadHasCause before now (Err (Refused fault)) = now ≡ before
LoadHasCause before now (Err NoMemory) = now ≡ before
