-- Reading stops exactly with the first fault.
use Rattle.std.specs.Prelude.{◌≡◌, ℕ, List, Err}
use Rattle.def_file.specs.declared.FileFault.{FileFault}
use Rattle.def_file.specs.Reading.{game_at}
use Rattle.def_file_form.specs.First.{FirstFault}

-- where reading stops, its fault is the first fault of the file
abbrev pub FileFaultIsFirst : Type 0
FileFaultIsFirst = (bytes : List ℕ) (fault : FileFault) → game_at bytes ≡ Err fault → FirstFault bytes fault

-- where a file has a first fault, reading stops with it
abbrev pub FirstIsFileFault : Type 0
FirstIsFileFault = (bytes : List ℕ) (fault : FileFault) → FirstFault bytes fault → game_at bytes ≡ Err fault
