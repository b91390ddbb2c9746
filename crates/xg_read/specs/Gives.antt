-- What a reader gives, beside what reading the bytes gives by definition.
use Rattle.std.specs.Prelude.{◌≡◌, ℕ, List, Result, Ok, Err}
use Rattle.def_file.specs.declared.FileFault.{FileFault}
use Rattle.def_file.specs.Content.{Contents}
use Rattle.def_file.specs.Reading.{◌>>=◌, entry_at, judged}
use Rattle.xg_game.specs.declared.fault.Refused.{Refused}
use Rattle.xg_game.specs.declared.fault.Refused.TheVariants.{File, NoMemory}

-- a value with the place behind it, or the fault
abbrev pub Gives : {X : Type 0} → Result X FileFault → ℕ → Result (X × ℕ) FileFault → Type 0
Gives (Ok x) at read = read ≡ Ok (x, at)
Gives (Err fault) at read = read ≡ Err fault

-- the same of a value seen by `view`
abbrev pub GivesSeen : {X Y : Type 0} → (X → Y) → Result X FileFault → ℕ → Result (Y × ℕ) FileFault → Type 0
GivesSeen view (Ok x) at read = read ≡ Ok (view x, at)
GivesSeen view (Err fault) at read = read ≡ Err fault

-- and where memory may run out
abbrev pub GivesFor : {X Y : Type 0} → (X → Y) → Result X Refused → ℕ → Result (Y × ℕ) FileFault → Type 0
GivesFor view (Ok x) at read = read ≡ Ok (view x, at)
GivesFor view (Err (File fault)) at read = read ≡ Err fault
GivesFor view (Err NoMemory) at read = Unit {0}

-- the next entry, and what is known with it
abbrev pub next_at : Contents → List ℕ → ℕ → Result (Contents × ℕ) FileFault
next_at contents whole at = entry_at whole at >>= λ entry. judged contents entry.0 >>= λ next. Ok (next, entry.1)

-- what is known then, with the place behind the entry, or the fault, where memory may run out
abbrev pub GivesNext : {X : Type 0} → Result X Refused → Contents → ℕ → Result (Contents × ℕ) FileFault → Type 0
GivesNext (Ok _) contents at read = read ≡ Ok (contents, at)
GivesNext (Err (File fault)) contents at read = read ≡ Err fault
GivesNext (Err NoMemory) contents at read = Unit {0}
