-- Which names a command may ask the files for, in other words.
use Rattle.std.proofs.Common.{◌≡◌, ℕ, ◌<◌, ◌≤◌, Bool, List, [], ◌∷◌, length, Option, Some, None, sym, subst, arith}
use Rattle.std.specs.Prelude.{All, Contains, IsTrue}
use Rattle.std.proofs.lemmas.List.Elements.{All-nil, All-cons, All-contains, All-head, All-tail, Contains-get_or}
use Rattle.def_file.specs.Reading.{most_bytes}
use Rattle.def_command.specs.Grammar.{Batch, Check, Command, Drill, Gen, Info, Plus, Solve, Upgrade}
use Rattle.def_program.specs.Lines.{IsCheck}
use Rattle.def_program_opens.specs.MayOpen.{IsNotTooLong, MayOpen, MayOpenBoth}
use Rattle.def_program_opens.specs.Openings.{AsksForTwo, MayOpenEach, OpeningsAreRead}

-- a file is told to be too long, or it isn't
not_too_long : (content : Option (List ℕ)) (bytes : List ℕ) → content ≡ Some bytes → length bytes ≤ most_bytes
    → IsNotTooLong content
not_too_long content bytes is within = subst IsNotTooLong (sym is) within

too_long : (content : Option (List ℕ)) (bytes : List ℕ) → content ≡ Some bytes → most_bytes < length bytes
    → IsNotTooLong content → ⊥
too_long content bytes is long short = omega (arith, long, subst IsNotTooLong is short)

module _ (told : List ℕ → Option (List ℕ)) (may_open : List ℕ → Bool) where
  abbrev May : List ℕ → Type 0
  May name = IsTrue (may_open name)

  each : (files : List (List ℕ)) → (All May files → (name : List ℕ) → Contains files name → May name)
      × (((name : List ℕ) → Contains files name → May name) → All May files)
  each files = (
    λ all name there. All-contains May files name all there,
    λ named k d within. named _ (Contains-get_or files k d within),
  )

  none : (Unit {0} → (name : List ℕ) → Contains [] name → May name)
      × (((name : List ℕ) → Contains [] name → May name) → Unit {0})
  none = (λ u. (each []).0 (All-nil May), λ named. tt)

  one : (file : List ℕ) → (May file → (name : List ℕ) → Contains (file ∷ []) name → May name)
      × (((name : List ℕ) → Contains (file ∷ []) name → May name) → May file)
  one file = (
    λ may. (each (file ∷ [])).0 (All-cons May file [] may (All-nil May)),
    λ named. All-head May file [] ((each (file ∷ [])).1 named),
  )

  two : (file certificate : List ℕ)
      → (May file → May certificate → (name : List ℕ) → Contains (file ∷ certificate ∷ []) name → May name)
      × (((name : List ℕ) → Contains (file ∷ certificate ∷ []) name → May name) → May file × May certificate)
  two file certificate = (
    λ may and. (each (file ∷ certificate ∷ [])).0
        (All-cons May file (certificate ∷ []) may (All-cons May certificate [] and (All-nil May))),
    λ named. let all = (each (file ∷ certificate ∷ [])).1 named in (
      All-head May file (certificate ∷ []) all,
      All-head May certificate [] (All-tail May file (certificate ∷ []) all),
    ),
  )

  both : (file certificate : List ℕ) → IsNotTooLong (told file)
      → (MayOpenBoth told may_open file certificate
      → (name : List ℕ) → Contains (file ∷ certificate ∷ []) name → May name)
      × (((name : List ℕ) → Contains (file ∷ certificate ∷ []) name → May name)
      → MayOpenBoth told may_open file certificate)
  both file certificate short = (
    λ may. (two file certificate).0 may.0 (may.1 short),
    λ named. let found = (two file certificate).1 named in (found.0, λ _. found.1),
  )

  alone : (file certificate : List ℕ) → (IsNotTooLong (told file) → ⊥)
      → (MayOpenBoth told may_open file certificate → May file)
      × (May file → MayOpenBoth told may_open file certificate)
  alone file certificate long = (λ may. may.0, λ may. (may, λ short. absurd (long short)))

  others : (command : Option Command) → (IsCheck command → ⊥)
      → (MayOpen told may_open command → MayOpenEach may_open command)
      × (MayOpenEach may_open command → MayOpen told may_open command)
  others None unchecked = none
  others (Some (Solve file settings rows)) unchecked = one file
  others (Some (Plus file settings rows)) unchecked = one file
  others (Some (Batch files settings workers)) unchecked = each files
  others (Some (Check file certificate)) unchecked = absurd (unchecked tt)
  others (Some (Upgrade file certificate)) unchecked = absurd (unchecked tt)
  others (Some (Info file)) unchecked = one file
  others (Some (Gen cards)) unchecked = none
  others (Some (Drill cards settings rows)) unchecked = none

check_asks : AsksForTwo Check
check_asks = record {
  too_long = λ told may_open file certificate bytes is long.
      alone told may_open file certificate (too_long (told file) bytes is long);
  within = λ told may_open file certificate bytes is short.
      both told may_open file certificate (not_too_long (told file) bytes is short);
  untold = λ told may_open file certificate none.
      both told may_open file certificate (subst IsNotTooLong (sym none) tt);
}

upgrade_asks : AsksForTwo Upgrade
upgrade_asks = record {
  too_long = λ told may_open file certificate bytes is long.
      alone told may_open file certificate (too_long (told file) bytes is long);
  within = λ told may_open file certificate bytes is short.
      both told may_open file certificate (not_too_long (told file) bytes is short);
  untold = λ told may_open file certificate none.
      both told may_open file certificate (subst IsNotTooLong (sym none) tt);
}

pub openings : OpeningsAreRead
openings = record { others = others; check = check_asks; upgrade = upgrade_asks }
