-- What `solve`, `drill` and `upgrade` write is accepted by `check`. Each law is the contract of a function of this
-- crate.
use Rattle.std.specs.Prelude.{◌≡◌, ℕ, ◌<◌, ◌≤◌, List, length, Option, Some, Ok, Err}
use Rattle.def_file.specs.Content.{GameFile}
use Rattle.def_file.specs.Reading.{most_bytes}
use Rattle.def_cert_verdict.specs.Certificate.{PrintedBounds}
use Rattle.def_cert_verdict.specs.Verdict.{Verdict, bracket, head_only}
use Rattle.def_cert_verdict.specs.Laws.{with_bounds}
use Rattle.def_cert_text.specs.Versions.{in_version_one}
use Rattle.def_cert_text.specs.CertText.{versioned_text}
use Rattle.def_cert_versions.specs.Verdict.{in_version_two}
use Rattle.def_check.specs.Accepted.{IsAccepted}
use Rattle.def_cert_text.specs.declared.fault.CertFault.TheVariants.{CertSyntax}
use Rattle.def_check.specs.Check.{checked, most_cert_bytes, of_certificate}
use Rattle.def_command.specs.Grammar.{Check, Drill, Gen, Solve, Upgrade, command_of_words}
use Rattle.def_command.specs.declared.RowSettings.{RowSettings}
use Rattle.def_command.specs.declared.Settings.{Settings}
use Rattle.def_command.specs.GrammarLaws.{InRange}
use Rattle.def_plus.specs.declared.Variant.TheVariants.{Plain, Plus}
use Rattle.def_program.specs.Text.{game_head, game_certificate, played_text, solve_text}
use Rattle.def_program.specs.CheckLines.{upgraded_text, verdict_text}
use Rattle.def_program.specs.Bounds.{game_bounds}
use Rattle.def_program.specs.Program.{program, success}

-- the text has the game's bounds, and is accepted with the low and the high one
pub record IsAcceptedWithBounds (file : List ℕ) (game : GameFile) (settings : Settings) : Type 0 where
  pub bounds : PrintedBounds
  pub are : game_bounds Plain game settings ≡ Some bounds
  pub text : solve_text game settings ≡ versioned_text (in_version_two (with_bounds (game_head game settings) bounds))
  pub shown : checked file (solve_text game settings) ≡ Ok (bracket bounds.low bounds.high)

-- what `solve` writes of an accepted file, with settings in their ranges, is accepted by a check of that file:
-- without a round by its head alone, and else with its bounds
pub record SolvedTextsAreAccepted : Type 0 where
  pub no_round : (file : List ℕ) (game : GameFile) (settings : Settings) (workers : Option ℕ) → IsAccepted file game
      → InRange settings workers → settings.rounds ≡ 0 → checked file (solve_text game settings) ≡ Ok head_only
  pub some_round : (file : List ℕ) (game : GameFile) (settings : Settings) (workers : Option ℕ) → IsAccepted file game
      → InRange settings workers → 1 ≤ settings.rounds → IsAcceptedWithBounds file game settings

-- the same certificate in a text of version 1
abbrev pub solve_text_in_one : GameFile → Settings → List ℕ
solve_text_in_one game settings =
    versioned_text (in_version_one (game_certificate Plain game settings))

-- two texts are accepted against a file, with one verdict
pub record AreAcceptedAlike (file bytes other : List ℕ) : Type 0 where
  pub shown : Verdict
  pub first : checked file bytes ≡ Ok shown
  pub second : checked file other ≡ Ok shown

-- so are the text of `solve` and the text of version 1 of the same certificate
abbrev pub OldTextsAreAccepted : Type 0
OldTextsAreAccepted = (file : List ℕ) (game : GameFile) (settings : Settings) (workers : Option ℕ)
    → IsAccepted file game → InRange settings workers
    → AreAcceptedAlike file (solve_text game settings) (solve_text_in_one game settings)

-- what is accepted against a file is within the limit of a certificate's bytes
abbrev pub AcceptedTextsAreShort : Type 0
AcceptedTextsAreShort = (file bytes : List ℕ) (shown : Verdict) → length file ≤ most_bytes
    → checked file bytes ≡ Ok shown → length bytes < most_cert_bytes

-- what `solve` writes of an accepted file is within the limit of a certificate's bytes
abbrev pub SolvedTextsAreShort : Type 0
SolvedTextsAreShort = (file : List ℕ) (game : GameFile) (settings : Settings) (workers : Option ℕ)
    → IsAccepted file game
    → InRange settings workers → length (solve_text game settings) < most_cert_bytes

-- what `plus` writes of a game is no certificate: a check against any accepted file finds its first byte wrong
abbrev pub PlusTextsAreRefused : Type 0
PlusTextsAreRefused = (file : List ℕ) (game played : GameFile) (settings : Settings) → IsAccepted file game
    → checked file (played_text Plus played settings) ≡ Err (of_certificate (CertSyntax 0))

-- the text is accepted against the file with this verdict, is its own upgrade, and is within the limit of a
-- certificate's bytes
pub record IsAcceptedAgain (file text : List ℕ) (shown : Verdict) : Type 0 where
  pub accepted : checked file text ≡ Ok shown
  pub again : upgraded_text text shown ≡ text
  pub short : length text < most_cert_bytes

-- so is the upgrade of each text that is accepted against a file, with the verdict on that
abbrev pub UpgradedTextsAreAcceptedAgain : Type 0
UpgradedTextsAreAcceptedAgain = (file bytes : List ℕ) (shown : Verdict) → length file ≤ most_bytes
    → checked file bytes ≡ Ok shown → IsAcceptedAgain file (upgraded_text bytes shown) shown

-- what is said of a certificate that is accepted
pub record IsTaken (words : List (List ℕ)) (told : List ℕ → Option (List ℕ)) : Type 0 where
  pub shown : Verdict
  pub said : program words told ≡ Some (success (verdict_text shown))

-- what `solve` wrote of a file's game is accepted by `check`, given a file that tells the same game and a file that
-- tells this text
abbrev pub WhatSolveWritesCheckAccepts : Type 0
WhatSolveWritesCheckAccepts = (words others : List (List ℕ)) (told after : List ℕ → Option (List ℕ))
    (path game_path text_path bytes text : List ℕ) (settings : Settings) (rows : RowSettings)
    → command_of_words words ≡ Some (Solve path settings rows) → told path ≡ Some bytes
    → program words told ≡ Some (success text)
    → command_of_words others ≡ Some (Check game_path text_path) → after game_path ≡ Some bytes
    → after text_path ≡ Some text → IsTaken others after

-- what `drill` wrote is accepted by `check`, given a file that tells what `gen` wrote for as many cards and a file
-- that tells this text
abbrev pub WhatDrillWritesCheckAccepts : Type 0
WhatDrillWritesCheckAccepts = (words makers others : List (List ℕ)) (told before after : List ℕ → Option (List ℕ))
    (game_path text_path bytes text : List ℕ) (cards : ℕ) (settings : Settings) (rows : RowSettings)
    → command_of_words words ≡ Some (Drill cards settings rows) → program words told ≡ Some (success text)
    → command_of_words makers ≡ Some (Gen cards) → program makers before ≡ Some (success bytes)
    → command_of_words others ≡ Some (Check game_path text_path) → after game_path ≡ Some bytes
    → after text_path ≡ Some text → IsTaken others after

-- what is said of a certificate and of its upgrade, and what `upgrade` writes of that
pub record IsTakenAgain (checkers again : List (List ℕ)) (after : List ℕ → Option (List ℕ)) (file bytes text : List ℕ)
    : Type 0 where
  pub shown : Verdict
  pub was : checked file bytes ≡ Ok shown
  pub said : program checkers after ≡ Some (success (verdict_text shown))
  pub same : program again after ≡ Some (success text)

-- what `upgrade` wrote of a certificate is accepted by `check` with the verdict on that certificate, and `upgrade`
-- writes just the same of it, given a file that tells the same game and a file that tells this text
abbrev pub WhatUpgradeWritesCheckAccepts : Type 0
WhatUpgradeWritesCheckAccepts = (words checkers again : List (List ℕ)) (told after : List ℕ → Option (List ℕ))
    (path cert_path game_path text_path file bytes text : List ℕ)
    → command_of_words words ≡ Some (Upgrade path cert_path) → told path ≡ Some file → told cert_path ≡ Some bytes
    → program words told ≡ Some (success text)
    → command_of_words checkers ≡ Some (Check game_path text_path)
    → command_of_words again ≡ Some (Upgrade game_path text_path) → after game_path ≡ Some file
    → after text_path ≡ Some text → IsTakenAgain checkers again after file bytes text
