-- `drill` is never refused.
use Rattle.std.specs.Prelude.{◌≡◌, ◌↔◌, ℕ, ◌≤◌, List, Option, Some}
use Rattle.def_canon.specs.Canon.{canon}
use Rattle.def_canon.specs.Poker.{poker}
use Rattle.def_check.specs.Accepted.{IsAccepted}
use Rattle.def_command.specs.Grammar.{Drill, command_of_words}
use Rattle.def_command.specs.declared.RowSettings.{RowSettings}
use Rattle.def_command.specs.declared.Settings.{Settings}
use Rattle.def_plus.specs.declared.Variant.TheVariants.{Plain}
use Rattle.def_program.specs.Bounds.{HasItsBounds}
use Rattle.def_program.specs.Meaning.{Means}
use Rattle.def_program.specs.Program.{Answer, program, solved, success}

-- with 2 to 64 cards the canonical form of one-card poker is accepted as one-card poker
abbrev pub PokerIsAccepted : Type 0
PokerIsAccepted = (n : ℕ) → 2 ≤ n → n ≤ 64 → IsAccepted (canon (poker n)) (poker n)

-- words of `drill` mean the text of `solve` for one-card poker and no other answer, and so `program` computes it,
-- whatever the files tell
pub record DrillSucceeds (words : List (List ℕ)) (told : List ℕ → Option (List ℕ)) (cards : ℕ) (settings : Settings)
    : Type 0 where
  pub meant : (answer : Answer) → Means words told answer ↔ (answer ≡ success (solved settings (poker cards)))
  pub computed : program words told ≡ Some (success (solved settings (poker cards)))

abbrev pub DrillsSucceed : Type 0
DrillsSucceed = (words : List (List ℕ)) (told : List ℕ → Option (List ℕ)) (cards : ℕ) (settings : Settings)
    (rows : RowSettings) → command_of_words words ≡ Some (Drill cards settings rows)
    → DrillSucceeds words told cards settings

-- one-card poker that was played for a round or more has its bounds, and they hold of it
abbrev pub DrillsHaveTheirBounds : Type 0
DrillsHaveTheirBounds = (words : List (List ℕ)) (cards : ℕ) (settings : Settings) (rows : RowSettings)
    → command_of_words words ≡ Some (Drill cards settings rows) → 1 ≤ settings.rounds
    → HasItsBounds Plain (poker cards) settings
