-- Which games words play, and what is said of each.
use Rattle.std.specs.Prelude.{◌≡◌, ◌↔◌, ℕ, ◌+◌, ◌≤◌, List, ◌∷◌, ◌++◌, map, length, Option, Some, None, Result, Ok}
use Rattle.def_outside.specs.Calls.{SinkCall, Wrote}
use Rattle.def_file.specs.Content.{GameFile}
use Rattle.def_file.specs.declared.FileFault.{FileFault}
use Rattle.def_canon.specs.Poker.{poker}
use Rattle.def_cert_verdict.specs.Certificate.{PrintedBounds}
use Rattle.def_check.specs.Accepted.{IsAccepted}
use Rattle.def_game_numbers.specs.Weighed.{weighed_game}
use Rattle.def_plus.specs.declared.Variant.{Variant}
use Rattle.def_plus.specs.declared.Variant.TheVariants.{Plain}
use Rattle.def_plus.specs.declared.Variant.TheVariants as variants
use Rattle.def_command.specs.Grammar.{Batch, Check, Drill, Gen, Info, Plus, Solve, Upgrade}
use Rattle.def_command.specs.declared.RowSettings.{RowSettings}
use Rattle.def_command.specs.declared.Settings.{Settings}
use Rattle.def_command.specs.Grammar.{command_of_words}
use Rattle.def_program.specs.BatchText.{batch_items, file_line, parts_text}
use Rattle.def_cert_accepted.specs.Bounds.{BoundsHold}
use Rattle.def_program.specs.Bounds.{ForEachPlayed, IsPlayed, PlayedPart, game_bounds}
use Rattle.def_program.specs.Text.{played_text}

-- rounds of this variant on a game with these settings, the text of which stands alone
pub record IsAlone (variant : Variant) (asked : Settings) (part : PlayedPart) : Type 0 where
  pub by : part.variant ≡ variant
  pub with_these : part.settings ≡ asked
  pub none_before : length part.front ≡ 0
  pub none_behind : length part.back ≡ 0

-- plain rounds on one of the accepted files, with the parts of the others before and behind it, and its number's line
pub record IsAmong (asked : Settings) (contents : List (List ℕ)) (part : PlayedPart) : Type 0 where
  pub before : List (Result GameFile FileFault)
  pub behind : List (Result GameFile FileFault)
  pub items : batch_items contents ≡ before ++ Ok part.game ∷ behind
  pub by : part.variant ≡ Plain
  pub with_these : part.settings ≡ asked
  pub front : part.front ≡ parts_text asked 1 before ++ file_line (length before + 1)
  pub back : part.back ≡ parts_text asked (length before + 2) behind

-- `solve` and `plus` play the game of a file that is told and accepted, `drill` one-card poker, and `batch` each
-- accepted one of its files; they play no other, and other commands none
pub record PartsAreOfCommands (told : List ℕ → Option (List ℕ)) (part : PlayedPart) : Type 0 where
  pub solve : (file bytes : List ℕ) (asked : Settings) (rows : RowSettings) → told file ≡ Some bytes
      → IsPlayed (Some (Solve file asked rows)) told part ↔ (IsAccepted bytes part.game × IsAlone Plain asked part)
  pub plus : (file bytes : List ℕ) (asked : Settings) (rows : RowSettings) → told file ≡ Some bytes
      → IsPlayed (Some (Plus file asked rows)) told part
      ↔ (IsAccepted bytes part.game × IsAlone variants.Plus asked part)
  pub drill : (cards : ℕ) (asked : Settings) (rows : RowSettings)
      → IsPlayed (Some (Drill cards asked rows)) told part ↔ ((part.game ≡ poker cards) × IsAlone Plain asked part)
  pub batch : (files contents : List (List ℕ)) (asked : Settings) (workers : Option ℕ)
      → map told files ≡ map Some contents
      → IsPlayed (Some (Batch files asked workers)) told part ↔ IsAmong asked contents part
  pub untold : (file : List ℕ) (asked : Settings) (rows : RowSettings) → told file ≡ None
      → IsPlayed (Some (Solve file asked rows)) told part → ⊥
  pub check : (file certificate : List ℕ) → IsPlayed (Some (Check file certificate)) told part → ⊥
  pub upgrade : (file certificate : List ℕ) → IsPlayed (Some (Upgrade file certificate)) told part → ⊥
  pub info : (file : List ℕ) → IsPlayed (Some (Info file)) told part → ⊥
  pub gen : (cards : ℕ) → IsPlayed (Some (Gen cards)) told part → ⊥
  pub usage : IsPlayed None told part → ⊥

abbrev pub PartsAreOfTheirCommands : Type 0
PartsAreOfTheirCommands = (told : List ℕ → Option (List ℕ)) (part : PlayedPart) → PartsAreOfCommands told part

-- the game has bounds, they hold at the scale that is asked, and its text was written in its place
pub record IsWritten (out : SinkCall) (part : PlayedPart) : Type 0 where
  pub bounds : PrintedBounds
  pub are : game_bounds part.variant part.game part.settings ≡ Some bounds
  pub hold : BoundsHold (weighed_game part.game) part.variant part.settings.scale bounds
  pub wrote : Wrote out (part.front ++ (played_text part.variant part.game part.settings ++ part.back))

abbrev pub PartsAreRead : Type 0
PartsAreRead = (words : List (List ℕ)) (told : List ℕ → Option (List ℕ)) (out : SinkCall)
    → ForEachPlayed words told out BoundsHold
    ↔ ((part : PlayedPart) → IsPlayed (command_of_words words) told part → 1 ≤ part.settings.rounds
    → IsWritten out part)
