-- What is written of a game that was played for at least one round: the bounds of both printed plans, in payoff units.
--     game_bounds variant game settings
--                                the bounds that are printed of it, where a round is played
--     HasItsBounds               they are there, and hold
--     PlayedPart, IsPlayed       a game that words play, with what is written before and behind its text
--     ForEachPlayed              what holds of the bounds that were written of the games that words play
use Rattle.std.specs.Prelude.{◌≡◌, ℕ, ◌+◌, ◌≤◌, List, [], ◌∷◌, ◌++◌, map, length, Option, Some, None, IsSomeAnd, Result}
use Rattle.std.specs.Prelude.{Ok}
use Rattle.def_outside.specs.Calls.{SinkCall, Wrote}
use Rattle.def_file.specs.declared.FileFault.{FileFault}
use Rattle.def_file.specs.Content.{GameFile}
use Rattle.def_plan.specs.Weighed.{WeighedGame}
use Rattle.def_cert_verdict.specs.Certificate.{PrintedBounds}
use Rattle.def_cert_verdict.specs.Laws.{with_bounds}
use Rattle.def_cert_accepted.specs.Bounds.{BoundsHold}
use Rattle.def_cert_versions.specs.Verdict.{in_version_two}
use Rattle.def_plus.specs.declared.Variant.{Variant}
use Rattle.def_plus.specs.declared.Variant.TheVariants as variants
use Rattle.def_command.specs.Grammar.{Batch, Check, Command, Drill, Gen, Info, Plus, Solve, Upgrade}
use Rattle.def_command.specs.declared.Settings.{Settings}
use Rattle.def_command.specs.Grammar.{command_of_words}
use Rattle.def_program.specs.BatchText.{batch_items, file_line, parts_text}
use Rattle.def_program.specs.Text.{game_head, game_certificate, played_text, text_of_variant}
use Rattle.def_canon.specs.Poker.{poker}
use Rattle.def_check.specs.Accepted.{IsAccepted}
use Rattle.def_game_numbers.specs.Weighed.{weighed_game}

-- the bounds in the numbers of what the rounds leave
abbrev pub game_bounds : Variant → GameFile → Settings → Option PrintedBounds
game_bounds variant game settings = (game_certificate variant game settings).bounds

-- the bounds that are printed of a game are there, and hold
pub record HasItsBounds (variant : Variant) (game : GameFile) (settings : Settings) : Type 0 where
  pub bounds : PrintedBounds
  pub are : game_bounds variant game settings ≡ Some bounds
  pub text : played_text variant game settings
      ≡ text_of_variant variant (in_version_two (with_bounds (game_head game settings) bounds))
  pub hold : BoundsHold (weighed_game game) variant settings.scale bounds

-- ---- the games that words play

-- rounds of this variant on this game with these settings, whose text has this before it and that behind it
pub record PlayedPart : Type 0 where
  pub variant : Variant
  pub game : GameFile
  pub settings : Settings
  pub front : List ℕ
  pub back : List ℕ

-- a game's text that is written alone
abbrev pub written_alone : Variant → GameFile → Settings → PlayedPart
written_alone variant game settings =
    record { variant = variant; game = game; settings = settings; front = []; back = [] }

-- the game of a batch that comes behind these items and before those: the lines with the files' numbers are counted on
abbrev pub written_between : Settings → List (Result GameFile FileFault) → GameFile → List (Result GameFile FileFault)
    → PlayedPart
written_between settings before game behind = record {
  variant = variants.Plain;
  game = game;
  settings = settings;
  front = parts_text settings 1 before ++ file_line (length before + 1);
  back = parts_text settings (length before + 2) behind;
}

-- an accepted file among these
pub record IsPartOf (settings : Settings) (files : List (List ℕ)) (part : PlayedPart) : Type 0 where
  pub before : List (Result GameFile FileFault)
  pub behind : List (Result GameFile FileFault)
  pub items : batch_items files ≡ before ++ Ok part.game ∷ behind
  pub is : part ≡ written_between settings before part.game behind

-- the command plays this: `solve` and `plus` the game of an accepted file, `drill` one-card poker, and `batch` each of
-- its files that is accepted
abbrev pub CommandPlays : Command → (List ℕ → Option (List ℕ)) → PlayedPart → Type 0
CommandPlays (Solve file asked rows) told part =
    IsSomeAnd (told file) (λ bytes. IsAccepted bytes part.game) × (part ≡ written_alone variants.Plain part.game asked)
CommandPlays (Check file certificate) told part = ⊥
CommandPlays (Upgrade file certificate) told part = ⊥
CommandPlays (Info file) told part = ⊥
CommandPlays (Gen cards) told part = ⊥
CommandPlays (Drill cards asked rows) told part = part ≡ written_alone variants.Plain (poker cards) asked
CommandPlays (Plus file asked rows) told part =
    IsSomeAnd (told file) (λ bytes. IsAccepted bytes part.game) × (part ≡ written_alone variants.Plus part.game asked)
CommandPlays (Batch files asked workers) told part =
    (contents : List (List ℕ)) × (map told files ≡ map Some contents) × IsPartOf asked contents part

abbrev pub IsPlayed : Option Command → (List ℕ → Option (List ℕ)) → PlayedPart → Type 0
IsPlayed None told part = ⊥
IsPlayed (Some command) told part = CommandPlays command told part

-- the text with the game's bounds was written in its place, and this holds of them
abbrev pub WroteBounds : (WeighedGame → Variant → ℕ → PrintedBounds → Type 0) → SinkCall → PlayedPart → Type 0
WroteBounds Holds out part = IsSomeAnd (game_bounds part.variant part.game part.settings)
    (λ b. Wrote out (part.front ++ (text_of_variant part.variant
    (in_version_two (with_bounds (game_head part.game part.settings) b)) ++ part.back))
    × Holds (weighed_game part.game) part.variant part.settings.scale b)

-- so it is for each game that the words play for at least one round
abbrev pub ForEachPlayed : List (List ℕ) → (List ℕ → Option (List ℕ)) → SinkCall
    → (WeighedGame → Variant → ℕ → PrintedBounds → Type 0) → Type 0
ForEachPlayed words told out Holds = (part : PlayedPart) → IsPlayed (command_of_words words) told part
    → 1 ≤ part.settings.rounds → WroteBounds Holds out part
