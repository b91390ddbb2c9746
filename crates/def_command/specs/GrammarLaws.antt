-- Which words are a call, and of which command.
use Rattle.std.specs.Prelude.{◌≡◌, ◌↔◌, ◌≤◌, List, length, ℕ, Option, Some, IfSome}
use Rattle.def_sums.specs.Limits.{most_rounds, most_scale, most_workers, least_cards, most_cards}
use Rattle.def_plus.specs.Limits.{most_plus_rounds, most_plus_scale}
use Rattle.def_command.specs.Table.{most_files}
use Rattle.def_command.specs.Grammar.{Command, Solve, Gen, Drill, Plus, Batch, command_of_words}
use Rattle.def_command.specs.declared.Settings.{Settings}
use Rattle.def_command.specs.declared.RowSettings.{RowSettings}
use Rattle.def_command.specs.Grammar.{IsCall}

-- the command that is computed is exactly the one that the words are a call of
abbrev pub CallsAreComputed : Type 0
CallsAreComputed =
    (words : List (List ℕ)) (command : Command) → (command_of_words words ≡ Some command) ↔ IsCall words command

-- words are a call of one command at most
abbrev pub WordsCallOne : Type 0
WordsCallOne =
    (words : List (List ℕ)) (first second : Command) → IsCall words first → IsCall words second → first ≡ second

-- the settings are in the ranges of their options, and so is the number of workers that is given
pub record InRange (settings : Settings) (workers : Option ℕ) : Type 0 where
  pub few_rounds : settings.rounds ≤ most_rounds
  pub some_every : 1 ≤ settings.every
  pub small_every : settings.every ≤ most_rounds
  pub some_scale : 1 ≤ settings.scale
  pub small_scale : settings.scale ≤ most_scale
  pub some_workers : IfSome workers (λ number. 1 ≤ number)
  pub few_workers : IfSome workers (λ number. number ≤ most_workers)

-- the same where rounds of CFR+ are played
pub record InPlusRange (settings : Settings) (workers : Option ℕ) : Type 0 where
  pub few_rounds : settings.rounds ≤ most_plus_rounds
  pub some_every : 1 ≤ settings.every
  pub small_every : settings.every ≤ most_rounds
  pub some_scale : 1 ≤ settings.scale
  pub small_scale : settings.scale ≤ most_plus_scale
  pub some_workers : IfSome workers (λ number. 1 ≤ number)
  pub few_workers : IfSome workers (λ number. number ≤ most_workers)

-- so they are in each command that is computed, settings given or not
pub record SettingsAreInRange : Type 0 where
  pub of_solve : (words : List (List ℕ)) (file : List ℕ) (settings : Settings) (rows : RowSettings)
      → command_of_words words ≡ Some (Solve file settings rows) → InRange settings rows.workers
  pub of_drill : (words : List (List ℕ)) (cards : ℕ) (settings : Settings) (rows : RowSettings)
      → command_of_words words ≡ Some (Drill cards settings rows) → InRange settings rows.workers
  pub of_plus : (words : List (List ℕ)) (file : List ℕ) (settings : Settings) (rows : RowSettings)
      → command_of_words words ≡ Some (Plus file settings rows) → InPlusRange settings rows.workers
  pub of_batch : (words : List (List ℕ)) (files : List (List ℕ)) (settings : Settings) (workers : Option ℕ)
      → command_of_words words ≡ Some (Batch files settings workers) → InRange settings workers

-- the number of files is in its range
pub record FilesInRange (files : List (List ℕ)) : Type 0 where
  pub some : 1 ≤ length files
  pub few : length files ≤ most_files

-- so it is in each batch that is computed
abbrev pub FilesAreInRange : Type 0
FilesAreInRange = (words : List (List ℕ)) (files : List (List ℕ)) (settings : Settings) (workers : Option ℕ)
    → command_of_words words ≡ Some (Batch files settings workers) → FilesInRange files

-- the number of cards is in its range
pub record CardsInRange (cards : ℕ) : Type 0 where
  pub some : least_cards ≤ cards
  pub few : cards ≤ most_cards

-- so it is in each command that is computed
pub record CardsAreInRange : Type 0 where
  pub of_gen : (words : List (List ℕ)) (cards : ℕ) → command_of_words words ≡ Some (Gen cards) → CardsInRange cards
  pub of_drill : (words : List (List ℕ)) (cards : ℕ) (settings : Settings) (rows : RowSettings)
      → command_of_words words ≡ Some (Drill cards settings rows) → CardsInRange cards
