-- What the words ask is within the limits of a run.
use Rattle.std.proofs.Common.{◌≡◌, ℕ, ◌≤◌, List, Option, Some, None, IfSome, arith}
use Rattle.std.specs.Prelude.{unwrap_or}
use Rattle.def_sums.specs.Limits.{most_workers}
use Rattle.def_plus.specs.declared.Variant.TheVariants as variants
use Rattle.def_command.specs.Grammar.{Batch, Drill, Plus, Solve, command_of_words}
use Rattle.def_command.specs.declared.RowSettings.{RowSettings}
use Rattle.def_command.specs.declared.Settings.{Settings}
use Rattle.def_command.specs.GrammarLaws.{InRange}
use Rattle.def_command.proofs.InRange.{settings_in_range}
use Rattle.xg_engine.specs.State.{AreWithinLimits}
use Rattle.xg_run.specs.Concludes.{IsAllowed}

-- what is in its range may be asked of plain rounds
in_range : (settings : Settings) (rows : RowSettings) → InRange settings rows.workers
    → IsAllowed variants.Plain settings rows
in_range settings rows range = record {
  limits = record {
    few_rounds = range.few_rounds;
    some_every = range.some_every;
    small_every = range.small_every;
    some_scale = range.some_scale;
    small_scale = range.small_scale;
  };
  some = range.some_workers;
  few = range.few_workers;
}

-- so may what the words ask of `solve`
pub solve_allowed : (words : List (List ℕ)) (file : List ℕ) (settings : Settings) (rows : RowSettings)
    → command_of_words words ≡ Some (Solve file settings rows) → IsAllowed variants.Plain settings rows
solve_allowed words file settings rows is =
    in_range settings rows (settings_in_range.of_solve words file settings rows is)

-- of `drill`
pub drill_allowed : (words : List (List ℕ)) (cards : ℕ) (settings : Settings) (rows : RowSettings)
    → command_of_words words ≡ Some (Drill cards settings rows) → IsAllowed variants.Plain settings rows
drill_allowed words cards settings rows is =
    in_range settings rows (settings_in_range.of_drill words cards settings rows is)

-- and of rounds of CFR+
pub plus_allowed : (words : List (List ℕ)) (file : List ℕ) (settings : Settings) (rows : RowSettings)
    → command_of_words words ≡ Some (Plus file settings rows) → IsAllowed variants.Plus settings rows
plus_allowed words file settings rows is =
    let range = settings_in_range.of_plus words file settings rows is in
    record {
      limits = record {
        few_rounds = range.few_rounds;
        some_every = range.some_every;
        small_every = range.small_every;
        some_scale = range.some_scale;
        small_scale = range.small_scale;
      };
      some = range.some_workers;
      few = range.few_workers;
    }

-- those of a batch are within the limits
pub batch_within : (words files : List (List ℕ)) (settings : Settings) (workers : Option ℕ)
    → command_of_words words ≡ Some (Batch files settings workers) → AreWithinLimits settings
batch_within words files settings workers is =
    let range = settings_in_range.of_batch words files settings workers is in
    record {
      few_rounds = range.few_rounds;
      some_every = range.some_every;
      small_every = range.small_every;
      some_scale = range.some_scale;
      small_scale = range.small_scale;
    }

-- and so is its number of workers, where one stands for a number that is absent
pub batch_workers_within : (words files : List (List ℕ)) (settings : Settings) (workers : Option ℕ)
    → command_of_words words ≡ Some (Batch files settings workers)
    → (1 ≤ unwrap_or workers 4) × (unwrap_or workers 4 ≤ most_workers)
batch_workers_within words files settings workers is =
    let range = settings_in_range.of_batch words files settings workers is in
    by_number workers range.some_workers range.few_workers
  where
    by_number : (workers : Option ℕ) → IfSome workers (λ number. 1 ≤ number)
        → IfSome workers (λ number. number ≤ most_workers)
        → (1 ≤ unwrap_or workers 4) × (unwrap_or workers 4 ≤ most_workers)
    by_number None some few = (omega arith, omega arith)
    by_number (Some number) some few = (some, few)
