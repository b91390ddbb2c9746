-- Ranges in plain numbers.
use Rattle.std.specs.Prelude.{◌≡◌, ◌↔◌, ℕ, ◌≤◌, List, length, Some, None}
use Rattle.def_reply.specs.Offers.{most_divisor}
use Rattle.def_command.specs.declared.Settings.{Settings}
use Rattle.def_command.specs.GrammarLaws.{CardsInRange, FilesInRange, InPlusRange, InRange}
use Rattle.def_command.specs.Table.{Batch, Workers, default_number}

pub record IsWithin (rounds scale : ℕ) (settings : Settings) : Type 0 where
  pub few_rounds : settings.rounds ≤ rounds
  pub some_every : 1 ≤ settings.every
  pub small_every : settings.every ≤ 65536
  pub some_scale : 1 ≤ settings.scale
  pub small_scale : settings.scale ≤ scale

pub record RangesAreRead : Type 0 where
  pub plain : (settings : Settings) → InRange settings None ↔ IsWithin 65536 1048576 settings
  pub plus : (settings : Settings) → InPlusRange settings None ↔ IsWithin 2048 16384 settings
  pub workers : (settings : Settings) (workers : ℕ)
      → InRange settings (Some workers) ↔ (IsWithin 65536 1048576 settings × (1 ≤ workers) × (workers ≤ 64))
  pub plus_workers : (settings : Settings) (workers : ℕ)
      → InPlusRange settings (Some workers) ↔ (IsWithin 2048 16384 settings × (1 ≤ workers) × (workers ≤ 64))
  pub files : (files : List (List ℕ)) → FilesInRange files ↔ ((1 ≤ length files) × (length files ≤ 16))
  pub cards : (cards : ℕ) → CardsInRange cards ↔ ((2 ≤ cards) × (cards ≤ 64))
  pub workers_of_batch : default_number Batch Workers 0 ≡ 4
  pub divisor : most_divisor ≡ 4194304
