-- What workers are before and after their work, and which inputs have room in words.
use Rattle.std.specs.Prelude.{◌≡◌, ℕ, ◌*◌, ◌<◌, ◌≤◌, ℤ, List, ◌∷◌, All, max}
use Rattle.atomic_table.specs.Seated.{TableId}
use Rattle.def_plan.specs.Form.{SequenceForm}
use Rattle.def_plan.specs.Payoff.{mass_of}
use Rattle.def_words.specs.Amounts.{LastIsComplete, past_sizes}
use Rattle.xg_rowcore.specs.Packets.{Listed}
use Rattle.xg_jobs.specs.Groups.{greatest_of}
use Rattle.xg_words.specs.Holdings.{WorkerClaims}

-- the sizes of all weights together, times the greatest number of both players, are small
abbrev pub HasSmallSums : SequenceForm → List ℕ → List ℕ → Type 0
HasSmallSums form numbers_one numbers_two =
    mass_of form.leaves * max (greatest_of numbers_one) (greatest_of numbers_two) < past_sizes

-- the worker can claim, and the packet has just the room
pub record IsReadyToClaim (table : TableId) (jobs rows : ℕ) (amount : ℕ → ℕ → ℤ) (room : ℕ) (worker : WorkerClaims)
    (packet : Listed) : Type 0 where
  pub here : worker.table ≡ table
  pub below : All (λ n. n < jobs) worker.numbers
  pub complete : LastIsComplete jobs rows amount worker.reached worker.numbers
  pub has_room : room ≡ packet.room

-- the worker's last number is no job's
pub record IsDoneClaiming (table : TableId) (jobs rows : ℕ) (amount : ℕ → ℕ → ℤ) (worker : WorkerClaims) : Type 0 where
  pub here : worker.table ≡ table
  pub complete : LastIsComplete jobs rows amount worker.reached worker.numbers
  pub last : ℕ
  pub earlier : List ℕ
  pub numbers_are : worker.numbers ≡ last ∷ earlier
  pub past : jobs ≤ last
