-- What one actor does under one lock, and how its values tell the core: what it can't see there stays as it is.
use Rattle.std.specs.Prelude.{◌≡◌, ℕ, ℤ, ◌<◌, ◌≤◌, ◌==◌, ◌&&◌, ◌↔◌, nat_lt, if◌then◌else◌, List, length, slice_set}
use Rattle.std.specs.Prelude.{unsigned_abs, IsPermutation}
use Rattle.def_sums.specs.Sum.{nat_sum_over}
use Rattle.def_history.specs.History.{IsLegal, job_numbers, replay}
use Rattle.def_history.specs.Core.{State, Right, Draws, Adds, TakesJob, GivesRight, rights_held, rights_of, history_of}
use Rattle.def_history.specs.Core.{stripe_count, times_right}

-- the state where a pass holds other rights and the bag has other jobs,
-- and where it holds other rights and a stripe has another history
abbrev pub with_bag : State → ℕ → List ℕ → List Right → State
with_bag state pass bag held = record {
  bag = bag;
  passes = slice_set state.passes pass held;
  histories = state.histories;
}

abbrev pub with_history : State → ℕ → ℕ → List ℕ → List Right → State
with_history state pass stripe history held = record {
  bag = state.bag;
  passes = slice_set state.passes pass held;
  histories = slice_set state.histories stripe history;
}

-- whatever else the core's state is, what is done under the bag's lock is a draw,
-- and what is done under a stripe's lock an addition
pub record LocalStepsAreSteps : Type 0 where
  pub under_the_bag : (before : State) (pass job : ℕ) (bag : List ℕ) (held : List Right) → pass < length before.passes
      → TakesJob (stripe_count before) before.bag (rights_held before pass) job bag held
      → Draws before pass job (with_bag before pass bag held)
  pub under_a_stripe : (before : State) (pass job stripe : ℕ) (history : List ℕ) (held : List Right)
      → pass < length before.passes → stripe < stripe_count before
      → GivesRight stripe (history_of before stripe) (rights_held before pass) job history held
      → Adds before pass job stripe (with_history before pass stripe history held)

-- lists of rights are the same but for their order exactly where each right is in both equally often;
-- a job's rights are one for each stripe
pub record CountsTellRights : Type 0 where
  pub same : (a b : List Right)
      → IsPermutation a b ↔ ((job stripe : ℕ) → times_right job stripe a ≡ times_right job stripe b)
  pub of_a_job : (of stripes job stripe : ℕ)
      → times_right job stripe (rights_of of stripes) ≡ (if (of == job) && nat_lt stripe stripes then 1 else 0)

-- at each row a legal history leaves no more than the sizes of all jobs' amounts together
abbrev pub LegalReplaysAreSmall : Type 0
LegalReplaysAreSmall = (jobs : ℕ) (history : List ℕ) → IsLegal jobs history → (amount : ℕ → ℕ → ℤ) (row : ℕ)
    → unsigned_abs (replay amount history row) ≤ nat_sum_over (λ job. unsigned_abs (amount job row)) (job_numbers jobs)
