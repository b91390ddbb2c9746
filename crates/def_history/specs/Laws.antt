-- The laws of the core and of its histories.
use Rattle.std.specs.Prelude.{◌≡◌, ℕ, ℤ, ◌+◌, ◌<◌, ◌*◌, ◌↔◌, ◌⊎◌, List, [], length, All, Contains}
use Rattle.def_history.specs.History.{times, IsLegal, IsComplete, replay, sum_over_jobs, stripe_of, place_of}
use Rattle.def_history.specs.Core.{State, Draws, Holder, Holds, IsGivenUp, IsReached, history_of, rights_held}
use Rattle.def_history.specs.Core.{stripe_count, times_held}
use Rattle.def_history.specs.Ranges.{LeafRange, Partitions}
use Rattle.def_history.specs.Leaves.{amounts, sum_over_leaves}

-- any pass without rights can draw any job of the bag, and only such a pass draws
abbrev pub AnyPassWithoutRightsDraws : Type 0
AnyPassWithoutRightsDraws = (state : State) (pass job : ℕ) → pass < length state.passes
    → ((after : State) × Draws state pass job after) ↔ ((rights_held state pass ≡ []) × Contains state.bag job)

-- whatever steps were taken, every history is legal
abbrev pub HistoriesAreLegal : Type 0
HistoriesAreLegal = (jobs : ℕ) (state : State) → IsReached jobs state → All (IsLegal jobs) state.histories

-- and the bag has each job at most once, and nothing else
abbrev pub BagIsLegal : Type 0
BagIsLegal = (jobs : ℕ) (state : State) → IsReached jobs state → IsLegal jobs state.bag

-- for each job and stripe: times in the bag, rights held by passes, and times in the history, together one
abbrev pub EachRightCountsOnce : Type 0
EachRightCountsOnce = (jobs : ℕ) (state : State) → IsReached jobs state → (job stripe : ℕ) → job < jobs
    → stripe < stripe_count state
    → times job state.bag + times_held state job stripe + times job (history_of state stripe) ≡ 1

-- a right is held by one holder and no other, or given up
abbrev pub EachRightHasOneHolder : Type 0
EachRightHasOneHolder = (jobs : ℕ) (state : State) → IsReached jobs state → (job stripe : ℕ) → job < jobs
    → stripe < stripe_count state
    → ((holder : Holder) × Holds state holder job stripe
    × ((other : Holder) → Holds state other job stripe → other ≡ holder)) ⊎ IsGivenUp state job stripe

-- a right is given up exactly where the job is in that stripe's history
abbrev pub ARightIsGivenUpByAdding : Type 0
ARightIsGivenUpByAdding = (jobs : ℕ) (state : State) → IsReached jobs state → (job stripe : ℕ) → job < jobs
    → stripe < stripe_count state
    → IsGivenUp state job stripe ↔ Contains (history_of state stripe) job

-- no pass holds a right of what is no job or no stripe
abbrev pub PassesHoldRightsOfJobsAndStripes : Type 0
PassesHoldRightsOfJobsAndStripes = (jobs : ℕ) (state : State) → IsReached jobs state → (pass job stripe : ℕ)
    → Holds state (Holder.the_pass pass) job stripe
    → (job < jobs) × (stripe < stripe_count state)

-- with the bag empty and no right held, every history is complete
abbrev pub IsAtEnd : State → Type 0
IsAtEnd state = (state.bag ≡ []) × All (λ rights. rights ≡ []) state.passes

abbrev pub HistoriesEndComplete : Type 0
HistoriesEndComplete = (jobs : ℕ) (state : State) → IsReached jobs state → IsAtEnd state
    → All (IsComplete jobs) state.histories

-- and then each row's replay, in the stripe that has the row, is the plain sum over all jobs
abbrev pub RowsEndAsPlainSums : Type 0
RowsEndAsPlainSums = (jobs : ℕ) (state : State) → IsReached jobs state → IsAtEnd state → 0 < stripe_count state
    → (amount : ℕ → ℕ → ℤ) (row : ℕ)
    → replay amount (history_of state (stripe_of (stripe_count state) row)) row ≡ sum_over_jobs amount jobs row

-- a history that is legal and complete, in whatever order, replays to the plain sum
abbrev pub CompleteHistoriesReplayToPlainSums : Type 0
CompleteHistoriesReplayToPlainSums = (jobs : ℕ) (history : List ℕ) → IsLegal jobs history → IsComplete jobs history
    → (amount : ℕ → ℕ → ℤ) (row : ℕ) → replay amount history row ≡ sum_over_jobs amount jobs row

-- a row is at its place of its stripe and nowhere else
pub record LiesOnce (stripes row : ℕ) : Type 0 where
  pub stripe : stripe_of stripes row < stripes
  pub there : place_of stripes row * stripes + stripe_of stripes row ≡ row
  pub alone : (stripe place : ℕ) → stripe < stripes → place * stripes + stripe ≡ row
      → (stripe ≡ stripe_of stripes row) × (place ≡ place_of stripes row)

abbrev pub EachRowHasOnePlace : Type 0
EachRowHasOnePlace = (stripes row : ℕ) → 0 < stripes → LiesOnce stripes row

-- where the jobs' leaves are all leaves, each once, the jobs' amounts at a row add up to the plain sum over all leaves
abbrev pub JobsAddUpToLeaves : Type 0
JobsAddUpToLeaves = (leaf_amount : ℕ → ℕ → ℤ) (ranges : List LeafRange) (leaves : ℕ) → Partitions ranges leaves
    → (row : ℕ)
    → sum_over_jobs (amounts leaf_amount ranges) (length ranges) row ≡ sum_over_leaves leaf_amount leaves row

-- so the replays at the end are the plain sums over all leaves
abbrev pub RowsEndAsLeafSums : Type 0
RowsEndAsLeafSums = (leaf_amount : ℕ → ℕ → ℤ) (ranges : List LeafRange) (leaves : ℕ) → Partitions ranges leaves
    → (state : State) → IsReached (length ranges) state → IsAtEnd state → 0 < stripe_count state
    → (row : ℕ)
    → replay (amounts leaf_amount ranges) (history_of state (stripe_of (stripe_count state) row)) row
    ≡ sum_over_leaves leaf_amount leaves row
