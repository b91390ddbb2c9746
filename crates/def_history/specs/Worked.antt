-- A worked run of the core: two jobs, one pass, two stripes.
use Rattle.std.specs.Prelude.{List, [], ◌∷◌}
use Rattle.def_history.specs.Core.{State, Step, draw, add, StepsLead, IsOpening}
use Rattle.def_history.specs.Ranges.{Partitions}

-- nothing is drawn yet
abbrev pub two_jobs : State
two_jobs = record { bag = 0 ∷ 1 ∷ []; passes = [] ∷ []; histories = [] ∷ [] ∷ [] }

-- each job drawn once and added into both stripes, once from the second stripe on
abbrev pub all_steps : List Step
all_steps = draw 0 0 ∷ add 0 0 1 ∷ add 0 0 0 ∷ draw 0 1 ∷ add 0 1 0 ∷ add 0 1 1 ∷ []

abbrev pub all_added : State
all_added = record { bag = []; passes = [] ∷ []; histories = (0 ∷ 1 ∷ []) ∷ (0 ∷ 1 ∷ []) ∷ [] }

abbrev pub TwoJobsRunToTheEnd : Type 0
TwoJobsRunToTheEnd = IsOpening 2 two_jobs × StepsLead two_jobs all_steps all_added

-- a job of two leaves and one of one leaf have all three leaves
abbrev pub TwoJobsHaveThreeLeaves : Type 0
TwoJobsHaveThreeLeaves = Partitions (record { first = 0; count = 2 } ∷ record { first = 2; count = 1 } ∷ []) 3
