-- Plans that count several times in a sum.
use Rattle.std.specs.Prelude.{ℕ, ◌*◌, List, map}
use Rattle.def_plan.specs.Plan.{added}

-- so many times each number of a plan
abbrev pub multiple : ℕ → List ℕ → List ℕ
multiple times plan = map (λ n. times * n) plan

-- a sum to which a plan is added so many times
abbrev pub added_times : List ℕ → List ℕ → ℕ → List ℕ
added_times sum plan times = added sum (multiple times plan)
