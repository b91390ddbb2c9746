-- In which order a worker visits the stripes, and which rights of a job are left on the way.
use Rattle.std.specs.Prelude.{◌≡◌, ℕ, ◌+◌, ◌-◌, ◌==◌, ◌&&◌, not, Bool, nat_lt, if◌then◌else◌, List}
use Rattle.def_history.specs.Core.{Right, times_right}

-- how many stripes a worker that begins at one visits before another
abbrev pub steps_to : ℕ → ℕ → ℕ → ℕ
steps_to stripes start stripe = if nat_lt stripe start then stripe + (stripes - start) else stripe - start

-- the stripe is not among the first so many that such a worker visits
abbrev pub is_left : ℕ → ℕ → ℕ → ℕ → Bool
is_left stripes start visits stripe = nat_lt stripe stripes && not (nat_lt (steps_to stripes start stripe) visits)

-- the rights of a job for the stripes that are left, each once
abbrev pub HoldsLeft : ℕ → ℕ → ℕ → ℕ → List Right → Type 0
HoldsLeft job stripes start visits rights = (j s : ℕ)
    → times_right j s rights ≡ (if (job == j) && is_left stripes start visits s then 1 else 0)
