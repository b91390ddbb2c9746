-- Rights, tickets and parts: what seats hold of them, and their three sums over all views.
use Rattle.std.specs.Prelude.{◌≡◌, ℕ, ◌+◌, ◌*◌, ◌/◌, ◌%◌, ◌<◌, ◌≤◌, ◌&&◌, if◌then◌else◌, nat_lt, List, [], ◌∷◌, ◌++◌}
use Rattle.std.specs.Prelude.{map, slice_index}
use Rattle.std.specs.List.{flat_map}
use mathlib.Core.Option.{some}
use lib.ListN.{get_elem?}
use Rattle.def_sums.specs.Limits.{most_workers}
use Rattle.def_history.specs.History.{job_numbers}
use Rattle.def_history.specs.Core.{Right, rights_of, times_right}
use Rattle.xg_locked.specs.declared.view.TheConstants.{CODE_BASE}
use Rattle.xg_locked.specs.declared.view.View.{View}

-- word 0 is the number of jobs times this and the number of stripes, so it is above most_stripes
abbrev pub code_base : ℕ
code_base = CODE_BASE

-- the numbers of jobs and stripes that word 0 tells
abbrev pub job_count_of : ℕ → ℕ
job_count_of number = number / code_base

abbrev pub stripes_of : ℕ → ℕ
stripes_of number = number % code_base

abbrev pub number_from : ℕ → ℕ → ℕ
number_from jobs stripes = code_base * jobs + stripes

-- 1 for each right that there is
unfoldable pub once : ℕ → ℕ → ℕ → ℕ
once number job stripe = if nat_lt job (job_count_of number) && nat_lt stripe (stripes_of number) then 1 else 0

-- the rights of jobs for all stripes, and for one stripe
abbrev pub rights_for : List ℕ → ℕ → List Right
rights_for jobs stripes = flat_map (λ job. rights_of job stripes) jobs

abbrev pub rights_at : ℕ → List ℕ → List Right
rights_at stripe jobs = map (λ job. record { job = job; stripe = stripe }) jobs

-- the parts that are no stripe's: the bag's, the purse's, and one for each worker's pass
abbrev pub free_parts : ℕ
free_parts = most_workers + 2

-- a view of no seat any more
abbrev pub spent : View
spent = record { rights = []; tickets = 0; parts = 0; number = 0; met = 0 }

-- a view that has met its own number
abbrev pub seen : List Right → ℕ → ℕ → ℕ → View
seen rights tickets parts number =
    record { rights = rights; tickets = tickets; parts = parts; number = number; met = number }

-- the first seat's view
abbrev pub whole_view : ℕ → View
whole_view number =
    seen (rights_for (job_numbers (job_count_of number)) (stripes_of number)) most_workers
    (stripes_of number + free_parts) number

-- two views put together
abbrev pub both : View → View → View
both v w = record {
  rights = v.rights ++ w.rights;
  tickets = v.tickets + w.tickets;
  parts = v.parts + w.parts;
  number = v.number;
  met = w.number;
}

abbrev pub total_of : (View → ℕ) → List View → ℕ
total_of f [] = 0
total_of f (v ∷ vs) = f v + total_of f vs

-- a view with no part holds nothing, and every other has the number of word 0
pub record HoldsByNumber (number : ℕ) (v : View) : Type 0 where
  pub idle : v.parts ≡ 0 → (v.rights ≡ []) × (v.tickets ≡ 0)
  pub number_is : 0 < v.parts → (v.number ≡ number) × (v.met ≡ number)

-- the three sums
pub record Kept (number : ℕ) (views : List View) : Type 0 where
  pub rights : (job stripe : ℕ) → total_of (λ v. times_right job stripe v.rights) views ≡ once number job stripe
  pub tickets : total_of (λ v. v.tickets) views ≡ most_workers
  pub parts : total_of (λ v. v.parts) views ≡ stripes_of number + free_parts
  pub fits : (seat : ℕ) (v : View) → get_elem? views seat ≡ some v → HoldsByNumber number v

-- the rule of the table
pub record IsKept (number : ℕ) (words : List ℕ) (views : List View) : Type 0 where
  pub word : slice_index words 0 ≡ number
  pub kept : Kept number views

-- what a load tells a seat of its own view: no right twice, and with all parts all that there is
pub record IsLoaded (number : ℕ) (v : View) : Type 0 where
  pub number_is : (v.number ≡ number) × (v.met ≡ number)
  pub once_at_most : (job stripe : ℕ) → times_right job stripe v.rights ≤ once number job stripe
  pub tickets : v.tickets ≤ most_workers
  pub all_rights : v.parts ≡ stripes_of number + free_parts → (job stripe : ℕ)
      → times_right job stripe v.rights ≡ once number job stripe
  pub all_tickets : v.parts ≡ stripes_of number + free_parts → v.tickets ≡ most_workers

-- a view is cut in two: nothing is lost, and both have a part and the number
pub record IsCutInTwo (v kept given : View) : Type 0 where
  pub live : 0 < v.parts
  pub rights : (job stripe : ℕ)
      → times_right job stripe kept.rights + times_right job stripe given.rights ≡ times_right job stripe v.rights
  pub tickets : kept.tickets + given.tickets ≡ v.tickets
  pub parts : kept.parts + given.parts ≡ v.parts
  pub some_kept : 0 < kept.parts
  pub some_given : 0 < given.parts
  pub numbers : (kept.number ≡ v.number) × (kept.met ≡ v.number) × (given.number ≡ v.number) × (given.met ≡ v.number)
