-- The core of draws and additions, for any number of passes and stripes.
use Rattle.std.specs.Prelude.{◌≡◌, ℕ, ◌<◌, ◌==◌, ◌&&◌, List, [], ◌∷◌, ◌++◌, length, map, All, Contains, count_by}
use Rattle.std.specs.Prelude.{sum_by, slice_index_or, slice_set, IsPermutation}
use Rattle.std.specs.List.{range_with_len}
use Rattle.def_history.specs.History.{job_numbers}

-- the right to add one job into one stripe
pub record Right : Type 0 where
  pub job : ℕ
  pub stripe : ℕ

-- the jobs that nobody has drawn, for each pass the rights that it holds, and for each stripe its history
pub record State : Type 0 where
  pub bag : List ℕ
  pub passes : List (List Right)
  pub histories : List (List ℕ)

abbrev pub stripe_count : State → ℕ
stripe_count state = length state.histories

abbrev pub rights_held : State → ℕ → List Right
rights_held state pass = slice_index_or state.passes pass []

abbrev pub history_of : State → ℕ → List ℕ
history_of state stripe = slice_index_or state.histories stripe []

-- the rights of a job, one for each stripe
abbrev pub rights_of : ℕ → ℕ → List Right
rights_of job stripes = map (λ stripe. record { job = job; stripe = stripe }) (range_with_len 0 stripes)

-- what is done under the bag's lock: a job leaves the bag, and who held no right gets the job's rights for all stripes
pub record TakesJob (stripes : ℕ) (bag : List ℕ) (held : List Right) (job : ℕ) (bag_after : List ℕ)
    (held_after : List Right) : Type 0 where
  pub held_none : held ≡ []
  pub leaves_bag : IsPermutation bag (job ∷ bag_after)
  pub gets_rights : IsPermutation (rights_of job stripes) held_after

-- what is done under one stripe's lock: the right to add the job there is given up,
-- and the job joins the history at its end
pub record GivesRight (stripe : ℕ) (history : List ℕ) (held : List Right) (job : ℕ) (history_after : List ℕ)
    (held_after : List Right) : Type 0 where
  pub gives_right : IsPermutation held (record { job = job; stripe = stripe } ∷ held_after)
  pub joins_history : history_after ≡ history ++ job ∷ []

-- a pass draws a job from the bag; all else stays
pub record Draws (before : State) (pass job : ℕ) (after : State) : Type 0 where
  pub is_pass : pass < length before.passes
  pub takes_job : TakesJob (stripe_count before) before.bag (rights_held before pass) job after.bag
      (rights_held after pass)
  pub other_passes : after.passes ≡ slice_set before.passes pass (rights_held after pass)
  pub histories : after.histories ≡ before.histories

-- a pass adds a job into a stripe; all else stays
pub record Adds (before : State) (pass job stripe : ℕ) (after : State) : Type 0 where
  pub is_pass : pass < length before.passes
  pub gives_up : GivesRight stripe (history_of before stripe) (rights_held before pass) job (history_of after stripe)
      (rights_held after pass)
  pub other_passes : after.passes ≡ slice_set before.passes pass (rights_held after pass)
  pub other_histories : after.histories ≡ slice_set before.histories stripe (history_of after stripe)
  pub bag : after.bag ≡ before.bag

pub data Step : Type 0 where
  draw : (pass job : ℕ) → Step
  add : (pass job stripe : ℕ) → Step

abbrev pub OneStepLeads : State → Step → State → Type 0
OneStepLeads before (draw pass job) after = Draws before pass job after
OneStepLeads before (add pass job stripe) after = Adds before pass job stripe after

-- a list of steps leads from one state to another
pub data StepsLead : State → List Step → State → Type 0 where
  none : {state : State} → StepsLead state [] state
  first : {before : State} {step : Step} {between : State} {steps : List Step} {after : State}
      → OneStepLeads before step between → StepsLead between steps after → StepsLead before (step ∷ steps) after

-- the bag has every job once, no pass holds a right, and the histories are empty
pub record IsOpening (jobs : ℕ) (state : State) : Type 0 where
  pub bag : IsPermutation (job_numbers jobs) state.bag
  pub passes : All (λ rights. rights ≡ []) state.passes
  pub histories : All (λ history. history ≡ []) state.histories

-- a list of steps from an opening leads to this state
abbrev pub IsReached : ℕ → State → Type 0
IsReached jobs state = (opening : State) × (steps : List Step) × IsOpening jobs opening × StepsLead opening steps state

-- who may hold a right: the bag, or one of the passes
pub data Holder : Type 0 where
  the_bag : Holder
  the_pass : (pass : ℕ) → Holder

-- the bag holds the rights of its jobs for all stripes
abbrev pub Holds : State → Holder → ℕ → ℕ → Type 0
Holds state the_bag job stripe = Contains state.bag job
Holds state (the_pass pass) job stripe = Contains (rights_held state pass) (record { job = job; stripe = stripe })

-- nobody holds the right any more
abbrev pub IsGivenUp : State → ℕ → ℕ → Type 0
IsGivenUp state job stripe = (holder : Holder) → ¬ Holds state holder job stripe

-- how often a right is in a list of rights, and how often the passes hold it
abbrev pub times_right : ℕ → ℕ → List Right → ℕ
times_right job stripe rights = count_by (λ (right : Right). (right.job == job) && (right.stripe == stripe)) rights

abbrev pub times_held : State → ℕ → ℕ → ℕ
times_held state job stripe = sum_by (λ rights. times_right job stripe rights) state.passes
