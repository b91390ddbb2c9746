-- What the types under the locks keep of their seats.
use Rattle.std.specs.Prelude.{◌≡◌, ℕ, ◌<◌, ◌==◌, ◌&&◌, if◌then◌else◌, List, [], ◌∷◌, length, All}
use Rattle.atomic_table.specs.Table.{Me}
use Rattle.atomic_table.specs.Seated.{TableId}
use Rattle.def_history.specs.Core.{Right}
use Rattle.xg_locked.specs.declared.view.View.{View}
use Rattle.xg_locked.specs.Rights.{job_count_of, rights_at, rights_for, seen, stripes_of}
use Rattle.xg_rowcore.specs.Stripes.{StripeHistory}

-- the number of jobs and stripes that a seat has met
abbrev pub number_met : Me (Unit {0}) View → ℕ
number_met me = me.0.number

-- a list of rights without one of them
abbrev pub without : ℕ → ℕ → List Right → List Right
without job stripe [] = []
without job stripe (r ∷ rs) = if (r.job == job) && (r.stripe == stripe) then rs else r ∷ without job stripe rs

-- the bag's seat has one part and exactly the rights of the bag's jobs, and no ticket while there is one
pub record IsBag (named : TableId) (jobs : ℕ) (id : TableId) (me : Me (Unit {0}) View) (items : List ℕ) : Type 0 where
  pub here : id ≡ named
  pub me_is : me ≡ (seen (rights_for items (stripes_of (number_met me))) me.0.tickets 1 (number_met me), [])
  pub ticket : 0 < length items → me.0.tickets ≡ 0
  pub jobs_is : job_count_of (number_met me) ≡ jobs
  pub jobs_named : All (λ job. job < jobs) items

-- a stripe's seat has one part and exactly the rights of the jobs that were added there, and no ticket
pub record IsSeated (named : TableId) (id : TableId) (me : Me (Unit {0}) View) (history : StripeHistory) : Type 0 where
  pub here : id ≡ named
  pub me_is : me ≡ (seen (rights_at history.index history.order) 0 1 (number_met me), [])
  pub stripes : stripes_of (number_met me) ≡ history.stripes
