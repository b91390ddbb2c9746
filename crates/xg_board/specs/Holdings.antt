-- What passes and the purse hold.
use Rattle.std.specs.Prelude.{◌≡◌, ℕ, ◌+◌, ◌-◌, ◌≤◌, List, [], ◌∷◌}
use Rattle.atomic_table.specs.Table.{Me}
use Rattle.atomic_table.specs.Seated.{TableId}
use Rattle.def_sums.specs.Limits.{most_workers}
use Rattle.def_history.specs.Core.{Right}
use Rattle.xg_locked.specs.declared.view.View.{View}
use Rattle.xg_locked.specs.Rights.{seen, spent}

-- a pass: its worker, its rights, how many tickets it has, and the number of jobs and stripes that its seat has met
pub record Holding : Type 0 where
  pub worker : ℕ
  pub rights : List Right
  pub tickets : ℕ
  pub number : ℕ

abbrev pub view_of : List View → View
view_of [] = spent
view_of (v ∷ vs) = v

abbrev pub holding_of : ℕ → List View → Holding
holding_of worker views = record {
  worker = worker;
  rights = (view_of views).rights;
  tickets = (view_of views).tickets;
  number = (view_of views).number;
}

-- a pass's seat has one part
pub record IsSeatOfPass (named id : TableId) (views : List View) : Type 0 where
  pub here : id ≡ named
  pub view_is : views ≡ seen (view_of views).rights (view_of views).tickets 1 (view_of views).number ∷ []

-- a purse: how many passes it made, and the number that its seat has met
pub record PurseView : Type 0 where
  pub made : ℕ
  pub number : ℕ

-- a purse's seat has no right, and the tickets and parts of the passes that it can still make
pub record IsPurse (named id : TableId) (me : Me (Unit {0}) View) (made : ℕ) : Type 0 where
  pub here : id ≡ named
  pub me_is : me ≡ (seen [] (most_workers - made) (most_workers + 1 - made) me.0.number, [])
  pub few : made ≤ most_workers

abbrev pub tickets_of : List Holding → ℕ
tickets_of [] = 0
tickets_of (h ∷ hs) = h.tickets + tickets_of hs
