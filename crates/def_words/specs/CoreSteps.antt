-- What steps on the words are in the core of draws and additions, with one stripe and a pass for each seat: the jobs
-- from the claim word on are in the bag, and a worker holds the right of its last job while that isn't complete.
use Rattle.std.specs.Prelude.{◌≡◌, ℕ, zero, suc, ◌+◌, ◌-◌, ◌≤◌, ◌&&◌, ◌||◌, nat_lt, nat_le, if◌then◌else◌, Bool, true}
use Rattle.std.specs.Prelude.{false, ℤ, pos, negsuc, List, [], ◌∷◌, length, slice_index, slice_index_or}
use Rattle.std.specs.List.{range_with_len}
use Rattle.def_history.specs.Core.{Right, StepsLead, rights_of, stripe_count, draw, add as core_add}
use Rattle.def_history.specs.Core.{State as CoreState, Step as CoreStep, IsReached as IsReachedInCore}
use Rattle.def_history.specs.Core.{rights_held as rights_of_pass}
use Rattle.def_history.specs.Laws.{IsAtEnd}
use Rattle.def_words.specs.declared.view.View.{View}
use Rattle.def_words.specs.declared.view.View.TheVariants.{Owner, Worker, Spent}
use Rattle.def_words.specs.Amounts.{AreSmall}
use Rattle.def_words.specs.Rule.{AreWordsKept}
use Rattle.def_words.specs.Steps.{WordState, WordStep, claim, add, split, join, close, Closes, OneStepLeads}
use Rattle.def_words.specs.Steps.{AreWordsReached}

abbrev pub is_some_amount : ℤ → Bool
is_some_amount (pos zero) = false
is_some_amount (pos (suc n)) = true
is_some_amount (negsuc n) = true

-- a job has an amount that isn't 0 at a row from one on, among the first rows
abbrev pub has_left : (ℕ → ℕ → ℤ) → ℕ → ℕ → ℕ → Bool
has_left amount reached job zero = false
has_left amount reached job (suc row) = (nat_le reached row && is_some_amount (amount job row))
    || has_left amount reached job row

-- the jobs that nobody claimed
abbrev pub unclaimed : ℕ → ℕ → List ℕ
unclaimed jobs word = range_with_len word (jobs - word)

-- past the end there is no seat
abbrev pub view_at : WordState → ℕ → View
view_at state seat = slice_index_or state.views seat Spent

-- a view's last number
abbrev pub last_number : View → ℕ
last_number (Owner numbers made unjoined) = 0
last_number (Worker [] reached) = 0
last_number (Worker (n ∷ ns) reached) = n
last_number Spent = 0

module _ (jobs rows : ℕ) (amount : ℕ → ℕ → ℤ) where
  -- the rights of a worker with these numbers, the last one first
  abbrev pub rights_held : ℕ → List ℕ → List Right
  rights_held reached [] = []
  rights_held reached (n ∷ ns) = if nat_lt n jobs && has_left amount reached n rows then rights_of n 1 else []

  abbrev pub rights_in : View → List Right
  rights_in (Owner numbers made unjoined) = []
  rights_in (Worker numbers reached) = rights_held reached numbers
  rights_in Spent = []

  -- the core's state is that of the words and the views
  pub record Shows (state : WordState) (core : CoreState) : Type 0 where
    pub bag : core.bag ≡ unclaimed jobs (slice_index state.words 0)
    pub passes : (seat : ℕ) → rights_of_pass core seat ≡ rights_in (view_at state seat)
    pub stripes : stripe_count core ≡ 1
    pub seats : length state.views ≤ length core.passes

  -- a claim that answers a job draws it; where the job has no amount, it joins the history at once, and else with the
  -- last addition of an amount that isn't 0; no other step is one of the core
  abbrev pub core_steps : WordState → WordStep → List CoreStep
  core_steps before (claim seat) =
      let n = slice_index before.words 0 in
      if nat_lt n jobs
      then draw seat n ∷ (if has_left amount 0 n rows then [] else core_add seat n 0 ∷ [])
      else []
  core_steps before (add seat row) =
      let job = last_number (view_at before seat) in
      if has_left amount (row + 1) job rows then [] else core_add seat job 0 ∷ []
  core_steps before (split seat) = []
  core_steps before (join seat other) = []
  core_steps before (close seat) = []

-- each step on the words leads the core by these steps to the state that shows after it
abbrev pub StepsAreCoreSteps : Type 0
StepsAreCoreSteps = (jobs rows : ℕ) (amount : ℕ → ℕ → ℤ) (before : WordState) (step : WordStep) (after : WordState)
    (core : CoreState)
    → AreSmall jobs rows amount → AreWordsKept jobs rows amount before.words before.views
    → OneStepLeads jobs rows amount before step after
    → Shows jobs rows amount before core → length after.views ≤ length core.passes
    → (next : CoreState) × StepsLead core (core_steps jobs rows amount before step) next
    × Shows jobs rows amount after next

-- so whatever steps were taken on the words, steps of the core lead from an opening to the state that shows
abbrev pub RunsAreCoreRuns : Type 0
RunsAreCoreRuns = (jobs rows : ℕ) (amount : ℕ → ℕ → ℤ) (state : WordState) → AreSmall jobs rows amount
    → AreWordsReached jobs rows amount state
    → (core : CoreState) × IsReachedInCore jobs core × Shows jobs rows amount state core

-- and where the owner can close, the core is at its end
abbrev pub ClosesAtTheEnd : Type 0
ClosesAtTheEnd = (jobs rows : ℕ) (amount : ℕ → ℕ → ℤ) (before : WordState) (seat : ℕ) (after : WordState)
    (core : CoreState)
    → AreSmall jobs rows amount → AreWordsReached jobs rows amount before → Closes jobs rows amount before seat after
    → Shows jobs rows amount after core → IsAtEnd core
