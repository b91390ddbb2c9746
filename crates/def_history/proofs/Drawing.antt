-- Which passes draw which jobs.
use Rattle.std.proofs.Common.{◌≡◌, ℕ, ◌<◌, List, [], ◌∷◌, get_or, set, length, refl, sym, ap, subst}
use Rattle.std.specs.List.{remove}
use Rattle.std.specs.Prelude.{Contains, IsPermutation}
use Rattle.std.proofs.lemmas.List.{get_or-set_same}
use Rattle.std.proofs.lemmas.List.Sorted.{Contains-permutation, IsPermutation-refl, IsPermutation-remove, IsPermutation-sym}
use Rattle.def_sums.proofs.RisingLists.{Contains-head}
use Rattle.def_history.specs.Core.{State, Right, Draws, rights_held, rights_of, stripe_count}
use Rattle.def_history.specs.Laws.{AnyPassWithoutRightsDraws}

-- the job at a place of the bag is drawn
drawn : State → (pass job place : ℕ) → State
drawn state pass job place = record state {
  bag = remove state.bag place;
  passes = set state.passes pass (rights_of job (stripe_count state));
}

draws : (state : State) (pass job place : ℕ) → pass < length state.passes → rights_held state pass ≡ []
    → place < length state.bag → get_or state.bag place job ≡ job → Draws state pass job (drawn state pass job place)
unfolding drawn
draws state pass job place is_pass none below at =
    let rights : List Right = rights_of job (stripe_count state) in
    let gets : get_or (set state.passes pass rights) pass [] ≡ rights = get_or-set_same state.passes pass rights [] is_pass in
    record {
      is_pass = is_pass;
      takes_job = record {
        held_none = none;
        leaves_bag = IsPermutation-remove state.bag place job below (sym at);
        gets_rights = subst (λ (held : List Right). IsPermutation rights held) (sym gets) (IsPermutation-refl rights);
      };
      other_passes = ap (λ (held : List Right). set state.passes pass held) (sym gets);
      histories = refl;
    }

draws_any : (state : State) (pass job : ℕ) → pass < length state.passes → rights_held state pass ≡ []
    → Contains state.bag job → (after : State) × Draws state pass job after
draws_any state pass job is_pass none (place, below, at) = (drawn state pass job place, draws state pass job place is_pass none below at)

had_none : (state : State) (pass job : ℕ) → ((after : State) × Draws state pass job after) → rights_held state pass ≡ []
had_none state pass job (after, drawing) = drawing.takes_job.held_none

was_there : (state : State) (pass job : ℕ) → ((after : State) × Draws state pass job after) → Contains state.bag job
was_there state pass job (after, drawing) =
    Contains-permutation (job ∷ after.bag) state.bag job (IsPermutation-sym state.bag (job ∷ after.bag) drawing.takes_job.leaves_bag)
    (Contains-head job after.bag)

pub any_pass_without_rights_draws : AnyPassWithoutRightsDraws
any_pass_without_rights_draws state pass job is_pass = (
  λ drawing. (had_none state pass job drawing, was_there state pass job drawing),
  λ h. draws_any state pass job is_pass h.0 h.1,
)
