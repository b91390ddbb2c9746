-- A worked run of two workers: the states, and the steps between them.
use Rattle.std.proofs.Common.{◌≡◌, ℕ, zero, suc, ◌≤◌, ◌<◌, List, [], ◌∷◌, refl, arith}
use Rattle.std.specs.Prelude.{pos}
use Rattle.std.proofs.lemmas.List.Elements.{All-nil, All-cons}
use Rattle.def_words.specs.declared.view.View.{View}
use Rattle.def_words.specs.declared.view.View.TheVariants.{Owner, Worker, Spent}
use Rattle.def_words.specs.Amounts.{LastIsComplete}
use Rattle.def_words.specs.Steps.{AreWordsReached, WordState, add, after_step, at_first, claim, join, split}
use Rattle.def_words_runs.specs.Runs.{OneRunEnds, RoomRows, brought}

-- the claim word, both words of the rows, and the views
abbrev at : List ℕ → List View → WordState
at words views = record { words = words; views = views }

abbrev opened : List ℕ
opened = 0 ∷ 0 ∷ 0 ∷ 0 ∷ 0 ∷ []

abbrev added : ℕ → List ℕ
added claimed = claimed ∷ 2 ∷ 0 ∷ 5 ∷ 3 ∷ []

-- the owner makes two workers, each claims a job and adds it, and claims a number past the jobs; then both are joined
abbrev one_made : WordState
one_made = at opened (Owner [] 1 1 ∷ Worker [] 0 ∷ [])

abbrev both_made : WordState
both_made = at opened (Owner [] 2 2 ∷ Worker [] 0 ∷ Worker [] 0 ∷ [])

abbrev one_claimed : WordState
one_claimed = at (1 ∷ 0 ∷ 0 ∷ 0 ∷ 0 ∷ []) (Owner [] 2 2 ∷ Worker [] 0 ∷ Worker (0 ∷ []) 0 ∷ [])

abbrev both_claimed : WordState
both_claimed = at (2 ∷ 0 ∷ 0 ∷ 0 ∷ 0 ∷ []) (Owner [] 2 2 ∷ Worker (1 ∷ []) 0 ∷ Worker (0 ∷ []) 0 ∷ [])

abbrev two_added : WordState
two_added = at (2 ∷ 2 ∷ 0 ∷ 0 ∷ 0 ∷ []) (Owner [] 2 2 ∷ Worker (1 ∷ []) 0 ∷ Worker (0 ∷ []) 1 ∷ [])

abbrev five_added : WordState
five_added = at (2 ∷ 2 ∷ 0 ∷ 5 ∷ 0 ∷ []) (Owner [] 2 2 ∷ Worker (1 ∷ []) 2 ∷ Worker (0 ∷ []) 1 ∷ [])

abbrev all_added : WordState
all_added = at (added 2) (Owner [] 2 2 ∷ Worker (1 ∷ []) 2 ∷ Worker (0 ∷ []) 2 ∷ [])

abbrev one_past : WordState
one_past = at (added 3) (Owner [] 2 2 ∷ Worker (2 ∷ 1 ∷ []) 0 ∷ Worker (0 ∷ []) 2 ∷ [])

abbrev both_past : WordState
both_past = at (added 4) (Owner [] 2 2 ∷ Worker (2 ∷ 1 ∷ []) 0 ∷ Worker (3 ∷ 0 ∷ []) 0 ∷ [])

abbrev one_joined : WordState
one_joined = at (added 4) (Owner (2 ∷ 1 ∷ []) 2 1 ∷ Spent ∷ Worker (3 ∷ 0 ∷ []) 0 ∷ [])

abbrev both_joined : WordState
both_joined = at (added 4) (Owner (3 ∷ 0 ∷ 2 ∷ 1 ∷ []) 2 0 ∷ Spent ∷ Spent ∷ [])

abbrev Below : ℕ → Type 0
Below n = n < 2

abbrev IsReached : WordState → Type 0
IsReached state = AreWordsReached 2 2 brought state

no_last : LastIsComplete 2 2 brought 0 []
no_last n ns same small = absurd cc

-- a list whose last number is past the jobs
past_last : (n : ℕ) (ns : List ℕ) → 2 ≤ n → LastIsComplete 2 2 brought 0 (n ∷ ns)
past_last n ns past m ms same small = let is : n ≡ m = cc in absurd (omega (arith, past, is, small))

-- one whose last job is added up to the last row
full_last : (n : ℕ) (ns : List ℕ) → LastIsComplete 2 2 brought 2 (n ∷ ns)
full_last n ns m ms same small row from within = absurd (omega (arith, from, within))

to_one_made : IsReached one_made
to_one_made = after_step (split 0) at_first
    (record { numbers = []; made = 0; unjoined = 0; owner = refl; few = omega arith; words = refl; views = refl })

to_both_made : IsReached both_made
to_both_made = after_step (split 0) to_one_made
    (record { numbers = []; made = 1; unjoined = 1; owner = refl; few = omega arith; words = refl; views = refl })

to_one_claimed : IsReached one_claimed
to_one_claimed = after_step (claim 2) to_both_made
    (record { numbers = []; reached = 0; worker = refl; below = All-nil Below; complete = no_last; words = refl; views = refl })

to_both_claimed : IsReached both_claimed
to_both_claimed = after_step (claim 1) to_one_claimed
    (record { numbers = []; reached = 0; worker = refl; below = All-nil Below; complete = no_last; words = refl; views = refl })

to_two_added : IsReached two_added
to_two_added = after_step (add 2 0) to_both_claimed (record {
  job = 0;
  earlier = [];
  reached = 0;
  worker = refl;
  is_job = omega arith;
  is_row = omega arith;
  some_amount = λ e. cc;
  from_reached = omega arith;
  between = λ r from within. absurd (omega (arith, within));
  words = refl;
  views = refl;
})

first_is_nothing : (r : ℕ) → 0 ≤ r → r < 1 → brought 1 r ≡ pos 0
first_is_nothing zero from within = refl
first_is_nothing (suc r) from within = absurd (omega (arith, within))

to_five_added : IsReached five_added
to_five_added = after_step (add 1 1) to_two_added (record {
  job = 1;
  earlier = [];
  reached = 0;
  worker = refl;
  is_job = omega arith;
  is_row = omega arith;
  some_amount = λ e. cc;
  from_reached = omega arith;
  between = first_is_nothing;
  words = refl;
  views = refl;
})

to_all_added : IsReached all_added
to_all_added = after_step (add 2 1) to_five_added (record {
  job = 0;
  earlier = [];
  reached = 1;
  worker = refl;
  is_job = omega arith;
  is_row = omega arith;
  some_amount = λ e. cc;
  from_reached = omega arith;
  between = λ r from within. absurd (omega (arith, from, within));
  words = refl;
  views = refl;
})

to_one_past : IsReached one_past
to_one_past = after_step (claim 1) to_all_added (record {
  numbers = 1 ∷ [];
  reached = 2;
  worker = refl;
  below = All-cons Below 1 [] (omega arith) (All-nil Below);
  complete = full_last 1 [];
  words = refl;
  views = refl;
})

to_both_past : IsReached both_past
to_both_past = after_step (claim 2) to_one_past (record {
  numbers = 0 ∷ [];
  reached = 2;
  worker = refl;
  below = All-cons Below 0 [] (omega arith) (All-nil Below);
  complete = full_last 0 [];
  words = refl;
  views = refl;
})

to_one_joined : IsReached one_joined
to_one_joined = after_step (join 0 1) to_both_past (record {
  numbers = [];
  made = 2;
  unjoined = 2;
  worker_numbers = 2 ∷ 1 ∷ [];
  reached = 0;
  owner = refl;
  worker = refl;
  complete = past_last 2 (1 ∷ []) (omega arith);
  words = refl;
  views = refl;
})

to_both_joined : IsReached both_joined
to_both_joined = after_step (join 0 2) to_one_joined (record {
  numbers = 2 ∷ 1 ∷ [];
  made = 2;
  unjoined = 1;
  worker_numbers = 3 ∷ 0 ∷ [];
  reached = 0;
  owner = refl;
  worker = refl;
  complete = past_last 3 (0 ∷ []) (omega arith);
  words = refl;
  views = refl;
})

pub run_ends : OneRunEnds
run_ends = record {
  state = both_joined;
  reached = to_both_joined;
  closes = record { numbers = 3 ∷ 0 ∷ 2 ∷ 1 ∷ []; made = 2; owner = refl; past = (3, (0, omega arith, refl), omega arith); same = refl };
  words = refl;
}

pub room_rows : RoomRows
room_rows = record { sizes = refl }
