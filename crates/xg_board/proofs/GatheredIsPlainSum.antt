-- What is known when everything is gathered.
use Rattle.std.proofs.Common.{◌≡◌, ℕ, ◌+◌, ◌-◌, ◌<◌, ◌≤◌, List, [], ◌∷◌, ◌++◌, length, refl, ap, ◌∙◌, arith, ℤ, pos}
use Rattle.std.specs.Prelude.{slice_index_or}
use Rattle.std.proofs.lemmas.Bool.Decides.{nat_tests}
use Rattle.std.proofs.lemmas.Nat.{mod_below}
use Rattle.std.proofs.lemmas.List.Elements.{All-nil}
use Rattle.def_history.specs.Core.{Right, times_right}
use Rattle.def_history.specs.History.{IsLegal, IsComplete, stripe_of, sum_over_jobs, times}
use Rattle.def_history.proofs.Counts.{Contains_from_times}
use Rattle.def_history.proofs.Ends.{replays_to_plain_sum}
use Rattle.xg_locked.specs.declared.view.View.{View}
use Rattle.xg_locked.specs.Rights.{job_count_of, once, rights_for, stripes_of, IsLoaded}
use Rattle.xg_locked.proofs.RightsMoveUnderLocks.{once_at_most}
use Rattle.xg_board.specs.Closing.{Gathered}

-- at the start nothing is gathered
pub nothing_gathered : (jobs rows stripes : ℕ) (amount : ℕ → ℕ → ℤ) (start : List Right) (sums : List ℤ)
    → length sums ≡ rows
    → ((row : ℕ) → row < rows → slice_index_or sums row (pos 0) ≡ pos 0)
    → Gathered jobs rows stripes amount start start sums
nothing_gathered jobs rows stripes amount start sums len zeros = record {
  orders = λ _. [];
  jobs_named = λ _. All-nil (λ job. job < jobs);
  rights = λ j s. (omega arith);
  length_is = len;
  sums_are = zeros;
}

once_is : (number j s : ℕ) → j < job_count_of number → s < stripes_of number → once number j s ≡ 1
unfolding once
once_is number j s a b = grind (arith, nat_tests)

-- with all parts gathered and a ticket given up, no job is left and every order is complete
pub ended : (jobs rows stripes number : ℕ) (amount : ℕ → ℕ → ℤ) (bag : List ℕ) (now : View) (sums : List ℤ)
    (bag_tickets made pass_tickets : ℕ)
    → job_count_of number ≡ jobs → stripes_of number ≡ stripes → 0 < stripes
    → (0 < length bag → bag_tickets ≡ 0) → now.tickets ≡ bag_tickets + (64 - made) + pass_tickets → pass_tickets < made
    → made ≤ 64
    → now.parts ≡ 1 + (65 - made) + made + stripes → now.number ≡ number → IsLoaded number now
    → Gathered jobs rows stripes amount (rights_for bag stripes ++ []) now.rights sums
    → (row : ℕ) → row < rows → slice_index_or sums row (pos 0) ≡ sum_over_jobs amount jobs row
ended jobs rows stripes number amount bag now sums bag_tickets made pass_tickets jobs_is stripes_is some rule tickets one_left few parts number_is loaded G row
    below =
    G.sums_are row below ∙ replays_to_plain_sum jobs (G.orders (stripe_of stripes row)) legal complete amount row
  where
    all_parts : now.parts ≡ stripes_of number + 66
    all_parts = let e : stripes_of number ≡ stripes = stripes_is in omega arith

    no_job : (items : List ℕ) → (0 < length items → bag_tickets ≡ 0) → items ≡ []
    no_job [] r = refl
    no_job (x ∷ xs) r = absurd (let a = loaded.all_tickets all_parts in let b = r (omega arith) in omega arith)

    empty : bag ≡ []
    empty = no_job bag rule

    counts : (j s : ℕ) → times j (G.orders s) ≡ once number j s
    counts j s =
        let a = G.rights j s in
        let b : times_right j s (rights_for bag stripes ++ []) ≡ 0 = ap (λ items. times_right j s (rights_for items stripes ++ [])) empty in
        let c = loaded.all_rights all_parts j s in
        omega arith

    is_stripe : stripe_of stripes row < stripes
    is_stripe = mod_below row stripes some

    legal : IsLegal jobs (G.orders (stripe_of stripes row))
    legal =
        record {
          once = λ j. (let a = counts j (stripe_of stripes row) in let b = once_at_most number j (stripe_of stripes row) in omega arith);
          named = G.jobs_named (stripe_of stripes row);
        }

    complete : IsComplete jobs (G.orders (stripe_of stripes row))
    complete j is_job =
        let a = counts j (stripe_of stripes row) in
        let b = once_is number j (stripe_of stripes row) (rw jobs_is is_job) (rw stripes_is is_stripe) in
        Contains_from_times j (G.orders (stripe_of stripes row)) (omega arith)
