-- What a stripe adds to what was gathered.
use Rattle.std.proofs.Common.{◌≡◌, ℕ, ◌+◌, ◌<◌, ◌≤◌, ◌==◌, eqb, cond, Bool, true, false, if◌then◌else◌, List, [], ◌∷◌, ◌++◌, refl, sym, ap, ◌∙◌, arith, ℤ, pos}
use Rattle.std.proofs.Common.{◌+ℤ◌}
use Rattle.std.specs.Prelude.{All, unsigned_abs, slice_index_or}
use Rattle.std.proofs.lemmas.Bool.Decides.{nat_tests}
use Rattle.std.proofs.Math.IntN.{+ℤ_idr}
use Rattle.std.proofs.lemmas.List.Elements.{All-append}
use Rattle.std.proofs.lemmas.List.Sums.{sum_by-append}
use Rattle.def_sums.specs.Sum.{nat_sum_over}
use Rattle.def_sums.proofs.SumLaws.{sum_over-append}
use Rattle.def_history.specs.Core.{Right, times_right}
use Rattle.def_history.specs.History.{replay, IsLegal, job_numbers, stripe_of, times}
use Rattle.def_history.proofs.Locks.{legal_replays_are_small}
use Rattle.xg_rowcore.specs.Stripes.{StripeHistory}
use Rattle.xg_locked.specs.Rights.{once, rights_at}
use Rattle.xg_locked.proofs.Sums.{times_append, times_at}
use Rattle.xg_locked.proofs.RightsMoveUnderLocks.{once_at_most}
use Rattle.xg_board.specs.Holdings.{Holding, tickets_of}
use Rattle.xg_board.specs.Closing.{share_of, AddsTotals, Gathered}

-- a holding behind others adds its tickets to theirs
pub tickets_push : (hs : List Holding) (h : Holding) → tickets_of (hs ++ h ∷ []) ≡ tickets_of hs + h.tickets
tickets_push [] h = omega arith
tickets_push (x ∷ xs) h = omega (arith, tickets_push xs h)

job_times_append : (j : ℕ) (xs ys : List ℕ) → times j (xs ++ ys) ≡ times j xs + times j ys
job_times_append j xs ys = sum_by-append (λ (other : ℕ). cond (eqb other j) 1 0) xs ys

-- what was gathered is legal, since each right is held once
legal_so_far : (jobs rows stripes number : ℕ) (amount : ℕ → ℕ → ℤ) (start now more : List Right) (sums : List ℤ)
    → (G : Gathered jobs rows stripes amount start now sums)
    → ((j s : ℕ) → times_right j s (now ++ more) ≤ once number j s)
    → (s : ℕ) → IsLegal jobs (G.orders s)
legal_so_far jobs rows stripes number amount start now more sums G at_most s = record {
  once = λ j. let a = at_most j s in let b = times_append j s now more in let c = G.rights j s in let d = once_at_most number j s in omega arith;
  named = G.jobs_named s;
}

-- and so its sums are small
pub sums_small : (jobs rows stripes number : ℕ) (amount : ℕ → ℕ → ℤ) (start now more : List Right) (sums : List ℤ)
    (bound : ℕ)
    → (G : Gathered jobs rows stripes amount start now sums)
    → ((j s : ℕ) → times_right j s (now ++ more) ≤ once number j s)
    → ((row : ℕ) → row < rows → nat_sum_over (λ job. unsigned_abs (amount job row)) (job_numbers jobs) ≤ bound)
    → (row : ℕ) → row < rows → unsigned_abs (slice_index_or sums row (pos 0)) ≤ bound
sums_small jobs rows stripes number amount start now more sums bound G at_most small row below =
    let legal = legal_so_far jobs rows stripes number amount start now more sums G at_most (stripe_of stripes row) in
    rw (G.sums_are row below) (omega (arith, legal_replays_are_small jobs (G.orders (stripe_of stripes row)) legal amount row, small row below))

-- a stripe more
pub gather_more : (jobs rows stripes : ℕ) (amount : ℕ → ℕ → ℤ) (start now : List Right) (sums new : List ℤ)
    (h : StripeHistory)
    → h.stripes ≡ stripes → All (λ job. job < jobs) h.order → AddsTotals amount h sums new
    → Gathered jobs rows stripes amount start now sums
    → Gathered jobs rows stripes amount start (now ++ rights_at h.index h.order) new
gather_more jobs rows stripes amount start now sums new h same named adds G = record {
  orders = λ s. if h.index == s then G.orders s ++ h.order else G.orders s;
  jobs_named = λ s. named_at s (h.index == s);
  rights = λ j s. count j s (h.index == s) refl;
  length_is = adds.same ∙ G.length_is;
  sums_are = λ row below. sum_at row below;
}
  where
    named_at : (s : ℕ) (b : Bool) → All (λ job. job < jobs) (if b then G.orders s ++ h.order else G.orders s)
    named_at s true = All-append (λ job. job < jobs) (G.orders s) h.order (G.jobs_named s) named
    named_at s false = G.jobs_named s

    count : (j s : ℕ) (b : Bool) → (h.index == s) ≡ b
        → times_right j s (now ++ rights_at h.index h.order)
        ≡ times_right j s start + times j (if h.index == s then G.orders s ++ h.order else G.orders s)
    count j s true e =
        let a = times_append j s now (rights_at h.index h.order) in
        let b : times_right j s (rights_at h.index h.order) ≡ times j h.order = times_at j s h.index h.order ∙ ap (λ t. if t then times j h.order else 0) e in
        let c = G.rights j s in
        let d = job_times_append j (G.orders s) h.order in
        rw e (omega arith)
    count j s false e =
        let a = times_append j s now (rights_at h.index h.order) in
        let b : times_right j s (rights_at h.index h.order) ≡ 0 = times_at j s h.index h.order ∙ ap (λ t. if t then times j h.order else 0) e in
        let c = G.rights j s in
        rw e (omega arith)

    replay_at : (row s : ℕ) (b : Bool)
        → replay amount (G.orders s) row +ℤ (if b then replay amount h.order row else pos 0)
        ≡ replay amount (if b then G.orders s ++ h.order else G.orders s) row
    replay_at row s true = sym (sum_over-append (λ j. amount j row) (G.orders s) h.order)
    replay_at row s false = +ℤ_idr _

    turn : (row : ℕ) → (stripe_of h.stripes row == h.index) ≡ (h.index == stripe_of stripes row)
    turn row = ap (λ n. stripe_of n row == h.index) same ∙ both (stripe_of stripes row) h.index
      where
        both : (a b : ℕ) → (a == b) ≡ (b == a)
        both a b = grind (arith, nat_tests)

    sum_at : (row : ℕ) → row < rows
        → slice_index_or new row (pos 0)
        ≡ replay amount (if h.index == stripe_of stripes row then G.orders (stripe_of stripes row) ++ h.order else G.orders (stripe_of stripes row)) row
    sum_at row below =
        adds.each row (rw G.length_is below)
        ∙ ap (λ v. v +ℤ share_of amount h row) (G.sums_are row below)
        ∙ ap (λ b. replay amount (G.orders (stripe_of stripes row)) row +ℤ (if b then replay amount h.order row else pos 0)) (turn row)
        ∙ replay_at row (stripe_of stripes row) (h.index == stripe_of stripes row)
