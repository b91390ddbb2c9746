-- Sizes of what a checker sums.
use Rattle.std.proofs.Common.{◌≡◌, ℕ, ◌*◌, ◌^◌, ◌≤◌, ◌↔◌, List, [], ◌∷◌, filter, zip, length, get_or, slice_index, Option, Some, None, Ok, Bool, true, false}
use Rattle.std.proofs.Common.{cond, All, ℤ, pos, ◌*ℤ◌, unsigned_abs, eqb, refl, ap, ◌∙◌, arith}
use Rattle.std.proofs.lemmas.Int.{unsigned_abs-mul}
use Rattle.std.proofs.lemmas.Nat.{mul-le}
use Rattle.std.proofs.lemmas.List.Elements.{All-append, All-cons, All-nil, All-head, All-tail}
use Rattle.def_tree.specs.declared.Player.{Player}
use Rattle.def_tree.specs.Opponent.{opponent}
use Rattle.def_sums.specs.Sum.{nat_sum_over, sum_over}
use Rattle.def_sums.proofs.RingLaws.{unsigned_abs-+ℤ}
use Rattle.def_sums.proofs.SumLaws.{sum_over-filter, nat_sum_over-bounded, nat_sum_over-mono, nat_sum_over-factor, unsigned_abs-sum_over}
use Rattle.def_plan.specs.Form.{PlacedSet, placed, Leaf, leaf_sequence}
use Rattle.def_plan.specs.Payoff.{leaf_sum, values_after, mass_of}
use Rattle.def_plan.proofs.SizeLaws.{slice_index-at_most}
use Rattle.def_reply.specs.Reply.{Reply, SetReply, values_of}
use Rattle.def_reply.specs.declared.TraceLine.{TraceLine}
use Rattle.def_reply.specs.Outcome.{Head}
use Rattle.def_cert_verdict.specs.Certificate.{PrintedBounds, joined, printed_numbers}
use Rattle.def_plan.specs.Weighed.{WeighedGame}
use Rattle.def_cert_verdict.specs.Verdict.{Verdict, head_only, bracket, verdict}
use Rattle.def_cert_verdict.proofs.VerdictIsExact.{exact}
use Rattle.def_cert_verdict.specs.Ranges.{PlanWeightsFit, ReplyFits, FitsBelowHead}
use Rattle.def_cert_verdict.specs.RangeLaws.{TraceProductsAreSmall, PlanSumsAreSmall, WorthsAreSmall, HeadAloneWithoutRounds}

product_size : (a : ℤ) (n : ℕ) → unsigned_abs (a *ℤ pos n) ≡ unsigned_abs a * n
product_size a n = unsigned_abs-mul a (pos n)

-- within the ranges, an end times the round of another line's end is at most 2 ^ 116
pub trace_products : TraceProductsAreSmall
trace_products head lines j k line fits trace low_j low_k =
    let a : TraceLine = get_or lines j line in
    let b : TraceLine = get_or lines k line in
    let fa = trace.each j line low_j in
    let fb = trace.each k line low_k in
    record {
      low = omega (
        arith,
        product_size a.low b.low_round,
        mul-le (unsigned_abs a.low) b.low_round (2 ^ 100) (2 ^ 16) fa.low
            (omega (arith, fb.low_round.1, fb.round, fits.rounds)),
      );
      high = omega (
        arith,
        product_size a.high b.high_round,
        mul-le (unsigned_abs a.high) b.high_round (2 ^ 100) (2 ^ 16) fa.high
            (omega (arith, fb.high_round.1, fb.round, fits.rounds)),
      );
    }

set_sum : (ws : List ℕ) → PlanWeightsFit ws → nat_sum_over (λ n. n) ws ≤ 2 ^ 46
set_sum ws f = omega (arith, nat_sum_over-bounded (λ n. n) (2 ^ 36) ws f.each, mul-le (length ws) (2 ^ 36) 1024 (2 ^ 36) f.count.1 (omega arith))

all_sets : (wss : List (List ℕ)) → All PlanWeightsFit wss → All (λ ws. nat_sum_over (λ n. n) ws ≤ 2 ^ 46) wss
all_sets [] f = All-nil (λ ws. nat_sum_over (λ n. n) ws ≤ 2 ^ 46)
all_sets (ws ∷ wss) f = All-cons (λ ws. nat_sum_over (λ n. n) ws ≤ 2 ^ 46) ws wss (set_sum ws (All-head PlanWeightsFit ws wss f))
    (all_sets wss (All-tail PlanWeightsFit ws wss f))

-- a set's printed numbers sum to at most 2 ^ 46, and the unit times the root is at most 2 ^ 98
pub plan_sums : PlanSumsAreSmall
plan_sums unit sets plan small fits = record {
  sets = all_sets plan.weights fits.each;
  scaled = omega (arith, mul-le unit plan.root (2 ^ 62) (2 ^ 36) small fits.root.1);
}

-- ---- worths
joined_small : (wss : List (List ℕ)) → All PlanWeightsFit wss → All (λ n. n ≤ 2 ^ 36) (joined wss)
joined_small [] f = All-nil (λ n. n ≤ 2 ^ 36)
joined_small (ws ∷ wss) f = All-append (λ n. n ≤ 2 ^ 36) ws (joined wss) (All-head PlanWeightsFit ws wss f).each
    (joined_small wss (All-tail PlanWeightsFit ws wss f))

each_of : {A : Type 0} (P : A → Type 0) (xs : List A) → ((x : A) → P x) → All P xs
each_of P [] h = All-nil P
each_of P (x ∷ xs) h = All-cons P x xs (h x) (each_of P xs h)

kept : (b : Bool) (x : ℤ) → unsigned_abs (cond b x (pos 0)) ≤ unsigned_abs x
kept true x = omega arith
kept false x = omega arith

-- a sum over some of the elements
some_of : {A : Type 0} (f : A → ℤ) (p : A → Bool) (xs : List A)
    → unsigned_abs (sum_over f (filter p xs)) ≤ nat_sum_over (λ x. unsigned_abs (f x)) xs
some_of f p xs =
    omega (
      arith,
      ap unsigned_abs (sum_over-filter f p xs),
      unsigned_abs-sum_over (λ x. cond (p x) (f x) (pos 0)) xs,
      nat_sum_over-mono (λ x. unsigned_abs (cond (p x) (f x) (pos 0))) (λ x. unsigned_abs (f x)) xs
          (each_of (λ x. unsigned_abs (cond (p x) (f x) (pos 0)) ≤ unsigned_abs (f x)) xs (λ x. kept (p x) (f x))),
    )

zipped : (hs : List PlacedSet) (rs : List SetReply)
    → nat_sum_over (λ (p : PlacedSet × ℤ). unsigned_abs p.1) (zip hs (values_of rs)) ≤ nat_sum_over (λ r. unsigned_abs r.value) rs
zipped [] rs = omega arith
zipped (h ∷ hs) [] = omega arith
zipped (h ∷ hs) (r ∷ rs) = omega (arith, zipped hs rs)

one_leaf : (player : Player) (xs : List ℕ) → ((s : ℕ) → slice_index xs s ≤ 2 ^ 36) → (z : Leaf)
    → unsigned_abs (z.weight *ℤ pos (slice_index xs (leaf_sequence (opponent player) z))) ≤ unsigned_abs z.weight * 2 ^ 36
one_leaf player xs small z =
    omega (
      arith,
      product_size z.weight (slice_index xs (leaf_sequence (opponent player) z)),
      mul-le (unsigned_abs z.weight) (slice_index xs (leaf_sequence (opponent player) z)) (unsigned_abs z.weight) (2 ^ 36) (omega arith)
          (small (leaf_sequence (opponent player) z)),
    )

all_leaves : (player : Player) (leaves : List Leaf) (xs : List ℕ) → ((s : ℕ) → slice_index xs s ≤ 2 ^ 36)
    → mass_of leaves ≤ 2 ^ 62
    → nat_sum_over (λ z. unsigned_abs (z.weight *ℤ pos (slice_index xs (leaf_sequence (opponent player) z)))) leaves ≤ 2 ^ 98
all_leaves player leaves xs small light =
    omega (
      arith,
      nat_sum_over-mono (λ z. unsigned_abs (z.weight *ℤ pos (slice_index xs (leaf_sequence (opponent player) z)))) (λ z. unsigned_abs z.weight * 2 ^ 36) leaves
          (each_of (λ z. unsigned_abs (z.weight *ℤ pos (slice_index xs (leaf_sequence (opponent player) z))) ≤ unsigned_abs z.weight * 2 ^ 36) leaves
          (one_leaf player xs small)),
      nat_sum_over-factor (2 ^ 36) (λ (z : Leaf). unsigned_abs z.weight) leaves,
      mul-le (mass_of leaves) (2 ^ 36) (2 ^ 62) (2 ^ 36) light (omega arith),
    )

all_values : (sets : ℕ) (reply : Reply) → sets ≤ 2 ^ 20 → ReplyFits sets reply
    → nat_sum_over (λ r. unsigned_abs r.value) reply.sets ≤ 2 ^ 120
all_values sets reply few fits =
    omega (
      arith,
      nat_sum_over-bounded (λ r. unsigned_abs r.value) (2 ^ 100) reply.sets fits.values,
      mul-le (length reply.sets) (2 ^ 100) (2 ^ 20) (2 ^ 100) (omega (arith, fits.count)) (omega arith),
    )

-- within the ranges, leaf products sum to at most 2 ^ 98, values to 2 ^ 120, and a worth is at most 2 ^ 121
pub worths : WorthsAreSmall
worths player leaves sets plan_sets reply_sets plan reply light fits few fit =
    let xs : List ℕ = printed_numbers plan in
    let small : (s : ℕ) → slice_index xs s ≤ 2 ^ 36 = slice_index-at_most (2 ^ 36) xs
    (All-cons (λ n. n ≤ 2 ^ 36) plan.root (joined plan.weights) fits.root.1 (joined_small plan.weights fits.each)) in
    let of_leaves = all_leaves player leaves xs small light in
    let of_values = all_values reply_sets reply few fit in
    record {
      leaf_sums = of_leaves;
      values = of_values;
      worths = λ s. omega (
        arith,
        unsigned_abs-+ℤ (leaf_sum player leaves xs s) (values_after (placed sets) (values_of reply.sets) s),
        some_of (λ z. z.weight *ℤ pos (slice_index xs (leaf_sequence (opponent player) z))) (λ z. eqb (leaf_sequence player z) s) leaves,
        some_of (λ (p : PlacedSet × ℤ). p.1) (λ (p : PlacedSet × ℤ). eqb p.0.before s) (zip (placed sets) (values_of reply.sets)),
        zipped (placed sets) reply.sets,
        of_leaves,
        of_values,
      );
    }

-- ---- the head alone
head_alone : (game : WeighedGame) (head : Head) (bounds : Option PrintedBounds) (shown : Verdict)
    → FitsBelowHead head bounds
    → verdict game (record { head = head; bounds = bounds }) ≡ Ok shown → (shown ≡ head_only) ↔ (head.rounds ≡ 0)
head_alone game head None head_only fits e = (λ same. fits, λ none. refl)
head_alone game head None (bracket low high) fits e = absurd (exact.no_bracket game head low high e)
head_alone game head (Some b) head_only fits e = absurd (exact.not_head_alone game head b e)
head_alone game head (Some b) (bracket low high) fits e =
    (λ same. absurd (exact.not_head_alone game head b (e ∙ ap (λ (v : Verdict). Ok v) same)), λ none. absurd (omega (arith, fits.asked)))

-- what is accepted within the ranges shows only its head exactly where no round was asked
pub heads : HeadAloneWithoutRounds
heads game c shown fits e = head_alone game c.head c.bounds shown fits.below e
