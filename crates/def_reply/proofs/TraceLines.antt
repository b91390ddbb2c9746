-- The trace, line by line.
use Rattle.std.proofs.Common.{◌≡◌, ℕ, zero, suc, ◌+◌, ◌≤◌, ◌<◌, Bool, true, false, cond, map, All, slice_index, pos, ◌*ℤ◌, List, [], ◌∷◌, ◌++◌, length, get_or}
use Rattle.std.proofs.Common.{take, fold, arith, ap, sym, ◌∙◌, refl, subst, Some, add-one}
use Rattle.std.proofs.lemmas.Option.{none-some}
use Rattle.std.proofs.lemmas.List.{get_or-take, length-take-le, take-take}
use Rattle.std.specs.Prelude.{◌≤ℤ◌, int_lt}
use Rattle.std.specs.List.Sorted.{IsStrictlyIncreasing}
use Rattle.std.proofs.lemmas.List.Elements.{All-take, All-nil, All-cons, All-head, All-tail}
use Rattle.def_reply.specs.Bracket.{Evaluation, BracketEnds, HasFloorAtMost, HasCeilingAtMost, next_ends, first_ends, ends_of, trace_line, trace_after, trace}
use Rattle.def_reply.specs.Bracket.{LiesWithinBy}
use Rattle.def_reply.specs.declared.TraceLine.{TraceLine}
use Rattle.def_reply.specs.BracketLaws.{HaveDivisors, DivideBy, AreNoWorse, EndsNeverWorsen, TraceHasALineForEach, TraceNeverWidens, LooksBack, TraceLooksBack}
use Rattle.def_reply.proofs.BestEnds.{ends-are, best_ends}

count_after : (ends : BracketEnds) (es : List Evaluation) → length (trace_after ends es) ≡ length es
count_after ends [] = refl
count_after ends (e ∷ es) = ap suc (count_after (next_ends ends e) es)

count : (es : List Evaluation) → length (trace es) ≡ length es
count [] = refl
count (e ∷ es) = ap suc (count_after (first_ends e) es)

on_ends : (ends : BracketEnds) (es : List Evaluation) (e : Evaluation)
    → fold next_ends ends (es ++ e ∷ []) ≡ next_ends (fold next_ends ends es) e
on_ends ends [] e = refl
on_ends ends (a ∷ es) e = on_ends (next_ends ends a) es e

on_trace : (ends : BracketEnds) (es : List Evaluation) (e : Evaluation)
    → trace_after ends (es ++ e ∷ [])
    ≡ trace_after ends es ++ trace_line e.round (next_ends (fold next_ends ends es) e) ∷ []
on_trace ends [] e = refl
on_trace ends (a ∷ es) e = ap (λ ls. trace_line a.round (next_ends ends a) ∷ ls) (on_trace (next_ends ends a) es e)

goes_on : (es : List Evaluation) (ends : BracketEnds) (e : Evaluation) → ends_of es ≡ Some ends
    → (ends_of (es ++ e ∷ []) ≡ Some (next_ends ends e))
    × (trace (es ++ e ∷ []) ≡ trace es ++ trace_line e.round (next_ends ends e) ∷ [])
goes_on [] ends e is = absurd (none-some ends is)
goes_on (a ∷ es) ends e is =
    let now : fold next_ends (first_ends a) es ≡ ends = ends-are (fold next_ends (first_ends a) es) ends is in (
      ap Some (on_ends (first_ends a) es e) ∙ ap (λ k. Some (next_ends k e)) now,
      ap (λ ls. trace_line a.round (first_ends a) ∷ ls) (on_trace (first_ends a) es e
          ∙ ap (λ k. trace_after (first_ends a) es ++ trace_line e.round (next_ends k e) ∷ []) now),
    )

each_after : (ends : BracketEnds) (es : List Evaluation) (k : ℕ) (line : TraceLine) (d : Evaluation) → k < length es
    → get_or (trace_after ends es) k line ≡ trace_line (get_or es k d).round (fold next_ends ends (take (suc k) es))
each_after ends [] k line d low = absurd (omega arith)
each_after ends (e ∷ es) zero line d low = refl
each_after ends (e ∷ es) (suc k) line d low = each_after (next_ends ends e) es k line d (omega arith)

-- the line k has the ends of the evaluations up to k
each_line : (e : Evaluation) (es : List Evaluation) (k : ℕ) (line : TraceLine) (d : Evaluation) → k < suc (length es)
    → get_or (trace (e ∷ es)) k line
    ≡ trace_line (get_or (e ∷ es) k d).round (fold next_ends (first_ends e) (take k es))
each_line e es zero line d low = refl
each_line e es (suc k) line d low = each_after (first_ends e) es k line d (omega arith)

each : (es : List Evaluation) (k : ℕ) (ends : BracketEnds) (line : TraceLine) (d : Evaluation) → k < length es
    → ends_of (take (k + 1) es) ≡ Some ends
    → get_or (trace es) k line ≡ trace_line (get_or es k d).round ends
each [] k ends line d low is = absurd (omega arith)
each (e ∷ es) k ends line d low is =
    let here : ends_of (take (suc k) (e ∷ es)) ≡ Some ends = ap (λ n. ends_of (take n (e ∷ es))) (sym (add-one k)) ∙ is in
    each_line e es k line d low ∙ ap (trace_line (get_or (e ∷ es) k d).round) (ends-are (fold next_ends (first_ends e) (take k es)) ends here)

-- one line for each evaluation, with its round and the ends of all evaluations up to it
pub trace_lines : TraceHasALineForEach
trace_lines = record { count = count; begins = λ e. (refl, refl); goes_on = goes_on; each = each }

-- the ends of a part are best among its evaluations, and those of more are best among more
pub ends_never_worsen : EndsNeverWorsen
ends_never_worsen es j k a b divisors le fits at_j at_k =
    let earlier : List Evaluation = take j es in
    let later : List Evaluation = take k es in
    let part : take j later ≡ earlier = take-take j k es le in
    let lower = best_ends.lower earlier a (All-take (λ e. 1 ≤ e.divisor) j es divisors) at_j in
    let upper = best_ends.upper earlier a (All-take (λ e. 1 ≤ e.divisor) j es divisors) at_j in
    let lower' = best_ends.lower later b (All-take (λ e. 1 ≤ e.divisor) k es divisors) at_k in
    let upper' = best_ends.upper later b (All-take (λ e. 1 ≤ e.divisor) k es divisors) at_k in
    let long : length earlier ≡ j = length-take-le j es (omega arith) in
    let long' : length later ≡ k = length-take-le k es fits in
    let found : (p : ℕ) (x : Evaluation) → p < length earlier → get_or earlier p x ≡ x → get_or later p x ≡ x =
    λ p x less is. sym (get_or-take j later p x (omega arith)) ∙ ap (λ xs. get_or xs p x) part ∙ is
    in
    record {
      lower = subst (λ x. HasFloorAtMost x b.lower) (found lower.place a.lower lower.within (lower.stands a.lower))
          (lower'.greatest lower.place a.lower (omega (arith, lower.within)));
      upper = subst (λ x. HasCeilingAtMost b.upper x) (found upper.place a.upper upper.within (upper.stands a.upper))
          (upper'.least upper.place a.upper (omega (arith, upper.within)));
    }

-- an end is one of the evaluations, so it is divided by what its rounds weigh as they are
record AreByWeights (weight : ℕ → ℕ) (ends : BracketEnds) : Type 0 where
  lower : ends.lower.divisor ≡ weight ends.lower.round
  upper : ends.upper.divisor ≡ weight ends.upper.round

by_weights : (weight : ℕ → ℕ) (es : List Evaluation) (k : ℕ) (ends : BracketEnds) → DivideBy weight es
    → ends_of (take k es) ≡ Some ends → AreByWeights weight ends
by_weights weight es k ends by at_k =
    let some : HaveDivisors (take k es) = All-take (λ e. 1 ≤ e.divisor) k es (λ i d low. (by i d low).0) in
    let all = All-take (λ e. (1 ≤ e.divisor) × (e.divisor ≡ weight e.round)) k es by in
    let lower = best_ends.lower (take k es) ends some at_k in
    let upper = best_ends.upper (take k es) ends some at_k in
    record {
      lower = subst (λ e. e.divisor ≡ weight e.round) (lower.stands ends.lower) (all lower.place ends.lower lower.within).1;
      upper = subst (λ e. e.divisor ≡ weight e.round) (upper.stands ends.upper) (all upper.place ends.upper upper.within).1;
    }

lies_within : (weight : ℕ → ℕ) (line line' : TraceLine) (r r' : ℕ) (a b : BracketEnds) → line ≡ trace_line r b
    → line' ≡ trace_line r' a → AreByWeights weight a → AreByWeights weight b → AreNoWorse a b
    → LiesWithinBy weight line line'
lies_within weight line line' r r' a b e e' by_a by_b h =
    subst (λ x. LiesWithinBy weight x line') (sym e) (subst (λ x. LiesWithinBy weight (trace_line r b) x) (sym e') (record {
      not_lower = subst (λ d. (a.lower.low *ℤ pos d) ≤ℤ (b.lower.low *ℤ pos (weight a.lower.round))) by_b.lower
          (subst (λ d. (a.lower.low *ℤ pos b.lower.divisor) ≤ℤ (b.lower.low *ℤ pos d)) by_a.lower h.lower);
      not_higher = subst (λ d. (b.upper.high *ℤ pos d) ≤ℤ (a.upper.high *ℤ pos (weight b.upper.round))) by_a.upper
          (subst (λ d. (b.upper.high *ℤ pos a.upper.divisor) ≤ℤ (a.upper.high *ℤ pos d)) by_b.upper h.upper);
    }))

-- where bounds are divided by what their rounds weigh, each line's bracket lies within those of the lines before
pub never_widens : TraceNeverWidens
never_widens weight [] j k line by le low = absurd (omega arith)
never_widens weight (e ∷ es) j k line by le low =
    let a : BracketEnds = fold next_ends (first_ends e) (take j es) in
    let b : BracketEnds = fold next_ends (first_ends e) (take k es) in
    let some : HaveDivisors (e ∷ es) = λ i d inside. (by i d inside).0 in
    lies_within weight (get_or (trace (e ∷ es)) k line) (get_or (trace (e ∷ es)) j line) (get_or (e ∷ es) k e).round (get_or (e ∷ es) j e).round a b
    (each_line e es k line e low) (each_line e es j line e (omega arith))
    (by_weights weight (e ∷ es) (suc j) a by refl) (by_weights weight (e ∷ es) (suc k) b by refl)
    (ends_never_worsen (e ∷ es) (suc j) (suc k) a b some (omega arith) (omega arith) refl refl)

-- ---- ends come from earlier rounds
record AreUpTo (round : ℕ) (ends : BracketEnds) : Type 0 where
  lower_some : 1 ≤ ends.lower.round
  lower_until : ends.lower.round ≤ round
  upper_some : 1 ≤ ends.upper.round
  upper_until : ends.upper.round ≤ round

next_up_to : (round : ℕ) (ends : BracketEnds) (e : Evaluation) → AreUpTo round ends → round ≤ e.round → 1 ≤ e.round
    → AreUpTo e.round (next_ends ends e)
next_up_to round ends e up le some = by_tests
    (int_lt (ends.lower.low *ℤ pos e.divisor) (e.low *ℤ pos ends.lower.divisor)) (int_lt (e.high *ℤ pos ends.upper.divisor) (ends.upper.high *ℤ pos e.divisor))
  where
    by_tests : (a b : Bool) → AreUpTo e.round (record { lower = cond a e ends.lower; upper = cond b e ends.upper })
    by_tests true true = record { lower_some = some; lower_until = omega arith; upper_some = some; upper_until = omega arith }
    by_tests true false = record { lower_some = some; lower_until = omega arith; upper_some = up.upper_some; upper_until = omega (arith, up.upper_until) }
    by_tests false true = record { lower_some = up.lower_some; lower_until = omega (arith, up.lower_until); upper_some = some; upper_until = omega arith }
    by_tests false false = record {
      lower_some = up.lower_some;
      lower_until = omega (arith, up.lower_until);
      upper_some = up.upper_some;
      upper_until = omega (arith, up.upper_until);
    }

looks_back : (round : ℕ) (ends : BracketEnds) → AreUpTo round ends → LooksBack (trace_line round ends)
looks_back round ends up = record { low_some = up.lower_some; low_until = up.lower_until; high_some = up.upper_some; high_until = up.upper_until }

rises_later : (n : ℕ) (ns : List ℕ) → IsStrictlyIncreasing (n ∷ ns) → IsStrictlyIncreasing ns
rises_later n ns rise k low =
    let same : suc k + 1 ≡ suc (k + 1) = omega arith in
    subst (λ m. slice_index ns k < slice_index (n ∷ ns) m) same (rise (suc k) (omega arith))

all_look_back : (round : ℕ) (ends : BracketEnds) (es : List Evaluation) → AreUpTo round ends → All (λ e. 1 ≤ e.round) es
    → IsStrictlyIncreasing (round ∷ map (λ e. e.round) es)
    → All LooksBack (trace_after ends es)
all_look_back round ends [] up some rise = All-nil LooksBack
all_look_back round ends (e ∷ es) up some rise =
    let here : 1 ≤ e.round = All-head (λ e. 1 ≤ e.round) e es some in
    let more : round < e.round = rise 0 (omega arith) in
    let next = next_up_to round ends e up (omega arith) here in
    All-cons LooksBack (trace_line e.round (next_ends ends e)) (trace_after (next_ends ends e) es) (looks_back e.round (next_ends ends e) next)
    (all_look_back e.round (next_ends ends e) es next (All-tail (λ e. 1 ≤ e.round) e es some) (rises_later round (map (λ e. e.round) (e ∷ es)) rise))

-- where rounds rise, the ends in a line come from its own round or an earlier one
pub trace_looks_back : TraceLooksBack
trace_looks_back [] some rise = All-nil LooksBack
trace_looks_back (e ∷ es) some rise =
    let here : 1 ≤ e.round = All-head (λ e. 1 ≤ e.round) e es some in
    let first : AreUpTo e.round (first_ends e) = record { lower_some = here; lower_until = omega arith; upper_some = here; upper_until = omega arith } in
    All-cons LooksBack (trace_line e.round (first_ends e)) (trace_after (first_ends e) es) (looks_back e.round (first_ends e) first)
    (all_look_back e.round (first_ends e) es first (All-tail (λ e. 1 ≤ e.round) e es some) rise)
