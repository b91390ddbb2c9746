-- Values hang on sequences: those of the sets after some sequences are counted beside the leaf sums from there on.
use Rattle.std.proofs.Common.{◌≡◌, ℕ, suc, ◌+◌, ◌≤◌, ◌<◌, Bool, true, false, cond, eqb, ltb, List, [], ◌∷◌, filter, ℤ, unsigned_abs, arith, ap, ◌∙◌, refl}
use Rattle.std.specs.List.{range_with_len}
use Rattle.std.proofs.lemmas.Bool.Decides.{nat_tests}
use Rattle.def_sums.specs.Sum.{nat_sum_over}
use Rattle.def_sums.proofs.SumLaws.{nat_sum_over-append}
use Rattle.def_sums.proofs.Ranges.{range-append}
use Rattle.def_plan.specs.Form.{InformationSet, PlacedSet, sequence_count, sequences}

-- how large a value is
abbrev pub size : PlacedSet × ℤ → ℕ
size p = unsigned_abs p.1

-- the values of sets whose sequence before is earlier than `first`
abbrev pub hanging : ℕ → List (PlacedSet × ℤ) → ℕ
hanging first zs = nat_sum_over (λ p. cond (ltb p.0.before first) (size p) 0) zs

-- the values of the sets directly after a sequence
abbrev pub hanging_size : ℕ → List (PlacedSet × ℤ) → ℕ
hanging_size s zs = nat_sum_over size (filter (λ p. eqb p.0.before s) zs)

-- a filter takes or leaves the first
pub kept : (b : Bool) (p : PlacedSet × ℤ) (ps : List (PlacedSet × ℤ))
    → nat_sum_over size (cond b (p ∷ ps) ps) ≡ cond b (size p) 0 + nat_sum_over size ps
kept true p ps = refl
kept false p ps = omega arith

at_one : (b s first next v : ℕ) → first ≤ s → s < next
    → cond (eqb b s) v 0 + cond (ltb b first) v 0 ≤ cond (ltb b next) v 0
at_one b s first next v low high = grind (arith, nat_tests)

-- what hangs on one sequence and on those before a first one hangs below the next
pub after-hanging : (s first next : ℕ) (zs : List (PlacedSet × ℤ)) → first ≤ s → s < next
    → hanging_size s zs + hanging first zs ≤ hanging next zs
after-hanging s first next [] low high = omega arith
after-hanging s first next (p ∷ ps) low high =
    omega (
      arith,
      kept (eqb p.0.before s) p (filter (λ q. eqb q.0.before s) ps),
      at_one p.0.before s first next (size p) low high,
      after-hanging s first next ps low high,
    )

-- what hangs on a sequence doesn't count at a later one
pub not_here : (b s v n : ℕ) → b < s → cond (eqb b s) v 0 + n ≡ n
not_here b s v n less = grind (arith, nat_tests)

-- a set after an earlier sequence counts whole
pub after-first : (b first v : ℕ) → b < first → cond (ltb b first) v 0 ≡ v
after-first b first v low = grind (arith, nat_tests)

-- the leaf sums from a sequence on
abbrev pub from : (ℕ → ℤ) → ℕ → List InformationSet → ℕ
from sums first hs = nat_sum_over (λ s. unsigned_abs (sums s)) (range_with_len first (nat_sum_over (λ h. h.actions) hs))

-- the leaf sums at a set, and from the next set on
pub from-cons : (sums : ℕ → ℤ) (first : ℕ) (h : InformationSet) (hs : List InformationSet)
    → from sums first (h ∷ hs)
    ≡ nat_sum_over (λ s. unsigned_abs (sums s)) (range_with_len first h.actions) + from sums (first + h.actions) hs
from-cons sums first h hs =
    ap (nat_sum_over (λ s. unsigned_abs (sums s))) (range-append first h.actions (nat_sum_over (λ g. g.actions) hs))
    ∙ nat_sum_over-append (λ s. unsigned_abs (sums s)) (range_with_len first h.actions) (range_with_len (first + h.actions) (nat_sum_over (λ g. g.actions) hs))

-- all leaf sums
pub all_sums : (sums : ℕ → ℤ) (sets : List InformationSet)
    → nat_sum_over (λ s. unsigned_abs (sums s)) (sequences sets) ≡ unsigned_abs (sums 0) + from sums 1 sets
all_sums sums sets =
    let one_first : sequence_count sets ≡ suc (nat_sum_over (λ h. h.actions) sets) = omega arith in
    ap (λ n. nat_sum_over (λ s. unsigned_abs (sums s)) (range_with_len 0 n)) one_first
