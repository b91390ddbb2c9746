-- The rows after one value more, and after all of them.
use Rattle.std.proofs.Common.{◌≡◌, ℕ, ◌+◌, ◌-◌, ◌<◌, ◌≤◌, Bool, true, false, cond, eqb, List, ◌∷◌, length, get_or, drop, filter, zip, Some, slice_get, ℤ, pos}
use Rattle.std.proofs.Common.{◌+ℤ◌, unsigned_abs, sym, ap, ◌∙◌, arith}
use Rattle.std.proofs.lemmas.Int.{ints}
use Rattle.std.proofs.lemmas.List.{drop_more, drop_all}
use Rattle.std.proofs.lemmas.Option.{get_or_from_slice_get}
use Rattle.def_tree.specs.declared.Player.{Player}
use Rattle.def_sums.specs.Sum.{sum_over}
use Rattle.def_sums.proofs.RingLaws.{+ℤ_assoc, +ℤ-zero, zero-+ℤ, unsigned_abs-+ℤ}
use Rattle.def_sums.proofs.SumLaws.{sum_over-filter}
use Rattle.def_plan.specs.Form.{Leaf, PlacedSet, leaf_sequence}
use Rattle.def_plan.specs.Payoff.{leaf_sum, values_after}
use Rattle.def_plan.specs.Threads.{paid_at_leaf}
use Rattle.xg_check.specs.Views.{AddsAt, AreAllWithin, row}

-- a sum over those of a list that pass a test, by the list's first
sum_more : {A : Type 0} (f : A → ℤ) (own : A → Bool) (x : A) (xs : List A)
    → sum_over f (filter own (x ∷ xs)) ≡ cond (own x) (f x) (pos 0) +ℤ sum_over f (filter own xs)
sum_more f own x xs =
    sum_over-filter f own (x ∷ xs) ∙ ap (λ rest. cond (own x) (f x) (pos 0) +ℤ rest) (sym (sum_over-filter f own xs))

-- a leaf sum by the first of the leaves
pub leaf_more : (player : Player) (z : Leaf) (zs : List Leaf) (against : List ℕ) (s : ℕ)
    → leaf_sum player (z ∷ zs) against s
    ≡ cond (eqb (leaf_sequence player z) s) (paid_at_leaf player against z) (pos 0) +ℤ leaf_sum player zs against s
leaf_more player z zs against s = sum_more (paid_at_leaf player against) (λ y. eqb (leaf_sequence player y) s) z zs

-- what was there, with what is left to add
abbrev pub AddsUpTo : (ℕ → ℤ) → (ℕ → ℤ) → (ℕ → ℤ) → Type 0
AddsUpTo rows left whole = (s : ℕ) → rows s +ℤ left s ≡ whole s

-- one term of what is left is added
pub added : (before now left next term whole : ℤ) → before +ℤ left ≡ whole → now ≡ before +ℤ term → left ≡ term +ℤ next
    → now +ℤ next ≡ whole
added before now left next term whole h n l =
    ap (λ x. x +ℤ next) n ∙ +ℤ_assoc before term next ∙ ap (λ x. before +ℤ x) (sym l) ∙ h

-- the element that a place has
pub there_is : {X : Type 0} (xs : List X) (i : ℕ) (x d : X) → slice_get xs (i + 1 - 1) ≡ Some x → get_or xs i d ≡ x
there_is xs i x d e = let same : i + 1 - 1 ≡ i = omega arith in get_or_from_slice_get xs i x d (ap (slice_get xs) (sym same) ∙ e)

term_size : (t : Bool) (x : ℤ) (most : ℕ) → unsigned_abs x ≤ most → unsigned_abs (cond t x (pos 0)) ≤ most
term_size true x most h = h
term_size false x most h = omega arith

-- rows within a size, where a number within another is added at one place, are within both together
pub within_step : (before now : List ℤ) (k : ℕ) (x : ℤ) (most more : ℕ) → AreAllWithin most before
    → AddsAt before now k x
    → unsigned_abs x ≤ more → AreAllWithin (most + more) now
within_step before now k x most more h a small s =
    omega (arith, ap unsigned_abs (a s), unsigned_abs-+ℤ (row before s) (cond (eqb k s) x (pos 0)), h s, term_size (eqb k s) x more small)

-- ---- values
values_more : (p : PlacedSet) (ps : List PlacedSet) (v : ℤ) (vs : List ℤ) (s : ℕ)
    → values_after (p ∷ ps) (v ∷ vs) s ≡ cond (eqb p.before s) v (pos 0) +ℤ values_after ps vs s
values_more p ps v vs s =
    sum_more (λ (q : PlacedSet × ℤ). q.1) (λ (q : PlacedSet × ℤ). eqb q.0.before s) (p, v) (zip ps vs)

-- where a set's value is added at the sequence before it, the rows and the later sets' values still make the whole
pub value_step : (before now : List ℤ) (hs : List PlacedSet) (vs : List ℤ) (k : ℕ) (h : PlacedSet) (whole : ℕ → ℤ)
    → k < length hs → k < length vs → get_or hs k h ≡ h
    → AddsUpTo (row before) (values_after (drop k hs) (drop k vs)) whole → AddsAt before now h.before (row vs k)
    → AddsUpTo (row now) (values_after (drop (k + 1) hs) (drop (k + 1) vs)) whole
value_step before now hs vs k h whole low low' is p a s =
    let more : values_after (drop k hs) (drop k vs) s
    ≡ cond (eqb h.before s) (row vs k) (pos 0) +ℤ values_after (drop (k + 1) hs) (drop (k + 1) vs) s =
    ap (λ ys. values_after ys (drop k vs) s) (drop_more hs k h low ∙ ap (λ y. y ∷ drop (k + 1) hs) is)
    ∙ ap (λ ys. values_after (h ∷ drop (k + 1) hs) ys s) (drop_more vs k (pos 0) low')
    ∙ values_more h (drop (k + 1) hs) (row vs k) (drop (k + 1) vs) s in
    added (row before s) (row now s) _ _ _ (whole s) (p s) (a s) more

-- where no set is left, the rows alone are the whole
pub no_value_left : (rows : List ℤ) (hs : List PlacedSet) (vs : List ℤ) (k : ℕ) (whole : ℕ → ℤ) → length hs ≤ k
    → AddsUpTo (row rows) (values_after (drop k hs) (drop k vs)) whole → (s : ℕ) → row rows s ≡ whole s
no_value_left rows hs vs k whole le h s =
    sym (+ℤ-zero (row rows s)) ∙ ap (λ ys. row rows s +ℤ values_after ys (drop k vs) s) (sym (drop_all k hs le)) ∙ h s

-- ---- both
empty : (x : ℤ) → unsigned_abs x ≤ 0 → x ≡ pos 0
empty x h = omega (arith, ints)

at_each : (rows0 rows1 rows2 : List ℤ) (sums values : ℕ → ℤ) → AreAllWithin 0 rows0
    → ((s : ℕ) → row rows1 s ≡ row rows0 s +ℤ sums s)
    → ((s : ℕ) → row rows2 s ≡ row rows1 s +ℤ values s) → (s : ℕ) → row rows2 s ≡ sums s +ℤ values s
at_each rows0 rows1 rows2 sums values none one two s =
    two s ∙ ap (λ x. x +ℤ values s) (one s ∙ ap (λ x. x +ℤ sums s) (empty (row rows0 s) (none s)) ∙ zero-+ℤ (sums s))

-- rows of zeros, to which the leaf sums were added and then the values
pub whole_worth : (rows0 rows1 rows2 : List ℤ) (sums values : ℕ → ℤ) → AreAllWithin 0 rows0
    → ((s : ℕ) → row rows1 s ≡ row rows0 s +ℤ sums s) → ((s : ℕ) → row rows2 s ≡ row rows1 s +ℤ values s)
    → row rows2 ≡ (λ s. sums s +ℤ values s)
whole_worth rows0 rows1 rows2 sums values none one two = λ i. λ s. at_each rows0 rows1 rows2 sums values none one two s i
