-- The test of a plan.
use Rattle.std.proofs.Common.{◌≡◌, ℕ, zero, suc, ◌+◌, ◌<◌, ◌↔◌, eqb, leb, cond, Bool, true, false, ◌&&◌, List, [], ◌∷◌, length, slice_index, get_or, take, All}
use Rattle.std.proofs.Common.{arith, ap, sym, ◌∙◌, refl, subst, eq-eqb, ⊎_elim, Option, Some, None, MatchOption, eqb-true, leb-true, le-leb}
use Rattle.std.proofs.lemmas.Bool.{false≢true, and_parts, and_from, cases_lt}
use Rattle.std.proofs.lemmas.Bool.Decides.{eqb_tells}
use Rattle.std.proofs.lemmas.List.{get_or-take, length-take-le}
use Rattle.std.proofs.lemmas.List.Elements.{All-cons, All-nil}
use Rattle.def_sums.specs.Sum.{nat_sum_over}
use Rattle.def_plan.specs.Form.{InformationSet, PlacedSet, placed_from, placed, sequences_of, sequence_count}
use Rattle.def_plan.specs.Plan.{AddsUp, IsPlan, HasRoot, first_not_adding, bad_set, IsBadSet}

-- each set has one place
pub length-placed : (first : ℕ) (sets : List InformationSet) → length (placed_from first sets) ≡ length sets
length-placed first [] = refl
length-placed first (h ∷ hs) = ap suc (length-placed (first + h.actions) hs)

-- the place i, counted from 0, is the first at which the numbers don't add up
record FirstBad (plan : List ℕ) (hs : List PlacedSet) (i : ℕ) : Type 0 where
  within : i < length hs
  earlier : All (AddsUp plan) (take i hs)
  here : (d : PlacedSet) → ¬ (AddsUp plan (get_or hs i d))

Searched : List ℕ → ℕ → List PlacedSet → Option ℕ → Type 0
Searched plan k hs r = MatchOption r (All (AddsUp plan) hs) (λ j. (i : ℕ) × (j ≡ k + i) × FirstBad plan hs i)

later : (plan : List ℕ) (k : ℕ) (h : PlacedSet) (hs : List PlacedSet) → AddsUp plan h → (r : Option ℕ)
    → Searched plan (k + 1) hs r → Searched plan k (h ∷ hs) r
unfolding Searched
later plan k h hs fits None all = All-cons (AddsUp plan) h hs fits all
later plan k h hs fits (Some j) found = (
  suc found.0,
  omega (arith, found.1),
  record {
    within = omega (arith, found.2.within);
    earlier = All-cons (AddsUp plan) h (take found.0 hs) fits found.2.earlier;
    here = found.2.here;
  },
)

at_once : (plan : List ℕ) (k : ℕ) (h : PlacedSet) (hs : List PlacedSet) → ¬ (AddsUp plan h)
    → Searched plan k (h ∷ hs) (Some k)
unfolding Searched
at_once plan k h hs bad = (0, omega arith, record { within = omega arith; earlier = All-nil (AddsUp plan); here = λ d. bad })

search_one : (plan : List ℕ) (k : ℕ) (h : PlacedSet) (hs : List PlacedSet)
    → Searched plan (k + 1) hs (first_not_adding plan (k + 1) hs)
    → Searched plan k (h ∷ hs) (first_not_adding plan k (h ∷ hs))
search_one plan k h hs rest =
    ⊎_elim
    (λ yes. subst (λ b. Searched plan k (h ∷ hs) (cond b (first_not_adding plan (k + 1) hs) (Some k))) (sym yes.0)
    (later plan k h hs yes.1 (first_not_adding plan (k + 1) hs) rest))
    (λ no. subst (λ b. Searched plan k (h ∷ hs) (cond b (first_not_adding plan (k + 1) hs) (Some k))) (sym no.0) (at_once plan k h hs no.1))
    (eqb_tells (nat_sum_over (λ s. slice_index plan s) (sequences_of h)) (slice_index plan h.before))

searched : (plan : List ℕ) (k : ℕ) (hs : List PlacedSet) → Searched plan k hs (first_not_adding plan k hs)
unfolding Searched
searched plan k [] = All-nil (AddsUp plan)
searched plan k (h ∷ hs) = search_one plan k h hs (searched plan (k + 1) hs)

-- ---- the tests of the root
abbrev passes : List InformationSet → ℕ → List ℕ → Bool
passes sets root plan = eqb (length plan) (sequence_count sets) && (leb 1 root && eqb (slice_index plan 0) root)

passes-from : (sets : List InformationSet) (root : ℕ) (plan : List ℕ) → HasRoot sets root plan
    → passes sets root plan ≡ true
passes-from sets root plan h =
    and_from _ _ (eq-eqb (length plan) (sequence_count sets) h.all_sequences)
    (and_from _ _ (le-leb 1 root h.some_root) (eq-eqb (slice_index plan 0) root h.root_weight))

root-from : (sets : List InformationSet) (root : ℕ) (plan : List ℕ) → passes sets root plan ≡ true
    → HasRoot sets root plan
root-from sets root plan e =
    let a = and_parts (eqb (length plan) (sequence_count sets)) (leb 1 root && eqb (slice_index plan 0) root) e in
    let b = and_parts (leb 1 root) (eqb (slice_index plan 0) root) a.1 in
    record { all_sequences = eqb-true _ _ a.0; some_root = leb-true 1 root b.0; root_weight = eqb-true _ _ b.1 }

pub IsPlan-root : {sets : List InformationSet} {root : ℕ} {plan : List ℕ} → IsPlan sets root plan
    → HasRoot sets root plan
IsPlan-root p = record { all_sequences = p.all_sequences; some_root = p.some_root; root_weight = p.root_weight }

says_from : (sets : List InformationSet) (root : ℕ) (plan : List ℕ) → HasRoot sets root plan → (r : Option ℕ)
    → Searched plan 1 (placed sets) r → MatchOption r (IsPlan sets root plan) (IsBadSet sets root plan)
unfolding Searched
says_from sets root plan h None all = record { all_sequences = h.all_sequences; some_root = h.some_root; root_weight = h.root_weight; each_set = all }
says_from sets root plan h (Some j) found =
    let next : j ≡ suc found.0 = omega (arith, found.1) in
    subst (IsBadSet sets root plan) (sym next) (h, omega (arith, found.2.within, length-placed 1 sets), found.2.earlier, found.2.here)

says_by : (sets : List InformationSet) (root : ℕ) (plan : List ℕ) → (b : Bool) → passes sets root plan ≡ b
    → MatchOption (cond b (first_not_adding plan 1 (placed sets)) (Some 0)) (IsPlan sets root plan) (IsBadSet sets root plan)
says_by sets root plan true e = says_from sets root plan (root-from sets root plan e) (first_not_adding plan 1 (placed sets)) (searched plan 1 (placed sets))
says_by sets root plan false e = λ h. false≢true (sym e ∙ passes-from sets root plan h)

pub bad_set-says : (sets : List InformationSet) (root : ℕ) (plan : List ℕ)
    → MatchOption (bad_set sets root plan) (IsPlan sets root plan) (IsBadSet sets root plan)
bad_set-says sets root plan = says_by sets root plan (passes sets root plan) refl

-- ---- a list is a plan or has one bad set
no_plan : (sets : List InformationSet) (root : ℕ) (plan : List ℕ) (k : ℕ) → IsBadSet sets root plan k
    → ¬ (IsPlan sets root plan)
no_plan sets root plan zero bad p = bad (IsPlan-root p)
no_plan sets root plan (suc k) bad p = bad.3 (record { first = 0; before = 0; actions = 0 }) (p.each_set k _ (omega (arith, bad.1, length-placed 1 sets)))

earlier_fits : (sets : List InformationSet) (root : ℕ) (plan : List ℕ) (j k : ℕ) → IsBadSet sets root plan (suc j)
    → IsBadSet sets root plan (suc k) → j < k → ⊥
earlier_fits sets root plan j k a b less =
    let d : PlacedSet = record { first = 0; before = 0; actions = 0 } in
    a.3 d (subst (AddsUp plan) (get_or-take k (placed sets) j d less) (b.2 j d
    (omega (arith, length-take-le k (placed sets) (omega (arith, b.1, length-placed 1 sets))))))

one_only : (sets : List InformationSet) (root : ℕ) (plan : List ℕ) (j k : ℕ) → IsBadSet sets root plan j
    → IsBadSet sets root plan k → j ≡ k
one_only sets root plan zero zero a b = refl
one_only sets root plan zero (suc k) a b = absurd (a b.0)
one_only sets root plan (suc j) zero a b = absurd (b a.0)
one_only sets root plan (suc j) (suc k) a b =
    ⊎_elim (λ less. absurd (earlier_fits sets root plan j k a b less))
    (λ more. ⊎_elim (λ less. absurd (earlier_fits sets root plan k j b a less)) (λ le. omega arith) (cases_lt k j))
    (cases_lt j k)

none_from : (sets : List InformationSet) (root : ℕ) (plan : List ℕ) → IsPlan sets root plan → (r : Option ℕ)
    → MatchOption r (IsPlan sets root plan) (IsBadSet sets root plan) → r ≡ None
none_from sets root plan p None says = refl
none_from sets root plan p (Some k) says = absurd (no_plan sets root plan k says p)

some_from : (sets : List InformationSet) (root : ℕ) (plan : List ℕ) (k : ℕ) → IsBadSet sets root plan k → (r : Option ℕ)
    → MatchOption r (IsPlan sets root plan) (IsBadSet sets root plan) → r ≡ Some k
some_from sets root plan k bad None says = absurd (no_plan sets root plan k bad says)
some_from sets root plan k bad (Some j) says = ap Some (one_only sets root plan j k says bad)

-- no set is found bad exactly where the numbers are a plan of the root
pub bad_set-none : (sets : List InformationSet) (root : ℕ) (plan : List ℕ)
    → (bad_set sets root plan ≡ None) ↔ IsPlan sets root plan
bad_set-none sets root plan = (
  λ e. subst (λ r. MatchOption r (IsPlan sets root plan) (IsBadSet sets root plan)) e (bad_set-says sets root plan),
  λ p. none_from sets root plan p (bad_set sets root plan) (bad_set-says sets root plan),
)

-- the place that is found is exactly the first that keeps the numbers from being a plan
pub bad_set-some : (sets : List InformationSet) (root : ℕ) (plan : List ℕ) (k : ℕ)
    → (bad_set sets root plan ≡ Some k) ↔ IsBadSet sets root plan k
bad_set-some sets root plan k = (
  λ e. subst (λ r. MatchOption r (IsPlan sets root plan) (IsBadSet sets root plan)) e (bad_set-says sets root plan),
  λ bad. some_from sets root plan k bad (bad_set sets root plan) (bad_set-says sets root plan),
)

pub adding-none : (plan : List ℕ) (k : ℕ) (hs : List PlacedSet) → first_not_adding plan k hs ≡ None
    → All (AddsUp plan) hs
unfolding Searched
adding-none plan k hs e = subst (λ r. MatchOption r (All (AddsUp plan) hs) (λ j. (i : ℕ) × (j ≡ k + i) × FirstBad plan hs i)) e (searched plan k hs)

none-adding : (plan : List ℕ) (k : ℕ) (hs : List PlacedSet) → All (AddsUp plan) hs → (r : Option ℕ)
    → Searched plan k hs r → r ≡ None
unfolding Searched
none-adding plan k hs all None found = refl
none-adding plan k hs all (Some j) found =
    let d : PlacedSet = record { first = 0; before = 0; actions = 0 } in
    absurd (found.2.here d (all found.0 d found.2.within))

pub adding-all : (plan : List ℕ) (k : ℕ) (hs : List PlacedSet) → All (AddsUp plan) hs
    → first_not_adding plan k hs ≡ None
adding-all plan k hs all = none-adding plan k hs all (first_not_adding plan k hs) (searched plan k hs)
