-- The equations of a round and their solution.
use Rattle.std.proofs.Common.{◌≡◌, ℕ, zero, suc, ◌+◌, ◌≤◌, ◌<◌, false, cond, eqb, List, [], ◌∷◌, ◌++◌, zip, length, drop, filter, slice_index, All, arith, ap}
use Rattle.std.proofs.Common.{sym, ◌∙◌, refl, subst, append_assoc, length-append}
use Rattle.std.specs.Prelude.{slice_get, Some, ℤ, pos, ◌+ℤ◌, ◌*ℤ◌}
use Rattle.std.specs.List.{AllZip}
use Rattle.std.proofs.lemmas.List.Elements.{All-head, All-tail, All-cons, All-nil, All-append}
use Rattle.std.proofs.lemmas.Bool.Decides.{nat_tests}
use Rattle.def_sums.specs.Sum.{sum_over}
use Rattle.def_sums.specs.Floor.{floor_div}
use Rattle.def_sums.proofs.SumLaws.{sum_over-same}
use Rattle.def_sums.proofs.Ranges.{All-range}
use Rattle.def_plan.specs.Form.{InformationSet, PlacedSet, placed_from, placed, sequences_of, IsInOrder}
use Rattle.def_plan.specs.Payoff.{worth}
use Rattle.def_round.specs.Play.{units}
use Rattle.def_round.specs.Round.{set_value, values_from}
use Rattle.def_round.specs.Laws.{WorthsNeedLaterSets, ValuesSolveTheEquations, ValuesAreUnique, ValuesOfTheRest}

-- sets that come after smaller sequences are not directly after s
earlier_sets : (s : ℕ) (front back : List PlacedSet) (front_values back_values : List ℤ)
    → length front ≡ length front_values → All (λ h. h.before < s) front
    → filter (λ p. eqb p.0.before s) (zip (front ++ back) (front_values ++ back_values))
    ≡ filter (λ p. eqb p.0.before s) (zip back back_values)
earlier_sets s [] back [] back_values e less = refl
earlier_sets s [] back (v ∷ vs) back_values e less = absurd (omega arith)
earlier_sets s (h ∷ hs) back [] back_values e less = absurd (omega arith)
earlier_sets s (h ∷ hs) back (v ∷ vs) back_values e less =
    let not_here : eqb h.before s ≡ false = (let smaller : h.before < s = All-head (λ h'. h'.before < s) h hs less in grind (arith, nat_tests)) in
    ap (λ b. cond b ((h, v) ∷ filter (λ p. eqb p.0.before s) (zip (hs ++ back) (vs ++ back_values)))
    (filter (λ p. eqb p.0.before s) (zip (hs ++ back) (vs ++ back_values)))) not_here
    ∙ earlier_sets s hs back vs back_values (omega arith) (All-tail (λ h'. h'.before < s) h hs less)

-- so the worth of s needs the later sets alone
pub worth_later : (sums : ℕ → ℤ) (s : ℕ) (front back : List PlacedSet) (front_values back_values : List ℤ)
    → length front ≡ length front_values → All (λ h. h.before < s) front
    → worth sums (front ++ back) (front_values ++ back_values) s ≡ worth sums back back_values s
worth_later sums s front back front_values back_values e less =
    ap (λ ps. sums s +ℤ sum_over (λ p. p.1) ps) (earlier_sets s front back front_values back_values e less)

-- a set's value from worths that agree at its sequences
pub set_value_same : (play : List ℕ) (f g : ℕ → ℤ) (h : PlacedSet)
    → ((s : ℕ) → h.first ≤ s → s < h.first + h.actions → f s ≡ g s) → set_value play f h ≡ set_value play g h
set_value_same play f g h same =
    ap (λ n. floor_div n units) (sum_over-same (λ s. pos (slice_index play s) *ℤ f s) (λ s. pos (slice_index play s) *ℤ g s) (sequences_of h)
    (All-range (λ s. pos (slice_index play s) *ℤ f s ≡ pos (slice_index play s) *ℤ g s) h.first h.actions
    (λ s low high. ap (λ w. pos (slice_index play s) *ℤ w) (same s low high))))

-- the sets before a place of the list, with the set there: all come after smaller sequences than that set's own
pub record AreEarlier (front : List PlacedSet) (front_values : List ℤ) (first : ℕ) : Type 0 where
  pub same_length : length front ≡ length front_values
  pub less : All (λ h. h.before < first) front

-- a set's worths from all sets and from the later ones alone
pub worth_at_set : (sums : ℕ → ℤ) (front : List PlacedSet) (front_values : List ℤ) (h : PlacedSet)
    (rest : List PlacedSet) (value : ℤ) (values : List ℤ)
    → AreEarlier front front_values h.first → h.before < h.first
    → (s : ℕ) → h.first ≤ s
    → worth sums (front ++ h ∷ rest) (front_values ++ value ∷ values) s ≡ worth sums rest values s
worth_at_set sums front front_values h rest value values earlier before s low =
    ap (λ hs. worth sums hs (front_values ++ value ∷ values) s) (sym (append_assoc front (h ∷ []) rest))
    ∙ ap (λ vs. worth sums ((front ++ h ∷ []) ++ rest) vs s) (sym (append_assoc front_values (value ∷ []) values))
    ∙ worth_later sums s (front ++ h ∷ []) rest (front_values ++ value ∷ []) values longer less
  where
    longer : length (front ++ h ∷ []) ≡ length (front_values ++ value ∷ [])
    longer = omega (arith, length-append front (h ∷ []), length-append front_values (value ∷ []), earlier.same_length)

    less : All (λ h'. h'.before < s) (front ++ h ∷ [])
    less = All-append (λ h'. h'.before < s) front (h ∷ [])
        (λ k d below. let e = earlier.less k d below in omega arith)
        (All-cons (λ h'. h'.before < s) h [] (omega arith) (All-nil (λ h'. h'.before < s)))

-- the front with one set more comes before the sequences behind that set
pub one_more_earlier : (front : List PlacedSet) (front_values : List ℤ) (h : PlacedSet) (value : ℤ)
    → AreEarlier front front_values h.first → h.before < h.first
    → AreEarlier (front ++ h ∷ []) (front_values ++ value ∷ []) (h.first + h.actions)
one_more_earlier front front_values h value earlier before = record {
  same_length = omega (arith, length-append front (h ∷ []), length-append front_values (value ∷ []), earlier.same_length);
  less = All-append (λ h'. h'.before < h.first + h.actions) front (h ∷ [])
      (λ k d below. let e = earlier.less k d below in omega arith)
      (All-cons (λ h'. h'.before < h.first + h.actions) h [] (omega arith) (All-nil (λ h'. h'.before < h.first + h.actions)));
}

-- ---- the computation solves the equations
solves_from : (sums : ℕ → ℤ) (play : List ℕ) (front : List PlacedSet) (front_values : List ℤ) (first : ℕ)
    (sets : List InformationSet)
    → AreEarlier front front_values first → All IsInOrder (placed_from first sets)
    → AllZip (λ h value. value ≡ set_value play (worth sums (front ++ placed_from first sets) (front_values ++ values_from sums play (placed_from first sets)))
    h) (placed_from first sets) (values_from sums play (placed_from first sets))
solves_from sums play front front_values first [] earlier order = tt
solves_from sums play front front_values first (set ∷ sets) earlier order =
    let h : PlacedSet = record { first = first; before = set.before; actions = set.actions } in
    let rest : List PlacedSet = placed_from (first + set.actions) sets in
    let values : List ℤ = values_from sums play rest in
    let value : ℤ = set_value play (worth sums rest values) h in
    let before : set.before < first = (All-head IsInOrder h rest order).1 in
    let here : value ≡ set_value play (worth sums (front ++ h ∷ rest) (front_values ++ value ∷ values)) h =
    sym (set_value_same play (worth sums (front ++ h ∷ rest) (front_values ++ value ∷ values)) (worth sums rest values) h
    (λ s low high. worth_at_set sums front front_values h rest value values earlier before s low)) in
    let later = solves_from sums play (front ++ h ∷ []) (front_values ++ value ∷ []) (first + set.actions) sets
    (one_more_earlier front front_values h value earlier before) (All-tail IsInOrder h rest order) in (
      here,
      subst (λ vs. AllZip (λ h' v. v ≡ set_value play (worth sums (front ++ h ∷ rest) vs) h') rest values) (append_assoc front_values (value ∷ []) values)
          (subst (λ hs. AllZip (λ h' v. v ≡ set_value play (worth sums hs ((front_values ++ value ∷ []) ++ values)) h') rest values)
          (append_assoc front (h ∷ []) rest) later),
    )

-- an empty front comes before any sequence
pub none_earlier : (first : ℕ) → AreEarlier [] [] first
none_earlier first = record { same_length = refl; less = All-nil (λ h. h.before < first) }

-- each computed value is the floor over the worths that the computed values give
pub values_solve : ValuesSolveTheEquations
values_solve sums play sets order = solves_from sums play [] [] 1 sets (none_earlier 1) order

-- ---- and they have no other solution
unique_from : (sums : ℕ → ℤ) (play : List ℕ) (front : List PlacedSet) (front_values : List ℤ) (first : ℕ)
    (sets : List InformationSet) (values : List ℤ)
    → AreEarlier front front_values first → All IsInOrder (placed_from first sets)
    → AllZip (λ h value. value ≡ set_value play (worth sums (front ++ placed_from first sets) (front_values ++ values)) h) (placed_from first sets) values
    → values ≡ values_from sums play (placed_from first sets)
unique_from sums play front front_values first [] [] earlier order all = refl
unique_from sums play front front_values first [] (value ∷ values) earlier order all = elim all [ ]
unique_from sums play front front_values first (set ∷ sets) [] earlier order all = elim all [ ]
unique_from sums play front front_values first (set ∷ sets) (value ∷ values) earlier order all =
    let h : PlacedSet = record { first = first; before = set.before; actions = set.actions } in
    let rest : List PlacedSet = placed_from (first + set.actions) sets in
    let before : set.before < first = (All-head IsInOrder h rest order).1 in
    let later =
    subst (λ hs. AllZip (λ h' v. v ≡ set_value play (worth sums hs ((front_values ++ value ∷ []) ++ values)) h') rest values)
    (sym (append_assoc front (h ∷ []) rest))
    (subst (λ vs. AllZip (λ h' v. v ≡ set_value play (worth sums (front ++ h ∷ rest) vs) h') rest values) (sym (append_assoc front_values (value ∷ []) values))
    all.1) in
    let tail : values ≡ values_from sums play rest =
    unique_from sums play (front ++ h ∷ []) (front_values ++ value ∷ []) (first + set.actions) sets values
    (one_more_earlier front front_values h value earlier before) (All-tail IsInOrder h rest order) later in
    let head : value ≡ set_value play (worth sums rest (values_from sums play rest)) h =
    all.0
    ∙ set_value_same play (worth sums (front ++ h ∷ rest) (front_values ++ value ∷ values)) (worth sums rest values) h
    (λ s low high. worth_at_set sums front front_values h rest value values earlier before s low)
    ∙ ap (λ vs. set_value play (worth sums rest vs) h) tail in
    ap (λ v. v ∷ values) head ∙ ap (λ vs. set_value play (worth sums rest (values_from sums play rest)) h ∷ vs) tail

-- values that solve the equations of a round are the computed ones
pub values_are_unique : ValuesAreUnique
values_are_unique sums play sets values order all = unique_from sums play [] [] 1 sets values (none_earlier 1) order all

-- ---- the values of the rest
rest_from : (sums : ℕ → ℤ) (play : List ℕ) (k : ℕ) (hs : List PlacedSet)
    → drop k (values_from sums play hs) ≡ values_from sums play (drop k hs)
rest_from sums play zero hs = refl
rest_from sums play (suc k) [] = refl
rest_from sums play (suc k) (h ∷ hs) = rest_from sums play k hs

-- the values of the sets behind the first k are what these later sets alone give
pub values_of_the_rest : ValuesOfTheRest
values_of_the_rest sums play sets k = rest_from sums play k (placed sets)

-- there is one value for each set
pub length-values_from : (sums : ℕ → ℤ) (play : List ℕ) (hs : List PlacedSet)
    → length (values_from sums play hs) ≡ length hs
length-values_from sums play [] = refl
length-values_from sums play (h ∷ hs) = ap suc (length-values_from sums play hs)

-- ---- worths from a set on
some_is : {X : Type 0} (x y : X) → Some x ≡ Some y → x ≡ y
some_is x y e = cc

first_rises : (first : ℕ) (sets : List InformationSet) (k : ℕ) (h : PlacedSet)
    → slice_get (placed_from first sets) k ≡ Some h → first ≤ h.first
first_rises first [] k h e = absurd (cc)
first_rises first (set ∷ sets) zero h e =
    let same : first ≡ h.first = ap (λ (x : PlacedSet). x.first) (some_is (record { first = first; before = set.before; actions = set.actions }) h e) in
    omega (arith, same)
first_rises first (set ∷ sets) (suc k) h e = omega (arith, first_rises (first + set.actions) sets k h e)

later_sets : (sums : ℕ → ℤ) (first : ℕ) (sets : List InformationSet) (values : List ℤ)
    → All IsInOrder (placed_from first sets) → length values ≡ length sets
    → (k : ℕ) (h : PlacedSet) → slice_get (placed_from first sets) k ≡ Some h → (s : ℕ) → h.first ≤ s
    → worth sums (placed_from first sets) values s
    ≡ worth sums (drop (suc k) (placed_from first sets)) (drop (suc k) values) s
later_sets sums first [] values order long k h e s low = absurd (cc)
later_sets sums first (set ∷ sets) [] order long k h e s low = absurd (omega arith)
later_sets sums first (set ∷ sets) (v ∷ vs) order long k h e s low =
    worth_later sums s (here ∷ []) rest (v ∷ []) vs refl (All-cons (λ h'. h'.before < s) here [] before (All-nil (λ h'. h'.before < s)))
    ∙ by_place (later_sets sums (first + set.actions) sets vs (All-tail IsInOrder here rest order) (omega arith)) k e
  where
    here : PlacedSet
    here = record { first = first; before = set.before; actions = set.actions }

    rest : List PlacedSet
    rest = placed_from (first + set.actions) sets

    before : set.before < s
    before = let less : set.before < first = (All-head IsInOrder here rest order).1 in omega (arith, less, first_rises first (set ∷ sets) k h e, low)

    by_place : ((k : ℕ) (h : PlacedSet) → slice_get rest k ≡ Some h → (s : ℕ) → h.first ≤ s
        → worth sums rest vs s ≡ worth sums (drop (suc k) rest) (drop (suc k) vs) s)
        → (k : ℕ) → slice_get (here ∷ rest) k ≡ Some h → worth sums rest vs s ≡ worth sums (drop k rest) (drop k vs) s
    by_place later zero e = refl
    by_place later (suc k) e = later k h e s low

-- from a set's first sequence on, a worth is the same with the sets up to that one left out
pub worths_need_later_sets : WorthsNeedLaterSets
worths_need_later_sets sums sets values order long k h e s low =
    let next : suc k ≡ k + 1 = omega arith in
    later_sets sums 1 sets values order long k h e s low ∙ ap (λ n. worth sums (drop n (placed sets)) (drop n values) s) next
