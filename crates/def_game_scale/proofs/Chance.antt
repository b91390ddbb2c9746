-- The walks over the probabilities: their signs and their sums.
use Rattle.std.proofs.Common.{◌≡◌, ◌≢◌, ℕ, zero, suc, ◌-◌, ◌*◌, ◌≤◌, Bool, true, false, not, cond, ◌&&◌, List, [], ◌∷◌, length, take, refl, ap, sym, subst, ◌∙◌}
use Rattle.std.proofs.Common.{arith, Some, None, inl, inr, ◌⊎◌}
use Rattle.std.specs.Prelude.{Option, All, Any, ℤ, pos, negsuc, ◌*ℤ◌, ◌<ℤ◌, ◌≤ℤ◌, unsigned_abs, nat_eq, ◌||◌}
use Rattle.std.specs.List.{list_any}
use Rattle.std.proofs.lemmas.Bool.{and_from, and_parts, eqb-true, not-false, not-true}
use Rattle.std.proofs.lemmas.List.Elements.{All-cons, All-head, All-nil, All-tail, All-weaker}
use Rattle.std.proofs.lemmas.List.Folds.{Any-from_list_any, list_any-from_Any, list_any_none}
use Rattle.std.proofs.lemmas.Int.{ints}
use Rattle.std.proofs.Math.IntN.{pos-*ℤ-pos}
use Rattle.def_tree.specs.declared.Kind.TheVariants.{Chance}
use Rattle.def_tree.specs.Rules.{is_same_kind}
use Rattle.def_tree.proofs.Sets.{is_same_kind-true}
use Rattle.def_fraction.specs.Divisors.{gcd}
use Rattle.def_fraction.specs.Fraction.{Fraction, IsInLowestTerms, fits, sum_of, zero_fraction}
use Rattle.def_fraction.proofs.FractionLemmas.{same_from_value}
use Rattle.def_game_paths.specs.Paths.{Visit}
use Rattle.def_game_scale.specs.Tables.{Tables, AreFractions, certain, probabilities}
use Rattle.def_game_scale.proofs.Expected.{at-or, lowest-sum}
use Rattle.def_game_scale.specs.Faults.{GameFault, ChanceNegative, ChanceSum, Scale, passing, number_after, is_chance, is_below_zero, is_negative, is_one}
use Rattle.def_game_scale.specs.Faults.{sign_fault, adding_fault, sum_fault}
use Rattle.def_game_scale.specs.First.{OpensChanceSet, SignsPass, SignsFail, sum_from, RunningSumsFit, AddUpToOne, SumsPass, SumsFail, running_past}
use Rattle.def_game_scale.specs.First.{other_total}
use Rattle.def_game_scale.proofs.Walks.{passing_none, passing_some, passed, not_passed, IsWalk, each-all}

pub is_chance-kind : (v : Visit) → is_chance v ≡ true → v.node.kind ≡ Chance
is_chance-kind v e = is_same_kind-true Chance v.node.kind e

pub kind-is_chance : (v : Visit) → v.node.kind ≡ Chance → is_chance v ≡ true
kind-is_chance v e = ap (is_same_kind Chance) e

-- Signs.

below_zero : (n : ℤ) → is_below_zero n ≡ true → n <ℤ pos 0
below_zero (pos n) e = cc
below_zero (negsuc n) e = record { lt = tt }

not_below_zero : (n : ℤ) → is_below_zero n ≡ false → pos 0 ≤ℤ n
not_below_zero (pos n) e = omega (arith, ints)
not_below_zero (negsuc n) e = cc

below_zero-is : (n : ℤ) → n <ℤ pos 0 → is_below_zero n ≡ true
below_zero-is (pos n) h = absurd (omega (arith, ints))
below_zero-is (negsuc n) h = refl

not_below_zero-is : (n : ℤ) → pos 0 ≤ℤ n → is_below_zero n ≡ false
not_below_zero-is (pos n) h = refl
not_below_zero-is (negsuc n) h = absurd (omega (arith, ints))

neither : (a b : Bool) → a || b ≡ false → (a ≡ false) × (b ≡ false)
neither true b e = cc
neither false b e = (refl, e)

none_negative : (ps : List Fraction) → list_any is_negative ps ≡ false → All (λ p. pos 0 ≤ℤ p.num) ps
none_negative [] e = All-nil (λ (p : Fraction). pos 0 ≤ℤ p.num)
none_negative (p ∷ ps) e =
    let parts = neither (is_negative p) (list_any is_negative ps) e in
    All-cons (λ (q : Fraction). pos 0 ≤ℤ q.num) p ps (not_below_zero p.num parts.0) (none_negative ps parts.1)

none_negative-is : (ps : List Fraction) → All (λ p. pos 0 ≤ℤ p.num) ps → list_any is_negative ps ≡ false
none_negative-is ps all = list_any_none is_negative ps (All-weaker (λ (p : Fraction). pos 0 ≤ℤ p.num) (λ p. is_negative p ≡ false)
    (λ p h. not_below_zero-is p.num h) ps all)

some_negative : (ps : List Fraction) → list_any is_negative ps ≡ true → Any (λ p. p.num <ℤ pos 0) ps
some_negative ps e = let found = Any-from_list_any is_negative ps e in (found.0, found.1, found.2, found.3, below_zero found.1.num found.4)

some_negative-is : (ps : List Fraction) → Any (λ p. p.num <ℤ pos 0) ps → list_any is_negative ps ≡ true
some_negative-is ps any = list_any-from_Any is_negative ps (any.0, any.1, any.2, any.3, below_zero-is any.1.num any.4)

-- where the sets before pass and this node's doesn't, it is another one
opens : (P : List Fraction → Type 0) (tables : Tables) (before : List Visit) (v : Visit) → v.node.kind ≡ Chance →
    All (λ w. w.node.kind ≡ Chance → P (probabilities tables w.node.set)) before → (P (probabilities tables v.node.set) → ⊥) → OpensChanceSet before v
opens P tables before v chance earlier fails = record {
  chance = chance;
  first = All-weaker (λ (w : Visit). w.node.kind ≡ Chance → P (probabilities tables w.node.set)) (λ (w : Visit). w.node.kind ≡ Chance → w.node.set ≢ v.node.set)
      (λ w pass there same. fails (subst (λ s. P (probabilities tables s)) same (pass there))) before earlier;
}

-- the test of signs tells exactly where chance has a probability below 0
pub sign_walk : (tables : Tables) → IsWalk (sign_fault tables) (SignsPass tables) (SignsFail tables)
sign_walk tables = record {
  passes = λ before v e chance.
      let ps = probabilities tables v.node.set in
      let test = (passing_none (not (is_chance v && list_any is_negative ps)) (ChanceNegative (number_after before)) None e).0 in
      let found : true && list_any is_negative ps ≡ false = ap (λ c. c && list_any is_negative ps) (sym (kind-is_chance v chance))
      ∙ not-true (is_chance v && list_any is_negative ps) test in
      none_negative ps found;
  none = λ before v pass. signs_pass tables before v (is_chance v) refl pass;
  fails = λ before v fault earlier e.
      let ps = probabilities tables v.node.set in
      elim (passing_some (not (is_chance v && list_any is_negative ps)) (ChanceNegative (number_after before)) None fault e) [
        | inr later ↦ let no = later.1 in cc
        | inl here ↦
            let parts = and_parts (is_chance v) (list_any is_negative ps) (not-false (is_chance v && list_any is_negative ps) here.0) in
            record {
              opens = opens (λ xs. All (λ p. pos 0 ≤ℤ p.num) xs) tables before v (is_chance-kind v parts.0) (each-all (SignsPass tables []) before earlier)
                  (λ all. let no : true ≡ false = sym parts.1 ∙ none_negative-is ps all in cc);
              negative = some_negative ps parts.1;
              fault_is = here.1;
            }
      ];
  some = λ before v fault fails.
      let ps = probabilities tables v.node.set in
      let found = and_from (is_chance v) (list_any is_negative ps) (kind-is_chance v fails.opens.chance) (some_negative-is ps fails.negative) in
      not_passed (not (is_chance v && list_any is_negative ps)) (ChanceNegative (number_after before)) None fault (ap not found) fails.fault_is;
}
  where
    signs_pass : (tables : Tables) (before : List Visit) (v : Visit) (c : Bool) → is_chance v ≡ c
        → SignsPass tables before v → sign_fault tables before v ≡ None
    signs_pass tables before v true chance pass =
        let ps = probabilities tables v.node.set in
        passed (not (is_chance v && list_any is_negative ps)) (ChanceNegative (number_after before)) None
        (ap (λ c. not (c && list_any is_negative ps)) chance ∙ ap not (none_negative-is ps (pass (is_chance-kind v chance))))
    signs_pass tables before v false other pass =
        let ps = probabilities tables v.node.set in
        passed (not (is_chance v && list_any is_negative ps)) (ChanceNegative (number_after before)) None (ap (λ c. not (c && list_any is_negative ps)) other)

-- Sums.

-- each sum on the way from a start is within the limit
abbrev FitsFrom : Fraction → List Fraction → Type 0
FitsFrom start ps = (n : ℕ) → n ≤ length ps → fits (sum_from start (take n ps)) ≡ true

at_start : (start : Fraction) → fits start ≡ true → FitsFrom start []
at_start start within zero h = within
at_start start within (suc n) h = absurd (omega arith)

with_first : (start p : Fraction) (ps : List Fraction) → fits start ≡ true → FitsFrom (sum_of start p) ps
    → FitsFrom start (p ∷ ps)
with_first start p ps within all zero h = within
with_first start p ps within all (suc n) h = all n (omega arith)

adding-none : (k : ℕ) (start : Fraction) (ps : List Fraction) → fits start ≡ true → adding_fault k start ps ≡ None
    → FitsFrom start ps × (is_one (sum_from start ps) ≡ true)
adding-none k start [] within e = (at_start start within, (passing_none (is_one start) (ChanceSum k) None e).0)
adding-none k start (p ∷ ps) within e =
    let parts = passing_none (fits (sum_of start p)) (Scale k) (adding_fault k (sum_of start p) ps) e in
    let later = adding-none k (sum_of start p) ps parts.0 parts.1 in
    (with_first start p ps within later.0, later.1)

-- the sums after the first one
fits_later : (start p : Fraction) (ps : List Fraction) → FitsFrom start (p ∷ ps) → FitsFrom (sum_of start p) ps
fits_later start p ps all n h = all (suc n) (omega arith)

fits_first : (start p : Fraction) (ps : List Fraction) → FitsFrom start (p ∷ ps) → fits (sum_of start p) ≡ true
fits_first start p ps all = fits_later start p ps all zero (omega arith)

adding-none_by : (k : ℕ) (start : Fraction) (ps : List Fraction) → FitsFrom start ps → is_one (sum_from start ps) ≡ true
    → adding_fault k start ps ≡ None
adding-none_by k start [] all one = passed (is_one start) (ChanceSum k) None one
adding-none_by k start (p ∷ ps) all one =
    passed (fits (sum_of start p)) (Scale k) (adding_fault k (sum_of start p) ps) (fits_first start p ps all)
    ∙ adding-none_by k (sum_of start p) ps (fits_later start p ps all) one

record PastAt (k : ℕ) (start : Fraction) (ps : List Fraction) (fault : GameFault) : Type 0 where
  count : ℕ
  some : count ≤ length ps
  past : fits (sum_from start (take count ps)) ≡ false
  fault_is : fault ≡ Scale k

record OtherTotal (k : ℕ) (start : Fraction) (ps : List Fraction) (fault : GameFault) : Type 0 where
  within : FitsFrom start ps
  other : is_one (sum_from start ps) ≡ false
  fault_is : fault ≡ ChanceSum k

adding-some : (k : ℕ) (start : Fraction) (ps : List Fraction) (fault : GameFault) → fits start ≡ true
    → adding_fault k start ps ≡ Some fault → PastAt k start ps fault ⊎ OtherTotal k start ps fault
adding-some k start [] fault within e = elim (passing_some (is_one start) (ChanceSum k) None fault e) [
  | inl here ↦ inr (record { within = at_start start within; other = here.0; fault_is = here.1 })
  | inr later ↦ let no = later.1 in cc
]
adding-some k start (p ∷ ps) fault within e = elim (passing_some (fits (sum_of start p)) (Scale k) (adding_fault k (sum_of start p) ps) fault e) [
  | inl here ↦ inl (record { count = 1; some = omega arith; past = here.0; fault_is = here.1 })
  | inr later ↦ elim (adding-some k (sum_of start p) ps fault later.0 later.1) [
    | inl past ↦ inl (record { count = suc past.count; some = omega (arith, past.some); past = past.past; fault_is = past.fault_is })
    | inr other ↦ inr (record { within = with_first start p ps within other.within; other = other.other; fault_is = other.fault_is })
  ]
]

adding-past : (k : ℕ) (start : Fraction) (ps : List Fraction) (n : ℕ) → fits start ≡ true → n ≤ length ps
    → fits (sum_from start (take n ps)) ≡ false → adding_fault k start ps ≡ Some (Scale k)
adding-past k start ps zero within h past = let no : true ≡ false = sym within ∙ past in cc
adding-past k start [] (suc n) within h past = absurd (omega arith)
adding-past k start (p ∷ ps) (suc n) within h past =
    elim (fits (sum_of start p)) as (λ b. fits (sum_of start p) ≡ b → passing b (Scale k) (adding_fault k (sum_of start p) ps) ≡ Some (Scale k)) [
      | true ↦ λ within_too. adding-past k (sum_of start p) ps n within_too (omega arith) past
      | false ↦ λ here. refl
    ] refl

adding-other : (k : ℕ) (start : Fraction) (ps : List Fraction) → FitsFrom start ps → is_one (sum_from start ps) ≡ false
    → adding_fault k start ps ≡ Some (ChanceSum k)
adding-other k start [] all other = not_passed (is_one start) (ChanceSum k) None (ChanceSum k) other refl
adding-other k start (p ∷ ps) all other =
    passed (fits (sum_of start p)) (Scale k) (adding_fault k (sum_of start p) ps) (fits_first start p ps all)
    ∙ adding-other k (sum_of start p) ps (fits_later start p ps all) other

-- the fraction 0 is in lowest terms
pub nothing-lowest : IsInLowestTerms zero_fraction
unfolding gcd
nothing-lowest = record { positive = omega arith; coprime = refl }

certain-lowest : IsInLowestTerms certain
unfolding gcd
certain-lowest = record { positive = omega arith; coprime = refl }

whole_size : (n : ℤ) → is_below_zero n ≡ false → n ≡ pos (unsigned_abs n)
whole_size (pos n) e = refl
whole_size (negsuc n) e = cc

-- a fraction in lowest terms whose numerator is its denominator is 1
is-certain : (f : Fraction) → IsInLowestTerms f → is_one f ≡ true → f ≡ certain
is-certain f low e =
    let parts = and_parts (not (is_negative f)) (nat_eq (unsigned_abs f.num) f.den) e in
    let size : unsigned_abs f.num ≡ f.den = eqb-true (unsigned_abs f.num) f.den parts.1 in
    let num : f.num ≡ pos f.den = whole_size f.num (not-true (is_negative f) parts.0) ∙ ap pos size in
    let same : f.den * 1 ≡ 1 * f.den = omega arith in
    same_from_value f certain low certain-lowest (ap (λ n. n *ℤ pos 1) num ∙ pos-*ℤ-pos f.den 1 ∙ ap pos same ∙ sym (pos-*ℤ-pos 1 f.den))

sum_from-lowest : (start : Fraction) (ps : List Fraction) → IsInLowestTerms start → All IsInLowestTerms ps
    → IsInLowestTerms (sum_from start ps)
sum_from-lowest start [] low all = low
sum_from-lowest start (p ∷ ps) low all = sum_from-lowest (sum_of start p) ps (lowest-sum start p low.positive (All-head IsInLowestTerms p ps all).positive)
    (All-tail IsInLowestTerms p ps all)

total-lowest : (tables : Tables) (set : ℕ) → AreFractions tables
    → IsInLowestTerms (sum_from zero_fraction (probabilities tables set))
total-lowest tables set h = sum_from-lowest zero_fraction (probabilities tables set) nothing-lowest
    (at-or (λ row. All IsInLowestTerms row) tables.chance (set - 1) [] h.chance (All-nil IsInLowestTerms))

-- what a test answers at a chance node, and elsewhere
at_chance : (tables : Tables) (before : List Visit) (v : Visit) → v.node.kind ≡ Chance
    → sum_fault tables before v ≡ adding_fault (number_after before) zero_fraction (probabilities tables v.node.set)
at_chance tables before v chance = ap (λ c. cond c (adding_fault (number_after before) zero_fraction (probabilities tables v.node.set)) None)
    (kind-is_chance v chance)

-- where a test that answers only at some nodes tells a fault, it is at such a node, and the answer there
pub test_passed : (c : Bool) (o : Option GameFault) (fault : GameFault) → cond c o None ≡ Some fault
    → (c ≡ true) × (o ≡ Some fault)
test_passed true o fault e = (refl, e)
test_passed false o fault e = cc

-- the test of sums tells exactly where probabilities pass the limit or don't come to 1
pub sum_walk : (tables : Tables) → AreFractions tables → IsWalk (sum_fault tables) (SumsPass tables) (SumsFail tables)
sum_walk tables h = record {
  passes = λ before v e chance.
      let ps = probabilities tables v.node.set in
      let parts = adding-none (number_after before) zero_fraction ps refl (sym (at_chance tables before v chance) ∙ e) in
      (parts.0, is-certain (sum_from zero_fraction ps) (total-lowest tables v.node.set h) parts.1);
  none = λ before v pass. sums_pass tables before v (is_chance v) refl pass;
  fails = λ before v fault earlier e.
      let ps = probabilities tables v.node.set in
      let k = number_after before in
      let there = test_passed (is_chance v) (adding_fault k zero_fraction ps) fault e in
      let chance = is_chance-kind v there.0 in
      let open_by : (RunningSumsFit ps × AddUpToOne ps → ⊥) → OpensChanceSet before v =
      opens (λ xs. RunningSumsFit xs × AddUpToOne xs) tables before v chance (each-all (SumsPass tables []) before earlier) in
      elim (adding-some k zero_fraction ps fault refl there.1) [
        | inl past ↦ running_past (open_by (λ pass. let no : true ≡ false = sym (pass.0 past.count past.some) ∙ past.past in cc)) past.count past.some past.past
            past.fault_is
        | inr other ↦
            let differs : sum_from zero_fraction ps ≢ certain = λ same. let no : true ≡ false = sym (ap is_one same) ∙ other.other in cc in
            other_total (open_by (λ pass. differs pass.1)) other.within differs other.fault_is
      ];
  some = λ before v fault fails. sums_fail tables h before v fault fails;
}
  where
    sums_pass : (tables : Tables) (before : List Visit) (v : Visit) (c : Bool) → is_chance v ≡ c
        → SumsPass tables before v → sum_fault tables before v ≡ None
    sums_pass tables before v true chance pass =
        let sums = pass (is_chance-kind v chance) in
        at_chance tables before v (is_chance-kind v chance) ∙ adding-none_by (number_after before) zero_fraction (probabilities tables v.node.set) sums.0
        (ap is_one sums.1)
    sums_pass tables before v false other pass = ap (λ c. cond c (adding_fault (number_after before) zero_fraction (probabilities tables v.node.set)) None)
        other

    not_one : (f : Fraction) → IsInLowestTerms f → f ≢ certain → is_one f ≡ false
    not_one f low differs = elim (is_one f) as (λ b. is_one f ≡ b → b ≡ false) [
      | true ↦ λ one. absurd (differs (is-certain f low one))
      | false ↦ λ other. refl
    ] refl

    sums_fail : (tables : Tables) → AreFractions tables → (before : List Visit) (v : Visit) (fault : GameFault)
        → SumsFail tables before v fault → sum_fault tables before v ≡ Some fault
    sums_fail tables h before v fault (running_past opens n some past is) =
        at_chance tables before v opens.chance ∙ adding-past (number_after before) zero_fraction (probabilities tables v.node.set) n refl some past
        ∙ ap Some (sym is)
    sums_fail tables h before v fault (other_total opens within differs is) =
        at_chance tables before v opens.chance
        ∙ adding-other (number_after before) zero_fraction (probabilities tables v.node.set) within
        (not_one (sum_from zero_fraction (probabilities tables v.node.set)) (total-lowest tables v.node.set h) differs)
        ∙ ap Some (sym is)
