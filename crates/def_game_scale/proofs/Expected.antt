-- The fractions along a path, and what a leaf pays both players together, are in lowest terms.
use Rattle.std.proofs.Common.{ℕ, zero, suc, ◌-◌, ◌*◌, ◌≤◌, true, false, cond, List, [], ◌∷◌, length, get_or, sym, subst, arith, inl, inr}
use Rattle.std.specs.Prelude.{All}
use Rattle.std.proofs.lemmas.Bool.{cases_lt}
use Rattle.std.proofs.lemmas.List.Elements.{All-cons, All-nil, All-map}
use Rattle.std.proofs.Math.ListN.{get_or-eq_default}
use Rattle.std.proofs.Math.Nat.{one-le-mul}
use Rattle.def_tree.specs.declared.Kind.TheVariants.{Chance}
use Rattle.def_tree.specs.Tree.{Forest}
use Rattle.def_tree.specs.Rules.{is_same_kind}
use Rattle.def_fraction.specs.Fraction.{Fraction, IsInLowestTerms, product_of, sum_of, zero_fraction}
use Rattle.def_fraction.proofs.DivisorLemmas.{gcd-with_one}
use Rattle.def_fraction.proofs.FractionLemmas.{fraction_of-reduced}
use Rattle.def_game_paths.specs.Paths.{Move, Visit, leaf_visits}
use Rattle.def_game_scale.specs.Tables.{PayoffPair, Tables, AreFractions, first_sum, paid_together, probability, payoffs_of, reach, path_payoff, payoff_one}
use Rattle.def_game_scale.specs.Tables.{payoff_two}
use Rattle.def_game_scale.specs.Scale.{all_expected, all_fractions, expected}

abbrev pub HasDenominator : Fraction → Type 0
HasDenominator f = 1 ≤ f.den

lowest-product : (a b : Fraction) → HasDenominator a → HasDenominator b → IsInLowestTerms (product_of a b)
lowest-product a b ha hb = (fraction_of-reduced _ (a.den * b.den) (one-le-mul ha hb)).lowest

-- the sum of two fractions is in lowest terms
pub lowest-sum : (a b : Fraction) → HasDenominator a → HasDenominator b → IsInLowestTerms (sum_of a b)
lowest-sum a b ha hb = (fraction_of-reduced _ (a.den * b.den) (one-le-mul ha hb)).lowest

-- an element of the list, or the default
pub at-or : {X : Type 0} (P : X → Type 0) (xs : List X) (i : ℕ) (d : X) → All P xs → P d → P (get_or xs i d)
at-or P xs i d all default = elim (cases_lt i (length xs)) [
  | inl there ↦ all i d there
  | inr past ↦ subst P (sym (get_or-eq_default xs d past)) default
]

probability-fraction : (tables : Tables) (set action : ℕ) → AreFractions tables
    → HasDenominator (probability tables set action)
probability-fraction tables set action h =
    at-or HasDenominator (get_or tables.chance (set - 1) []) (action - 1) zero_fraction
    (λ k d there. (at-or (λ row. All IsInLowestTerms row) tables.chance (set - 1) [] h.chance (All-nil IsInLowestTerms) k d there).positive) (omega arith)

one-fraction : (tables : Tables) (outcome : ℕ) → AreFractions tables → HasDenominator (payoffs_of tables outcome).one
one-fraction tables zero h = omega arith
one-fraction tables (suc outcome) h =
    at-or (λ (payoffs : PayoffPair). HasDenominator payoffs.one) tables.outcomes outcome (record { one = zero_fraction; two = zero_fraction })
    (λ k d there. (h.outcomes k d there).0.positive) (omega arith)

two-fraction : (tables : Tables) (outcome : ℕ) → AreFractions tables → HasDenominator (payoffs_of tables outcome).two
two-fraction tables zero h = omega arith
two-fraction tables (suc outcome) h =
    at-or (λ (payoffs : PayoffPair). HasDenominator payoffs.two) tables.outcomes outcome (record { one = zero_fraction; two = zero_fraction })
    (λ k d there. (h.outcomes k d there).1.positive) (omega arith)

reach-fraction : (tables : Tables) (path : List Move) → AreFractions tables → HasDenominator (reach tables path)
reach-fraction tables [] h = omega arith
reach-fraction tables (step ∷ rest) h =
    elim (is_same_kind Chance step.node.kind) as (λ b. HasDenominator (cond b (product_of (reach tables rest) (probability tables step.node.set step.action))
    (reach tables rest))) [
      | true ↦ (lowest-product (reach tables rest) (probability tables step.node.set step.action) (reach-fraction tables rest h)
          (probability-fraction tables step.node.set step.action h)).positive
      | false ↦ reach-fraction tables rest h
    ]

path-fraction : (of : PayoffPair → Fraction) (tables : Tables) (path : List Move)
    → ((outcome : ℕ) → HasDenominator (of (payoffs_of tables outcome))) → HasDenominator (path_payoff of tables path)
path-fraction of tables [] h = omega arith
path-fraction of tables (step ∷ rest) h = (lowest-sum (path_payoff of tables rest) (of (payoffs_of tables step.node.outcome)) (path-fraction of tables rest h)
    (h step.node.outcome)).positive

one-lowest : (tables : Tables) (v : Visit) → AreFractions tables → IsInLowestTerms (payoff_one tables v)
one-lowest tables v h =
    let each : (outcome : ℕ) → HasDenominator (payoffs_of tables outcome).one = λ outcome. one-fraction tables outcome h in
    lowest-sum (path_payoff (λ payoffs. payoffs.one) tables v.path) (payoffs_of tables v.node.outcome).one
    (path-fraction (λ payoffs. payoffs.one) tables v.path each) (each v.node.outcome)

two-lowest : (tables : Tables) (v : Visit) → AreFractions tables → IsInLowestTerms (payoff_two tables v)
two-lowest tables v h =
    let each : (outcome : ℕ) → HasDenominator (payoffs_of tables outcome).two = λ outcome. two-fraction tables outcome h in
    lowest-sum (path_payoff (λ payoffs. payoffs.two) tables v.path) (payoffs_of tables v.node.outcome).two
    (path-fraction (λ payoffs. payoffs.two) tables v.path each) (each v.node.outcome)

-- what a leaf pays both players together is in lowest terms
pub paid-lowest : (tables : Tables) (v : Visit) → AreFractions tables → IsInLowestTerms (paid_together tables v)
paid-lowest tables v h = lowest-sum (payoff_one tables v) (payoff_two tables v) (one-lowest tables v h).positive (two-lowest tables v h).positive

-- and so is what the first of some leaves pays them
pub first-lowest : (tables : Tables) (vs : List Visit) → AreFractions tables → IsInLowestTerms (first_sum tables vs)
first-lowest tables [] h = record { positive = omega arith; coprime = gcd-with_one 0 }
first-lowest tables (v ∷ vs) h = paid-lowest tables v h

-- reach times payoff of a leaf is in lowest terms
pub expected-lowest : (tables : Tables) (leaf : Visit) → AreFractions tables → IsInLowestTerms (expected tables leaf)
expected-lowest tables leaf h = lowest-product (reach tables leaf.path) (payoff_one tables leaf) (reach-fraction tables leaf.path h)
    (one-lowest tables leaf h).positive

-- what the leaves of a tree are expected to pay is in lowest terms at each
pub all-lowest : (tables : Tables) (tree : Forest) → AreFractions tables
    → All IsInLowestTerms (all_expected tables tree)
all-lowest tables tree h = All-map IsInLowestTerms (expected tables) (leaf_visits tree) (λ k d there. expected-lowest tables (get_or (leaf_visits tree) k d) h)

-- and so is all that the unit makes whole
pub fractions-lowest : (tables : Tables) (tree : Forest) → AreFractions tables
    → All IsInLowestTerms (all_fractions tables tree)
fractions-lowest tables tree h = All-cons IsInLowestTerms (first_sum tables (leaf_visits tree)) (all_expected tables tree)
    (first-lowest tables (leaf_visits tree) h) (all-lowest tables tree h)
