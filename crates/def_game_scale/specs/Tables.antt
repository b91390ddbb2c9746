-- The probabilities and payoffs along a path (Gambit's manual, "The extensive game (.efg) file format"),
-- as exact fractions.
use Rattle.std.specs.Prelude.{◌≡◌, ℕ, zero, suc, ◌-◌, pos, if◌then◌else◌, List, [], ◌∷◌, slice_index_or, All}
use Rattle.def_tree.specs.declared.Kind.TheVariants.{Chance}
use Rattle.def_tree.specs.Tree.{Forest}
use Rattle.def_tree.specs.Rules.{is_same_kind}
use Rattle.def_fraction.specs.Fraction.{Fraction, IsInLowestTerms, product_of, sum_of, whole_number, zero_fraction}
use Rattle.def_game_paths.specs.Paths.{Move, Visit, leaf_visits}

-- what both players get
pub record PayoffPair : Type 0 where
  pub one : Fraction
  pub two : Fraction

-- for each chance set the probabilities of its actions, and for each outcome its payoffs
pub record Tables : Type 0 where
  pub chance : List (List Fraction)
  pub outcomes : List PayoffPair

abbrev pub certain : Fraction
certain = whole_number (pos 1)

-- the probabilities of the actions of a chance set, which counts from 1
abbrev pub probabilities : Tables → ℕ → List Fraction
probabilities tables set = slice_index_or tables.chance (set - 1) []

-- the probability of one of its actions, which count from 1
abbrev pub probability : Tables → ℕ → ℕ → Fraction
probability tables set action = slice_index_or (probabilities tables set) (action - 1) zero_fraction

-- outcome 0 is the null outcome, which gives nobody anything
abbrev pub payoffs_of : Tables → ℕ → PayoffPair
payoffs_of tables zero = record { one = zero_fraction; two = zero_fraction }
payoffs_of tables (suc outcome) = slice_index_or tables.outcomes outcome
    (record { one = zero_fraction; two = zero_fraction })

-- the product of the chance probabilities on a path
abbrev pub reach : Tables → List Move → Fraction
reach tables [] = certain
reach tables (step ∷ rest) =
    if is_same_kind Chance step.node.kind then product_of (reach tables rest)
    (probability tables step.node.set step.action) else reach tables rest

-- what a player is paid: the sum over the outcomes on the path, the node's own included
abbrev pub path_payoff : (PayoffPair → Fraction) → Tables → List Move → Fraction
path_payoff of tables [] = zero_fraction
path_payoff of tables (step ∷ rest) = sum_of (path_payoff of tables rest) (of (payoffs_of tables step.node.outcome))

abbrev pub payoff : (PayoffPair → Fraction) → Tables → Visit → Fraction
payoff of tables visit = sum_of (path_payoff of tables visit.path) (of (payoffs_of tables visit.node.outcome))

abbrev pub payoff_one : Tables → Visit → Fraction
payoff_one = payoff (λ payoffs. payoffs.one)

abbrev pub payoff_two : Tables → Visit → Fraction
payoff_two = payoff (λ payoffs. payoffs.two)

-- what a leaf pays both players together
abbrev pub paid_together : Tables → Visit → Fraction
paid_together tables leaf = sum_of (payoff_one tables leaf) (payoff_two tables leaf)

-- what the first of some leaves pays them, or nothing where there is none
abbrev pub first_sum : Tables → List Visit → Fraction
first_sum tables [] = zero_fraction
first_sum tables (leaf ∷ _) = paid_together tables leaf

-- what the first leaf of a game pays both players together
abbrev pub game_sum : Tables → Forest → Fraction
game_sum tables tree = first_sum tables (leaf_visits tree)

-- each leaf pays both players together what the first leaf does
abbrev pub IsConstantSum : Tables → Forest → Type 0
IsConstantSum tables tree = All (λ leaf. paid_together tables leaf ≡ game_sum tables tree) (leaf_visits tree)

-- at each leaf one player gets what the other pays
abbrev pub IsZeroSum : Tables → Forest → Type 0
IsZeroSum tables tree = All (λ leaf. paid_together tables leaf ≡ zero_fraction) (leaf_visits tree)

-- the tables' fractions are in lowest terms
pub record AreFractions (tables : Tables) : Type 0 where
  pub chance : All (λ row. All IsInLowestTerms row) tables.chance
  pub outcomes : All (λ payoffs. IsInLowestTerms payoffs.one × IsInLowestTerms payoffs.two) tables.outcomes
