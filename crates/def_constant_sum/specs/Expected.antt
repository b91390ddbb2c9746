-- What two plans are expected to pay each player, as exact fractions (von Stengel 1996).
--     IsCompleteGame tables tree                a game tree with its chances, whose players remember their choices
--     ArePlans tables tree r s x y              plans of both players, each with its root
--     leaf_probability tables tree x y leaf     how probable the leaf is under two plans
--     expected_payoff player tables tree x y    what they are expected to pay the player
use Rattle.std.specs.Prelude.{◌≡◌, ℕ, ◌*◌, List, [], ◌∷◌, length, pos, slice_index, All}
use Rattle.def_tree.specs.declared.Kind.TheVariants.{Chance}
use Rattle.def_tree.specs.declared.Kind.TheVariants as kinds
use Rattle.def_tree.specs.declared.Player.{Player}
use Rattle.def_tree.specs.declared.Player.TheVariants.{One, Two}
use Rattle.def_tree.specs.Tree.{Forest}
use Rattle.def_tree.specs.Rules.{IsGameTree}
use Rattle.def_fraction.specs.Fraction.{Fraction, fraction_of, product_of, sum_of, zero_fraction}
use Rattle.def_game_paths.specs.Paths.{Visit, leaf_visits, visits}
use Rattle.def_game_paths.specs.Recall.{HasPerfectRecall}
use Rattle.def_game_paths.specs.Sequences.{sequence_at}
use Rattle.def_game_scale.specs.Tables.{AreFractions, Tables, payoff_one, payoff_two, probabilities, reach}
use Rattle.def_game_scale.specs.First.{AddUpToOne}
use Rattle.def_plan.specs.Plan.{IsPlan}
use Rattle.def_sequence_form.specs.Form.{form_of_game}

-- at a chance node there is a probability for each child, and they add up to 1
pub record HasChances (tables : Tables) (node : Visit) : Type 0 where
  pub count : length (probabilities tables node.node.set) ≡ node.node.children
  pub total : AddUpToOne (probabilities tables node.node.set)

-- a game tree with tables in lowest terms, with its chances, whose players remember their choices
pub record IsCompleteGame (tables : Tables) (tree : Forest) : Type 0 where
  pub game_tree : IsGameTree tree
  pub fractions : AreFractions tables
  pub chances : All (λ node. node.node.kind ≡ Chance → HasChances tables node) (visits tree)
  pub recall : HasPerfectRecall tree

-- a plan of each player, with its root
pub record ArePlans (tables : Tables) (tree : Forest) (root_one root_two : ℕ) (plan_one plan_two : List ℕ) : Type
    0 where
  pub one : IsPlan (form_of_game tables tree).sets_one root_one plan_one
  pub two : IsPlan (form_of_game tables tree).sets_two root_two plan_two

-- the sum of fractions
abbrev pub fraction_sum : {A : Type 0} → (A → Fraction) → List A → Fraction
fraction_sum f [] = zero_fraction
fraction_sum f (x ∷ xs) = sum_of (f x) (fraction_sum f xs)

-- both plans' numbers at a leaf, multiplied
abbrev pub numbers_at : Forest → List ℕ → List ℕ → Visit → ℕ
numbers_at tree plan_one plan_two leaf = slice_index plan_one (sequence_at kinds.One tree leaf)
    * slice_index plan_two (sequence_at kinds.Two tree leaf)

-- both plans' roots, which are their numbers of the empty sequence, multiplied
abbrev pub roots_of : List ℕ → List ℕ → ℕ
roots_of plan_one plan_two = slice_index plan_one 0 * slice_index plan_two 0

-- the probability of a leaf: chance's, times each plan's number there over the plan's root
abbrev pub leaf_probability : Tables → Forest → List ℕ → List ℕ → Visit → Fraction
leaf_probability tables tree plan_one plan_two leaf =
    product_of (reach tables leaf.path) (fraction_of (pos (numbers_at tree plan_one plan_two leaf))
    (roots_of plan_one plan_two))

abbrev pub payoff_of : Player → Tables → Visit → Fraction
payoff_of One = payoff_one
payoff_of Two = payoff_two

-- what two plans are expected to pay a player: over all leaves the probability times the payoff
abbrev pub expected_payoff : Player → Tables → Forest → List ℕ → List ℕ → Fraction
expected_payoff player tables tree plan_one plan_two =
    fraction_sum (λ leaf. product_of (leaf_probability tables tree plan_one plan_two leaf)
    (payoff_of player tables leaf)) (leaf_visits tree)
