-- What is judged of a leaf by the numbers of its path.
use Rattle.std.specs.Prelude.{ℕ, if◌then◌else◌, nat_le, List, [], ◌∷◌, ◌++◌, Option, Some, None, unwrap_or}
use Rattle.def_tree.specs.declared.Node.{Node}
use Rattle.def_tree.specs.Tree.{is_leaf_kind}
use Rattle.def_fraction.specs.Divisors.{lcm}
use Rattle.def_fraction.specs.Fraction.{Fraction, fits, most, product_of, sum_of}
use Rattle.def_game_scale.specs.Faults.{GameFault, NotConstantSum, Scale, is_same, passing}
use Rattle.xg_scale.specs.declared.path.PathNumbers.{PathNumbers}
use Rattle.xg_scale.specs.declared.range.PayoffRange.{PayoffRange}
use Rattle.xg_scale.specs.Range.{IsRangeOf}

abbrev pub expected_by : PathNumbers → Fraction
expected_by numbers = product_of numbers.reach numbers.one

-- what the leaf pays both players together
abbrev pub paid_by : PathNumbers → Fraction
paid_by numbers = sum_of numbers.one numbers.two

-- the sum that is known from the first leaf, which is this leaf's where none came before
abbrev pub sum_from_first : Option Fraction → PathNumbers → Fraction
sum_from_first known numbers = unwrap_or known (paid_by numbers)

-- the unit with the denominators of the sum and of what the leaf is expected to pay
abbrev pub leaf_unit : Option Fraction → ℕ → PathNumbers → ℕ
leaf_unit known unit numbers = lcm (expected_by numbers).den (lcm (sum_from_first known numbers).den unit)

-- the fault of a leaf, where the leaves before it have this sum and this unit
abbrev pub judged_leaf : ℕ → Option Fraction → ℕ → PathNumbers → Option GameFault
judged_leaf number known unit numbers =
    passing (fits (paid_by numbers)) (Scale number)
    (passing (is_same (paid_by numbers) (sum_from_first known numbers)) (NotConstantSum number)
    (passing (fits (expected_by numbers)) (Scale number)
    (passing (nat_le (leaf_unit known unit numbers) most) (Scale number) None)))

-- the same of any node, where others have no fault
abbrev pub judged_node : ℕ → Node → Option Fraction → ℕ → PathNumbers → Option GameFault
judged_node number node known unit numbers = if is_leaf_kind node.kind then judged_leaf number known unit numbers
    else None

-- the sum that is known with the node
abbrev pub known_with : Node → Option Fraction → PathNumbers → Option Fraction
known_with node known numbers = if is_leaf_kind node.kind then Some (sum_from_first known numbers) else known

-- the unit with the node
abbrev pub unit_with : Node → Option Fraction → ℕ → PathNumbers → ℕ
unit_with node known unit numbers = if is_leaf_kind node.kind then leaf_unit known unit numbers else unit

-- what the node is expected to pay, if it is a leaf
abbrev pub with_expected : Node → PathNumbers → List Fraction
with_expected node numbers = if is_leaf_kind node.kind then expected_by numbers ∷ [] else []

-- what the node pays player one, if it is a leaf
abbrev pub with_payoff : Node → PathNumbers → List Fraction
with_payoff node numbers = if is_leaf_kind node.kind then numbers.one ∷ [] else []

-- a range of any payoffs takes in what the node pays
abbrev pub TakesIn : Node → PathNumbers → Option PayoffRange → Option PayoffRange → Type 0
TakesIn node numbers old new =
    (payoffs : List Fraction) → IsRangeOf payoffs old → IsRangeOf (payoffs ++ with_payoff node numbers) new
