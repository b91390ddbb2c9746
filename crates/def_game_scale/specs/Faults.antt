-- The first fault of a game's numbers and of its recall, looked for in walks over its nodes in prefix order. The order
-- and the limits are this project's own.
--     NodeTest, found_by test before nodes     what a walk looks for at a node, and the first that it finds
--     number_fault tables tree                the first fault of the numbers
--     game_fault tables tree                  the first fault, recall included
-- The walks: the signs of probabilities; their sums; reach, payoffs, what a leaf pays both players together, and the
-- unit; that sum in the unit; the mass; recall.
-- Nodes are numbered from 1.
use Rattle.std.specs.Prelude.{ℕ, ◌+◌, Bool, true, false, not, ◌&&◌, nat_eq, nat_le, nat_lt, if◌then◌else◌, List, []}
use Rattle.std.specs.Prelude.{◌∷◌, ◌++◌, length, Option, Some, None, ℤ, pos, negsuc, unsigned_abs}
use Rattle.std.specs.Ordering.{int_eq}
use Rattle.std.specs.List.{list_any}
use Rattle.def_tree.specs.declared.Kind.TheVariants.{Chance}
use Rattle.def_tree.specs.Tree.{Forest}
use Rattle.def_tree.specs.Rules.{is_same_kind}
use Rattle.def_fraction.specs.Fraction.{Fraction, fits, most, sum_of, zero_fraction}
use Rattle.def_game_paths.specs.Paths.{Visit, visits, is_leaf}
use Rattle.def_game_paths.specs.Recall.{RecallBreak, recall_break}
use Rattle.def_game_scale.specs.Tables.{Tables, paid_together, payoff_one, payoff_two, probabilities, reach}
use Rattle.def_game_scale.specs.Scale.{expected, game_unit, mass_so_far, sum_so_far, unit_so_far, whole_sum}

pub data GameFault : Type 0 where
  ChanceNegative : (node : ℕ) → GameFault
  ChanceSum : (node : ℕ) → GameFault
  NotConstantSum : (node : ℕ) → GameFault
  NotRecall : (node earlier : ℕ) → GameFault
  Scale : (node : ℕ) → GameFault

abbrev pub or_else : Option GameFault → Option GameFault → Option GameFault
or_else None later = later
or_else (Some fault) later = Some fault

-- the fault where the test isn't passed, and otherwise what comes later
abbrev pub passing : Bool → GameFault → Option GameFault → Option GameFault
passing true fault later = later
passing false fault later = Some fault

-- the number of a node, by the nodes before it
abbrev pub number_after : List Visit → ℕ
number_after before = length before + 1

-- what is wrong at a node, by the nodes before it and the node
abbrev pub NodeTest : Type 0
NodeTest = List Visit → Visit → Option GameFault

-- the first fault that a test finds at these nodes, which stand behind those before
abbrev pub found_by : NodeTest → List Visit → List Visit → Option GameFault
found_by test before [] = None
found_by test before (node ∷ rest) = or_else (test before node) (found_by test (before ++ (node ∷ [])) rest)

abbrev pub is_chance : Visit → Bool
is_chance visit = is_same_kind Chance visit.node.kind

abbrev pub is_below_zero : ℤ → Bool
is_below_zero (pos _) = false
is_below_zero (negsuc _) = true

abbrev pub is_negative : Fraction → Bool
is_negative f = is_below_zero f.num

-- of fractions in lowest terms: the value is 1, or that of another
abbrev pub is_one : Fraction → Bool
is_one f = not (is_negative f) && nat_eq (unsigned_abs f.num) f.den

abbrev pub is_same : Fraction → Fraction → Bool
is_same f g = int_eq f.num g.num && nat_eq f.den g.den

-- A chance set's probabilities are those of each of its nodes, so a fault of theirs is found at the set's first node.

-- a probability is below 0
abbrev pub sign_fault : Tables → NodeTest
sign_fault tables before node = passing (not (is_chance node
    && list_any is_negative (probabilities tables node.node.set))) (ChanceNegative (number_after before)) None

-- the probabilities, added in order, pass the limit or don't come to 1
abbrev pub adding_fault : ℕ → Fraction → List Fraction → Option GameFault
adding_fault number running [] = passing (is_one running) (ChanceSum number) None
adding_fault number running (p ∷ rest) = passing (fits (sum_of running p)) (Scale number)
    (adding_fault number (sum_of running p) rest)

abbrev pub sum_fault : Tables → NodeTest
sum_fault tables before node = if is_chance node then adding_fault (number_after before) zero_fraction
    (probabilities tables node.node.set) else None

-- at a leaf: the sum of its payoffs passes the limit, or isn't that of the first leaf, or what it is expected to pay
-- passes the limit, or the unit of the leaves so far does
abbrev pub leaf_fault : Tables → NodeTest
leaf_fault tables before node =
    passing (fits (paid_together tables node)) (Scale (number_after before))
    (passing (is_same (paid_together tables node) (sum_so_far tables (before ++ (node ∷ []))))
    (NotConstantSum (number_after before))
    (passing (fits (expected tables node)) (Scale (number_after before))
    (passing (nat_le (unit_so_far tables (before ++ (node ∷ []))) most) (Scale (number_after before)) None)))

-- at each node: its reach or a payoff of its path passes the limit
abbrev pub node_fault : Tables → NodeTest
node_fault tables before node =
    passing (fits (reach tables node.path)) (Scale (number_after before))
    (passing (fits (payoff_one tables node)) (Scale (number_after before))
    (passing (fits (payoff_two tables node)) (Scale (number_after before))
    (if is_leaf node then leaf_fault tables before node else None)))

-- at a leaf, and so at the first one: the game's sum in its unit, of this size, passes the limit
abbrev pub whole_sum_fault : ℕ → NodeTest
whole_sum_fault size before node = passing (not (is_leaf node && nat_lt most size)) (Scale (number_after before)) None

-- at each leaf: the mass of the leaves so far passes the limit
abbrev pub mass_fault : Tables → ℕ → NodeTest
mass_fault tables unit before node = passing (not (is_leaf node
    && nat_lt most (mass_so_far tables unit (before ++ (node ∷ []))))) (Scale (number_after before)) None

-- the first fault of the numbers
abbrev pub number_fault : Tables → Forest → Option GameFault
number_fault tables tree =
    or_else (found_by (sign_fault tables) [] (visits tree))
    (or_else (found_by (sum_fault tables) [] (visits tree))
    (or_else (found_by (node_fault tables) [] (visits tree))
    (or_else (found_by (whole_sum_fault (unsigned_abs (whole_sum tables tree))) [] (visits tree))
    (found_by (mass_fault tables (game_unit tables tree)) [] (visits tree)))))

abbrev pub of_recall : Option RecallBreak → Option GameFault
of_recall None = None
of_recall (Some fault) = Some (NotRecall fault.node fault.earlier)

-- the first fault
abbrev pub game_fault : Tables → Forest → Option GameFault
game_fault tables tree = or_else (number_fault tables tree) (of_recall (recall_break tree))
