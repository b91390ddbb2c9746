-- A walk that judges each node by the numbers of its path, and what it finds.
use Rattle.std.specs.Prelude.{◌≡◌, ℕ, ◌-◌, ◌≤◌, Bool, ◌&&◌, if◌then◌else◌, [], ◌∷◌, ◌++◌, filter, length, map, List}
use Rattle.std.specs.Prelude.{Option, Some, None, unwrap_or}
use Rattle.def_tree.specs.declared.Node.{Node}
use Rattle.def_tree.specs.declared.Player.{Player}
use Rattle.def_tree.specs.declared.Player.TheVariants.{One, Two}
use Rattle.def_tree.specs.Tree.{Forest, is_leaf_kind}
use Rattle.def_fraction.specs.Fraction.{Fraction, fits, most, product_of, sum_of, zero_fraction}
use Rattle.def_file.specs.Content.{GameFile}
use Rattle.def_file.specs.Faults.{set_at}
use Rattle.def_game_paths.specs.Paths.{Visit, visits}
use Rattle.def_game_scale.specs.Tables.{PayoffPair, Tables, game_sum, paid_together, payoff_one, payoff_two, payoffs_of}
use Rattle.def_game_scale.specs.Tables.{probability, reach}
use Rattle.def_game_scale.specs.Scale.{all_expected, game_unit}
use Rattle.def_game_scale.specs.Faults.{GameFault, Scale, found_by, node_fault}
use Rattle.def_game_numbers.specs.Numbers.{tables_of}
use Rattle.def_payoffs.specs.Range.{leaf_payoffs}
use Rattle.xg_scale.specs.FaultOfFile.{RefusesBy}
use Rattle.xg_scale.specs.Leaf.{TakesIn, judged_node, known_with, unit_with, with_expected}
use Rattle.xg_scale.specs.Range.{IsRangeOf}
use Rattle.xg_scale.specs.OnPath.{GoesBackTo, HasNodeAround, entered_node, empty_path}
use Rattle.xg_scale.specs.declared.leaf.Expected.{Expected}
use Rattle.xg_scale.specs.declared.nodes.PathVisitor.{PathVisitor}
use Rattle.xg_scale.specs.declared.nodes.PathWalk.{PathWalk}
use Rattle.xg_scale.specs.declared.path.NodeOnPath.{NodeOnPath}
use Rattle.xg_scale.specs.declared.path.PathNumbers.{PathNumbers}
use Rattle.xg_tree.specs.Stopped.{Steps, UnlessStopped}

abbrev pub paid_to : Player → PayoffPair → Fraction
paid_to One payoffs = payoffs.one
paid_to Two payoffs = payoffs.two

-- what the first of some leaves pays both players together, if there is one
abbrev pub sum_of_first : Tables → List Visit → Option Fraction
sum_of_first tables [] = None
sum_of_first tables (leaf ∷ _) = Some (paid_together tables leaf)

-- the same of the first leaf among some nodes
abbrev pub known_sum : Tables → List Visit → Option Fraction
known_sum tables nodes = sum_of_first tables (filter (λ (v : Visit). is_leaf_kind v.node.kind) nodes)

-- what the leaves among some nodes pay player one
abbrev pub payoffs_at : Tables → List Visit → List Fraction
payoffs_at tables nodes = map (payoff_one tables) (filter (λ (v : Visit). is_leaf_kind v.node.kind) nodes)

-- the numbers of a path to a node
abbrev pub numbers_on_path : Tables → Visit → PathNumbers
numbers_on_path tables v = record { reach = reach tables v.path; one = payoff_one tables v; two = payoff_two tables v }

abbrev pub all_fit : PathNumbers → Bool
all_fit numbers = fits numbers.reach && (fits numbers.one && fits numbers.two)

-- the reach by an action of a chance set, or of another node
abbrev pub reach_below : Tables → Option ℕ → ℕ → Fraction → Fraction
reach_below tables None action so_far = so_far
reach_below tables (Some set) action so_far = product_of so_far (probability tables set action)

-- the numbers at the next child of a node on the path
abbrev pub numbers_below : Tables → NodeOnPath → Node → PathNumbers
numbers_below tables parent node = record {
  reach = reach_below tables parent.chance_set parent.action parent.numbers.reach;
  one = sum_of parent.numbers.one (payoffs_of tables node.outcome).one;
  two = sum_of parent.numbers.two (payoffs_of tables node.outcome).two;
}

-- where chance moves, its set has the next action
abbrev pub MayCome : GameFile → NodeOnPath → Type 0
MayCome game parent = (set : ℕ) → parent.chance_set ≡ Some set →
    (1 ≤ set) × (set ≤ length game.sets.chance) × (1 ≤ parent.action)
    × (parent.action ≤ length (set_at game.sets.chance (set - 1)).actions)

-- the node may be the next child of the innermost
pub record MayComeNext (walk : PathWalk) (node : Node) : Type 0 where
  pub action : MayCome walk.game.now walk.path.innermost
  pub outcome : node.outcome ≤ length walk.game.now.outcomes
  pub from_one : 1 ≤ walk.expected.unit
  pub limit : walk.expected.unit ≤ most

-- the numbers of its path
abbrev pub numbers_at_next : PathWalk → Node → PathNumbers
numbers_at_next walk node = numbers_below (tables_of walk.game.now) walk.path.innermost node

-- what is wrong at it, under its number
abbrev pub next_fault : PathWalk → ℕ → Node → Option GameFault
next_fault walk k node =
    if all_fit (numbers_at_next walk node) then judged_node k node walk.expected.sum walk.expected.unit
    (numbers_at_next walk node) else Some (Scale k)

-- it has no fault, and is the innermost
pub record HasEntered (old : PathWalk) (k : ℕ) (node : Node) (new : PathWalk) : Type 0 where
  pub passes : next_fault old k node ≡ None
  pub sum : new.expected.sum ≡ known_with node old.expected.sum (numbers_at_next old node)
  pub unit : new.expected.unit ≡ unit_with node old.expected.sum old.expected.unit (numbers_at_next old node)
  pub limit : new.expected.unit ≤ most
  pub fractions : new.expected.fractions.items ≡ old.expected.fractions.items
      ++ with_expected node (numbers_at_next old node)
  pub range : TakesIn node (numbers_at_next old node) old.expected.range new.expected.range
  pub innermost : new.path.innermost ≡ entered_node node (numbers_at_next old node)
  pub outer : new.path.outer ≡ old.path.innermost ∷ old.path.outer

-- the innermost is left
pub record HasLeft (old new : PathWalk) : Type 0 where
  pub expected : new.expected ≡ old.expected
  pub back : GoesBackTo old.path.outer new.path.innermost new.path.outer

abbrev pub MayEnter : PathVisitor → ℕ → Node → Type 0
MayEnter visitor k node = UnlessStopped visitor.refused (MayComeNext visitor.walk node)

abbrev pub Enters : PathVisitor → ℕ → Node → PathVisitor → Type 0
Enters old k node new =
    (new.walk.game.now ≡ old.walk.game.now) × Steps old.refused new.refused (RefusesBy (next_fault old.walk k node))
    (HasEntered old.walk k node new.walk)

abbrev pub MayLeave : PathVisitor → ℕ → Type 0
MayLeave visitor k = UnlessStopped visitor.refused (HasNodeAround visitor.walk.path.outer)

abbrev pub Leaves : PathVisitor → ℕ → PathVisitor → Type 0
Leaves old k new = (new.walk.game.now ≡ old.walk.game.now)
    × Steps old.refused new.refused (λ _. ⊥) (HasLeft old.walk new.walk)

-- no node was entered yet
pub record IsBefore (game : GameFile) (visitor : PathVisitor) : Type 0 where
  pub going : visitor.refused ≡ None
  pub game_is : visitor.walk.game.now ≡ game
  pub innermost : visitor.walk.path.innermost ≡ empty_path
  pub outer : visitor.walk.path.outer ≡ []
  pub sum : visitor.walk.expected.sum ≡ None
  pub unit : visitor.walk.expected.unit ≡ 1
  pub fractions : visitor.walk.expected.fractions.items ≡ []
  pub range : visitor.walk.expected.range ≡ None

-- no node has a fault, and this is what all leaves are expected to pay, with their sum, their unit and their range
pub record IsExpectedOf (tables : Tables) (tree : Forest) (found : Expected) : Type 0 where
  pub passes : found_by (node_fault tables) [] (visits tree) ≡ None
  pub sum : unwrap_or found.sum zero_fraction ≡ game_sum tables tree
  pub unit : found.unit ≡ game_unit tables tree
  pub limit : found.unit ≤ most
  pub fractions : found.fractions.items ≡ all_expected tables tree
  pub range : IsRangeOf (leaf_payoffs tables tree) found.range
