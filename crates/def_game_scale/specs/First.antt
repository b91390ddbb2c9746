-- The first fault of a game in words: at which node which walk fails first, where all walks before it pass everywhere.
--     FailsFirst Passes Fails nodes fault     a walk over the nodes fails first with the fault
--     PassNumbers tables tree                 each node passes each walk over the numbers
--     FirstNumberFault, FirstGameFault        the fault is the first one of the numbers, or with recall
-- `Passes` and `Fails` say of a node, behind those before it, that it passes a walk, and that it fails with a fault.
use Rattle.std.specs.Prelude.{◌≡◌, ◌≢◌, ℕ, ◌-◌, ◌<◌, ◌≤◌, true, false, pos, ◌<ℤ◌, ◌≤ℤ◌, unsigned_abs, List, [], ◌∷◌}
use Rattle.std.specs.Prelude.{◌++◌, length, take, slice_index_or, All, Any}
use Rattle.def_tree.specs.declared.Kind.TheVariants.{Chance}
use Rattle.def_tree.specs.Tree.{Forest}
use Rattle.def_fraction.specs.Fraction.{Fraction, fits, most, sum_of, zero_fraction}
use Rattle.def_game_paths.specs.Paths.{Visit, visits, is_leaf}
use Rattle.def_game_paths.specs.Recall.{IsFirstBreak}
use Rattle.def_game_scale.specs.Tables.{Tables, certain, paid_together, payoff_one, payoff_two, probabilities, reach}
use Rattle.def_game_scale.specs.Scale.{expected, game_unit, mass_so_far, sum_so_far, unit_so_far, whole_sum}
use Rattle.def_game_scale.specs.Faults.{GameFault, ChanceNegative, ChanceSum, NotConstantSum, NotRecall, Scale}
use Rattle.def_game_scale.specs.Faults.{number_after}

-- each of the nodes passes, behind those before it
abbrev pub EachPasses : (List Visit → Visit → Type 0) → List Visit → Type 0
EachPasses Passes nodes = (before : List Visit) (node : Visit) (after : List Visit) → nodes ≡ before ++ (node ∷ after)
    → Passes before node

pub record FailsFirst (Passes : List Visit → Visit → Type 0) (Fails : List Visit → Visit → GameFault → Type 0)
    (nodes : List Visit) (fault : GameFault) : Type 0 where
  pub before : List Visit
  pub node : Visit
  pub after : List Visit
  pub place : nodes ≡ before ++ (node ∷ after)
  pub earlier : EachPasses Passes before
  pub fails : Fails before node fault

-- The first walk: no probability is below 0.

abbrev pub SignsPass : Tables → List Visit → Visit → Type 0
SignsPass tables before node = node.node.kind ≡ Chance → All (λ p. pos 0 ≤ℤ p.num) (probabilities tables node.node.set)

-- a chance node, the first of its set
pub record OpensChanceSet (before : List Visit) (node : Visit) : Type 0 where
  pub chance : node.node.kind ≡ Chance
  pub first : All (λ earlier. earlier.node.kind ≡ Chance → earlier.node.set ≢ node.node.set) before

pub record SignsFail (tables : Tables) (before : List Visit) (node : Visit) (fault : GameFault) : Type 0 where
  pub opens : OpensChanceSet before node
  pub negative : Any (λ p. p.num <ℤ pos 0) (probabilities tables node.node.set)
  pub fault_is : fault ≡ ChanceNegative (number_after before)

-- The second walk: the probabilities of a set add up to 1, and no sum on the way passes the limit.

abbrev pub sum_from : Fraction → List Fraction → Fraction
sum_from running [] = running
sum_from running (p ∷ rest) = sum_from (sum_of running p) rest

-- the sum of the first n
abbrev pub running_sum : ℕ → List Fraction → Fraction
running_sum n fractions = sum_from zero_fraction (take n fractions)

abbrev pub RunningSumsFit : List Fraction → Type 0
RunningSumsFit fractions = (n : ℕ) → n ≤ length fractions → fits (running_sum n fractions) ≡ true

abbrev pub AddUpToOne : List Fraction → Type 0
AddUpToOne fractions = sum_from zero_fraction fractions ≡ certain

abbrev pub SumsPass : Tables → List Visit → Visit → Type 0
SumsPass tables before node = node.node.kind ≡ Chance → RunningSumsFit (probabilities tables node.node.set)
    × AddUpToOne (probabilities tables node.node.set)

pub data SumsFail (tables : Tables) (before : List Visit) (node : Visit) (fault : GameFault) : Type 0 where
  running_past : OpensChanceSet before node → (n : ℕ) → n ≤ length (probabilities tables node.node.set)
      → fits (running_sum n (probabilities tables node.node.set)) ≡ false
      → fault ≡ Scale (number_after before) → SumsFail tables before node fault
  other_total : OpensChanceSet before node → RunningSumsFit (probabilities tables node.node.set)
      → sum_from zero_fraction (probabilities tables node.node.set) ≢ certain
      → fault ≡ ChanceSum (number_after before) → SumsFail tables before node fault

-- The third walk: reach and payoffs are within the limit at each node; at each leaf the payoffs add up to a number
-- within the limit, which is that of the first leaf, and reach times payoff and the unit so far are within the limit.

pub record PathFits (tables : Tables) (node : Visit) : Type 0 where
  pub reach_fits : fits (reach tables node.path) ≡ true
  pub one_fits : fits (payoff_one tables node) ≡ true
  pub two_fits : fits (payoff_two tables node) ≡ true

-- the leaf pays both players together what the first leaf up to it does
abbrev pub PaysTheSum : Tables → List Visit → Visit → Type 0
PaysTheSum tables before leaf = paid_together tables leaf ≡ sum_so_far tables (before ++ (leaf ∷ []))

pub record LeafPasses (tables : Tables) (before : List Visit) (leaf : Visit) : Type 0 where
  pub sum_fits : fits (paid_together tables leaf) ≡ true
  pub pays_the_sum : PaysTheSum tables before leaf
  pub expected_fits : fits (expected tables leaf) ≡ true
  pub unit_fits : unit_so_far tables (before ++ (leaf ∷ [])) ≤ most

pub record NodePasses (tables : Tables) (before : List Visit) (node : Visit) : Type 0 where
  pub path : PathFits tables node
  pub leaf : is_leaf node ≡ true → LeafPasses tables before node

-- the first of these that holds
pub data NodeFails (tables : Tables) (before : List Visit) (node : Visit) (fault : GameFault) : Type 0 where
  reach_past : fits (reach tables node.path) ≡ false → fault ≡ Scale (number_after before)
      → NodeFails tables before node fault
  one_past : fits (reach tables node.path) ≡ true → fits (payoff_one tables node) ≡ false
      → fault ≡ Scale (number_after before) → NodeFails tables before node fault
  two_past : fits (reach tables node.path) ≡ true → fits (payoff_one tables node) ≡ true
      → fits (payoff_two tables node) ≡ false
      → fault ≡ Scale (number_after before) → NodeFails tables before node fault
  sum_past : PathFits tables node → is_leaf node ≡ true → fits (paid_together tables node) ≡ false
      → fault ≡ Scale (number_after before) → NodeFails tables before node fault
  not_constant_sum : PathFits tables node → is_leaf node ≡ true → fits (paid_together tables node) ≡ true
      → paid_together tables node ≢ sum_so_far tables (before ++ (node ∷ []))
      → fault ≡ NotConstantSum (number_after before) → NodeFails tables before node fault
  expected_past : PathFits tables node → is_leaf node ≡ true → fits (paid_together tables node) ≡ true
      → PaysTheSum tables before node → fits (expected tables node) ≡ false
      → fault ≡ Scale (number_after before) → NodeFails tables before node fault
  unit_past : PathFits tables node → is_leaf node ≡ true → fits (paid_together tables node) ≡ true
      → PaysTheSum tables before node → fits (expected tables node) ≡ true
      → most < unit_so_far tables (before ++ (node ∷ []))
      → fault ≡ Scale (number_after before) → NodeFails tables before node fault

-- The fourth walk: the game's sum, in its unit, is within the limit, or fails at the first leaf; then at each leaf the
-- mass so far, in the game's unit, is within the limit.

-- `size` is that of the sum in the game's unit
abbrev pub WholeSumPasses : ℕ → List Visit → Visit → Type 0
WholeSumPasses size before node = is_leaf node ≡ true → size ≤ most

pub record WholeSumFails (size : ℕ) (before : List Visit) (node : Visit) (fault : GameFault) : Type 0 where
  pub leaf : is_leaf node ≡ true
  pub first : All (λ earlier. is_leaf earlier ≡ false) before
  pub past : most < size
  pub fault_is : fault ≡ Scale (number_after before)

abbrev pub MassPasses : Tables → ℕ → List Visit → Visit → Type 0
MassPasses tables unit before node = is_leaf node ≡ true → mass_so_far tables unit (before ++ (node ∷ [])) ≤ most

pub record MassFails (tables : Tables) (unit : ℕ) (before : List Visit) (node : Visit)
    (fault : GameFault) : Type 0 where
  pub leaf : is_leaf node ≡ true
  pub past : most < mass_so_far tables unit (before ++ (node ∷ []))
  pub fault_is : fault ≡ Scale (number_after before)

-- each node passes each walk over the numbers
pub record PassNumbers (tables : Tables) (tree : Forest) : Type 0 where
  pub signs : EachPasses (SignsPass tables) (visits tree)
  pub sums : EachPasses (SumsPass tables) (visits tree)
  pub nodes : EachPasses (NodePasses tables) (visits tree)
  pub whole : EachPasses (WholeSumPasses (unsigned_abs (whole_sum tables tree))) (visits tree)
  pub masses : EachPasses (MassPasses tables (game_unit tables tree)) (visits tree)

pub data FirstNumberFault (tables : Tables) (tree : Forest) (fault : GameFault) : Type 0 where
  in_signs : FailsFirst (SignsPass tables) (SignsFail tables) (visits tree) fault → FirstNumberFault tables tree fault
  in_sums : EachPasses (SignsPass tables) (visits tree)
      → FailsFirst (SumsPass tables) (SumsFail tables) (visits tree) fault → FirstNumberFault tables tree fault
  in_nodes : EachPasses (SignsPass tables) (visits tree) → EachPasses (SumsPass tables) (visits tree)
      → FailsFirst (NodePasses tables) (NodeFails tables) (visits tree) fault → FirstNumberFault tables tree fault
  in_whole_sum : EachPasses (SignsPass tables) (visits tree) → EachPasses (SumsPass tables) (visits tree)
      → EachPasses (NodePasses tables) (visits tree)
      → FailsFirst (WholeSumPasses (unsigned_abs (whole_sum tables tree)))
      (WholeSumFails (unsigned_abs (whole_sum tables tree))) (visits tree) fault
      → FirstNumberFault tables tree fault
  in_masses : EachPasses (SignsPass tables) (visits tree) → EachPasses (SumsPass tables) (visits tree)
      → EachPasses (NodePasses tables) (visits tree)
      → EachPasses (WholeSumPasses (unsigned_abs (whole_sum tables tree))) (visits tree)
      → FailsFirst (MassPasses tables (game_unit tables tree)) (MassFails tables (game_unit tables tree)) (visits tree)
      fault
      → FirstNumberFault tables tree fault

-- The last walk: recall.

-- the first node at which a player's own choices aren't those at the set's first node
pub record RecallFails (tree : Forest) (fault : GameFault) : Type 0 where
  pub node : ℕ
  pub earlier : ℕ
  pub breaks : (d : Visit)
      → IsFirstBreak (λ k. slice_index_or (visits tree) (k - 1) d) (length (visits tree))
      (record { node = node; earlier = earlier })
  pub fault_is : fault ≡ NotRecall node earlier

pub data FirstGameFault (tables : Tables) (tree : Forest) (fault : GameFault) : Type 0 where
  in_numbers : FirstNumberFault tables tree fault → FirstGameFault tables tree fault
  in_recall : PassNumbers tables tree → RecallFails tree fault → FirstGameFault tables tree fault
