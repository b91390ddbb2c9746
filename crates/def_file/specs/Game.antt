-- A game whose sets and outcomes go with its tree.
--     IsInSet table node                        the node's set is in the table, with an action for each child
--     GoesWith sets outcomes node               the node's set and its outcome are in the tables
--     GoTogether nodes names sets outcomes      nodes and tables go together
--     IsWholeGame game                          a tree with tables that go together
--     HasFractions game                         its probabilities and payoffs are in lowest terms, within the limit
use Rattle.std.specs.Prelude.{◌≡◌, ◌≢◌, ℕ, ◌-◌, ◌≤◌, List, map, length, All, IsTrue}
use Rattle.def_fraction.specs.Fraction.{Fraction, IsInLowestTerms, fits}
use Rattle.def_tree.specs.declared.Kind.{Kind}
use Rattle.def_tree.specs.declared.Kind.TheVariants.{Chance, One, Two, Leaf}
use Rattle.def_tree.specs.declared.Node.{Node}
use Rattle.def_tree.specs.Tree.{IsTree, prefix}
use Rattle.def_tree.specs.Rules.{most_actions, most_nodes, set_count, KeepRules}
use Rattle.def_file.specs.Content.{SetEntry, OutcomeEntry, SetTables, Contents, GameFile, sets_of_kind}
use Rattle.def_file.specs.Faults.{set_at}

-- the probabilities of a chance set, one for each action
abbrev pub chances_of : SetEntry → List Fraction
chances_of entry = map (λ a. a.chance) entry.actions

pub record IsInSet (table : List SetEntry) (node : Node) : Type 0 where
  pub from_one : 1 ≤ node.set
  pub there : node.set ≤ length table
  pub actions : length (set_at table (node.set - 1)).actions ≡ node.children
  pub chances : length (chances_of (set_at table (node.set - 1))) ≡ node.children

-- a leaf is in no set; outcome 0 is in no table
pub record GoesWith (sets : SetTables) (outcomes : List OutcomeEntry) (node : Node) : Type 0 where
  pub set : node.kind ≢ Leaf → IsInSet (sets_of_kind node.kind sets) node
  pub outcome : node.outcome ≤ length outcomes

abbrev pub HasFewActions : SetEntry → Type 0
HasFewActions entry = (1 ≤ length entry.actions) × (length entry.actions ≤ most_actions)

-- each set of the table is that of a node of the kind, and has 1 to 1,024 actions
pub record AreSetsOf (kind : Kind) (nodes : List Node) (table : List SetEntry) : Type 0 where
  pub count : length table ≡ set_count kind nodes
  pub few : All HasFewActions table

pub record GoTogether (nodes : List Node) (names : List (List ℕ)) (sets : SetTables)
    (outcomes : List OutcomeEntry) : Type 0 where
  pub rules : KeepRules nodes
  pub limit : length nodes ≤ most_nodes
  pub named : length names ≡ length nodes
  pub tables : All (GoesWith sets outcomes) nodes
  pub chance : AreSetsOf Chance nodes sets.chance
  pub one : AreSetsOf One nodes sets.one
  pub two : AreSetsOf Two nodes sets.two
  pub few_outcomes : length outcomes ≤ length nodes

abbrev pub AreTogether : Contents → Type 0
AreTogether contents = GoTogether contents.nodes contents.names contents.sets contents.outcomes

pub record IsWholeGame (game : GameFile) : Type 0 where
  pub tree : IsTree game.tree
  pub together : GoTogether (prefix game.tree) game.names game.sets game.outcomes

abbrev pub IsSmallFraction : Fraction → Type 0
IsSmallFraction f = IsInLowestTerms f × IsTrue (fits f)

pub record HasFractions (sets : SetTables) (outcomes : List OutcomeEntry) : Type 0 where
  pub chance : All (λ entry. All IsSmallFraction (chances_of entry)) sets.chance
  pub one : All (λ outcome. IsSmallFraction outcome.one) outcomes
  pub two : All (λ outcome. IsSmallFraction outcome.two) outcomes
