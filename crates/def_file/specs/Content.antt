-- What a game file says and stands for (Gambit's manual, "The extensive game (.efg) file format").
--     Prologue, Record                  what its prologue and one of its entries say
--     SetMention, OutcomeMention        what an entry says of its set and of its outcome
--     SetEntry, OutcomeEntry            what is known of a set and of an outcome
--     Contents                          the nodes of entries, with their names, sets and outcomes
--     GameFile                          a game
use Rattle.std.specs.Prelude.{ℕ, List, [], Option, None}
use Rattle.def_fraction.specs.Fraction.{Fraction, zero_fraction}
use Rattle.def_tree.specs.declared.Kind.{Kind}
use Rattle.def_tree.specs.declared.Kind.TheVariants.{Chance, One, Two, Leaf}
use Rattle.def_tree.specs.declared.Node.{Node}
use Rattle.def_tree.specs.Tree.{Forest, forest_of}
use Rattle.def_file.specs.declared.EntryKind.{EntryKind}
use Rattle.def_file.specs.declared.EntryKind.TheVariants as kinds

-- The texts, by the bytes that they stand for. An absent comment is the empty text.
pub record Prologue : Type 0 where
  pub title : List ℕ
  pub one : List ℕ
  pub two : List ℕ
  pub comment : List ℕ

-- an action's name and its probability, which is 0 where a player moves
pub record Action : Type 0 where
  pub name : List ℕ
  pub chance : Fraction

-- a set's number, and its name and its actions where they are given
pub record SetMention : Type 0 where
  pub number : ℕ
  pub name : Option (List ℕ)
  pub actions : Option (List Action)

-- an outcome's number, and its name and its payoffs where they are given
pub record OutcomeMention : Type 0 where
  pub number : ℕ
  pub name : Option (List ℕ)
  pub payoffs : Option (List Fraction)

-- an entry: the player's number is 0 where no player moves, and a leaf mentions no set
pub record Record : Type 0 where
  pub kind : EntryKind
  pub name : List ℕ
  pub player : ℕ
  pub set : SetMention
  pub outcome : OutcomeMention

abbrev pub action_with : List ℕ → Fraction → Action
action_with name chance = record { name = name; chance = chance }

-- an action of a player
abbrev pub named_action : List ℕ → Action
named_action name = action_with name zero_fraction

abbrev pub set_mention : ℕ → Option (List ℕ) → Option (List Action) → SetMention
set_mention number name actions = record { number = number; name = name; actions = actions }

abbrev pub no_set_mention : SetMention
no_set_mention = set_mention 0 None None

abbrev pub outcome_mention : ℕ → Option (List ℕ) → Option (List Fraction) → OutcomeMention
outcome_mention number name payoffs = record { number = number; name = name; payoffs = payoffs }

abbrev pub no_outcome_mention : OutcomeMention
no_outcome_mention = outcome_mention 0 None None

-- entries without a name, of which only a leaf says something of an outcome
abbrev pub chance_record : SetMention → Record
chance_record set = record { kind = kinds.Chance; name = []; player = 0; set = set; outcome = no_outcome_mention }

abbrev pub player_record : ℕ → SetMention → Record
player_record player set = record {
  kind = kinds.Personal;
  name = [];
  player = player;
  set = set;
  outcome = no_outcome_mention;
}

abbrev pub leaf_record : OutcomeMention → Record
leaf_record outcome = record { kind = kinds.Leaf; name = []; player = 0; set = no_set_mention; outcome = outcome }

-- what is known of a set: the number in the file, the first name that is given, and the actions of the first mention
pub record SetEntry : Type 0 where
  pub number : ℕ
  pub name : Option (List ℕ)
  pub actions : List Action

-- the same of an outcome, with the payoffs of both players
pub record OutcomeEntry : Type 0 where
  pub number : ℕ
  pub name : Option (List ℕ)
  pub one : Fraction
  pub two : Fraction

-- the sets of chance and of each player, in the order of their first mentions
pub record SetTables : Type 0 where
  pub chance : List SetEntry
  pub one : List SetEntry
  pub two : List SetEntry

-- the nodes in prefix order, their names, and the sets and outcomes in the order of their first mentions
pub record Contents : Type 0 where
  pub nodes : List Node
  pub names : List (List ℕ)
  pub sets : SetTables
  pub outcomes : List OutcomeEntry

abbrev pub no_contents : Contents
no_contents = record { nodes = []; names = []; sets = record { chance = []; one = []; two = [] }; outcomes = [] }

pub record GameFile : Type 0 where
  pub prologue : Prologue
  pub tree : Forest
  pub names : List (List ℕ)
  pub sets : SetTables
  pub outcomes : List OutcomeEntry

-- the game of a prologue and of entries whose nodes are a whole tree
abbrev pub game_with : Prologue → Contents → GameFile
game_with prologue contents = record {
  prologue = prologue;
  tree = forest_of contents.nodes;
  names = contents.names;
  sets = contents.sets;
  outcomes = contents.outcomes;
}

-- the sets of a kind
abbrev pub sets_of_kind : Kind → SetTables → List SetEntry
sets_of_kind Chance sets = sets.chance
sets_of_kind One sets = sets.one
sets_of_kind Two sets = sets.two
sets_of_kind Leaf sets = []

abbrev pub with_sets : Kind → List SetEntry → SetTables → SetTables
with_sets Chance table sets = record sets { chance = table }
with_sets One table sets = record sets { one = table }
with_sets Two table sets = record sets { two = table }
with_sets Leaf table sets = sets
