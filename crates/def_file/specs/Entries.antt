-- The game that the entries of a file stand for (Gambit's manual, "The extensive game (.efg) file format"),
-- by all entries at once.
--     firsts ns                      each number once, in the order of first appearance
--     first_given os                 the first that is given
--     mentions kind n rs             the entries that mention a set
--     set_table kind rs              a kind's sets, in the order of their first mentions
--     outcome_table rs               the outcomes, in the order of their first mentions
--     node_of rs r                   the node that an entry is, among all entries
--     contents_of rs                 the nodes, with their names, sets and outcomes
use Rattle.std.specs.Prelude.{ℕ, ◌+◌, not, nat_eq, if◌then◌else◌, List, [], ◌∷◌, map, filter, length, unwrap_or, Option}
use Rattle.std.specs.Prelude.{Some, None}
use Rattle.std.specs.List.{position_or_len}
use Rattle.def_tree.specs.declared.Kind.{Kind}
use Rattle.def_tree.specs.declared.Kind.TheVariants.{Chance, One, Two}
use Rattle.def_tree.specs.declared.Node.{Node}
use Rattle.def_tree.specs.Rules.{is_same_kind}
use Rattle.def_file.specs.Content.{Prologue, Record, SetEntry, OutcomeEntry, Contents, GameFile, game_with}
use Rattle.def_file.specs.Faults.{mover, has_set}
use Rattle.def_file.specs.Adding.{nth_payoff}

-- each number once, in the order of first appearance
abbrev pub firsts : List ℕ → List ℕ
firsts [] = []
firsts (n ∷ ns) = n ∷ filter (λ m. not (nat_eq n m)) (firsts ns)

abbrev pub first_given : {A : Type 0} → List (Option A) → Option A
first_given [] = None
first_given (Some x ∷ rest) = Some x
first_given (None ∷ rest) = first_given rest

-- the place of a number, which counts from 1
abbrev pub number_in : ℕ → List ℕ → ℕ
number_in n ns = position_or_len (λ m. nat_eq n m) ns + 1

-- what the first of some mentions gives
abbrev pub given_first : {A : Type 0} → List (Option (List A)) → List A
given_first [] = []
given_first (given ∷ rest) = unwrap_or given []

-- Sets are those of chance and of each player, by their number in the file.

abbrev pub of_kind : Kind → List Record → List Record
of_kind kind rs = filter (λ r. is_same_kind kind (mover r)) rs

abbrev pub set_numbers : Kind → List Record → List ℕ
set_numbers kind rs = firsts (map (λ r. r.set.number) (of_kind kind rs))

abbrev pub mentions : Kind → ℕ → List Record → List Record
mentions kind n rs = filter (λ r. nat_eq n r.set.number) (of_kind kind rs)

-- the first name that is given, and the actions of the first mention
abbrev pub set_entry : Kind → List Record → ℕ → SetEntry
set_entry kind rs n = record {
  number = n;
  name = first_given (map (λ r. r.set.name) (mentions kind n rs));
  actions = given_first (map (λ r. r.set.actions) (mentions kind n rs));
}

abbrev pub set_table : Kind → List Record → List SetEntry
set_table kind rs = map (set_entry kind rs) (set_numbers kind rs)

-- Outcomes go by their number in the file. Outcome 0 is the null outcome.

abbrev pub with_outcome : List Record → List Record
with_outcome rs = filter (λ r. not (nat_eq r.outcome.number 0)) rs

abbrev pub outcome_numbers : List Record → List ℕ
outcome_numbers rs = firsts (map (λ r. r.outcome.number) (with_outcome rs))

abbrev pub outcome_mentions : ℕ → List Record → List Record
outcome_mentions n rs = filter (λ r. nat_eq n r.outcome.number) (with_outcome rs)

abbrev pub outcome_entry : List Record → ℕ → OutcomeEntry
outcome_entry rs n = record {
  number = n;
  name = first_given (map (λ r. r.outcome.name) (outcome_mentions n rs));
  one = nth_payoff (given_first (map (λ r. r.outcome.payoffs) (outcome_mentions n rs))) 0;
  two = nth_payoff (given_first (map (λ r. r.outcome.payoffs) (outcome_mentions n rs))) 1;
}

abbrev pub outcome_table : List Record → List OutcomeEntry
outcome_table rs = map (outcome_entry rs) (outcome_numbers rs)

-- Nodes: a node has as many children as its set has actions.

abbrev pub node_of : List Record → Record → Node
node_of rs r = record {
  kind = mover r;
  set = if has_set r.kind then number_in r.set.number (set_numbers (mover r) rs) else 0;
  outcome = if nat_eq r.outcome.number 0 then 0 else number_in r.outcome.number (outcome_numbers rs);
  children = if has_set r.kind then length (set_entry (mover r) rs r.set.number).actions else 0;
}

abbrev pub contents_of : List Record → Contents
contents_of rs = record {
  nodes = map (node_of rs) rs;
  names = map (λ r. r.name) rs;
  sets = record { chance = set_table Chance rs; one = set_table One rs; two = set_table Two rs };
  outcomes = outcome_table rs;
}

-- the game of a prologue and of entries whose nodes are a whole tree
abbrev pub game_of_entries : Prologue → List Record → GameFile
game_of_entries prologue rs = game_with prologue (contents_of rs)
