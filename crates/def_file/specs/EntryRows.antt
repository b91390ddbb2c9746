-- Small files, by their entries: what they stand for, and the faults of one more entry.
use Rattle.std.specs.Prelude.{◌≡◌, ℕ, ℤ, pos, negsuc, List, [], ◌∷◌, ◌++◌, Option, Some, None, replicate, codes}
use Rattle.def_fraction.specs.Fraction.{Fraction, whole_number, zero_fraction, over}
use Rattle.def_tree.specs.declared.Kind.TheVariants as movers
use Rattle.def_tree.specs.Rules.{node_of_numbers}
use Rattle.def_file.specs.declared.FileFault.{FileFault}
use Rattle.def_file.specs.declared.FileFault.TheVariants.{PlayerNumber, SetUndefined, SetMismatch, OutcomeUndefined}
use Rattle.def_file.specs.declared.FileFault.TheVariants.{OutcomeMismatch, PayoffCount, TooManyNodes, ActionCount}
use Rattle.def_file.specs.Content.{Action, SetMention, OutcomeMention, Record, Contents, action_with, named_action}
use Rattle.def_file.specs.Content.{set_mention, outcome_mention, chance_record, player_record, leaf_record}
use Rattle.def_file.specs.Faults.{first_met, entry_faults, record_fault}
use Rattle.def_file.specs.Entries.{contents_of}

-- Entries, as a file writes them.

abbrev leaf_saying : ℕ → Option (List ℕ) → Option (List Fraction) → Record
leaf_saying number name payoffs = leaf_record (outcome_mention number name payoffs)

-- outcome 3 without payoffs, where it is new
abbrev unpaid : OutcomeMention
unpaid = outcome_mention 3 None None

abbrev given_payoffs : ℤ → ℤ → Option (List Fraction)
given_payoffs one two = Some (whole_number one ∷ whole_number two ∷ [])

-- A choice over a coin on either side, with the coin's odds as 1/2 first, and then as 0.5 and 5e-1:
--     p "" 1 1 "a" { "x" "y" } 0
--     c "" 7 "coin" { "h" 1/2 "t" 1/2 } 0
--     t "" 1 { 1, -1 }
--     t "" 0
--     c "" 7 "coin" { "h" 0.5 "t" 5e-1 } 0
--     t "" 0
--     t "" 2 { -1, 1 }

abbrev coin : List Action
coin = action_with (codes "h") (over (pos 1) 2) ∷ action_with (codes "t") (over (pos 1) 2) ∷ []

abbrev letters : List Action
letters = named_action (codes "x") ∷ named_action (codes "y") ∷ []

-- the first four entries
abbrev begun : List Record
begun = player_record 1 (set_mention 1 (Some (codes "a")) (Some letters))
    ∷ chance_record (set_mention 7 (Some (codes "coin")) (Some coin))
    ∷ leaf_saying 1 None (given_payoffs (pos 1) (negsuc 0)) ∷ leaf_saying 0 None None ∷ []

-- the other three
abbrev ended : List Record
ended = chance_record (set_mention 7 (Some (codes "coin")) (Some coin)) ∷ leaf_saying 0 None None
    ∷ leaf_saying 2 None (given_payoffs (negsuc 0) (pos 1)) ∷ []

-- the sets are numbered by first appearance: the coin is set 1 of chance, though the file calls it 7
abbrev coin_contents : Contents
coin_contents = record {
  nodes = node_of_numbers movers.One 1 0 2 ∷ node_of_numbers movers.Chance 1 0 2 ∷ node_of_numbers movers.Leaf 0 1 0
      ∷ node_of_numbers movers.Leaf 0 0 0 ∷ node_of_numbers movers.Chance 1 0 2 ∷ node_of_numbers movers.Leaf 0 0 0
      ∷ node_of_numbers movers.Leaf 0 2 0 ∷ [];
  names = [] ∷ [] ∷ [] ∷ [] ∷ [] ∷ [] ∷ [] ∷ [];
  sets = record {
    chance = record { number = 7; name = Some (codes "coin"); actions = coin } ∷ [];
    one = record { number = 1; name = Some (codes "a"); actions = letters } ∷ [];
    two = [];
  };
  outcomes =
      record { number = 1; name = None; one = whole_number (pos 1); two = whole_number (negsuc 0) }
      ∷ record { number = 2; name = None; one = whole_number (negsuc 0); two = whole_number (pos 1) } ∷ [];
}

-- A choice of three over sets 9 and 3 of player two,
-- where only the second mentions of set 9 and of outcome 6 have a name:
--     p "" 1 4 { "a" "b" "c" } 0
--     p "" 2 9 { "l" } 0
--     t "" 6 { 1, -1 }
--     p "" 2 3 { "u" } 0
--     t "" 0
--     p "" 2 9 "late" 0
--     t "" 6 "win"

abbrev three_letters : List Action
three_letters = named_action (codes "a") ∷ named_action (codes "b") ∷ named_action (codes "c") ∷ []

abbrev late : List Record
late =
    player_record 1 (set_mention 4 None (Some three_letters))
    ∷ player_record 2 (set_mention 9 None (Some (named_action (codes "l") ∷ [])))
    ∷ leaf_saying 6 None (given_payoffs (pos 1) (negsuc 0))
    ∷ player_record 2 (set_mention 3 None (Some (named_action (codes "u") ∷ []))) ∷ leaf_saying 0 None None
    ∷ player_record 2 (set_mention 9 (Some (codes "late")) None) ∷ leaf_saying 6 (Some (codes "win")) None ∷ []

abbrev late_contents : Contents
late_contents = record {
  nodes = node_of_numbers movers.One 1 0 3 ∷ node_of_numbers movers.Two 1 0 1 ∷ node_of_numbers movers.Leaf 0 1 0
      ∷ node_of_numbers movers.Two 2 0 1 ∷ node_of_numbers movers.Leaf 0 0 0 ∷ node_of_numbers movers.Two 1 0 1
      ∷ node_of_numbers movers.Leaf 0 1 0 ∷ [];
  names = [] ∷ [] ∷ [] ∷ [] ∷ [] ∷ [] ∷ [] ∷ [];
  sets = record {
    chance = [];
    one = record { number = 4; name = None; actions = three_letters } ∷ [];
    two = record { number = 9; name = Some (codes "late"); actions = named_action (codes "l") ∷ [] }
        ∷ record { number = 3; name = None; actions = named_action (codes "u") ∷ [] } ∷ [];
  };
  outcomes = record { number = 6; name = Some (codes "win"); one = whole_number (pos 1); two = whole_number (negsuc 0) }
      ∷ [];
}

-- Faults, each of a fifth entry behind the first four of the first file, unless it is said.

abbrev heads : Fraction → SetMention
heads chance = set_mention 7 None (Some (action_with (codes "h") chance ∷ action_with (codes "t") (over (pos 1) 2)
    ∷ []))

abbrev renamed : SetMention
renamed = set_mention 7 (Some (codes "coin")) (Some (action_with (codes "h") (over (pos 1) 2)
    ∷ action_with (codes "tails") (over (pos 1) 2) ∷ []))

-- the names of player one's actions, with probabilities that no file gives
abbrev letters_with_chances : SetMention
letters_with_chances = set_mention 1 (Some (codes "a"))
    (Some (action_with (codes "x") (over (pos 1) 2) ∷ action_with (codes "y") (over (pos 1) 3) ∷ []))

-- the fault of an entry behind so many nodes, where neither a set nor an outcome is known
abbrev fault_behind : ℕ → Record → Option FileFault
fault_behind nodes r = first_met (entry_faults nodes [] [] r)

-- the first four entries, a fifth, and what a name says after it
abbrev begun_and : Record → Record → Option FileFault
begun_and fifth r = record_fault (contents_of (begun ++ fifth ∷ [])) r

pub record EntryRows : Type 0 where
  pub coin_file : contents_of (begun ++ ended) ≡ coin_contents
  pub late_file : contents_of late ≡ late_contents
  pub same_actions : record_fault (contents_of begun) (chance_record (heads (over (pos 1) 2))) ≡ None
  pub new_name : record_fault (contents_of begun) (chance_record renamed) ≡ Some (SetMismatch 5)
  pub other_chance : record_fault (contents_of begun) (chance_record (heads (over (pos 1) 3))) ≡ Some (SetMismatch 5)
  pub chance_of_player : record_fault (contents_of begun) (player_record 1 letters_with_chances) ≡ None
  pub zeros : record_fault (contents_of begun) (leaf_saying 0 None (given_payoffs (pos 0) (pos 0))) ≡ None
  pub no_zeros : record_fault (contents_of begun) (leaf_saying 0 None (Some [])) ≡ Some (OutcomeMismatch 5)
  pub three_payoffs : record_fault (contents_of begun)
      (leaf_saying 3 None (Some (whole_number (pos 1) ∷ whole_number (negsuc 0) ∷ zero_fraction ∷ [])))
      ≡ Some (PayoffCount 5)
  pub no_payoffs : record_fault (contents_of begun) (leaf_saying 3 None None) ≡ Some (OutcomeUndefined 5)
  pub player : record_fault (contents_of begun) (player_record 3 (set_mention 8 None None)) ≡ Some (PlayerNumber 5)
  pub no_action : record_fault (contents_of begun) (player_record 1 (set_mention 2 None (Some [])))
      ≡ Some (ActionCount 5)
  pub later_empty : record_fault (contents_of begun) (player_record 1 (set_mention 1 None (Some [])))
      ≡ Some (SetMismatch 5)
  pub set_of_chance : record_fault (contents_of begun) (chance_record (set_mention 1 None None)) ≡ Some (SetUndefined 5)
  pub set_of_two : record_fault (contents_of begun)
      (player_record 2 (set_mention 1 (Some (codes "a")) None)) ≡ Some (SetUndefined 5)
  pub known_set : record_fault (contents_of begun) (player_record 1 (set_mention 1 None None)) ≡ None
  pub undefined_before_outcome : record_fault (contents_of begun)
      (record (player_record 1 (set_mention 2 None None)) { outcome = unpaid }) ≡ Some (SetUndefined 5)
  pub mismatch_before_outcome : record_fault (contents_of begun)
      (record (player_record 1 (set_mention 1 (Some (codes "b")) None)) { outcome = unpaid }) ≡ Some (SetMismatch 5)
  pub more_actions : record_fault (contents_of begun)
      (player_record 1 (set_mention 1 None (Some (letters ++ named_action (codes "z") ∷ [])))) ≡ Some (SetMismatch 5)
  pub fewer_actions : record_fault (contents_of begun)
      (player_record 1 (set_mention 1 None (Some (named_action (codes "x") ∷ [])))) ≡ Some (SetMismatch 5)
  pub other_set_name : record_fault (contents_of begun)
      (player_record 1 (set_mention 1 (Some (codes "b")) None)) ≡ Some (SetMismatch 5)
  pub late_name : begun_and (leaf_saying 1 (Some (codes "win")) None)
      (leaf_saying 1 (Some (codes "loss")) None) ≡ Some (OutcomeMismatch 6)
  pub late_name_again : begun_and (leaf_saying 1 (Some (codes "win")) None)
      (leaf_saying 1 (Some (codes "win")) (given_payoffs (pos 1) (negsuc 0))) ≡ None
  pub first_name_kept : begun_and (player_record 1 (set_mention 1 None None))
      (player_record 1 (set_mention 1 (Some (codes "b")) None)) ≡ Some (SetMismatch 6)
  pub other_payoffs : record_fault (contents_of begun)
      (leaf_saying 1 None (given_payoffs (negsuc 0) (pos 1))) ≡ Some (OutcomeMismatch 5)
  pub later_three : record_fault (contents_of begun)
      (leaf_saying 1 None (Some (whole_number (pos 1) ∷ whole_number (negsuc 0) ∷ zero_fraction ∷ [])))
      ≡ Some (OutcomeMismatch 5)
  pub name_at_zero : begun_and (leaf_saying 0 (Some (codes "even")) None) (leaf_saying 0 (Some (codes "odd")) None)
      ≡ None
  pub most_actions_fit : fault_behind 0 (player_record 1 (set_mention 1 None (Some (replicate 1024 (named_action [])))))
      ≡ None
  pub one_action_more : fault_behind 0 (player_record 1 (set_mention 1 None (Some (replicate 1025 (named_action [])))))
      ≡ Some (ActionCount 1)
  pub last_node : fault_behind 1048575 (leaf_saying 0 None None) ≡ None
  pub node_too_many : fault_behind 1048576 (leaf_saying 0 None None) ≡ Some TooManyNodes
  pub payoffs_before_nodes : fault_behind 1048576 (leaf_saying 3 None (Some [])) ≡ Some (PayoffCount 1048577)
  pub nodes_before_actions : fault_behind 1048576 (player_record 1 (set_mention 2 None (Some []))) ≡ Some TooManyNodes
  pub actions_at_last_node : fault_behind 1048575 (player_record 1 (set_mention 2 None (Some [])))
      ≡ Some (ActionCount 1048576)
  pub payoffs_before_actions : record_fault (contents_of begun)
      (record (player_record 1 (set_mention 2 None (Some []))) { outcome = outcome_mention 3 None (Some []) })
      ≡ Some (PayoffCount 5)
