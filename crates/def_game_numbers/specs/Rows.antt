-- What the calls answer for files of small games, and the forms of the games that have no fault.
use Rattle.std.specs.Prelude.{◌≡◌, ℕ, pos, negsuc, List, [], ◌∷◌, length, map, Some, None, Ok, Err}
use Rattle.def_tree.specs.Tree.{leaf_count, node_count, prefix}
use Rattle.def_fraction.specs.Fraction.{Fraction, over, zero_fraction}
use Rattle.def_file.specs.declared.FileFault.TheVariants as faults
use Rattle.def_file.specs.Content.{GameFile, OutcomeEntry, SetEntry}
use Rattle.def_game_scale.specs.Tables.{PayoffPair}
use Rattle.def_game_scale.specs.Examples as examples
use Rattle.def_game_scale.specs.Examples.{Example}
use Rattle.def_plan.specs.Form.{Leaf, sequence_count, weighted}
use Rattle.def_sequence_form.specs.Form.{form_of_game}
use Rattle.def_sequence_form.specs.Sets.{sets_or_break}
use Rattle.def_game_numbers.specs.Numbers.{game_file_fault, weigh}

-- a file's game, without texts

abbrev set_with : List Fraction → SetEntry
set_with chances = record {
  number = 1;
  name = None;
  actions = map (λ chance. record { name = []; chance = chance })
      chances;
}

abbrev unnamed_outcome : PayoffPair → OutcomeEntry
unnamed_outcome payoffs = record { number = 1; name = None; one = payoffs.one; two = payoffs.two }

abbrev pub file_of : Example → GameFile
file_of game = record {
  prologue = record { title = []; one = []; two = []; comment = [] };
  tree = game.tree;
  names = [];
  sets = record { chance = map set_with game.tables.chance; one = []; two = [] };
  outcomes = map unnamed_outcome game.tables.outcomes;
}

pub record FileRows : Type 0 where
  pub negative : weigh (file_of examples.negative_before_sum) ≡ Err (faults.ChanceNegative 2)
  pub sum : weigh (file_of examples.sum_before_leaf) ≡ Err (faults.ChanceSum 1)
  pub another_sum : weigh (file_of examples.fraction_of_another_sum) ≡ Err (faults.NotConstantSum 3)
  pub whole_sum : weigh (file_of examples.whole_sum_past_limit) ≡ Err (faults.Scale 3)
  pub scale : weigh (file_of examples.rare_deals) ≡ Err (faults.Scale 3)
  pub weights : weigh (file_of examples.biased_coin) ≡ Ok
      (record { sum = zero_fraction; unit = 3; mass = 7; leaves = pos 1 ∷ pos 6 ∷ [] })
  pub weights_of_sum : weigh (file_of examples.fifth_together)
      ≡ Ok (record { sum = over (pos 1) 5; unit = 30; mass = 25; leaves = pos 15 ∷ pos 10 ∷ [] })
  pub recall : game_file_fault (file_of examples.first_in_set) ≡ Some (faults.NotRecall 7 4)
  pub recall_weighed : weigh (file_of examples.first_in_set)
      ≡ Ok (record { sum = zero_fraction; unit = 1; mass = 0; leaves = pos 0 ∷ pos 0 ∷ pos 0 ∷ [] })
  pub recall_broken : sets_or_break examples.first_in_set.tree ≡ Err (record { node = 7; earlier = 4 })
  pub sets : sets_or_break examples.other_before_choice.tree ≡ Ok (record {
    one = record {
      sets = record { before = 0; actions = 2 } ∷ [];
      first_nodes = 2 ∷ [];
      at_nodes = 0 ∷ 0 ∷ 1 ∷ 2 ∷ 0
          ∷ 1 ∷ 2 ∷ [];
    };
    two = record {
      sets = record { before = 0; actions = 2 } ∷ [];
      first_nodes = 1 ∷ [];
      at_nodes = 0 ∷ 1 ∷ 1 ∷ 1 ∷ 2
          ∷ 2 ∷ 2 ∷ [];
    };
    next_nodes = None ∷ Some 5 ∷ None ∷ None ∷ None ∷ None ∷ None ∷ [];
  })

-- so many nodes and leaves, sets and sequences of each player, and these leaves
pub record HasHead (game : Example) (nodes leaves sets_one sets_two sequences_one sequences_two : ℕ)
    (form_leaves : List Leaf) : Type 0 where
  pub nodes_are : node_count game.tree ≡ nodes
  pub leaves_are : leaf_count (prefix game.tree) ≡ leaves
  pub sets_of_one : length (form_of_game game.tables game.tree).sets_one ≡ sets_one
  pub sets_of_two : length (form_of_game game.tables game.tree).sets_two ≡ sets_two
  pub sequences_of_one : sequence_count (form_of_game game.tables game.tree).sets_one ≡ sequences_one
  pub sequences_of_two : sequence_count (form_of_game game.tables game.tree).sets_two ≡ sequences_two
  pub form_is : (form_of_game game.tables game.tree).leaves ≡ form_leaves

pub record HeadRows : Type 0 where
  pub thirds_of_one : HasHead examples.thirds_of_one 4 3 0 0 1 1
      (weighted 0 0 (pos 0) ∷ weighted 0 0 (pos 0) ∷ weighted 0 0 (pos 0) ∷ [])
  pub biased_coin : HasHead examples.biased_coin 3 2 0 0 1 1 (weighted 0 0 (pos 1) ∷ weighted 0 0 (pos 6) ∷ [])
  pub mass_at_limit : HasHead examples.mass_at_limit 3 2 1 0 3 1
      (weighted 1 0 (pos 4611686018427387903) ∷ weighted 2 0 (negsuc 0) ∷ [])
  pub coin_before_choice : HasHead examples.coin_before_choice 7 4 1 0 3 1
      (weighted 1 0 (pos 0) ∷ weighted 2 0 (pos 0) ∷ weighted 1 0 (pos 0) ∷ weighted 2 0 (pos 0) ∷ [])
  pub other_before_choice : HasHead examples.other_before_choice 7 4 1 1 3 3
      (weighted 1 1 (pos 0) ∷ weighted 2 1 (pos 0) ∷ weighted 1 2 (pos 0) ∷ weighted 2 2 (pos 0) ∷ [])
