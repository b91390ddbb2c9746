-- Kuhn poker as a tree: cards 1 to 3, one each by chance, both put in 1.
-- Either may bet 1 more, which the other folds to or calls.
use Rattle.std.specs.Prelude.{◌≡◌, ℕ, ◌+◌, ◌-◌, ◌*◌, pos, negsuc, List, [], ◌∷◌, ◌++◌, take, nat_lt, if◌then◌else◌}
use Rattle.std.specs.Prelude.{◌==◌}
use Rattle.def_tree.specs.declared.Kind.TheVariants.{Chance, One, Two}
use Rattle.def_tree.specs.declared.Node.{Node}
use Rattle.def_tree.specs.Tree.{Forest, forest_of}
use Rattle.def_fraction.specs.Fraction.{whole_number, one_over}
use Rattle.def_game_paths.specs.Paths.{Choice}
use Rattle.def_game_scale.specs.Tables.{Tables}
use Rattle.def_game_scale.specs.Scale.{game_mass, game_unit}
use Rattle.def_tree.specs.Rules.{inner_node, leaf_node}
use Rattle.def_sequence_form.specs.Payments.{paid}
use Rattle.def_plan.specs.Kuhn.{kuhn}
use Rattle.def_sequence_form.specs.Form.{LeafEntry, leaf_list, form_of_game}

-- who has the higher card wins the stake
abbrev shown : ℕ → ℕ → ℕ → ℕ
shown one two stake = if nat_lt two one then stake + 2 else stake

-- player two's cards are first seen in the order 2, 3, 1
abbrev set_of_two : ℕ → ℕ
set_of_two card = if card == 1 then 5 else 2 * card - 3

-- the game after a deal: player one checks or bets, and so on
abbrev deal : ℕ → ℕ → List Node
deal one two =
    inner_node One (2 * one - 1) 2 ∷ inner_node Two (set_of_two two) 2 ∷ leaf_node (shown one two 1)
    ∷ inner_node One (2 * one) 2 ∷ leaf_node 1 ∷ leaf_node (shown one two 2)
    ∷ inner_node Two (set_of_two two + 1) 2 ∷ leaf_node 3 ∷ leaf_node (shown one two 2) ∷ []

abbrev pub kuhn_tree : Forest
kuhn_tree = forest_of (
    inner_node Chance 1 3 ∷ (inner_node Chance 2 2 ∷ deal 1 2 ++ deal 1 3)
    ++ ((inner_node Chance 3 2 ∷ deal 2 1 ++ deal 2 3) ++ (inner_node Chance 4 2 ∷ deal 3 1 ++ deal 3 2)))

-- the outcomes in the order of their first appearance:
-- player two wins 1, player two wins 2, player one wins 1, player one wins 2
abbrev pub kuhn_tables : Tables
kuhn_tables = record {
  chance = (one_over 3 ∷ one_over 3 ∷ one_over 3 ∷ []) ∷ (one_over 2 ∷ one_over 2 ∷ []) ∷ (one_over 2 ∷ one_over 2 ∷ [])
      ∷ (one_over 2 ∷ one_over 2 ∷ []) ∷ [];
  outcomes = paid (negsuc 0) ∷ paid (negsuc 1) ∷ paid (pos 1) ∷ paid (pos 2) ∷ [];
}

-- an action of a set
abbrev made_choice : ℕ → ℕ → Choice
made_choice set action = record { set = set; action = action }

-- the first deal gives player one card 1 and player two card 2: both check; check, bet and fold; check, bet and call
abbrev pub first_leaves : List LeafEntry
first_leaves =
    record {
      reach = one_over 6;
      payoff_one = whole_number (negsuc 0);
      payoff_two = whole_number (pos 1);
      choices_one = made_choice 1 1 ∷ [];
      choices_two = made_choice 1 1 ∷ [];
    }
    ∷ record {
      reach = one_over 6;
      payoff_one = whole_number (negsuc 0);
      payoff_two = whole_number (pos 1);
      choices_one = made_choice 2 1 ∷ made_choice 1 1 ∷ [];
      choices_two = made_choice 1 2 ∷ [];
    }
    ∷ record {
      reach = one_over 6;
      payoff_one = whole_number (negsuc 1);
      payoff_two = whole_number (pos 2);
      choices_one = made_choice 2 2 ∷ made_choice 1 1 ∷ [];
      choices_two = made_choice 1 2 ∷ [];
    } ∷ []

pub record KuhnRows : Type 0 where
  pub leaves : take 3 (leaf_list kuhn_tables kuhn_tree) ≡ first_leaves
  pub unit : game_unit kuhn_tables kuhn_tree ≡ 6
  pub mass : game_mass kuhn_tables kuhn_tree ≡ 42
  pub form : form_of_game kuhn_tables kuhn_tree ≡ kuhn
