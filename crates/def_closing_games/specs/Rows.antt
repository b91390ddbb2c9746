-- Worked rows: what is promised of three small games, with the ranges and spreads that it comes from.
use Rattle.std.specs.Prelude.{◌≡◌, ℕ, pos, negsuc, List, [], ◌∷◌, map}
use Rattle.def_tree.specs.declared.Kind.TheVariants as kinds
use Rattle.def_tree.specs.declared.Player.{Player}
use Rattle.def_tree.specs.declared.Player.TheVariants.{One, Two}
use Rattle.def_tree.specs.Tree.{Forest, forest_of}
use Rattle.def_tree.specs.Rules.{inner_node, leaf_node, matching_pennies}
use Rattle.def_fraction.specs.Fraction.{over, whole_number}
use Rattle.def_game_scale.specs.Rows.{tosses, toss_tables}
use Rattle.def_game_scale.specs.Tables.{Tables}
use Rattle.def_plan.specs.Form.{SequenceForm, placed, player_sets}
use Rattle.def_sequence_form.specs.Form.{form_of_game}
use Rattle.def_plus.specs.declared.Variant.TheVariants.{Plain, Plus}
use Rattle.def_constant_sum.specs.Rows.{coin_tables}
use Rattle.def_closing_games.specs.Range.{game_spread, greatest_payoff, least_payoff, payoff_range}
use Rattle.def_closing_games.specs.Promise.{promise, promised_width}

-- Three times in four player one goes on or stops, and where it goes on it has three ways, each of which player two
-- sees before it grants 2/3 or nothing. The gap of player one's first choice counts each way, and so is above the
-- range, whose upper end is rounded up from 4/3.
abbrev pub three_ways : Forest
three_ways = forest_of (
    inner_node kinds.Chance 1 2 ∷ inner_node kinds.One 1 2 ∷ inner_node kinds.One 2 3
    ∷ inner_node kinds.Two 1 2 ∷ leaf_node 1 ∷ leaf_node 2
    ∷ inner_node kinds.Two 2 2 ∷ leaf_node 1 ∷ leaf_node 2
    ∷ inner_node kinds.Two 3 2 ∷ leaf_node 1 ∷ leaf_node 2
    ∷ leaf_node 2 ∷ leaf_node 2 ∷ [])

abbrev pub ways_tables : Tables
ways_tables = record {
  chance = (over (pos 3) 4 ∷ over (pos 1) 4 ∷ []) ∷ [];
  outcomes =
      record { one = over (pos 2) 3; two = over (pos 1) 3 }
      ∷ record { one = whole_number (pos 0); two = whole_number (pos 1) } ∷ [];
}

-- the spreads of a player's sets
abbrev spreads : Player → Tables → Forest → List ℕ
spreads player tables tree =
    let form : SequenceForm = form_of_game tables tree in
    map (game_spread (payoff_range tables tree) player form) (placed (player_sets form player))

-- matching pennies for one coin, a choice between two tosses of one coin, and the game of three ways
pub record PromiseRows : Type 0 where
  pub coin_range : payoff_range coin_tables matching_pennies ≡ 1
  pub coin_one : spreads One coin_tables matching_pennies ≡ 1 ∷ []
  pub coin_two : spreads Two coin_tables matching_pennies ≡ 1 ∷ []
  pub coin : promise Plain coin_tables matching_pennies 1048576 100 ≡ over (pos 524463) 2621440
  pub coin_of_units : promise Plain coin_tables matching_pennies 1 100 ≡ over (pos 51) 5
  pub coin_plus : promise Plus coin_tables matching_pennies 16384 10 ≡ over (pos 131163) 90112
  pub toss_low : least_payoff toss_tables tosses ≡ negsuc 1
  pub toss_range : payoff_range toss_tables tosses ≡ 4
  pub toss_spreads : spreads One toss_tables tosses ≡ 2 ∷ []
  pub toss : promise Plain toss_tables tosses 1048576 100 ≡ over (pos 262229) 2621440
  pub toss_plus : promise Plus toss_tables tosses 16384 10 ≡ over (pos 131123) 180224
  pub ways_high : greatest_payoff ways_tables three_ways ≡ pos 2
  pub ways_one : spreads One ways_tables three_ways ≡ 2 ∷ 1 ∷ []
  pub ways_two : spreads Two ways_tables three_ways ≡ 1 ∷ 1 ∷ 1 ∷ []
  pub ways_width : promised_width Plain ways_tables three_ways 1048576 2 ≡ 12583394
  pub ways : promise Plain ways_tables three_ways 1048576 100 ≡ over (pos 3409077) 10485760
  pub ways_of_units : promise Plain ways_tables three_ways 1 10 ≡ over (pos 59) 4
  pub ways_plus : promise Plus ways_tables three_ways 16384 2 ≡ over (pos 393317) 98304
