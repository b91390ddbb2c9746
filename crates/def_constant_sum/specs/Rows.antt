-- What plans are expected to pay in small games whose sums aren't 0.
use Rattle.std.specs.Prelude.{◌≡◌, ℕ, pos, negsuc, List, [], ◌∷◌, map}
use Rattle.def_tree.specs.declared.Player.TheVariants.{One, Two}
use Rattle.def_tree.specs.Rules.{matching_pennies}
use Rattle.def_fraction.specs.Fraction.{over, whole_number}
use Rattle.def_game_paths.specs.Paths.{leaf_visits}
use Rattle.def_game_scale.specs.Tables.{Tables, game_sum}
use Rattle.def_game_scale.specs.Rows.{uneven}
use Rattle.def_constant_sum.specs.Expected.{expected_payoff, leaf_probability}
use Rattle.def_fraction.specs.Order.{difference_of}

-- matching pennies for one coin, which player one gets where both pennies match, and player two where they don't
abbrev pub coin_tables : Tables
coin_tables = record {
  chance = [];
  outcomes = record { one = whole_number (pos 1); two = whole_number (pos 0) }
      ∷ record { one = whole_number (pos 0); two = whole_number (pos 1) } ∷ [];
}

-- the uneven tree with payoffs of which each leaf's add up to 5/6
abbrev pub uneven_constant : Tables
uneven_constant = record {
  chance = (over (pos 1) 2 ∷ over (pos 1) 3 ∷ over (pos 1) 6 ∷ []) ∷ (over (pos 1) 4 ∷ over (pos 3) 4 ∷ []) ∷ [];
  outcomes =
      record { one = over (pos 1) 2; two = over (pos 1) 3 }
      ∷ record { one = whole_number (pos 2); two = whole_number (negsuc 1) }
      ∷ record { one = whole_number (negsuc 0); two = whole_number (pos 1) } ∷ [];
}

abbrev heads : List ℕ
heads = 1 ∷ 1 ∷ 0 ∷ []

-- heads once in three times
abbrev pub mostly_tails : List ℕ
mostly_tails = 3 ∷ 1 ∷ 2 ∷ []

-- the plan of a player without sets
abbrev no_choice : List ℕ
no_choice = 1 ∷ []

pub record PayoffRows : Type 0 where
  pub coin_sum : game_sum coin_tables matching_pennies ≡ whole_number (pos 1)
  pub coin_probabilities : map (leaf_probability coin_tables matching_pennies heads mostly_tails)
      (leaf_visits matching_pennies)
      ≡ over (pos 1) 3 ∷ over (pos 2) 3 ∷ whole_number (pos 0) ∷ whole_number (pos 0) ∷ []
  pub coin_one : expected_payoff One coin_tables matching_pennies heads mostly_tails ≡ over (pos 1) 3
  pub coin_two : expected_payoff Two coin_tables matching_pennies heads mostly_tails ≡ over (pos 2) 3
  pub uneven_probabilities : map (leaf_probability uneven_constant uneven no_choice mostly_tails) (leaf_visits uneven)
      ≡ over (pos 1) 2 ∷ over (pos 1) 9 ∷ over (pos 2) 9 ∷ over (pos 1) 24 ∷ over (pos 1) 8 ∷ []
  pub uneven_one : expected_payoff One uneven_constant uneven no_choice mostly_tails ≡ over (pos 13) 9
  pub uneven_two : expected_payoff Two uneven_constant uneven no_choice mostly_tails ≡ over (negsuc 10) 18
  pub uneven_sum : game_sum uneven_constant uneven ≡ over (pos 5) 6
  pub uneven_rest : difference_of (over (pos 5) 6) (over (pos 13) 9) ≡ over (negsuc 10) 18
