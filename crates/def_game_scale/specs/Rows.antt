-- Sums, units, weights and masses of small games.
use Rattle.std.specs.Prelude.{◌≡◌, ℤ, pos, negsuc, [], ◌∷◌, map}
use Rattle.def_tree.specs.declared.Kind.TheVariants.{Chance, One, Two, Leaf}
use Rattle.def_tree.specs.Tree.{Forest, forest_of}
use Rattle.def_tree.specs.Rules.{node_of_numbers}
use Rattle.def_fraction.specs.Fraction.{Fraction, whole_number, over, zero_fraction}
use Rattle.def_game_paths.specs.Paths.{leaf_visits}
use Rattle.def_game_scale.specs.Tables.{Tables, game_sum, payoff_one, payoff_two, reach}
use Rattle.def_game_scale.specs.Scale.{game_mass, game_unit, weights}

-- a choice between two tosses of one coin
abbrev pub tosses : Forest
tosses = forest_of (node_of_numbers One 1 0 2 ∷ node_of_numbers Chance 1 0 2 ∷ node_of_numbers Leaf 0 1 0
    ∷ node_of_numbers Leaf 0 0 0 ∷ node_of_numbers Chance 1 0 2 ∷ node_of_numbers Leaf 0 0 0
    ∷ node_of_numbers Leaf 0 2 0 ∷ [])

abbrev half : ℤ → Fraction
half n = over n 2

abbrev pub toss_tables : Tables
toss_tables = record {
  chance = (half (pos 1) ∷ half (pos 1) ∷ []) ∷ [];
  outcomes = record { one = whole_number (pos 1); two = whole_number (negsuc 0) }
      ∷ record { one = whole_number (negsuc 0); two = whole_number (pos 1) } ∷ [];
}

-- a choice with a payoff at once, and another at one of its leaves
abbrev pub inner : Forest
inner = forest_of (node_of_numbers One 1 1 2 ∷ node_of_numbers Leaf 0 2 0 ∷ node_of_numbers Leaf 0 0 0 ∷ [])

abbrev pub inner_tables : Tables
inner_tables = record {
  chance = [];
  outcomes = record { one = half (pos 1); two = half (negsuc 0) }
      ∷ record { one = half (pos 1); two = half (negsuc 0) } ∷ [];
}

-- unequal chances, one below another, and payoffs on the way to the leaves
abbrev pub uneven : Forest
uneven = forest_of (node_of_numbers Chance 1 1 3 ∷ node_of_numbers Leaf 0 2 0 ∷ node_of_numbers Two 1 3 2
    ∷ node_of_numbers Leaf 0 0 0 ∷ node_of_numbers Leaf 0 2 0 ∷ node_of_numbers Chance 2 3 2
    ∷ node_of_numbers Leaf 0 0 0 ∷ node_of_numbers Leaf 0 0 0 ∷ [])

abbrev pub uneven_tables : Tables
uneven_tables = record {
  chance = (over (pos 1) 2 ∷ over (pos 1) 3 ∷ over (pos 1) 6 ∷ []) ∷ (over (pos 1) 4 ∷ over (pos 3) 4 ∷ []) ∷ [];
  outcomes =
      record { one = half (pos 1); two = over (pos 1) 3 }
      ∷ record { one = whole_number (pos 2); two = whole_number (negsuc 0) }
      ∷ record { one = whole_number (negsuc 0); two = whole_number (pos 5) } ∷ [];
}

pub record ScaleRows : Type 0 where
  pub toss_sum : game_sum toss_tables tosses ≡ zero_fraction
  pub toss_unit : game_unit toss_tables tosses ≡ 2
  pub toss_weights : weights toss_tables tosses ≡ pos 1 ∷ pos 0 ∷ pos 0 ∷ negsuc 0 ∷ []
  pub toss_mass : game_mass toss_tables tosses ≡ 2
  pub inner_sum : game_sum inner_tables inner ≡ zero_fraction
  pub inner_unit : game_unit inner_tables inner ≡ 2
  pub inner_weights : weights inner_tables inner ≡ pos 2 ∷ pos 1 ∷ []
  pub inner_mass : game_mass inner_tables inner ≡ 3
  pub uneven_reaches : map (λ leaf. reach uneven_tables leaf.path)
      (leaf_visits uneven)
      ≡ over (pos 1) 2 ∷ over (pos 1) 3 ∷ over (pos 1) 3 ∷ over (pos 1) 24 ∷ over (pos 1) 8 ∷ []
  pub uneven_ones : map (payoff_one uneven_tables)
      (leaf_visits uneven)
      ≡ over (pos 5) 2 ∷ over (negsuc 0) 2 ∷ over (pos 3) 2 ∷ over (negsuc 0) 2 ∷ over (negsuc 0) 2 ∷ []
  pub uneven_twos : map (payoff_two uneven_tables)
      (leaf_visits uneven)
      ≡ over (negsuc 1) 3 ∷ over (pos 16) 3 ∷ over (pos 13) 3 ∷ over (pos 16) 3 ∷ over (pos 16) 3 ∷ []
  pub uneven_sum : game_sum uneven_tables uneven ≡ over (pos 11) 6
  pub uneven_unit : game_unit uneven_tables uneven ≡ 48
  pub uneven_weights : weights uneven_tables uneven ≡ pos 60 ∷ negsuc 7 ∷ pos 24 ∷ negsuc 0 ∷ negsuc 2 ∷ []
  pub uneven_mass : game_mass uneven_tables uneven ≡ 96
