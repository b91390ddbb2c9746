-- The range of what the leaves of a game pay player one.
--     IsLeast, IsGreatest fractions f            f is one of the fractions, and none is below it, or above it
--     IsPayoffRange tables tree least greatest   the least and the greatest that a leaf pays player one
use Rattle.std.specs.Prelude.{List, map, All, Contains}
use Rattle.def_tree.specs.Tree.{Forest}
use Rattle.def_fraction.specs.Fraction.{Fraction}
use Rattle.def_fraction.specs.Order.{IsAtMost}
use Rattle.def_game_paths.specs.Paths.{leaf_visits}
use Rattle.def_game_scale.specs.Tables.{Tables, payoff_one}

pub record IsLeast (fractions : List Fraction) (f : Fraction) : Type 0 where
  pub one_of_them : Contains fractions f
  pub above : All (λ g. IsAtMost f g) fractions

pub record IsGreatest (fractions : List Fraction) (f : Fraction) : Type 0 where
  pub one_of_them : Contains fractions f
  pub below : All (λ g. IsAtMost g f) fractions

-- what the leaves pay player one, in prefix order
abbrev pub leaf_payoffs : Tables → Forest → List Fraction
leaf_payoffs tables tree = map (payoff_one tables) (leaf_visits tree)

pub record IsPayoffRange (tables : Tables) (tree : Forest) (least greatest : Fraction) : Type 0 where
  pub least_is : IsLeast (leaf_payoffs tables tree) least
  pub greatest_is : IsGreatest (leaf_payoffs tables tree) greatest
