-- Laws and worked rows of the range of payoffs.
use Rattle.std.specs.Prelude.{◌≡◌, pos, negsuc, [], ◌∷◌}
use Rattle.def_tree.specs.Tree.{Forest}
use Rattle.def_fraction.specs.Fraction.{Fraction, over}
use Rattle.def_game_scale.specs.Tables.{Tables}
use Rattle.def_game_scale.specs.Rows.{uneven, uneven_tables}
use Rattle.def_fraction.specs.Order.{IsAtMost}
use Rattle.def_payoffs.specs.Range.{IsPayoffRange, leaf_payoffs}

-- two ranges of the same payoffs have the same values, and no payoff is outside
abbrev pub RangesHaveOneValue : Type 0
RangesHaveOneValue = (tables : Tables) (tree : Forest) (least greatest low high : Fraction)
    → IsPayoffRange tables tree least greatest → IsPayoffRange tables tree low high
    → IsAtMost least low × IsAtMost low least × IsAtMost greatest high × IsAtMost high greatest × IsAtMost least high

-- a game with a payoff of 1/2 on the way to a leaf
pub record PayoffRows : Type 0 where
  pub payoffs : leaf_payoffs uneven_tables uneven
      ≡ over (pos 5) 2 ∷ over (negsuc 0) 2 ∷ over (pos 3) 2 ∷ over (negsuc 0) 2 ∷ over (negsuc 0) 2 ∷ []
  pub range : IsPayoffRange uneven_tables uneven (over (negsuc 0) 2) (over (pos 5) 2)
