-- What the second bracket of an accepted certificate says of player two, in player two's own payoff.
--     BoundsPlayerTwo tables tree x y second           the second bracket bounds what player two gets by the plans x
--     and y
use Rattle.std.specs.Prelude.{◌≡◌, ℕ, List, Ok}
use Rattle.def_tree.specs.declared.Player.TheVariants.{One, Two}
use Rattle.def_tree.specs.Tree.{Forest}
use Rattle.def_fraction.specs.Fraction.{Fraction}
use Rattle.def_game_scale.specs.Tables.{Tables}
use Rattle.def_file.specs.Content.{GameFile}
use Rattle.def_game_numbers.specs.Faultless.{IsFaultless}
use Rattle.def_game_numbers.specs.Numbers.{tables_of}
use Rattle.def_game_numbers.specs.Weighed.{weighed_game}
use Rattle.def_reply.specs.Outcome.{Head}
use Rattle.def_fraction.specs.Order.{IsAtMost}
use Rattle.def_constant_sum.specs.Bounds.{IsBestPayoff, IsPlanFor, IsSureOf, payoff_by}
use Rattle.def_cert_verdict.specs.Certificate.{PrintedBounds, printed_numbers}
use Rattle.def_cert_verdict.specs.Verdict.{Verdict}
use Rattle.def_cert_text.specs.Versions.{PrintedBracket}
use Rattle.def_cert_text.specs.Laws.{with_second}
use Rattle.def_cert_versions.specs.Verdict.{versioned_verdict}

-- some plan of player one leaves player two's plan just this
pub record IsLeftTo (tables : Tables) (tree : Forest) (plan_two : List ℕ) (low : Fraction) : Type 0 where
  pub root : ℕ
  pub reply : List ℕ
  pub is_plan : IsPlanFor One tables tree root reply
  pub attained : payoff_by Two Two tables tree plan_two reply ≡ low

-- player two's plan is sure of the lower end, and some plan of player one leaves it no more; the upper end is the best
-- that player two is expected to get against player one's plan, and so no plan of player two is sure of more
pub record BoundsPlayerTwo (tables : Tables) (tree : Forest) (plan_one plan_two : List ℕ)
    (second : PrintedBracket) : Type 0 where
  pub sure : IsSureOf Two tables tree plan_two second.low
  pub left : IsLeftTo tables tree plan_two second.low
  pub best : IsBestPayoff Two tables tree plan_one second.high
  pub no_more : (root : ℕ) (plan : List ℕ) (bound : Fraction) → IsPlanFor Two tables tree root plan
      → IsSureOf Two tables tree plan bound → IsAtMost bound second.high

-- whoever wrote it, a certificate of version 2 that is accepted for a file's game bounds player two so
abbrev pub TheSecondBracketBoundsPlayerTwo : Type 0
TheSecondBracketBoundsPlayerTwo = (game : GameFile) (head : Head) (b : PrintedBounds) (second : PrintedBracket)
    (shown : Verdict) → IsFaultless game
    → versioned_verdict (weighed_game game) (with_second head b second) ≡ Ok shown
    → BoundsPlayerTwo (tables_of game) game.tree (printed_numbers b.plan_one) (printed_numbers b.plan_two) second
