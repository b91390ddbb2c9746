-- The range of what the leaves of a game pay player one.
--     PayoffsAreWithin tables tree low high   each leaf's payoff times the unit is at least low and at most high
--     payoff_range tables tree                how far apart the least and the greatest of these are, rounded outward
--     game_spread range player form           at each set the lesser of a range and what the form tells
use Rattle.std.specs.Prelude.{◌≡◌, ℕ, min, ℤ, pos, ◌-ℤ◌, ◌*ℤ◌, ◌≤ℤ◌, neg_ℤ, map, All}
use Rattle.def_sums.specs.Floor.{floor_div}
use Rattle.def_tree.specs.declared.Kind.TheVariants.{Chance}
use Rattle.def_tree.specs.declared.Player.{Player}
use Rattle.def_tree.specs.declared.Player.TheVariants.{One, Two}
use Rattle.def_tree.specs.Tree.{Forest}
use Rattle.def_fraction.specs.Fraction.{Fraction}
use Rattle.def_game_paths.specs.Paths.{Visit, leaf_visits, visits}
use Rattle.def_game_scale.specs.Tables.{Tables, payoff_one, probabilities}
use Rattle.def_game_scale.specs.Scale.{game_unit}
use Rattle.def_plan.specs.Form.{PlacedSet, SequenceForm}
use Rattle.def_reply.specs.Reply.{best_of}
use Rattle.def_round.specs.Play.{positive_part}
use Rattle.def_closing.specs.Width.{form_spread}

-- no probability of a chance node is below 0
abbrev pub HasNoNegativeChance : Tables → Forest → Type 0
HasNoNegativeChance tables tree =
    All (λ v. v.node.kind ≡ Chance → All (λ p. pos 0 ≤ℤ p.num) (probabilities tables v.node.set)) (visits tree)

-- unit times the fraction is at least low, and at most high
abbrev pub IsFrom : ℕ → ℤ → Fraction → Type 0
IsFrom unit low f = (low *ℤ pos f.den) ≤ℤ (f.num *ℤ pos unit)

abbrev pub IsUpTo : ℕ → ℤ → Fraction → Type 0
IsUpTo unit high f = (f.num *ℤ pos unit) ≤ℤ (high *ℤ pos f.den)

-- at each leaf the unit times player one's payoff is at least low and at most high
pub record PayoffsAreWithin (tables : Tables) (tree : Forest) (low high : ℤ) : Type 0 where
  pub at_least : All (λ leaf. IsFrom (game_unit tables tree) low (payoff_one tables leaf)) (leaf_visits tree)
  pub at_most : All (λ leaf. IsUpTo (game_unit tables tree) high (payoff_one tables leaf)) (leaf_visits tree)

-- unit times player one's payoff, rounded down and up
abbrev pub payoff_floor : Tables → Forest → Visit → ℤ
payoff_floor tables tree leaf =
    let f : Fraction = payoff_one tables leaf in floor_div (f.num *ℤ pos (game_unit tables tree)) f.den

abbrev pub payoff_ceiling : Tables → Forest → Visit → ℤ
payoff_ceiling tables tree leaf =
    let f : Fraction = payoff_one tables leaf in
    neg_ℤ (floor_div (neg_ℤ (f.num *ℤ pos (game_unit tables tree))) f.den)

-- the least of the former, the greatest of the latter, and how far apart they are
abbrev pub least_payoff : Tables → Forest → ℤ
least_payoff tables tree = best_of Two (map (payoff_floor tables tree) (leaf_visits tree))

abbrev pub greatest_payoff : Tables → Forest → ℤ
greatest_payoff tables tree = best_of One (map (payoff_ceiling tables tree) (leaf_visits tree))

abbrev pub payoff_range : Tables → Forest → ℕ
payoff_range tables tree = positive_part (greatest_payoff tables tree -ℤ least_payoff tables tree)

-- at each set the lesser of the range and what the form tells
abbrev pub game_spread : ℕ → Player → SequenceForm → PlacedSet → ℕ
game_spread range player form h = min range (form_spread player form h)
