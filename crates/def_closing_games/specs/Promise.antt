-- What is promised of how wide the bracket of a game can be, before its rounds are played.
--     printed_width unit weight root ends     HIGH less LOW of a bracket, in payoff units
--     width_of variant form root one two n    the width after n rounds of the variant, by these spreads
--     promise variant tables tree root n      HIGH less LOW is at most this, after n rounds with plans of the root
use Rattle.std.specs.Prelude.{ℕ, ◌*◌, pos}
use Rattle.def_tree.specs.declared.Player.TheVariants.{One, Two}
use Rattle.def_tree.specs.Tree.{Forest}
use Rattle.def_fraction.specs.Fraction.{Fraction, fraction_of}
use Rattle.def_game_scale.specs.Tables.{Tables}
use Rattle.def_game_scale.specs.Scale.{game_unit}
use Rattle.def_plan.specs.Form.{PlacedSet, SequenceForm}
use Rattle.def_sequence_form.specs.Form.{form_of_game}
use Rattle.def_reply.specs.Bracket.{BracketEnds}
use Rattle.def_plus.specs.declared.Variant.{Variant}
use Rattle.def_plus.specs.declared.Variant.TheVariants.{Plain, Plus}
use Rattle.def_plus.specs.Variants.{weight_of_rounds}
use Rattle.def_fraction.specs.Order.{difference_of}
use Rattle.def_closing.specs.Width.{width_bound, plus_width_bound}
use Rattle.def_closing_games.specs.Range.{game_spread, payoff_range}

-- an end after a round, over the unit, what the rounds weigh and the root, is what is printed of it
abbrev pub printed_width : ℕ → (ℕ → ℕ) → ℕ → BracketEnds → Fraction
printed_width unit weight root ends =
    difference_of (fraction_of ends.upper.high (unit * (weight ends.upper.round * root)))
    (fraction_of ends.lower.low (unit * (weight ends.lower.round * root)))

abbrev pub width_of : Variant → SequenceForm → ℕ → (PlacedSet → ℕ) → (PlacedSet → ℕ) → ℕ → ℕ
width_of Plain form root spread_one spread_two last = width_bound form root spread_one spread_two last
width_of Plus form root spread_one spread_two last = plus_width_bound form root spread_one spread_two last

-- the width by the spreads of the game: at each set the least of the range of payoffs, the gap and the sizes
abbrev pub promised_width : Variant → Tables → Forest → ℕ → ℕ → ℕ
promised_width variant tables tree root last =
    let form : SequenceForm = form_of_game tables tree in
    let range : ℕ = payoff_range tables tree in
    width_of variant form root (game_spread range One form) (game_spread range Two form) last

-- in payoff units: over the unit, what the rounds weigh, and the root
abbrev pub promise : Variant → Tables → Forest → ℕ → ℕ → Fraction
promise variant tables tree root last =
    fraction_of (pos (promised_width variant tables tree root last))
    (game_unit tables tree * (weight_of_rounds variant last * root))
