-- How the payoffs of example games are written.
use Rattle.std.specs.Prelude.{ℤ, neg_ℤ}
use Rattle.def_fraction.specs.Fraction.{whole_number}
use Rattle.def_game_scale.specs.Tables.{PayoffPair}

-- player one is paid this, and player two its negative
abbrev pub paid : ℤ → PayoffPair
paid payoff = record { one = whole_number payoff; two = whole_number (neg_ℤ payoff) }
