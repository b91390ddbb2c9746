-- Linear averaging (Tammelin 2014): round k weighs k.
use Rattle.std.specs.Prelude.{ℕ, ◌+◌, ◌*◌, ◌/◌}

-- what the rounds up to this one weigh together
abbrev pub total_weight : ℕ → ℕ
total_weight round = round * (round + 1) / 2
