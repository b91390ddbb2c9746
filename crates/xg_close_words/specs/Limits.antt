-- What may be asked.
use Rattle.std.specs.Prelude.{ℕ, ◌≤◌, ◌≤ℤ◌, pos, IfSome}
use Rattle.xg_close_words.specs.declared.asked.Asked.{Asked}

abbrev pub IsWithinRounds : ℕ → Type 0
IsWithinRounds rounds = (1 ≤ rounds) × (rounds ≤ 4194304)

-- a width that is given is above 0, and so are the rounds, up to their most
pub record AreWithinLimits (asked : Asked) : Type 0 where
  pub width : IfSome asked.width (λ width. pos 1 ≤ℤ width.num)
  pub rounds : IsWithinRounds asked.rounds
