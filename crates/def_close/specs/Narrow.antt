-- How narrow a bracket is, and what is asked of it.
--     IsAsNarrow wide low high      HIGH less LOW is at most this width
use Rattle.std.specs.Prelude.{ℤ, ℕ, pos, ◌-ℤ◌, ◌*ℤ◌, ◌≤ℤ◌}
use Rattle.def_fraction.specs.Fraction.{Fraction}
use Rattle.def_fraction.specs.Order.{IsAtMost}
use Rattle.def_cert_accepted.specs.Bounds.{difference}

-- HIGH less LOW, as an exact fraction, is at most the width
abbrev pub IsAsNarrow : Fraction → Fraction → Fraction → Type 0
IsAsNarrow width low high = IsAtMost (difference high low) width

-- the same of two totals over one scale, which isn't 0, without a fraction
abbrev pub AreAsNarrow : Fraction → ℕ → ℤ → ℤ → Type 0
AreAsNarrow width scale low high = ((high -ℤ low) *ℤ pos width.den) ≤ℤ (width.num *ℤ pos scale)
