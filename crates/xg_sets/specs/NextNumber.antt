-- The number of the next node, as it is kept.
use Rattle.std.specs.Prelude.{ℕ, zero, suc, Option, Some, None}

-- 0 stands for none
abbrev pub number_or_none : ℕ → Option ℕ
number_or_none zero = None
number_or_none (suc n) = Some (suc n)
