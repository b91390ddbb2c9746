-- Bytes that a text holds as they are.
use Rattle.std.specs.Prelude.{ℕ, Bool, true, not, ◌&&◌, ◌||◌, nat_eq, List, [], ◌∷◌}

-- no quotation mark and no backslash
abbrev pub is_plain : List ℕ → Bool
is_plain [] = true
is_plain (b ∷ bs) = not (nat_eq b 34 || nat_eq b 92) && is_plain bs
