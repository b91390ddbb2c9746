-- Words, told apart by their bytes.
use Rattle.std.specs.Prelude.{ℕ, Bool, false, nat_eq, List, [], ◌∷◌}
use Rattle.std.specs.Cmp.Lexicographic.{pointwise}

-- an option begins with a minus
abbrev pub is_option : List ℕ → Bool
is_option [] = false
is_option (byte ∷ bytes) = nat_eq byte 45

abbrev pub is_word : List ℕ → List ℕ → Bool
is_word word expected = pointwise nat_eq word expected
