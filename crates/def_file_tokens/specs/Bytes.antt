-- The bytes of the format (the .efg format of Gambit's manual, in this project's profile).
use Rattle.std.specs.Prelude.{ℕ, Bool, ◌||◌, ◌&&◌, ◌==◌, not, nat_le}

-- white space: tab, line feed, vertical tab, form feed, carriage return and space
abbrev pub is_space : ℕ → Bool
is_space b = (nat_le 9 b && nat_le b 13) || (b == 32)

-- a quotation mark, a brace or a comma
abbrev pub is_mark : ℕ → Bool
is_mark b = (b == 34) || (b == 123) || (b == 125) || (b == 44)

-- a byte that a run goes on with
abbrev pub in_run : ℕ → Bool
in_run b = not (is_space b || is_mark b)

-- an ASCII letter, which begins a word
abbrev pub begins_word : ℕ → Bool
begins_word b = (nat_le 65 b && nat_le b 90) || (nat_le 97 b && nat_le b 122)

-- a digit, plus, minus or point, which begins a number
abbrev pub begins_number : ℕ → Bool
begins_number b = (nat_le 48 b && nat_le b 57) || (b == 43) || (b == 45) || (b == 46)

-- a byte that begins some token
abbrev pub begins_token : ℕ → Bool
begins_token b = is_mark b || begins_word b || begins_number b
