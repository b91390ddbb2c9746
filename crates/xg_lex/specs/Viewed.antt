-- A text that stands elsewhere.
use Rattle.std.specs.Prelude.{ℕ, Bool, true, false, List, Contains, if◌then◌else◌}
use Rattle.def_file_tokens.specs.Texts.{EndsPlainly, IsInside, unescaped}

-- as it is, or as the inside of a text token
abbrev pub viewed : Bool → List ℕ → List ℕ
viewed escaped bytes = if escaped then unescaped bytes else bytes

-- an inside is viewed as one only where it stands for a text with a quotation mark
abbrev pub IsViewed : Bool → List ℕ → Type 0
IsViewed true bytes = IsInside bytes × Contains (unescaped bytes) 34
IsViewed false bytes = EndsPlainly bytes
