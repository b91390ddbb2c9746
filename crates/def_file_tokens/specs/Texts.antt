-- The inside of a text, and the bytes that it stands for.
use Rattle.std.specs.Prelude.{◌≡◌, ◌≢◌, ℕ, ◌+◌, Bool, false, ◌&&◌, ◌==◌, not, if◌then◌else◌, Option, None, Some, List}
use Rattle.std.specs.Prelude.{[], ◌∷◌, ◌++◌}

-- each quotation mark has a backslash right before it, where the byte `before` stands before the first
abbrev pub MarksEscaped : ℕ → List ℕ → Type 0
MarksEscaped before [] = Unit {0}
MarksEscaped before (b ∷ bs) = (b ≡ 34 → before ≡ 92) × MarksEscaped b bs

-- the last byte, if there is one, isn't a backslash
abbrev pub EndsPlainly : List ℕ → Type 0
EndsPlainly bytes = (front : List ℕ) → bytes ≢ front ++ 92 ∷ []

-- what may stand between a text's quotation marks, so that the second is the first that no backslash
-- stands right before
pub record IsInside (bytes : List ℕ) : Type 0 where
  pub escaped : MarksEscaped 34 bytes
  pub plain_end : EndsPlainly bytes

-- the first byte is a quotation mark
abbrev pub begins_with_mark : List ℕ → Bool
begins_with_mark [] = false
begins_with_mark (b ∷ bs) = b == 34

-- the bytes that an inside stands for: a backslash right before a quotation mark goes, all else stays
unfoldable pub unescaped : List ℕ → List ℕ
unescaped [] = []
unescaped (b ∷ bs) = if (b == 92) && begins_with_mark bs then unescaped bs else b ∷ unescaped bs

-- the inside that stands for bytes: a backslash in front of each quotation mark
unfoldable pub escaped : List ℕ → List ℕ
escaped [] = []
escaped (b ∷ bs) = if b == 34 then 92 ∷ b ∷ escaped bs else b ∷ escaped bs

-- the offset of the first quotation mark that no backslash stands right before, in bytes that begin at
-- the offset `at` behind the byte `before`
unfoldable pub closing_from : ℕ → ℕ → List ℕ → Option ℕ
closing_from at before [] = None
closing_from at before (b ∷ bs) = if (b == 34) && not (before == 92) then Some at else closing_from (at + 1) b bs
