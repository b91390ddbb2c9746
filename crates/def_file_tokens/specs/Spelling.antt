-- How tokens are spelled: bytes are white space and tokens in turn, each run being longest.
use Rattle.std.specs.Prelude.{◌≡◌, ◌≢◌, ℕ, ◌+◌, ◌≤◌, ◌<◌, Bool, true, false, List, [], ◌∷◌, ◌++◌, length, drop}
use Rattle.std.specs.Prelude.{slice_range, slice_index}
use Rattle.std.specs.List.{AllPass}
use Rattle.def_file_tokens.specs.declared.Token.{Token}
use Rattle.def_file_tokens.specs.declared.Token.TheVariants.{Word, Text, Number, Open, Close, Comma, End}
use Rattle.def_file_tokens.specs.declared.Lexeme.{Lexeme}
use Rattle.def_file_tokens.specs.Bytes.{is_space, in_run, begins_word, begins_number, begins_token}
use Rattle.def_file_tokens.specs.Texts.{IsInside, MarksEscaped}

-- there is a first byte, and it passes the test
abbrev pub FirstPasses : (ℕ → Bool) → List ℕ → Type 0
FirstPasses test [] = ⊥
FirstPasses test (b ∷ bs) = test b ≡ true

-- no first byte passes the test
abbrev pub FirstFails : (ℕ → Bool) → List ℕ → Type 0
FirstFails test [] = Unit {0}
FirstFails test (b ∷ bs) = test b ≡ false

-- a longest run, the first byte of which passes the test, where `after` stands behind it
pub record IsRun (begins : ℕ → Bool) (bytes after : List ℕ) : Type 0 where
  pub first : FirstPasses begins bytes
  pub each : AllPass in_run bytes
  pub longest : FirstFails in_run after

-- a text with its quotation marks
pub record IsQuoted (bytes : List ℕ) : Type 0 where
  pub inside : List ℕ
  pub is_inside : IsInside inside
  pub quoted : bytes ≡ 34 ∷ (inside ++ 34 ∷ [])

-- these bytes spell a token of this kind, where `after` stands behind them
abbrev pub IsToken : Token → List ℕ → List ℕ → Type 0
IsToken Word bytes after = IsRun begins_word bytes after
IsToken Text bytes after = IsQuoted bytes
IsToken Number bytes after = IsRun begins_number bytes after
IsToken Open bytes after = bytes ≡ 123 ∷ []
IsToken Close bytes after = bytes ≡ 125 ∷ []
IsToken Comma bytes after = bytes ≡ 44 ∷ []
IsToken End bytes after = (bytes ≡ []) × (after ≡ [])

-- the next token from the offset `at`: white space up to its start, and then its bytes
pub record IsLexemeFrom (whole : List ℕ) (at : ℕ) (lexeme : Lexeme) : Type 0 where
  pub from : at ≤ lexeme.start
  pub order : lexeme.start ≤ lexeme.end
  pub within : lexeme.end ≤ length whole
  pub space : AllPass is_space (slice_range whole at lexeme.start)
  pub token : IsToken lexeme.kind (slice_range whole lexeme.start lexeme.end) (drop lexeme.end whole)

-- from the offset `at` the first byte that isn't white space is at `place`
pub record IsFirstByteFrom (whole : List ℕ) (at place : ℕ) : Type 0 where
  pub from : at ≤ place
  pub within : place < length whole
  pub space : AllPass is_space (slice_range whole at place)
  pub byte : is_space (slice_index whole place) ≡ false

-- the first byte that isn't white space begins no token
pub record IsSyntaxFrom (whole : List ℕ) (at place : ℕ) : Type 0 where
  pub first : IsFirstByteFrom whole at place
  pub no_token : begins_token (slice_index whole place) ≡ false

-- the first byte that isn't white space is a quotation mark, and each further one has a backslash right
-- before it, to the end
pub record IsUnclosedFrom (whole : List ℕ) (at place : ℕ) : Type 0 where
  pub first : IsFirstByteFrom whole at place
  pub mark : slice_index whole place ≡ 34
  pub no_closing : MarksEscaped 34 (drop (place + 1) whole)

-- white space and the token behind it
pub record Piece : Type 0 where
  pub space : List ℕ
  pub kind : Token
  pub bytes : List ℕ

-- the bytes of pieces one after another, with `rest` at the end
abbrev pub bytes_of : List Piece → List ℕ → List ℕ
bytes_of [] rest = rest
bytes_of (p ∷ ps) rest = p.space ++ (p.bytes ++ bytes_of ps rest)

-- white space and a token in turn, and white space at the end; no piece is the end
abbrev pub ArePieces : List Piece → List ℕ → Type 0
ArePieces [] rest = AllPass is_space rest
ArePieces (p ∷ ps) rest = AllPass is_space p.space × IsToken p.kind p.bytes (bytes_of ps rest) × (p.kind ≢ End)
    × ArePieces ps rest

-- where the tokens of pieces lie, the first of which begin at the offset `at`
abbrev pub lexemes_of : ℕ → List Piece → List Lexeme
lexemes_of at [] = []
lexemes_of at (p ∷ ps) =
    let start = at + length p.space in
    let end = start + length p.bytes in
    record { kind = p.kind; start = start; end = end } ∷ lexemes_of end ps
