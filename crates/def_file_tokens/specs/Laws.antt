-- What the next token is, in the format's own words.
use Rattle.std.specs.Prelude.{◌≡◌, ℕ, ◌≤◌, ◌↔◌, Some, None, Ok, Err, List, ◌++◌, length, drop, slice_index}
use Rattle.std.specs.List.{AllPass}
use Rattle.def_file_tokens.specs.declared.Token.TheVariants.{End}
use Rattle.def_file_tokens.specs.declared.Lexeme.{Lexeme}
use Rattle.def_file_tokens.specs.declared.LexFault.TheVariants.{Syntax, Unclosed}
use Rattle.def_file_tokens.specs.Bytes.{is_space}
use Rattle.def_file_tokens.specs.Texts.{IsInside, EndsPlainly, unescaped, escaped}
use Rattle.def_file_tokens.specs.Spelling.{IsLexemeFrom, IsFirstByteFrom, IsSyntaxFrom, IsUnclosedFrom, Piece, bytes_of}
use Rattle.def_file_tokens.specs.Spelling.{ArePieces, lexemes_of}
use Rattle.def_file_tokens.specs.Tokens.{span, byte_from, next_from, Reads}

-- the next token is what the format's own words call one from there on
abbrev pub NextIsLexeme : Type 0
NextIsLexeme = (whole : List ℕ) (at : ℕ) (lexeme : Lexeme) → at ≤ length whole
    → (next_from whole at ≡ Ok lexeme) ↔ IsLexemeFrom whole at lexeme

-- the next token is a fault of syntax exactly where the first byte behind white space begins no token, at its place
abbrev pub NextIsSyntax : Type 0
NextIsSyntax = (whole : List ℕ) (at place : ℕ) → at ≤ length whole
    → (next_from whole at ≡ Err (Syntax place)) ↔ IsSyntaxFrom whole at place

-- the next token is an unclosed text exactly where the first byte behind white space is a quotation mark that no
-- other one closes, at its place
abbrev pub NextIsUnclosed : Type 0
NextIsUnclosed = (whole : List ℕ) (at place : ℕ) → at ≤ length whole
    → (next_from whole at ≡ Err (Unclosed place)) ↔ IsUnclosedFrom whole at place

-- the next byte is the first one that isn't white space
abbrev pub NextByteIsFirst : Type 0
NextByteIsFirst = (whole : List ℕ) (at b : ℕ) → at ≤ length whole
    → (byte_from whole at ≡ Some b) ↔ ((place : ℕ) × IsFirstByteFrom whole at place × (slice_index whole place ≡ b))

-- there is no next byte exactly where all that is left is white space
abbrev pub NoByteIsSpace : Type 0
NoByteIsSpace = (whole : List ℕ) (at : ℕ) → at ≤ length whole
    → (byte_from whole at ≡ None) ↔ AllPass is_space (drop at whole)

-- at the end of the bytes the next token is the end
abbrev pub EndStays : Type 0
EndStays = (whole : List ℕ) → next_from whole (length whole) ≡ Ok (span End (length whole) (length whole))

-- bytes that are spelled by pieces are read as the tokens of these pieces
abbrev pub PiecesAreRead : Type 0
PiecesAreRead = (front rest : List ℕ) (ps : List Piece) → ArePieces ps rest
    → Reads (front ++ bytes_of ps rest) (length front) (lexemes_of (length front) ps)

-- what is read as tokens is spelled by pieces, and the tokens are those of the pieces
abbrev pub ReadIsPieces : Type 0
ReadIsPieces = (whole : List ℕ) (at : ℕ) (lexemes : List Lexeme) → at ≤ length whole → Reads whole at lexemes
    → (ps : List Piece) × (rest : List ℕ) × ArePieces ps rest × (drop at whole ≡ bytes_of ps rest)
    × (lexemes ≡ lexemes_of at ps)

-- the same bytes are spelled by the same pieces with the same rest behind them
abbrev pub OneDivision : Type 0
OneDivision = (ps qs : List Piece) (rest end : List ℕ) → ArePieces ps rest → ArePieces qs end
    → bytes_of ps rest ≡ bytes_of qs end → (ps ≡ qs) × (rest ≡ end)

-- what may stand within a text stands for these bytes exactly where they don't end with a backslash and it is their
-- escaped form
abbrev pub OneSpelling : Type 0
OneSpelling = (inside bytes : List ℕ)
    → (IsInside inside × (bytes ≡ unescaped inside)) ↔ (EndsPlainly bytes × (inside ≡ escaped bytes))
