-- The first token that can't be taken, of tokens that are to be a part of a file.
--     AreNext bytes at tokens end      the next tokens from an offset on, up to another
--     IsFront Whole tokens             the tokens can go on to what is whole
--     Offends Whole bytes at fault     behind some tokens that can go on stands what can't be taken
--     EndsWhole Whole bytes tokens place    what stands behind the tokens doesn't go on
-- `Whole` says of some tokens that they are the whole of the part.
use Rattle.std.specs.Prelude.{◌≡◌, ◌≢◌, ℕ, ◌⊎◌, ◌↔◌, List, [], ◌∷◌, ◌++◌, Option, Some, None, Result, Ok, Err}
use Rattle.def_file_tokens.specs.declared.Token.TheVariants as kinds
use Rattle.def_file_tokens.specs.declared.Lexeme.{Lexeme}
use Rattle.def_file_tokens.specs.declared.LexFault.TheVariants as lexing
use Rattle.def_file_tokens.specs.Tokens.{next_from}
use Rattle.def_file_tokens.specs.Texts.{IsInside}
use Rattle.def_fraction.specs.declared.fault.NumberFault.{NumberFault}
use Rattle.def_fraction.specs.Reading.{read_as_literal, read_as_whole}
use Rattle.def_file.specs.declared.FileFault.{FileFault}
use Rattle.def_file.specs.declared.FileFault.TheVariants.{Syntax, UnexpectedEnd, Number}
use Rattle.def_file.specs.Reading.{bytes_at, read_as_set}
use Rattle.def_file_form.specs.Form.{Spelled, number, text, spelled_at}

abbrev pub AreNext : List ℕ → ℕ → List Spelled → ℕ → Type 0
AreNext bytes at [] end = at ≡ end
AreNext bytes at (s ∷ ss) end =
    (token : Lexeme) × (next_from bytes at ≡ Ok token) × (token.kind ≢ kinds.End) × (spelled_at bytes token ≡ s)
    × AreNext bytes token.end ss end

-- Which numbers a place takes: whole numbers, those from 1 on, or all literals.
pub data NumberKind : Type 0 where
  wholes : NumberKind
  wholes_from_one : NumberKind
  literals : NumberKind

abbrev pub fault_of : {A : Type 0} → Result A NumberFault → Option NumberFault
fault_of (Ok n) = None
fault_of (Err fault) = Some fault

abbrev pub literal_fault : NumberKind → List ℕ → Option NumberFault
literal_fault wholes bytes = fault_of (read_as_whole bytes)
literal_fault wholes_from_one bytes = fault_of (read_as_set bytes)
literal_fault literals bytes = fault_of (read_as_literal bytes)

abbrev pub IsFront : (List Spelled → Type 0) → List Spelled → Type 0
IsFront Whole tokens = (more : List Spelled) × Whole (tokens ++ more)

-- the next token may be a number, and exactly these numbers
abbrev pub TakesNumbers : (List Spelled → Type 0) → List Spelled → NumberKind → Type 0
TakesNumbers Whole tokens numbers = (bytes : List ℕ) → IsFront Whole (tokens ++ number bytes ∷ [])
    ↔ (literal_fault numbers bytes ≡ None)

-- the next token may be a text
abbrev pub TakesText : (List Spelled → Type 0) → List Spelled → Type 0
TakesText Whole tokens = (inside : List ℕ) × IsInside inside × IsFront Whole (tokens ++ text inside ∷ [])

-- the next token can't be taken, nor another number in its place
pub record IsUnfit (Whole : List Spelled → Type 0) (bytes : List ℕ) (tokens : List Spelled)
    (place at : ℕ) : Type 0 where
  pub token : Lexeme
  pub next : next_from bytes place ≡ Ok token
  pub not_end : token.kind ≢ kinds.End
  pub start : token.start ≡ at
  pub unfit : IsFront Whole (tokens ++ spelled_at bytes token ∷ []) → ⊥
  pub no_number : token.kind ≡ kinds.Number → (numbers : NumberKind) → TakesNumbers Whole tokens numbers → ⊥

-- a number is needed, and the next token is one with this fault
pub record IsNumberFault (Whole : List Spelled → Type 0) (bytes : List ℕ) (tokens : List Spelled) (place at : ℕ)
    (fault : NumberFault) : Type 0 where
  pub token : Lexeme
  pub next : next_from bytes place ≡ Ok token
  pub is_number : token.kind ≡ kinds.Number
  pub start : token.start ≡ at
  pub numbers : NumberKind
  pub needed : TakesNumbers Whole tokens numbers
  pub has_fault : literal_fault numbers (bytes_at bytes token) ≡ Some fault

-- The tokens aren't whole, and behind them stands a byte that begins no token, a token that can't be taken, or the
-- end; or a number with a fault stands where a number is needed; or a text isn't closed, where the tokens aren't whole
-- or a text may go on.
abbrev pub Stops : (List Spelled → Type 0) → List ℕ → List Spelled → ℕ → FileFault → Type 0
Stops Whole bytes tokens place (Syntax at) =
    (Whole tokens → ⊥) × ((next_from bytes place ≡ Err (lexing.Syntax at)) ⊎ IsUnfit Whole bytes tokens place at)
Stops Whole bytes tokens place UnexpectedEnd =
    ((Whole tokens → ⊥) × (token : Lexeme) × (next_from bytes place ≡ Ok token) × (token.kind ≡ kinds.End))
    ⊎ ((at : ℕ) × (next_from bytes place ≡ Err (lexing.Unclosed at)) × (Whole tokens → TakesText Whole tokens))
Stops Whole bytes tokens place (Number at fault) = IsNumberFault Whole bytes tokens place at fault
Stops Whole bytes tokens place _ = ⊥

pub record Offends (Whole : List Spelled → Type 0) (bytes : List ℕ) (at : ℕ) (fault : FileFault) : Type 0 where
  pub tokens : List Spelled
  pub place : ℕ
  pub before : AreNext bytes at tokens place
  pub front : IsFront Whole tokens
  pub stop : Stops Whole bytes tokens place fault

pub record EndsWhole (Whole : List Spelled → Type 0) (bytes : List ℕ) (tokens : List Spelled) (place : ℕ) : Type 0 where
  pub token : (token : Lexeme) → next_from bytes place ≡ Ok token
      → IsFront Whole (tokens ++ spelled_at bytes token ∷ []) → ⊥
  pub no_text : (at : ℕ) → next_from bytes place ≡ Err (lexing.Unclosed at) → TakesText Whole tokens → ⊥
