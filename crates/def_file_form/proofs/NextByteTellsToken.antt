-- The next byte that isn't white space, and the next token.
use Rattle.std.proofs.Common.{◌≡◌, ◌≢◌, ℕ, zero, suc, ◌+◌, ◌-◌, ◌<◌, ◌≤◌, Bool, true, false, cond, List, [], ◌∷◌, ◌++◌, length, take, drop, Option, Some, None}
use Rattle.std.proofs.Common.{Result, Ok, Err, sym, refl, ap, ◌∙◌, subst, arith, ⊎_elim}
use Rattle.std.specs.Prelude.{nat_eq, slice_get}
use Rattle.std.specs.List.{slice_range}
use Rattle.std.proofs.lemmas.Bool.{eqb-true, eqb-false, ne_eqb, cases_lt}
use Rattle.std.proofs.lemmas.Bool.Decides.{nat_tests}
use Rattle.std.proofs.lemmas.Option.{slice_get_within, get_or_from_slice_get}
use Rattle.def_file_tokens.specs.declared.Token.{Token}
use Rattle.def_file_tokens.specs.declared.Token.TheVariants as kinds
use Rattle.def_file_tokens.specs.declared.Lexeme.{Lexeme}
use Rattle.def_file_tokens.specs.declared.LexFault.{LexFault}
use Rattle.def_file_tokens.specs.declared.LexFault.TheVariants as lexing
use Rattle.def_file_tokens.specs.Bytes.{is_space, begins_word, begins_number}
use Rattle.def_file_tokens.specs.Texts.{closing_from}
use Rattle.def_file_tokens.specs.Spelling.{IsToken, IsFirstByteFrom}
use Rattle.def_file_tokens.specs.Tokens.{span, text_from, token_at, after_space, byte_from, next_from}
use Rattle.def_file_tokens.proofs.TokenLemmas.{token_at-text, token_at-open, token_at-close, token_at-comma, token_at-end, token_at-sound, next_from-sound}
use Rattle.def_file.specs.Reading.{is_byte, next_is}
use Rattle.def_file_form.proofs.TokensAhead.{first_get}
use Rattle.def_file_form.proofs.Languages.{NextIs, NotNext}

-- A token has a byte at least.

not_empty : (kind : Token) (after : List ℕ) → kind ≢ kinds.End → IsToken kind [] after → ⊥
not_empty kinds.Word after apart token = token.first
not_empty kinds.Text after apart token = let none = token.quoted in cc
not_empty kinds.Number after apart token = token.first
not_empty kinds.Open after apart token = cc
not_empty kinds.Close after apart token = cc
not_empty kinds.Comma after apart token = cc
not_empty kinds.End after apart token = apart refl

none_between : (whole : List ℕ) (start end : ℕ) → end ≤ start → slice_range whole start end ≡ []
none_between whole start end order = let none : end - start ≡ 0 = omega arith in ap (λ n. take n (drop start whole)) none

-- a token that is read ends later than reading began, and within the bytes
pub step_grows : (whole : List ℕ) (at : ℕ) → at ≤ length whole → (t : Lexeme) → NextIs whole at t
    → (at < t.end) × (t.end ≤ length whole)
step_grows whole at within t step =
    let is = next_from-sound whole at within t step.next in
    let some : t.start < t.end = ⊎_elim (λ less. less)
    (λ same. absurd (not_empty t.kind (drop t.end whole) step.not_end (subst (λ bytes. IsToken t.kind bytes (drop t.end whole))
    (none_between whole t.start t.end same) is.token)))
    (cases_lt t.start t.end) in
    (omega (arith, is.from, some), is.within)

-- A token begins with a byte that isn't white space.

word_not_space : (b : ℕ) → begins_word b ≡ true → is_space b ≡ false
word_not_space b is = grind (arith, nat_tests)

number_not_space : (b : ℕ) → begins_number b ≡ true → is_space b ≡ false
number_not_space b is = grind (arith, nat_tests)

no_space_first : (kind : Token) (bytes after : List ℕ) → kind ≢ kinds.End → IsToken kind bytes after
    → (b : ℕ) × (bs : List ℕ) × (bytes ≡ b ∷ bs) × (is_space b ≡ false)
no_space_first kinds.Word [] after apart token = absurd token.first
no_space_first kinds.Word (b ∷ bs) after apart token = (b, bs, refl, word_not_space b token.first)
no_space_first kinds.Text bytes after apart token = (34, token.inside ++ 34 ∷ [], token.quoted, refl)
no_space_first kinds.Number [] after apart token = absurd token.first
no_space_first kinds.Number (b ∷ bs) after apart token = (b, bs, refl, number_not_space b token.first)
no_space_first kinds.Open bytes after apart token = (123, [], token, refl)
no_space_first kinds.Close bytes after apart token = (125, [], token, refl)
no_space_first kinds.Comma bytes after apart token = (44, [], token, refl)
no_space_first kinds.End bytes after apart token = absurd (apart refl)

-- a token begins with the first byte that isn't white space
pub token_first_byte : (whole : List ℕ) (at : ℕ) → at ≤ length whole → (t : Lexeme) → NextIs whole at t
    → IsFirstByteFrom whole at t.start
token_first_byte whole at within t step =
    let is = next_from-sound whole at within t step.next in
    let first = no_space_first t.kind (slice_range whole t.start t.end) (drop t.end whole) step.not_end is.token in
    let here = first_get (t.end - t.start) t.start whole first.0 first.1 first.2 in
    record {
      from = is.from;
      within = slice_get_within whole t.start first.0 here;
      space = is.space;
      byte = ap is_space (get_or_from_slice_get whole t.start first.0 0 here) ∙ first.3;
    }

-- What a first byte says.

-- the bytes behind the white space begin with this byte
abbrev BeginsWithByte : ℕ → List ℕ → ℕ → Type 0
BeginsWithByte byte whole at = (rest : List ℕ) × (drop (after_space whole at) whole ≡ byte ∷ rest)

data BeginsNot (byte : ℕ) (whole : List ℕ) (at : ℕ) : Type 0 where
  ended : drop (after_space whole at) whole ≡ [] → BeginsNot byte whole at
  other : (c : ℕ) (rest : List ℕ) → c ≢ byte → drop (after_space whole at) whole ≡ c ∷ rest → BeginsNot byte whole at

data PastOrWithin (xs : List ℕ) (i : ℕ) : Type 0 where
  past : slice_get xs i ≡ None → drop i xs ≡ [] → PastOrWithin xs i
  within : (c : ℕ) (rest : List ℕ) → slice_get xs i ≡ Some c → drop i xs ≡ c ∷ rest → PastOrWithin xs i

first_of_drop : (xs : List ℕ) (i : ℕ) → PastOrWithin xs i
first_of_drop [] zero = past refl refl
first_of_drop [] (suc i) = past refl refl
first_of_drop (x ∷ xs) zero = within x xs refl refl
first_of_drop (x ∷ xs) (suc i) = again (first_of_drop xs i)
  where
    again : PastOrWithin xs i → PastOrWithin (x ∷ xs) (suc i)
    again (past a b) = past a b
    again (within c rest a b) = within c rest a b

module _ (byte : ℕ) (whole : List ℕ) (at : ℕ) where
  next_begins : next_is byte whole at ≡ true → BeginsWithByte byte whole at
  unfolding next_is byte_from
  next_begins is = elim (first_of_drop whole (after_space whole at)) [
    | past a b ↦ let clash : false ≡ true = ap (is_byte byte) (sym a) ∙ is in absurd cc
    | within c rest a b ↦ (rest, b ∙ ap (λ x. x ∷ rest) (eqb-true c byte (ap (is_byte byte) (sym a) ∙ is)))
  ]

  next_begins_not : next_is byte whole at ≡ false → BeginsNot byte whole at
  unfolding next_is byte_from
  next_begins_not is = elim (first_of_drop whole (after_space whole at)) [
    | past a b ↦ ended b
    | within c rest a b ↦ other c rest (eqb-false c byte (ap (is_byte byte) (sym a) ∙ is)) b
  ]

next_is_at : (whole : List ℕ) (at : ℕ) (bytes : List ℕ) → drop (after_space whole at) whole ≡ bytes
    → next_from whole at ≡ token_at (after_space whole at) bytes
unfolding next_from
next_is_at whole at bytes is = ap (token_at (after_space whole at)) is

-- the token of a mark of one byte
pub mark_next : (whole : List ℕ) (at byte : ℕ) (kind : Token)
    → ((start : ℕ) (rest : List ℕ) → token_at start (byte ∷ rest) ≡ Ok (span kind start (start + 1)))
    → next_is byte whole at ≡ true
    → next_from whole at ≡ Ok (span kind (after_space whole at) (after_space whole at + 1))
mark_next whole at byte kind reads is = let b = next_begins byte whole at is in next_is_at whole at (byte ∷ b.0) b.1 ∙ reads (after_space whole at) b.0

-- where the byte of an opening brace is next, the next token is one
pub open_next : (whole : List ℕ) (at : ℕ) → next_is 123 whole at ≡ true
    → (t : Lexeme) × (next_from whole at ≡ Ok t) × (t.kind ≡ kinds.Open)
open_next whole at is = (
  span kinds.Open (after_space whole at) (after_space whole at + 1),
  mark_next whole at 123 kinds.Open (λ start rest. token_at-open start 123 rest refl) is,
  refl,
)

-- where the byte of a closing brace is next, the next token is one
pub close_next : (whole : List ℕ) (at : ℕ) → next_is 125 whole at ≡ true
    → (t : Lexeme) × (next_from whole at ≡ Ok t) × (t.kind ≡ kinds.Close)
close_next whole at is = (
  span kinds.Close (after_space whole at) (after_space whole at + 1),
  mark_next whole at 125 kinds.Close (λ start rest. token_at-close start 125 rest refl) is,
  refl,
)

-- where the byte of a comma is next, the next token is one
pub comma_next : (whole : List ℕ) (at : ℕ) → next_is 44 whole at ≡ true
    → (t : Lexeme) × (next_from whole at ≡ Ok t) × (t.kind ≡ kinds.Comma)
comma_next whole at is = (
  span kinds.Comma (after_space whole at) (after_space whole at + 1),
  mark_next whole at 44 kinds.Comma (λ start rest. token_at-comma start 44 rest refl) is,
  refl,
)

-- a text, or one that isn't closed
pub data TextNext (whole : List ℕ) (at : ℕ) : Type 0 where
  closed : (t : Lexeme) → next_from whole at ≡ Ok t → t.kind ≡ kinds.Text → TextNext whole at
  unclosed : (p : ℕ) → next_from whole at ≡ Err (lexing.Unclosed p) → TextNext whole at

-- where a quotation mark is next, a text comes, or one that isn't closed
pub text_next : (whole : List ℕ) (at : ℕ) → next_is 34 whole at ≡ true → TextNext whole at
text_next whole at is =
    let b = next_begins 34 whole at is in
    let start = after_space whole at in
    found (closing_from (start + 1) 34 b.0) (next_is_at whole at (34 ∷ b.0) b.1 ∙ token_at-text start 34 b.0 refl)
  where
    found : (close : Option ℕ) → next_from whole at ≡ text_from (after_space whole at) close → TextNext whole at
    found None next = unclosed (after_space whole at) next
    found (Some close) next = closed (span kinds.Text (after_space whole at) (close + 1)) next refl

-- The other way round.

abbrev byte_of : Token → ℕ
byte_of kinds.Word = 0
byte_of kinds.Text = 34
byte_of kinds.Number = 0
byte_of kinds.Open = 123
byte_of kinds.Close = 125
byte_of kinds.Comma = 44
byte_of kinds.End = 0

-- the first byte of a token of some bytes
first_byte : (kind : Token) (n c : ℕ) (rest after : List ℕ) → 0 < byte_of kind → IsToken kind (take n (c ∷ rest)) after
    → c ≡ byte_of kind
first_byte kinds.Word n c rest after mark token = absurd (omega (arith, mark))
first_byte kinds.Number n c rest after mark token = absurd (omega (arith, mark))
first_byte kinds.End n c rest after mark token = absurd (omega (arith, mark))
first_byte kinds.Text zero c rest after mark token = let q = token.quoted in absurd cc
first_byte kinds.Text (suc n) c rest after mark token = let q = token.quoted in cc
first_byte kinds.Open zero c rest after mark token = absurd cc
first_byte kinds.Open (suc n) c rest after mark token = cc
first_byte kinds.Close zero c rest after mark token = absurd cc
first_byte kinds.Close (suc n) c rest after mark token = cc
first_byte kinds.Comma zero c rest after mark token = absurd cc
first_byte kinds.Comma (suc n) c rest after mark token = cc

-- a text that isn't closed begins with a mark
goes_past : (b : Bool) (t : Lexeme) (r : Result Lexeme LexFault) (p : ℕ) → cond b (Ok t) r ≡ Err (lexing.Unclosed p)
    → r ≡ Err (lexing.Unclosed p)
goes_past true t r p is = absurd cc
goes_past false t r p is = is

unclosed_first : (start c : ℕ) (rest : List ℕ) (p : ℕ) → c ≢ 34 → token_at start (c ∷ rest) ≡ Err (lexing.Unclosed p)
    → ⊥
unfolding token_at
unclosed_first start c rest p apart is =
    let e0 = rw (ne_eqb c 34 apart) at is in
    let e1 = goes_past (nat_eq c 123) _ _ p e0 in
    let e2 = goes_past (nat_eq c 125) _ _ p e1 in
    let e3 = goes_past (nat_eq c 44) _ _ p e2 in
    let e4 = goes_past (begins_word c) _ _ p e3 in
    let e5 = goes_past (begins_number c) _ _ p e4 in
    cc

module _ (kind : Token) (mark : 0 < byte_of kind) (whole : List ℕ) (at : ℕ) where
  -- where the byte that tokens of a kind begin with isn't next, no token of this kind is next
  pub not_next : next_is (byte_of kind) whole at ≡ false → NotNext kind whole at
  not_next is = record {
    token = λ t next same. token t next same (next_begins_not (byte_of kind) whole at is);
    unclosed = λ p next same. unclosed p next same (next_begins_not (byte_of kind) whole at is);
  }
    where
      token : (t : Lexeme) → next_from whole at ≡ Ok t → t.kind ≡ kind → BeginsNot (byte_of kind) whole at → ⊥
      token t next same (ended none) =
          let end : token_at (after_space whole at) [] ≡ Ok t = sym (next_is_at whole at [] none) ∙ next in
          let t_is : span kinds.End (after_space whole at) (after_space whole at) ≡ t = let e = sym (token_at-end (after_space whole at)) ∙ end in cc in
          let kind_is : kinds.End ≡ kind = ap (λ (l : Lexeme). l.kind) t_is ∙ same in
          let clash : 0 < byte_of kinds.End = subst (λ k. 0 < byte_of k) (sym kind_is) mark in
          omega (arith, clash)
      token t next same (other c rest apart begins) =
          let s = token_at-sound (after_space whole at) (c ∷ rest) t (sym (next_is_at whole at (c ∷ rest) begins) ∙ next) in
          apart (first_byte kind s.len c rest (drop s.len (c ∷ rest)) mark
          (subst (λ k. IsToken k (take s.len (c ∷ rest)) (drop s.len (c ∷ rest))) same s.token))

      unclosed : (p : ℕ) → next_from whole at ≡ Err (lexing.Unclosed p) → kind ≡ kinds.Text
          → BeginsNot (byte_of kind) whole at → ⊥
      unclosed p next same (ended none) = let e = sym (token_at-end (after_space whole at)) ∙ (sym (next_is_at whole at [] none) ∙ next) in cc
      unclosed p next same (other c rest apart begins) =
          unclosed_first (after_space whole at) c rest p (λ is. apart (is ∙ ap byte_of (sym same))) (sym (next_is_at whole at (c ∷ rest) begins) ∙ next)
