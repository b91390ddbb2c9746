-- All tokens that come from an offset on, and the bytes by which an optional part or the end of a list is seen.
use Rattle.std.proofs.Common.{◌≡◌, ◌≢◌, ℕ, zero, suc, ◌+◌, ◌-◌, ◌<◌, ◌≤◌, Bool, true, false, ◌&&◌, List, [], ◌∷◌, length, take, drop, Some, Result, Ok, sym}
use Rattle.std.proofs.Common.{refl, ap, ◌∙◌, subst, arith, length-drop}
use Rattle.std.specs.Prelude.{nat_eq}
use Rattle.std.specs.Cmp.Lexicographic.{pointwise}
use Rattle.std.specs.List.{slice_get}
use Rattle.std.proofs.lemmas.Bool.{ne_eqb}
use Rattle.std.proofs.lemmas.List.{length-take-le}
use Rattle.std.proofs.lemmas.Option.{slice_get_past}
use Rattle.def_file_tokens.specs.declared.Token.{Token}
use Rattle.def_file_tokens.specs.declared.Token.TheVariants as kinds
use Rattle.def_file_tokens.specs.declared.Lexeme.{Lexeme}
use Rattle.def_file_tokens.specs.Bytes.{begins_number}
use Rattle.def_file_tokens.specs.Spelling.{FirstPasses, IsToken}
use Rattle.def_file_tokens.specs.Tokens.{span, after_space, byte_from, next_from}
use Rattle.def_file_tokens.proofs.TokenLemmas.{token_at-sound, next_from-sound}
use Rattle.def_file.specs.declared.FileFault.{FileFault}
use Rattle.def_file.specs.Reading.{is_kind, bytes_at, is_token, is_exact, token_where, is_byte, next_is}
use Rattle.def_file_form.specs.Form.{Spelled, number, spelled_at}
use Rattle.def_file_form.proofs.TokenByToken.{ok_token, StepSpelled}

-- from the offset `at` on these tokens come, and then the end
abbrev pub AllFrom : List ℕ → ℕ → List Spelled → Type 0
AllFrom whole at [] = next_from whole at ≡ Ok (span kinds.End (length whole) (length whole))
AllFrom whole at (s ∷ ss) = (l : Lexeme) × StepSpelled whole at l s × AllFrom whole l.end ss

-- from an offset within the bytes these tokens come, and then the end
pub record Ahead (whole : List ℕ) (at : ℕ) (ss : List Spelled) : Type 0 where
  pub within : at ≤ length whole
  pub next : AllFrom whole at ss

-- the reading gives this value, and these tokens are left
pub record ReadsValue {A : Type 0} (whole : List ℕ) (reading : Result (A × ℕ) FileFault) (v : A) (rest : List Spelled) : Type 0 where
  pub mid : ℕ
  pub ok : reading ≡ Ok (v, mid)
  pub ahead : Ahead whole mid rest

-- The first byte of the next token.

-- the first of the elements from a place on is the one at the place
pub first_get : (n i : ℕ) (xs : List ℕ) (b : ℕ) (bs : List ℕ) → take n (drop i xs) ≡ b ∷ bs → slice_get xs i ≡ Some b
first_get zero i xs b bs e = absurd cc
first_get (suc n) zero [] b bs e = absurd cc
first_get (suc n) zero (x ∷ xs) b bs e = cc
first_get (suc n) (suc i) [] b bs e = absurd cc
first_get (suc n) (suc i) (x ∷ xs) b bs e = first_get (suc n) i xs b bs e

starts : (whole : List ℕ) (at : ℕ) (l : Lexeme) → next_from whole at ≡ Ok l → l.start ≡ after_space whole at
unfolding next_from
starts whole at l next = (token_at-sound (after_space whole at) (drop (after_space whole at) whole) l next).begins

-- a byte is next exactly if the next token begins with it
pub next_is_step : (byte : ℕ) (whole : List ℕ) (at : ℕ) (l : Lexeme) (s : Spelled) (b : ℕ) (bs : List ℕ)
    → StepSpelled whole at l s → s.bytes ≡ b ∷ bs → next_is byte whole at ≡ nat_eq b byte
unfolding next_is byte_from
next_is_step byte whole at l s b bs step same =
    let here : slice_get whole l.start ≡ Some b = first_get (l.end - l.start) l.start whole b bs (ap (λ (x : Spelled). x.bytes) step.spelled ∙ same) in
    ap (λ n. is_byte byte (slice_get whole n)) (sym (starts whole at l step.next)) ∙ ap (is_byte byte) here

next_is_end : (byte : ℕ) (whole : List ℕ) (at : ℕ) → AllFrom whole at [] → next_is byte whole at ≡ false
unfolding next_is byte_from
next_is_end byte whole at next =
    let last = starts whole at (span kinds.End (length whole) (length whole)) next in
    ap (λ n. is_byte byte (slice_get whole n)) (sym last) ∙ ap (is_byte byte) (slice_get_past whole (length whole) (omega arith))

-- a number token begins with a byte of a number
module _ (whole : List ℕ) (at : ℕ) (within : at ≤ length whole) (l : Lexeme) where
  number_first : (digits : List ℕ) → StepSpelled whole at l (number digits) → FirstPasses begins_number digits
  number_first digits step =
      let is = next_from-sound whole at within l step.next in
      let same : kinds.Number ≡ l.kind = ap (λ (x : Spelled). x.kind) (sym step.spelled) in
      let token : IsToken kinds.Number (bytes_at whole l) (drop l.end whole) = subst (λ k. IsToken k (bytes_at whole l) (drop l.end whole)) (sym same)
      is.token in
      subst (FirstPasses begins_number) (ap (λ (x : Spelled). x.bytes) step.spelled) token.first

  pub next_is_number : (byte : ℕ) → begins_number byte ≡ false → (digits : List ℕ)
      → StepSpelled whole at l (number digits)
      → next_is byte whole at ≡ false
  next_is_number byte fails [] step = absurd (number_first [] step)
  next_is_number byte fails (d ∷ ds) step =
      let first : begins_number d ≡ true = number_first (d ∷ ds) step in
      next_is_step byte whole at l (number (d ∷ ds)) d ds step refl ∙ ne_eqb d byte
      (λ same. let clash : true ≡ false = sym first ∙ ap begins_number same ∙ fails in cc)

-- a token has a byte
token_some : (kind : Token) (bytes after : List ℕ) → kind ≢ kinds.End → IsToken kind bytes after → 0 < length bytes
token_some kinds.Word [] after proper token = absurd token.first
token_some kinds.Word (b ∷ bs) after proper token = omega arith
token_some kinds.Number [] after proper token = absurd token.first
token_some kinds.Number (b ∷ bs) after proper token = omega arith
token_some kinds.Text bytes after proper token = let long = ap length token.quoted in omega (arith, long)
token_some kinds.Open bytes after proper token = omega (arith, ap length token)
token_some kinds.Close bytes after proper token = omega (arith, ap length token)
token_some kinds.Comma bytes after proper token = omega (arith, ap length token)
token_some kinds.End bytes after proper token = absurd (proper refl)

step_forward : (whole : List ℕ) (at : ℕ) → at ≤ length whole → (l : Lexeme) (s : Spelled) → StepSpelled whole at l s
    → at < l.end
step_forward whole at within l s step =
    let is = next_from-sound whole at within l step.next in
    let some = token_some l.kind (bytes_at whole l) (drop l.end whole) step.not_end is.token in
    let long : length (bytes_at whole l) ≡ l.end - l.start = length-take-le (l.end - l.start) (drop l.start whole)
    (omega (arith, length-drop l.start whole, is.order, is.within)) in
    omega (arith, some, long, is.from, is.order)

-- there are no more tokens than bytes
all_length : (whole : List ℕ) (at : ℕ) (ss : List Spelled) → at ≤ length whole → AllFrom whole at ss
    → at + length ss ≤ length whole
all_length whole at [] within next = omega (arith, within)
all_length whole at (s ∷ ss) within next =
    let later = all_length whole next.0.end ss next.1.within next.2 in
    let forward = step_forward whole at within next.0 s next.1 in
    omega (arith, later, forward)

-- no more tokens come than there are bytes
pub ahead_length : (whole : List ℕ) (at : ℕ) (ss : List Spelled) → Ahead whole at ss → length ss ≤ length whole
ahead_length whole at ss ahead = omega (arith, all_length whole at ss ahead.within ahead.next)

-- what comes next doesn't begin with this byte
pub record NotNextByte (byte : ℕ) (rest : List Spelled) : Type 0 where
  pub here : (whole : List ℕ) (at : ℕ) → Ahead whole at rest → next_is byte whole at ≡ false

-- a byte that begins no number isn't next where a number comes
pub not_number : (byte : ℕ) → begins_number byte ≡ false → (digits : List ℕ) (rest : List Spelled)
    → NotNextByte byte (number digits ∷ rest)
not_number byte fails digits rest = record { here = λ whole at a. next_is_number whole at a.within a.next.0 byte fails digits a.next.1 }

-- where a token begins with another byte, this one isn't next
pub not_first : (byte b : ℕ) (s : Spelled) (bs : List ℕ) (rest : List Spelled) → s.bytes ≡ b ∷ bs
    → nat_eq b byte ≡ false → NotNextByte byte (s ∷ rest)
not_first byte b s bs rest same fails = record { here = λ whole at a. next_is_step byte whole at a.next.0 s b bs a.next.1 same ∙ fails }

-- where no token comes, no byte is next
pub not_end : (byte : ℕ) → NotNextByte byte []
not_end byte = record { here = λ whole at a. next_is_end byte whole at a.next }

-- this byte comes next
pub is_first : (byte b : ℕ) (s : Spelled) (bs : List ℕ) (rest : List Spelled) (whole : List ℕ) (at : ℕ)
    → s.bytes ≡ b ∷ bs → nat_eq b byte ≡ true → Ahead whole at (s ∷ rest) → next_is byte whole at ≡ true
is_first byte b s bs rest whole at same passes a = next_is_step byte whole at a.next.0 s b bs a.next.1 same ∙ passes

-- a token that passes a test
pub by_spelling : (test : Spelled → Bool) (whole : List ℕ) (at : ℕ) (l : Lexeme) (s : Spelled)
    → StepSpelled whole at l s
    → test s ≡ true → token_where (λ t. test (spelled_at whole t)) whole at ≡ Ok l
by_spelling test whole at l s step passes = ok_token (λ t. test (spelled_at whole t)) whole at l step.next (ap test step.spelled ∙ passes)

-- a test for a kind and its bytes takes the token that is spelled so
pub take_exact : (whole : List ℕ) (at : ℕ) (l : Lexeme) (kind : Token) (bytes : List ℕ)
    → (is_kind kind kind && pointwise nat_eq bytes bytes) ≡ true
    → StepSpelled whole at l (record { kind = kind; bytes = bytes })
    → token_where (is_exact kind bytes whole) whole at ≡ Ok l
take_exact whole at l kind bytes passes step = by_spelling (λ s. is_kind kind s.kind && pointwise nat_eq s.bytes bytes) whole at l
    (record { kind = kind; bytes = bytes }) step passes

-- a test for a kind takes a token of that kind
pub take_kind : (whole : List ℕ) (at : ℕ) (l : Lexeme) (kind : Token) (bytes : List ℕ) → is_kind kind kind ≡ true
    → StepSpelled whole at l (record { kind = kind; bytes = bytes }) → token_where (is_token kind whole) whole at ≡ Ok l
take_kind whole at l kind bytes passes step = by_spelling (λ s. is_kind kind s.kind) whole at l (record { kind = kind; bytes = bytes }) step passes

-- what comes behind the next token
pub behind_step : (whole : List ℕ) (at : ℕ) (s : Spelled) (rest : List Spelled) (a : Ahead whole at (s ∷ rest))
    → Ahead whole a.next.0.end rest
behind_step whole at s rest a = record { within = a.next.1.within; next = a.next.2 }
