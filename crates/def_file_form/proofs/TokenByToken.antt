-- Reading token by token: what each test of a token says, and the tokens that a reading takes.
use Rattle.std.proofs.Common.{◌≡◌, ◌≢◌, ℕ, ◌≤◌, Bool, true, false, cond, ◌||◌, List, [], ◌∷◌, ◌++◌, length, drop, Result, Ok, Err, sym, refl, ap, ◌∙◌, subst}
use Rattle.std.proofs.Common.{◌⊎◌, inl, inr, append_assoc}
use Rattle.std.specs.Prelude.{codes}
use Rattle.std.specs.Cmp.Lexicographic.{same_text}
use Rattle.std.proofs.lemmas.Bool.{and_parts}
use Rattle.def_file_tokens.specs.declared.Token.{Token}
use Rattle.def_file_tokens.specs.declared.Token.TheVariants as kinds
use Rattle.def_file_tokens.specs.declared.Lexeme.{Lexeme}
use Rattle.def_file_tokens.specs.declared.LexFault.{LexFault}
use Rattle.def_file_tokens.specs.declared.LexFault.TheVariants as lexing
use Rattle.def_file_tokens.specs.Tokens.{next_from}
use Rattle.def_file_tokens.specs.Texts.{IsInside, unescaped}
use Rattle.def_file_tokens.specs.Spelling.{IsToken, IsQuoted}
use Rattle.def_file_tokens.proofs.TokenLemmas.{next_from-sound}
use Rattle.def_file_tokens.proofs.TextLemmas.{slice_range-inner}
use Rattle.def_file.specs.declared.FileFault.{FileFault}
use Rattle.def_file.specs.Reading.{◌>>=◌, is_kind, bytes_at, is_token, is_exact, token_if, unfit, token_where, token_text}
use Rattle.def_file_form.specs.Form.{Spelled, number, text, open_brace, close_brace, comma, spelled_at}

-- one reading after another that gives a value
pub then_ok : {A B G : Type 0} (r : Result A FileFault) (f : A → Result B FileFault) (y : B) → (r >>= f) ≡ Ok y
    → ((x : A) → r ≡ Ok x → f x ≡ Ok y → G) → G
then_ok (Ok x) f y e go = go x refl e
then_ok (Err d) f y e go = absurd cc

-- of two tests the first passes, or it fails and the second passes
pub either : (a b : Bool) → (a || b) ≡ true → (a ≡ true) ⊎ ((a ≡ false) × (b ≡ true))
either true b e = inl refl
either false b e = inr (refl, e)

-- the kinds' test
pub is_kind-true : (a b : Token) → is_kind a b ≡ true → a ≡ b
is_kind-true kinds.Word kinds.Word e = refl
is_kind-true kinds.Text kinds.Text e = refl
is_kind-true kinds.Number kinds.Number e = refl
is_kind-true kinds.Open kinds.Open e = refl
is_kind-true kinds.Close kinds.Close e = refl
is_kind-true kinds.Comma kinds.Comma e = refl
is_kind-true kinds.End kinds.End e = refl
is_kind-true _ _ e = absurd cc

-- a token that passed a test was the next one, and the other way round
pub token_ok : (test : Lexeme → Bool) (whole : List ℕ) (at : ℕ) (l : Lexeme) → token_where test whole at ≡ Ok l
    → (next_from whole at ≡ Ok l) × (test l ≡ true)
unfolding token_where
token_ok test whole at l e = expected_ok (next_from whole at) l e
  where
    chosen : (b : Bool) (m l : Lexeme) (fault : FileFault) → test m ≡ b → cond b (Ok m) (Err fault) ≡ Ok l
        → (m ≡ l) × (test m ≡ true)
    chosen true m l fault is e = (cc, is)
    chosen false m l fault is e = absurd cc

    expected_ok : (r : Result Lexeme LexFault) (l : Lexeme) → token_if test r ≡ Ok l → (r ≡ Ok l) × (test l ≡ true)
    expected_ok (Ok m) l e = let found = chosen (test m) m l (unfit m) refl e in (ap Ok found.0, ap test (sym found.0) ∙ found.1)
    expected_ok (Err (lexing.Syntax at)) l e = absurd cc
    expected_ok (Err (lexing.Unclosed at)) l e = absurd cc

-- the next token is taken, if it passes the test
pub ok_token : (test : Lexeme → Bool) (whole : List ℕ) (at : ℕ) (l : Lexeme) → next_from whole at ≡ Ok l → test l ≡ true
    → token_where test whole at ≡ Ok l
unfolding token_where
ok_token test whole at l next passes = rw (next, passes) refl

-- the next token from `at` on is l, which is spelled so
pub record StepSpelled (whole : List ℕ) (at : ℕ) (l : Lexeme) (s : Spelled) : Type 0 where
  pub next : next_from whole at ≡ Ok l
  pub not_end : l.kind ≢ kinds.End
  pub within : l.end ≤ length whole
  pub spelled : spelled_at whole l ≡ s

-- reading from `at` on takes these tokens, up to `end`
abbrev pub StandUpTo : List ℕ → ℕ → List Spelled → ℕ → Type 0
StandUpTo whole at [] end = at ≡ end
StandUpTo whole at (s ∷ ss) end = (l : Lexeme) × StepSpelled whole at l s × StandUpTo whole l.end ss end

pub StandUpTo-append : (whole : List ℕ) (at : ℕ) (ss ts : List Spelled) (mid end : ℕ) → StandUpTo whole at ss mid
    → StandUpTo whole mid ts end → StandUpTo whole at (ss ++ ts) end
StandUpTo-append whole at [] ts mid end a b = subst (λ n. StandUpTo whole n ts end) (sym a) b
StandUpTo-append whole at (s ∷ ss) ts mid end a b = (a.0, a.1, StandUpTo-append whole a.0.end ss ts mid end a.2 b)

-- what is read from one offset up to another: the tokens that were taken are so, whatever comes behind them
pub record Read (whole : List ℕ) (at end : ℕ) (Is : List Spelled → List Spelled → Type 0) : Type 0 where
  pub tokens : List Spelled
  pub takes : StandUpTo whole at tokens end
  pub within : end ≤ length whole
  pub is : (rest : List Spelled) → Is (tokens ++ rest) rest

-- one part behind another
abbrev pub Then : (List Spelled → List Spelled → Type 0) → (List Spelled → List Spelled → Type 0) → List Spelled
    → List Spelled → Type 0
Then First Second tokens rest = (between : List Spelled) × First tokens between × Second between rest

abbrev pub IsOne : Spelled → List Spelled → List Spelled → Type 0
IsOne s tokens rest = tokens ≡ s ∷ rest

abbrev pub IsNone : List Spelled → List Spelled → Type 0
IsNone tokens rest = tokens ≡ rest

-- what was read as one part was read as another that the same tokens are
pub read_as : (whole : List ℕ) (at end : ℕ) (A B : List Spelled → List Spelled → Type 0)
    → ((tokens rest : List Spelled) → A tokens rest → B tokens rest) → Read whole at end A → Read whole at end B
read_as whole at end A B f r = record { tokens = r.tokens; takes = r.takes; within = r.within; is = λ rest. f (r.tokens ++ rest) rest (r.is rest) }

-- one token was read as itself, whatever stands behind it
pub read_one : (whole : List ℕ) (at : ℕ) (l : Lexeme) (s : Spelled) → StepSpelled whole at l s
    → Read whole at l.end (IsOne s)
read_one whole at l s step = record { tokens = s ∷ []; takes = (l, step, refl); within = step.within; is = λ rest. refl }

-- where nothing is read, no tokens are taken
pub read_none : (whole : List ℕ) (at : ℕ) → at ≤ length whole → Read whole at at IsNone
read_none whole at within = record { tokens = []; takes = refl; within = within; is = λ rest. refl }

-- two parts that were read, the second from where the first ended, are one behind the other
pub read_then : (whole : List ℕ) (at mid end : ℕ) (A B : List Spelled → List Spelled → Type 0) → Read whole at mid A
    → Read whole mid end B → Read whole at end (Then A B)
read_then whole at mid end A B a b = record {
  tokens = a.tokens ++ b.tokens;
  takes = StandUpTo-append whole at a.tokens b.tokens mid end a.takes b.takes;
  within = b.within;
  is = λ rest. (b.tokens ++ rest, subst (λ ss. A ss (b.tokens ++ rest)) (sym (append_assoc a.tokens b.tokens rest)) (a.is (b.tokens ++ rest)), b.is rest);
}

-- a step of a token of a kind, and of one with given bytes
module _ (whole : List ℕ) (at : ℕ) (at_within : at ≤ length whole) (l : Lexeme) where
  step_of : (kind : Token) → kind ≢ kinds.End → next_from whole at ≡ Ok l → kind ≡ l.kind
      → StepSpelled whole at l (record { kind = kind; bytes = bytes_at whole l })
  step_of kind not_end next is = record {
    next = next;
    not_end = λ ends. not_end (is ∙ ends);
    within = (next_from-sound whole at at_within l next).within;
    spelled = ap (λ k. record { kind = k; bytes = bytes_at whole l }) (sym is);
  }

  respell : (kind : Token) (a b : List ℕ) → a ≡ b → StepSpelled whole at l (record { kind = kind; bytes = a })
      → StepSpelled whole at l (record { kind = kind; bytes = b })
  respell kind a b same step = subst (λ x. StepSpelled whole at l (record { kind = kind; bytes = x })) same step

  -- a next token that is of this kind and has these bytes is taken as the token spelled so
  pub exact_here : (kind : Token) (bytes : List ℕ) → kind ≢ kinds.End → next_from whole at ≡ Ok l
      → is_exact kind bytes whole l ≡ true → StepSpelled whole at l (record { kind = kind; bytes = bytes })
  exact_here kind bytes not_end next e =
      let parts = and_parts _ _ e in
      respell kind _ bytes (same_text (bytes_at whole l) bytes (sym parts.1)) (step_of kind not_end next (is_kind-true kind l.kind parts.0))

  -- where a token of this kind and with these bytes is read, it is the next one, and spelled so
  pub exact_step : (kind : Token) (bytes : List ℕ) → kind ≢ kinds.End
      → token_where (is_exact kind bytes whole) whole at ≡ Ok l
      → StepSpelled whole at l (record { kind = kind; bytes = bytes })
  exact_step kind bytes not_end e = let found = token_ok (is_exact kind bytes whole) whole at l e in exact_here kind bytes not_end found.0 found.1

  -- one of the tokens with fixed bytes
  mark_here : (kind : Token) (bytes : List ℕ) → kind ≢ kinds.End → ((b a : List ℕ) → IsToken kind b a → b ≡ bytes)
      → next_from whole at ≡ Ok l → kind ≡ l.kind → StepSpelled whole at l (record { kind = kind; bytes = bytes })
  mark_here kind bytes not_end fixed next same =
      let is = next_from-sound whole at at_within l next in
      respell kind _ bytes (fixed (bytes_at whole l) (drop l.end whole) (subst (λ k. IsToken k (bytes_at whole l) (drop l.end whole)) (sym same) is.token))
      (step_of kind not_end next same)

  mark_step : (kind : Token) (bytes : List ℕ) → kind ≢ kinds.End → ((b a : List ℕ) → IsToken kind b a → b ≡ bytes)
      → token_where (is_token kind whole) whole at ≡ Ok l
      → StepSpelled whole at l (record { kind = kind; bytes = bytes })
  mark_step kind bytes not_end fixed e =
      let found = token_ok (is_token kind whole) whole at l e in
      mark_here kind bytes not_end fixed found.0 (is_kind-true kind l.kind found.1)

  -- where an opening brace is read, the next token is spelled as one
  pub open_step : token_where (is_token kinds.Open whole) whole at ≡ Ok l → StepSpelled whole at l open_brace
  open_step e = mark_step kinds.Open (codes "{") (λ clash. cc) (λ b a is. is) e

  -- where a closing brace is read, the next token is spelled as one
  pub close_step : token_where (is_token kinds.Close whole) whole at ≡ Ok l → StepSpelled whole at l close_brace
  close_step e = mark_step kinds.Close (codes "}") (λ clash. cc) (λ b a is. is) e

  -- where a comma is read, the next token is spelled as one
  pub comma_step : token_where (is_token kinds.Comma whole) whole at ≡ Ok l → StepSpelled whole at l comma
  comma_step e = mark_step kinds.Comma (codes ",") (λ clash. cc) (λ b a is. is) e

  -- a text, and what it stands for
  pub text_here : next_from whole at ≡ Ok l → kinds.Text ≡ l.kind
      → (inside : List ℕ) × IsInside inside × StepSpelled whole at l (text inside) × (token_text whole l ≡ unescaped inside)
  text_here next same =
      let is = next_from-sound whole at at_within l next in
      let spelling : IsQuoted (bytes_at whole l) = subst (λ k. IsToken k (bytes_at whole l) (drop l.end whole)) (sym same) is.token in
      let inner = slice_range-inner whole l.start l.end spelling.inside is.within spelling.quoted in (
        spelling.inside,
        spelling.is_inside,
        respell kinds.Text _ _ spelling.quoted (step_of kinds.Text (λ clash. cc) next same),
        ap unescaped inner.1,
      )

  -- where a text is read, the next token is one, and what it says is what the bytes between its marks stand for
  pub text_step : token_where (is_token kinds.Text whole) whole at ≡ Ok l
      → (inside : List ℕ) × IsInside inside × StepSpelled whole at l (text inside) × (token_text whole l ≡ unescaped inside)
  text_step e = let found = token_ok (is_token kinds.Text whole) whole at l e in text_here found.0 (is_kind-true kinds.Text l.kind found.1)

  -- where a number is read, the next token is a number, spelled by the bytes it stands on
  pub number_step : token_where (is_token kinds.Number whole) whole at ≡ Ok l
      → StepSpelled whole at l (number (bytes_at whole l))
  number_step e = let found = token_ok (is_token kinds.Number whole) whole at l e in step_of kinds.Number (λ clash. cc) found.0
      (is_kind-true kinds.Number l.kind found.1)
