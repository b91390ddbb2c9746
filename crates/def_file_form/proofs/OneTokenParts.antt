-- Parts of one token, and the name that may be absent.
use Rattle.std.proofs.Common.{◌≡◌, ◌≢◌, ℕ, ◌≤◌, Bool, true, false, cond, List, [], ◌∷◌, ◌++◌, length, Option, Some, None, Ok, Err, sym, refl, ap, ◌∙◌, subst}
use Rattle.std.proofs.Common.{arith}
use Rattle.std.specs.Prelude.{codes}
use Rattle.def_file_tokens.specs.declared.Token.{Token}
use Rattle.def_file_tokens.specs.declared.Token.TheVariants as kinds
use Rattle.def_file_tokens.specs.declared.Lexeme.{Lexeme}
use Rattle.def_file_tokens.specs.declared.LexFault.TheVariants as lexing
use Rattle.def_file_tokens.specs.Tokens.{next_from}
use Rattle.def_file_tokens.specs.Texts.{IsInside, unescaped}
use Rattle.def_fraction.specs.Divisors.{gcd}
use Rattle.def_fraction.specs.Fraction.{fraction_of}
use Rattle.def_fraction.specs.Reading.{power_of, decimal_of, body_after, body_of, literal_of, value_of, read_as_literal, read_as_whole}
use Rattle.def_file.specs.declared.FileFault.TheVariants.{UnexpectedEnd}
use Rattle.def_file.specs.Reading.{◌>>=◌, is_kind, is_token, token_where, next_is, mark, token_text, text_at, name_at, read_as_set}
use Rattle.def_file_form.specs.Form.{Spelled, text, IsText, IsName, spelled_at}
use Rattle.def_file_form.proofs.TokenByToken.{is_kind-true, ok_token, text_here}
use Rattle.def_file_form.specs.Offends.{NumberKind, wholes, wholes_from_one, literals, literal_fault}
use Rattle.def_file_form.proofs.Languages.{Alike, AlikeBut, FirstIsOther, After, NextIs, Halt}
use Rattle.def_file_form.proofs.NextByteTellsToken.{step_grows, TextNext, closed, unclosed, text_next, not_next}
use Rattle.def_file_form.proofs.SuccessiveReadings.{HasWord, Goes, goes_past, goes_stuck, FirstTaken, IsTest, BeginsPassing, goes_token}

-- some part, and then what follows
abbrev pub Part : {A : Type 0} → (A → List Spelled → List Spelled → Type 0) → (List Spelled → Type 0) → List Spelled
    → Type 0
Part {A} R T ss = (v : A) × (rest : List Spelled) × R v ss rest × T rest

-- Tests.

-- a number that each place of numbers takes
pub each_takes_one : (numbers : NumberKind) → literal_fault numbers (codes "1") ≡ None
unfolding read_as_whole read_as_set read_as_literal literal_of value_of body_of body_after decimal_of power_of fraction_of gcd
each_takes_one wholes = refl
each_takes_one wholes_from_one = refl
each_takes_one literals = refl

kinds_apart : (a b : Token) → a ≢ b → is_kind a b ≡ false
kinds_apart a b apart = chosen (is_kind a b) refl
  where
    chosen : (c : Bool) → is_kind a b ≡ c → is_kind a b ≡ false
    chosen true is = absurd (apart (is_kind-true a b is))
    chosen false is = is

-- of a kind other than number
pub kind_test : (kind : Token) → kind ≢ kinds.End → kind ≢ kinds.Number → IsTest (λ s. is_kind kind s.kind)
kind_test kind not_end not_number = record {
  not_end = λ s is. kinds_apart kind s.kind (λ same. not_end (same ∙ is));
  numbers = λ s is fails. (codes "1", kinds_apart kind kinds.Number not_number, each_takes_one);
}

-- whether a token is a number is a test: the end is none, and no number fails it
pub number_test : IsTest (λ s. is_kind kinds.Number s.kind)
number_test = record {
  not_end = λ s is. ap (is_kind kinds.Number) is;
  numbers = λ s is fails. absurd (let clash : true ≡ false = sym (ap (is_kind kinds.Number) is) ∙ fails in cc);
}

-- Parts of one token that fits.

-- the part is always one token, which fits, and each token that fits is the part for some value
pub record OneToken {A : Type 0} (R : A → List Spelled → List Spelled → Type 0) (Fits : Spelled → Type 0) : Type 0 where
  pub to : (v : A) (ss rest : List Spelled) → R v ss rest → (s : Spelled) × (ss ≡ s ∷ rest) × Fits s
  pub back : (s : Spelled) → Fits s → (v : A) × ((rest : List Spelled) → R v (s ∷ rest) rest)

module _ {A : Type 0} (R : A → List Spelled → List Spelled → Type 0) (Fits : Spelled → Type 0)
    (one : OneToken R Fits) where
  -- behind a token that fits, a part of one token and then what follows have just the words of what follows
  pub one_alike : (s : Spelled) → Fits s → (T : List Spelled → Type 0) → Alike (After s (Part R T)) T
  one_alike s fits T = record {
    to = λ ss l. let found = one.to l.0 (s ∷ ss) l.1 l.2 in let same : l.1 ≡ ss = let e = found.1 in cc in subst T same l.3;
    back = λ ss there. let v = one.back s fits in (v.0, ss, v.1 ss, there);
  }

  pub one_word : (s : Spelled) → Fits s → (T : List Spelled → Type 0) → HasWord T → HasWord (Part R T)
  one_word s fits T word = (s ∷ word.0, (one_alike s fits T).back word.0 word.1)

  -- where some token fits, and each that fits passes a test, only tokens that pass it come first in a part of one
  pub one_begins : (test : Spelled → Bool) (s : Spelled) → Fits s → ((u : Spelled) → Fits u → test u ≡ true)
      → BeginsPassing HasWord (Part R) test
  one_begins test s fits passes = record {
    word = one_word s fits;
    first = λ T ss word l.
        let found = one.to l.0 ss l.1 l.2 in
        subst (FirstTaken test) (sym found.1) (passes found.0 found.2);
  }

-- Texts.

abbrev pub TextFits : Spelled → Type 0
TextFits s = (inside : List ℕ) × IsInside inside × (s ≡ text inside)

pub no_inside : IsInside []
no_inside = record { escaped = tt; plain_end = none }
  where
    none : (front : List ℕ) → [] ≡ front ++ 92 ∷ [] → ⊥
    none [] e = cc
    none (b ∷ bs) e = cc

pub one_text : OneToken IsText TextFits
one_text = record {
  to = λ v ss rest is. (text is.inside, is.spelling, (is.inside, is.is_inside, refl));
  back = λ s fits. (unescaped fits.0, λ rest. record { inside = fits.0; is_inside = fits.1; stands_for = refl; spelling = ap (λ u. u ∷ rest) fits.2 });
}

-- a language that has a word has one with a text in front
pub text_word : (T : List Spelled → Type 0) → HasWord T → HasWord (Part IsText T)
text_word = one_word IsText TextFits one_text (text []) ([], no_inside, refl)

text_fits : (whole : List ℕ) (at : ℕ) → at ≤ length whole → (t : Lexeme) → next_from whole at ≡ Ok t
    → t.kind ≡ kinds.Text → TextFits (spelled_at whole t)
text_fits whole at within t next is = let found = text_here whole at within t next (sym is) in (found.0, found.1, found.2.spelled)

-- reading a text goes along its token, or is stuck there
pub text_goes : (whole : List ℕ) (at : ℕ) → at ≤ length whole → Goes 1 HasWord (Part IsText) whole at (text_at whole at)
unfolding text_at
text_goes whole at within =
    goes_token HasWord (Part IsText) (λ s. is_kind kinds.Text s.kind) (kind_test kinds.Text (λ clash. cc) (λ clash. cc))
    (one_begins IsText TextFits one_text (λ s. is_kind kinds.Text s.kind) (text []) ([], no_inside, refl)
    (λ u fits. ap (λ (s : Spelled). is_kind kinds.Text s.kind) fits.2))
    whole at (λ token. Ok (token_text whole token, token.end)) within
    (λ t step passes inner. goes_past 0 HasWord (λ T. After (spelled_at whole t) (Part IsText T)) whole t.end (token_text whole t, t.end) (record {
      within = inner;
      grows = omega arith;
      along = λ P walk T word there. walk.alike (After (spelled_at whole t) (Part IsText T)) T t.end
          (one_alike IsText TextFits one_text (spelled_at whole t) (text_fits whole at within t step.next (sym (is_kind-true kinds.Text t.kind passes))) T)
          there;
    }))

-- what follows has a word, and begins with no token of a kind
pub record NoFirst (kind : Token) (T : List Spelled → Type 0) : Type 0 where
  pub word : HasWord T
  pub apart : (s : Spelled) (ss : List Spelled) → T (s ∷ ss) → s.kind ≢ kind

-- a text, or nothing
name_but : (T : List Spelled → Type 0) → AlikeBut kinds.Text (Part IsName T) T
name_but T = record { to = λ ss fits l. to ss fits l.0 l.1 l.2 l.3; back = λ ss there. (None, ss, refl, there) }
  where
    to : (ss : List Spelled) → FirstIsOther kinds.Text ss → (v : Option (List ℕ)) (rest : List Spelled)
        → IsName v ss rest → T rest → T ss
    to ss fits None rest is there = subst T (sym is) there
    to ss fits (Some bytes) rest is there = absurd (let clash = subst (FirstIsOther kinds.Text) is.spelling fits in clash refl)

name_after : (T : List Spelled → Type 0) → NoFirst kinds.Text T → (s : Spelled) → TextFits s
    → Alike (After s (Part IsName T)) T
name_after T none s fits = record {
  to = λ ss l. to ss l.0 l.1 l.2 l.3;
  back = λ ss there.
      (Some (unescaped fits.0), ss, record { inside = fits.0; is_inside = fits.1; stands_for = refl; spelling = ap (λ u. u ∷ ss) fits.2 }, there);
}
  where
    to : (ss : List Spelled) (v : Option (List ℕ)) (rest : List Spelled) → IsName v (s ∷ ss) rest → T rest → T ss
    to ss None rest is there = absurd (none.apart s ss (subst T (sym is) there) (ap (λ (u : Spelled). u.kind) fits.2))
    to ss (Some bytes) rest is there = let same : rest ≡ ss = let e = is.spelling in cc in subst T same there

text_at_ok : (whole : List ℕ) (at : ℕ) (t : Lexeme) → next_from whole at ≡ Ok t → t.kind ≡ kinds.Text
    → text_at whole at ≡ Ok (token_text whole t, t.end)
unfolding text_at
text_at_ok whole at t next is = rw (ok_token (is_token kinds.Text whole) whole at t next (ap (is_kind kinds.Text) is)) refl

text_at_unclosed : (whole : List ℕ) (at p : ℕ) → next_from whole at ≡ Err (lexing.Unclosed p)
    → text_at whole at ≡ Err UnexpectedEnd
unfolding text_at token_where
text_at_unclosed whole at p next = rw next refl

-- reading a name, or none, goes along its token, or is stuck there
pub name_goes : (whole : List ℕ) (at : ℕ) → at ≤ length whole
    → Goes 0 (NoFirst kinds.Text) (Part IsName) whole at (name_at whole at)
unfolding name_at
name_goes whole at within = chosen (next_is mark whole at) refl
  where
    given : TextNext whole at
        → Goes 0 (NoFirst kinds.Text) (Part IsName) whole at (text_at whole at >>= λ text. Ok (Some text.0, text.1))
    given (closed t next is) =
        let step : NextIs whole at t = record { next = next; not_end = λ ends. let clash : kinds.Text ≡ kinds.End = sym is ∙ ends in cc } in
        let grown = step_grows whole at within t step in
        subst (λ r. Goes 0 (NoFirst kinds.Text) (Part IsName) whole at (r >>= λ text. Ok (Some text.0, text.1))) (sym (text_at_ok whole at t next is))
        (goes_past 0 (NoFirst kinds.Text) (Part IsName) whole at (Some (token_text whole t), t.end) (record {
          within = grown.1;
          grows = omega (arith, grown.0);
          along = λ P walk T none there. walk.step (Part IsName T) at t step
              (walk.alike (After (spelled_at whole t) (Part IsName T)) T t.end (name_after T none (spelled_at whole t) (text_fits whole at within t next is))
              there);
        }))
    given (unclosed p next) =
        subst (λ r. Goes 0 (NoFirst kinds.Text) (Part IsName) whole at (r >>= λ text. Ok (Some text.0, text.1))) (sym (text_at_unclosed whole at p next))
        (goes_stuck 0 (NoFirst kinds.Text) (Part IsName) whole at UnexpectedEnd (λ T none. record {
          tokens = [];
          place = at;
          before = refl;
          front = (none.word.0, (None, none.word.0, refl, none.word.1));
          halt = Halt.no_mark p refl next (λ l. (
            [],
            no_inside,
            (
              none.word.0,
              (name_after T none (text []) ([], no_inside, refl)).back none.word.0 none.word.1,
            ),
          ));
        }))

    chosen : (b : Bool) → next_is mark whole at ≡ b
        → Goes 0 (NoFirst kinds.Text) (Part IsName) whole at (cond b (text_at whole at >>= λ text. Ok (Some text.0, text.1)) (Ok (None, at)))
    chosen true is = given (text_next whole at is)
    chosen false is = goes_past 0 (NoFirst kinds.Text) (Part IsName) whole at (None, at) (record {
      within = within;
      grows = omega arith;
      along = λ P walk T none there. walk.other kinds.Text (λ clash. cc) (Part IsName T) T at (name_but T) (not_next kinds.Text (omega arith) whole at is)
          there;
    })
