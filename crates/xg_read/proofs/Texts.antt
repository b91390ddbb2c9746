-- The token of a text, and its inside.
use Rattle.std.proofs.Common.{◌≡◌, ◌≢◌, ℕ, ◌+◌, ◌-◌, ◌≤◌, true, List, [], ◌∷◌, ◌++◌, length, drop, refl, ap, subst, arith}
use Rattle.std.specs.Prelude.{slice_range}
use Rattle.std.proofs.lemmas.List.{length-append, length-take}
use Rattle.def_file_tokens.specs.declared.Token.{Token}
use Rattle.def_file_tokens.specs.declared.Token.TheVariants as kinds
use Rattle.def_file_tokens.specs.declared.Lexeme.{Lexeme}
use Rattle.def_file_tokens.specs.Texts.{IsInside}
use Rattle.def_file_tokens.specs.Spelling.{IsLexemeFrom, IsToken}
use Rattle.def_file.specs.Reading.{is_kind}

pub kind_is_text : (kind : Token) → is_kind kinds.Text kind ≡ true → kind ≡ kinds.Text
kind_is_text kinds.Text e = refl
kind_is_text kinds.Word e = cc
kind_is_text kinds.Number e = cc
kind_is_text kinds.Open e = cc
kind_is_text kinds.Close e = cc
kind_is_text kinds.Comma e = cc
kind_is_text kinds.End e = cc

quoted_len : (bytes inside : List ℕ) → bytes ≡ 34 ∷ (inside ++ 34 ∷ []) → 2 ≤ length bytes
quoted_len bytes inside e = omega (arith, ap length e, length-append inside (34 ∷ []))

-- a text token has at least its two quotation marks
pub text_room : (whole : List ℕ) (at : ℕ) (token : Lexeme) → IsLexemeFrom whole at token → token.kind ≡ kinds.Text
    → token.start + 2 ≤ token.end
text_room whole at token is text =
    let quoted = subst (λ (kind : Token). IsToken kind (slice_range whole token.start token.end) (drop token.end whole)) text is.token in
    let long = quoted_len (slice_range whole token.start token.end) quoted.inside quoted.quoted in
    omega (arith, is.order, length-take (token.end - token.start) (drop token.start whole))

pub empty_inside : IsInside []
empty_inside = record { escaped = tt; plain_end = no_end }
  where
    no_end : (front : List ℕ) → [] ≢ front ++ 92 ∷ []
    no_end [] e = cc
    no_end (b ∷ front) e = cc
