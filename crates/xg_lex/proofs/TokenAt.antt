-- The token that begins at an offset, by its first byte.
use Rattle.std.proofs.Common.{◌≡◌, ◌≢◌, ℕ, ◌+◌, ◌<◌, ◌≤◌, true, false, List, ◌∷◌, length, drop, get_or, Ok, Err, sym, ap, ◌∙◌, subst}
use Rattle.std.specs.List.{prefix_len, slice_range}
use Rattle.std.proofs.Common.{◌-◌}
use Rattle.def_file_tokens.specs.declared.Token.TheVariants.{Text}
use Rattle.def_file_tokens.specs.declared.Lexeme.{Lexeme}
use Rattle.def_file_tokens.specs.Spelling.{IsQuoted, IsToken, IsLexemeFrom}
use Rattle.def_file_tokens.specs.Texts.{IsInside}
use Rattle.std.proofs.lemmas.List.{drop_more, drop_all}
use Rattle.def_file_tokens.specs.declared.Token.TheVariants.{Word, Number, Open, Close, Comma, End}
use Rattle.def_file_tokens.specs.declared.LexFault.TheVariants.{Syntax}
use Rattle.def_file_tokens.specs.Bytes.{in_run, begins_word, begins_number}
use Rattle.def_file_tokens.specs.Texts.{closing_from}
use Rattle.def_file_tokens.proofs.TextLemmas.{slice_range-inner}
use Rattle.def_file_tokens.proofs.TokenLemmas.{token_at-text, token_at-open, token_at-close, token_at-comma, token_at-word, token_at-number, token_at-fault}
use Rattle.def_file_tokens.proofs.TokenLemmas.{token_at-end}
use Rattle.def_file_tokens.specs.Tokens.{after_space, span, text_from, token_at, next_from}

-- at an offset of the bytes
module _ (bytes : List ℕ) (start : ℕ) (within : start < length bytes) where
  rest : {X : Type 0} (F : List ℕ → X) → F (drop start bytes) ≡ F (get_or bytes start 0 ∷ drop (start + 1) bytes)
  rest F = ap F (drop_more bytes start 0 within)

  -- at a quotation mark the token is the text up to the mark that closes it, or the fault that none does
  pub text_here : get_or bytes start 0 ≡ 34
      → text_from start (closing_from (start + 1) (get_or bytes start 0) (drop (start + 1) bytes))
      ≡ token_at start (drop start bytes)
  text_here is = sym (rest (token_at start) ∙ token_at-text start _ _ is)

  -- at an opening brace the token is this brace
  pub open_here : get_or bytes start 0 ≡ 123 → Ok (span Open start (start + 1)) ≡ token_at start (drop start bytes)
  open_here is = sym (rest (token_at start) ∙ token_at-open start _ _ is)

  -- at a closing brace the token is this brace
  pub close_here : get_or bytes start 0 ≡ 125 → Ok (span Close start (start + 1)) ≡ token_at start (drop start bytes)
  close_here is = sym (rest (token_at start) ∙ token_at-close start _ _ is)

  -- at a comma the token is this comma
  pub comma_here : get_or bytes start 0 ≡ 44 → Ok (span Comma start (start + 1)) ≡ token_at start (drop start bytes)
  comma_here is = sym (rest (token_at start) ∙ token_at-comma start _ _ is)

  -- at a byte that begins a word the token is a word, up to where the run of bytes ends
  pub word_here : begins_word (get_or bytes start 0) ≡ true
      → Ok (span Word start (start + prefix_len in_run (drop start bytes))) ≡ token_at start (drop start bytes)
  word_here word =
      sym (rest (token_at start) ∙ token_at-word start _ _ word ∙ ap (λ n. Ok (span Word start (start + n))) (sym (rest (prefix_len in_run))))

  -- at a byte that begins a number and no word the token is a number, up to where the run of bytes ends
  pub number_here : begins_word (get_or bytes start 0) ≡ false → begins_number (get_or bytes start 0) ≡ true
      → Ok (span Number start (start + prefix_len in_run (drop start bytes))) ≡ token_at start (drop start bytes)
  number_here no_word number =
      sym (rest (token_at start) ∙ token_at-number start _ _ no_word number ∙ ap (λ n. Ok (span Number start (start + n))) (sym (rest (prefix_len in_run))))

  -- at a byte that is no mark and begins no word and no number there is a syntax fault
  pub fault_here : get_or bytes start 0 ≢ 34 → get_or bytes start 0 ≢ 123 → get_or bytes start 0 ≢ 125
      → get_or bytes start 0 ≢ 44 → begins_word (get_or bytes start 0) ≡ false
      → begins_number (get_or bytes start 0) ≡ false → Err (Syntax start) ≡ token_at start (drop start bytes)
  fault_here not_quote not_open not_close not_comma no_word no_number =
      sym (rest (token_at start) ∙ token_at-fault start _ _ not_quote not_open not_close not_comma no_word no_number)

-- behind the last byte the token is that of the end
pub end_here : (bytes : List ℕ) (start : ℕ) → length bytes ≤ start
    → Ok (span End start start) ≡ token_at start (drop start bytes)
end_here bytes start past = sym (ap (token_at start) (drop_all start bytes past) ∙ token_at-end start)

-- the token behind the white space is the next one
pub next_here : (bytes : List ℕ) (at start : ℕ) → start ≡ after_space bytes at
    → token_at start (drop start bytes) ≡ next_from bytes at
unfolding next_from
next_here bytes at start is_start = ap (λ k. token_at k (drop k bytes)) is_start

-- the text that was read, with its quotation marks and its inside
module _ (whole : List ℕ) (at : ℕ) (lexeme : Lexeme) (is : IsLexemeFrom whole at lexeme)
    (text : lexeme.kind ≡ Text) where
  text_is : IsQuoted (slice_range whole lexeme.start lexeme.end)
  text_is = subst (λ k. IsToken k (slice_range whole lexeme.start lexeme.end) (drop lexeme.end whole)) text is.token

  -- a text that was read has two bytes at least
  pub quoted_of : lexeme.start + 2 ≤ lexeme.end
  quoted_of = (slice_range-inner whole lexeme.start lexeme.end text_is.inside is.within text_is.quoted).0

  -- what stands between the first and the last byte of a text that was read is an inside
  pub inside_of : IsInside (slice_range whole (lexeme.start + 1) (lexeme.end - 1))
  inside_of = subst IsInside (sym (slice_range-inner whole lexeme.start lexeme.end text_is.inside is.within text_is.quoted).1) text_is.is_inside
