-- The next token, as a computation.
use Rattle.std.specs.Prelude.{◌≡◌, ◌≢◌, ℕ, ◌+◌, ◌==◌, if◌then◌else◌, Option, None, Some, Result, Ok, Err, List, [], ◌∷◌}
use Rattle.std.specs.Prelude.{length, drop, slice_get}
use Rattle.std.specs.List.{prefix_len}
use Rattle.def_file_tokens.specs.declared.Token.{Token}
use Rattle.def_file_tokens.specs.declared.Token.TheVariants.{Word, Text, Number, Open, Close, Comma, End}
use Rattle.def_file_tokens.specs.declared.Lexeme.{Lexeme}
use Rattle.def_file_tokens.specs.declared.LexFault.{LexFault}
use Rattle.def_file_tokens.specs.declared.LexFault.TheVariants.{Syntax, Unclosed}
use Rattle.def_file_tokens.specs.Bytes.{is_space, in_run, begins_word, begins_number}
use Rattle.def_file_tokens.specs.Texts.{closing_from}

-- what a reader of tokens stands in: the whole bytes, and the offset of the next one
pub record Cursor : Type 0 where
  pub whole : List ℕ
  pub at : ℕ

abbrev pub span : Token → ℕ → ℕ → Lexeme
span kind start end = record { kind = kind; start = start; end = end }

-- the text from its opening mark at `start` to its closing mark
abbrev pub text_from : ℕ → Option ℕ → Result Lexeme LexFault
text_from start None = Err (Unclosed start)
text_from start (Some close) = Ok (span Text start (close + 1))

-- the token that begins with the first of the bytes, which stand at the offset `start`
unfoldable pub token_at : ℕ → List ℕ → Result Lexeme LexFault
token_at start [] = Ok (span End start start)
token_at start (b ∷ bs) =
    if b == 34 then text_from start (closing_from (start + 1) b bs)
    else (if b == 123 then Ok (span Open start (start + 1))
    else (if b == 125 then Ok (span Close start (start + 1))
    else (if b == 44 then Ok (span Comma start (start + 1))
    else (if begins_word b then Ok (span Word start (start + prefix_len in_run (b ∷ bs)))
    else (if begins_number b then Ok (span Number start (start + prefix_len in_run (b ∷ bs)))
    else Err (Syntax start))))))

-- the offset of the first byte from `at` on that isn't white space, or the end
abbrev pub after_space : List ℕ → ℕ → ℕ
after_space whole at = at + prefix_len is_space (drop at whole)

-- the first byte from the offset `at` on that isn't white space
unfoldable pub byte_from : List ℕ → ℕ → Option ℕ
byte_from whole at = slice_get whole (after_space whole at)

-- the next token from the offset `at` on
unfoldable pub next_from : List ℕ → ℕ → Result Lexeme LexFault
next_from whole at = token_at (after_space whole at) (drop (after_space whole at) whole)

-- where reading goes on: behind the token, and after a fault where it was
abbrev pub end_of : ℕ → Result Lexeme LexFault → ℕ
end_of at (Ok lexeme) = lexeme.end
end_of at (Err fault) = at

-- reading from the offset `at` gives these tokens, one after another, and then the end
abbrev pub Reads : List ℕ → ℕ → List Lexeme → Type 0
Reads whole at [] = next_from whole at ≡ Ok (span End (length whole) (length whole))
Reads whole at (l ∷ ls) = (next_from whole at ≡ Ok l) × (l.kind ≢ End) × Reads whole l.end ls
