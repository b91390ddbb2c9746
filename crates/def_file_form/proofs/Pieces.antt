-- The tokens that a reading takes, and the pieces of the bytes.
use Rattle.std.proofs.Common.{◌≡◌, ℕ, ◌+◌, ◌-◌, ◌≤◌, List, [], ◌∷◌, ◌++◌, length, map, take, drop, Ok, sym, refl, ap, ◌∙◌, subst, arith, length-drop}
use Rattle.std.specs.List.{slice_range}
use Rattle.std.proofs.lemmas.List.{drop-drop, take_at, drop_at, length-take-le}
use Rattle.def_file_tokens.specs.declared.Token.TheVariants as kinds
use Rattle.def_file_tokens.specs.declared.Lexeme.{Lexeme}
use Rattle.def_file_tokens.specs.Spelling.{IsToken, Piece, bytes_of, ArePieces, lexemes_of}
use Rattle.def_file_tokens.specs.Tokens.{span, next_from, Reads}
use Rattle.def_file_tokens.proofs.TokenLemmas.{next_from-sound}
use Rattle.def_file_tokens.proofs.PieceLemmas.{reads_pieces, pieces_read}
use Rattle.def_file.specs.Reading.{bytes_at}
use Rattle.def_file_form.specs.Form.{Spelled, spelled, spelled_at}
use Rattle.def_file_form.proofs.TokenByToken.{StandUpTo}
use Rattle.def_file_form.proofs.TokensAhead.{AllFrom, Ahead}

-- the end stands at the end
end_is : (whole : List ℕ) (at : ℕ) (l : Lexeme) → at ≤ length whole → next_from whole at ≡ Ok l → kinds.End ≡ l.kind
    → l ≡ span kinds.End (length whole) (length whole)
end_is whole at l within next same =
    let is = next_from-sound whole at within l next in
    let token : IsToken kinds.End (bytes_at whole l) (drop l.end whole) = subst (λ k. IsToken k (bytes_at whole l) (drop l.end whole)) (sym same) is.token in
    let none : length (bytes_at whole l) ≡ l.end - l.start = length-take-le (l.end - l.start) (drop l.start whole)
    (omega (arith, length-drop l.start whole, is.order, is.within)) in
    let ends : l.end ≡ length whole = omega (arith, length-drop l.end whole, ap length token.1, is.within) in
    let starts : l.start ≡ length whole = omega (arith, none, ap length token.0, is.order, ends) in
    (λ i. span (sym same i) (starts i) (ends i))

-- the tokens that a reading took up to the end are read
record TokensRead (whole : List ℕ) (at : ℕ) (ss : List Spelled) : Type 0 where
  lexemes : List Lexeme
  reads : Reads whole at lexemes
  spelled_so : map (spelled_at whole) lexemes ≡ ss

tokens_read : (whole : List ℕ) (at : ℕ) (ss : List Spelled) (mid : ℕ) (l : Lexeme) → at ≤ length whole
    → StandUpTo whole at ss mid → next_from whole mid ≡ Ok l → kinds.End ≡ l.kind → TokensRead whole at ss
tokens_read whole at [] mid l within takes next same =
    let next_here : next_from whole at ≡ Ok l = ap (next_from whole) takes ∙ next in
    record { lexemes = []; reads = next_here ∙ ap Ok (end_is whole at l within next_here same); spelled_so = refl }
tokens_read whole at (s ∷ ss) mid l within takes next same =
    let step = takes.1 in
    let rest = tokens_read whole takes.0.end ss mid l step.within takes.2 next same in
    record {
      lexemes = takes.0 ∷ rest.lexemes;
      reads = (step.next, step.not_end, rest.reads);
      spelled_so = ap (λ x. x ∷ map (spelled_at whole) rest.lexemes) step.spelled ∙ ap (λ x. s ∷ x) rest.spelled_so;
    }

-- pieces are spelled as their tokens are
spelled_pieces : (whole : List ℕ) (at : ℕ) (ps : List Piece) (rest : List ℕ) → drop at whole ≡ bytes_of ps rest
    → map (spelled_at whole) (lexemes_of at ps) ≡ map spelled ps
spelled_pieces whole at [] rest same = refl
spelled_pieces whole at (p ∷ ps) rest same =
    let after = bytes_of ps rest in
    let start = at + length p.space in
    let end = start + length p.bytes in
    let behind : drop start whole ≡ p.bytes ++ after = sym (drop-drop (length p.space) at whole) ∙ ap (drop (length p.space)) same
    ∙ drop_at p.space (p.bytes ++ after) (length p.space) refl in
    let last : drop end whole ≡ after = sym (drop-drop (length p.bytes) start whole) ∙ ap (drop (length p.bytes)) behind
    ∙ drop_at p.bytes after (length p.bytes) refl in
    let len : end - start ≡ length p.bytes = omega arith in
    let here : slice_range whole start end ≡ p.bytes = ap (λ n. take n (drop start whole)) len ∙ ap (take (length p.bytes)) behind
    ∙ take_at p.bytes after (length p.bytes) refl in
    ap (λ (b : List ℕ). record { kind = p.kind; bytes = b } ∷ map (spelled_at whole) (lexemes_of end ps)) here
    ∙ ap (λ x. spelled p ∷ x) (spelled_pieces whole end ps rest last)

-- the pieces of bytes whose tokens were taken up to the end
pub record PiecesFound (whole : List ℕ) (ss : List Spelled) : Type 0 where
  pub pieces : List Piece
  pub space : List ℕ
  pub in_turn : ArePieces pieces space
  pub spelling : whole ≡ bytes_of pieces space
  pub tokens : map spelled pieces ≡ ss

-- where the tokens up to the end were taken, the bytes are white space and these tokens in turn
pub pieces_found : (whole : List ℕ) (ss : List Spelled) (mid : ℕ) (l : Lexeme) → StandUpTo whole 0 ss mid
    → next_from whole mid ≡ Ok l → kinds.End ≡ l.kind → PiecesFound whole ss
pieces_found whole ss mid l takes next same =
    let t = tokens_read whole 0 ss mid l (omega arith) takes next same in
    let found = pieces_read whole 0 t.lexemes (omega arith) t.reads in
    record {
      pieces = found.pieces;
      space = found.rest;
      in_turn = found.are;
      spelling = found.same;
      tokens = sym (spelled_pieces whole 0 found.pieces found.rest found.same) ∙ ap (map (spelled_at whole)) (sym found.places) ∙ t.spelled_so;
    }

-- the tokens that are read come
all_read : (whole : List ℕ) (at : ℕ) (ls : List Lexeme) → at ≤ length whole → Reads whole at ls
    → AllFrom whole at (map (spelled_at whole) ls)
all_read whole at [] within reads = reads
all_read whole at (l ∷ ls) within reads =
    let is = next_from-sound whole at within l reads.0 in
    (l, record { next = reads.0; not_end = reads.1; within = is.within; spelled = refl }, all_read whole l.end ls is.within reads.2)

-- the pieces of the bytes come
pub ahead_pieces : (whole : List ℕ) (ps : List Piece) (rest : List ℕ) → ArePieces ps rest → whole ≡ bytes_of ps rest
    → Ahead whole 0 (map spelled ps)
ahead_pieces whole ps rest are same =
    subst (Ahead whole 0) (spelled_pieces whole 0 ps rest same)
    (record {
      within = omega arith;
      next = all_read whole 0 (lexemes_of 0 ps) (omega arith)
          (subst (λ w. Reads w 0 (lexemes_of 0 ps)) (sym same) (reads_pieces [] rest ps are));
    })
