-- Bytes as white space and tokens in turn, and as the tokens that are read from them.
use Rattle.std.proofs.Common.{◌≡◌, ℕ, ◌+◌, ◌-◌, ◌≤◌, List, [], ◌∷◌, ◌++◌, length, take, drop, Ok, sym, refl, ap, ◌∙◌, subst, arith, length-append, length-drop}
use Rattle.std.proofs.Common.{take-append-drop, append_assoc, append-nil}
use Rattle.std.specs.List.{AllPass, slice_range}
use Rattle.std.proofs.lemmas.List.{drop-drop, take_at, drop_at, length-take-le, take_all}
use Rattle.def_file_tokens.specs.declared.Token.{Token}
use Rattle.def_file_tokens.specs.declared.Token.TheVariants.{End}
use Rattle.def_file_tokens.specs.declared.Lexeme.{Lexeme}
use Rattle.def_file_tokens.specs.Bytes.{is_space}
use Rattle.def_file_tokens.specs.Spelling.{IsToken, Piece, bytes_of, ArePieces, lexemes_of}
use Rattle.def_file_tokens.specs.Tokens.{span, next_from, Reads}
use Rattle.def_file_tokens.proofs.TokenLemmas.{next_from-sound, next_from-complete}

-- a piece behind other bytes is the next token there
piece_here : (front space bytes after : List ℕ) (kind : Token) → AllPass is_space space → IsToken kind bytes after
    → next_from (front ++ (space ++ (bytes ++ after))) (length front)
    ≡ Ok (span kind (length front + length space) (length front + length space + length bytes))
piece_here front space bytes after kind all token =
    let whole = front ++ (space ++ (bytes ++ after)) in
    let at = length front in
    let start = at + length space in
    let end = start + length bytes in
    let by_start : whole ≡ (front ++ space) ++ (bytes ++ after) = sym (append_assoc front space (bytes ++ after)) in
    let by_end : whole ≡ ((front ++ space) ++ bytes) ++ after = by_start ∙ sym (append_assoc (front ++ space) bytes after) in
    let from_front : drop at whole ≡ space ++ (bytes ++ after) = drop_at front (space ++ (bytes ++ after)) at refl in
    let from_start : drop start whole ≡ bytes ++ after = ap (drop start) by_start
    ∙ drop_at (front ++ space) (bytes ++ after) start (length-append front space) in
    let from_end : drop end whole ≡ after = ap (drop end) by_end ∙ drop_at ((front ++ space) ++ bytes) after end
    (length-append (front ++ space) bytes ∙ ap (λ n. n + length bytes) (length-append front space)) in
    let long : length whole ≡ end + length after = ap length by_end ∙ length-append ((front ++ space) ++ bytes) after
    ∙ ap (λ n. n + length after) (length-append (front ++ space) bytes ∙ ap (λ n. n + length bytes) (length-append front space)) in
    let space_len : start - at ≡ length space = omega arith in
    let bytes_len : end - start ≡ length bytes = omega arith in
    let gap : slice_range whole at start ≡ space = ap (λ n. take n (drop at whole)) space_len ∙ ap (take (length space)) from_front
    ∙ take_at space (bytes ++ after) (length space) refl in
    let spelled : slice_range whole start end ≡ bytes = ap (λ n. take n (drop start whole)) bytes_len ∙ ap (take (length bytes)) from_start
    ∙ take_at bytes after (length bytes) refl in
    next_from-complete whole at (omega (arith, long)) (span kind start end) (record {
      from = omega arith;
      order = omega arith;
      within = omega (arith, long);
      space = subst (AllPass is_space) (sym gap) all;
      token = subst (IsToken kind (slice_range whole start end)) (sym from_end) (subst (λ l. IsToken kind l after) (sym spelled) token);
    })

-- white space alone leads to the end
end_here : (front space : List ℕ) → AllPass is_space space
    → next_from (front ++ space) (length front) ≡ Ok (span End (length (front ++ space)) (length (front ++ space)))
end_here front space all =
    let long : length front + length space ≡ length (front ++ space) = sym (length-append front space) in
    let none : length front + length space + 0 ≡ length (front ++ space) = omega (arith, long) in
    ap (λ l. next_from (front ++ l) (length front)) (sym (append-nil space))
    ∙ piece_here front space [] [] End all (refl, refl)
    ∙ ap (λ n. Ok (span End n (length front + length space + 0))) long
    ∙ ap (λ n. Ok (span End (length (front ++ space)) n)) none

-- white space and tokens in turn are read as just those tokens, and then the end
pub reads_pieces : (front rest : List ℕ) (ps : List Piece) → ArePieces ps rest
    → Reads (front ++ bytes_of ps rest) (length front) (lexemes_of (length front) ps)
reads_pieces front rest [] all = end_here front rest all
reads_pieces front rest (p ∷ ps) all =
    let behind = front ++ p.space ++ p.bytes in
    let regrouped : behind ++ bytes_of ps rest ≡ front ++ (p.space ++ (p.bytes ++ bytes_of ps rest)) = append_assoc (front ++ p.space) p.bytes
    (bytes_of ps rest) ∙ append_assoc front p.space (p.bytes ++ bytes_of ps rest) in
    let end : length behind ≡ length front + length p.space + length p.bytes = length-append (front ++ p.space) p.bytes
    ∙ ap (λ n. n + length p.bytes) (length-append front p.space) in (
      piece_here front p.space p.bytes (bytes_of ps rest) p.kind all.0 all.1,
      all.2,
      subst (λ l. Reads l (length front + length p.space + length p.bytes) (lexemes_of (length front + length p.space + length p.bytes) ps)) regrouped
          (subst (λ n. Reads (behind ++ bytes_of ps rest) n (lexemes_of n ps)) end (reads_pieces behind rest ps all.3)),
    )

-- the pieces of what is read
pub record PiecesFrom (whole : List ℕ) (at : ℕ) (lexemes : List Lexeme) : Type 0 where
  pub pieces : List Piece
  pub rest : List ℕ
  pub are : ArePieces pieces rest
  pub same : drop at whole ≡ bytes_of pieces rest
  pub places : lexemes ≡ lexemes_of at pieces

-- what is read as tokens up to the end is white space and those tokens in turn
pub pieces_read : (whole : List ℕ) (at : ℕ) (lexemes : List Lexeme) → at ≤ length whole → Reads whole at lexemes
    → PiecesFrom whole at lexemes
pieces_read whole at [] within reads =
    let is = next_from-sound whole at within (span End (length whole) (length whole)) reads in
    let all : slice_range whole at (length whole) ≡ drop at whole = take_all (length whole - at) (drop at whole) (omega (arith, length-drop at whole)) in
    record { pieces = []; rest = drop at whole; are = subst (AllPass is_space) all is.space; same = refl; places = refl }
pieces_read whole at (l ∷ ls) within reads =
    let is = next_from-sound whole at within l reads.0 in
    let found = pieces_read whole l.end ls is.within reads.2 in
    let space = slice_range whole at l.start in
    let bytes = slice_range whole l.start l.end in
    let place : at + (l.start - at) ≡ l.start = omega (arith, is.from) in
    let place2 : l.start + (l.end - l.start) ≡ l.end = omega (arith, is.order) in
    let space_len : length space ≡ l.start - at = length-take-le (l.start - at) (drop at whole)
    (omega (arith, length-drop at whole, is.from, is.order, is.within)) in
    let bytes_len : length bytes ≡ l.end - l.start = length-take-le (l.end - l.start) (drop l.start whole)
    (omega (arith, length-drop l.start whole, is.order, is.within)) in
    let start_is : at + length space ≡ l.start = omega (arith, space_len, place) in
    let end_is : at + length space + length bytes ≡ l.end = omega (arith, start_is, bytes_len, place2) in
    record {
      pieces = record { space = space; kind = l.kind; bytes = bytes } ∷ found.pieces;
      rest = found.rest;
      are = (is.space, subst (IsToken l.kind bytes) found.same is.token, reads.1, found.are);
      same =
          sym (take-append-drop (l.start - at) (drop at whole))
          ∙ ap (λ x. space ++ x) (drop-drop (l.start - at) at whole ∙ ap (λ n. drop n whole) place)
          ∙ ap (λ x. space ++ x) (sym (take-append-drop (l.end - l.start) (drop l.start whole)))
          ∙ ap (λ x. space ++ (bytes ++ x)) (drop-drop (l.end - l.start) l.start whole ∙ ap (λ n. drop n whole) place2 ∙ found.same);
      places =
          ap (λ n. span l.kind n l.end ∷ ls) (sym start_is)
          ∙ ap (λ n. span l.kind (at + length space) n ∷ ls) (sym end_is)
          ∙ ap (λ x. span l.kind (at + length space) (at + length space + length bytes) ∷ x) (found.places ∙ ap (λ n. lexemes_of n found.pieces) (sym end_is));
    }

-- two lists of tokens that are read from the same place are one
reads_once : (whole : List ℕ) (at : ℕ) (ls ms : List Lexeme) → Reads whole at ls → Reads whole at ms → ls ≡ ms
reads_once whole at [] [] a b = refl
reads_once whole at [] (m ∷ ms) a b = let same = sym a ∙ b.0 in let is_end : m.kind ≡ End = cc in absurd (b.1 is_end)
reads_once whole at (l ∷ ls) [] a b = let same = sym b ∙ a.0 in let is_end : l.kind ≡ End = cc in absurd (a.1 is_end)
reads_once whole at (l ∷ ls) (m ∷ ms) a b =
    let same : l ≡ m = let e = sym a.0 ∙ b.0 in cc in
    ap (λ x. x ∷ ls) same ∙ ap (λ x. m ∷ x) (reads_once whole m.end ls ms (subst (λ x. Reads whole x.end ls) same a.2) b.2)

-- equal lists that are cut at the same length have equal parts
append_parts : (a b x y : List ℕ) → length a ≡ length b → a ++ x ≡ b ++ y → (a ≡ b) × (x ≡ y)
append_parts [] [] x y long same = (refl, same)
append_parts [] (c ∷ b) x y long same = absurd (omega (arith, long))
append_parts (c ∷ a) [] x y long same = absurd (omega (arith, long))
append_parts (c ∷ a) (d ∷ b) x y long same =
    let head : c ≡ d = cc in
    let tail : a ++ x ≡ b ++ y = cc in
    let parts = append_parts a b x y (omega (arith, long)) tail in
    (ap (λ z. z ∷ a) head ∙ ap (λ z. d ∷ z) parts.0, parts.1)

same_piece : (p q : Piece) → p.space ≡ q.space → p.kind ≡ q.kind → p.bytes ≡ q.bytes → p ≡ q
same_piece p q space kind bytes i = record { space = space i; kind = kind i; bytes = bytes i }

-- where their tokens lie tells pieces of the same bytes
pieces_by_places : (at : ℕ) (ps qs : List Piece) (rest end : List ℕ) → lexemes_of at ps ≡ lexemes_of at qs
    → bytes_of ps rest ≡ bytes_of qs end → (ps ≡ qs) × (rest ≡ end)
pieces_by_places at [] [] rest end places same = (refl, same)
pieces_by_places at [] (q ∷ qs) rest end places same = cc
pieces_by_places at (p ∷ ps) [] rest end places same = cc
pieces_by_places at (p ∷ ps) (q ∷ qs) rest end places same =
    let first : span p.kind (at + length p.space) (at + length p.space + length p.bytes)
    ≡ span q.kind (at + length q.space) (at + length q.space + length q.bytes) = cc in
    let kinds = ap (λ (l : Lexeme). l.kind) first in
    let starts = ap (λ (l : Lexeme). l.start) first in
    let ends = ap (λ (l : Lexeme). l.end) first in
    let others : lexemes_of (at + length p.space + length p.bytes) ps ≡ lexemes_of (at + length q.space + length q.bytes) qs = cc in
    let spaces = append_parts p.space q.space (p.bytes ++ bytes_of ps rest) (q.bytes ++ bytes_of qs end) (omega (arith, starts)) same in
    let tokens = append_parts p.bytes q.bytes (bytes_of ps rest) (bytes_of qs end) (omega (arith, starts, ends)) spaces.1 in
    let behind = pieces_by_places (at + length p.space + length p.bytes) ps qs rest end (others ∙ ap (λ n. lexemes_of n qs) (sym ends)) tokens.1 in
    (ap (λ x. x ∷ ps) (same_piece p q spaces.0 kinds tokens.0) ∙ ap (λ x. q ∷ x) behind.0, behind.1)

-- bytes are white space and tokens in turn in one way at most
pub pieces_once : (ps qs : List Piece) (rest end : List ℕ) → ArePieces ps rest → ArePieces qs end
    → bytes_of ps rest ≡ bytes_of qs end → (ps ≡ qs) × (rest ≡ end)
pieces_once ps qs rest end are others same =
    pieces_by_places 0 ps qs rest end (reads_once (bytes_of ps rest) 0 (lexemes_of 0 ps) (lexemes_of 0 qs) (reads_pieces [] rest ps are)
    (subst (λ l. Reads l 0 (lexemes_of 0 qs)) (sym same) (reads_pieces [] end qs others))) same
