-- Texts that are written in pieces.
use Rattle.std.proofs.Common.{◌≡◌, ℕ, ◌+◌, ◌<◌, ◌≤◌, List, [], ◌∷◌, ◌++◌, length, drop, get_or, Option, Result, refl, sym, ap, ◌∙◌, subst, append_assoc}
use Rattle.std.specs.Prelude.{codes}
use Rattle.std.specs.Fmt.{decimal, digits}
use Rattle.std.specs.Io.KnownBytes.{append_known}
use Rattle.std.proofs.lemmas.List.{append-nil, drop_all, drop_more}
use Rattle.def_outside.specs.Sinks.{AppendsPrefix, Writes}
use Rattle.def_outside.proofs.Fronts.{append_known-nil}
use Rattle.xg_io.proofs.KnownBytesInPieces.{Progress, whole}
use Rattle.xg_io.proofs.Pieces.{prefix_first, prefix_then, then_rest, goes_on, fails}
use Rattle.def_file_tokens.specs.declared.Token.{Token}
use Rattle.def_file_tokens.specs.declared.Token.TheVariants.{Number, Text}
use Rattle.def_file_tokens.specs.Texts.{escaped}
use Rattle.def_file_tokens.specs.Spelling.{Piece, bytes_of}
use Rattle.def_file.specs.Content.{GameFile}
use Rattle.def_canon.specs.Canon.{behind, canon, each, game_pieces, quoted, text_of_pieces, whole_piece}

-- Tokens behind their white space.

bytes_of-rest : (ps : List Piece) (rest : List ℕ) → text_of_pieces ps ++ rest ≡ bytes_of ps rest
unfolding text_of_pieces
bytes_of-rest [] rest = refl
bytes_of-rest (p ∷ ps) rest =
    append_assoc p.space (p.bytes ++ bytes_of ps []) rest
    ∙ ap (λ (t : List ℕ). p.space ++ t) (append_assoc p.bytes (bytes_of ps []) rest ∙ ap (λ (t : List ℕ). p.bytes ++ t) (bytes_of-rest ps rest))

text_of-append : (ps qs : List Piece) → text_of_pieces ps ++ text_of_pieces qs ≡ text_of_pieces (ps ++ qs)
unfolding text_of_pieces
text_of-append [] qs = refl
text_of-append (p ∷ ps) qs =
    append_assoc p.space (p.bytes ++ bytes_of ps []) (bytes_of qs [])
    ∙ ap (λ (t : List ℕ). p.space ++ t) (append_assoc p.bytes (bytes_of ps []) (bytes_of qs []) ∙ ap (λ (t : List ℕ). p.bytes ++ t) (text_of-append ps qs))

one_token : (space bytes : List ℕ) (kind : Token) → space ++ bytes ≡ text_of_pieces (behind space kind bytes ∷ [])
unfolding text_of_pieces
one_token space bytes kind = ap (λ (t : List ℕ). space ++ t) (sym (append-nil bytes))

-- the white space alone is a front of a token
pub first_token : (before now : Option (List ℕ)) (space bytes : List ℕ) (kind : Token)
    → AppendsPrefix before now space → AppendsPrefix before now (text_of_pieces (behind space kind bytes ∷ []))
first_token before now space bytes kind p =
    subst (AppendsPrefix before now) (one_token space bytes kind) (prefix_first before now space bytes p)

-- the white space, and then the bytes of the token
pub then_token : {T E : Type 0} (before middle now : Option (List ℕ)) (space bytes : List ℕ) (kind : Token)
    (r : Result T E)
    → middle ≡ append_known before space → Writes middle now bytes r
    → Writes before now (text_of_pieces (behind space kind bytes ∷ [])) r
then_token before middle now space bytes kind r e w =
    subst (λ (t : List ℕ). Writes before now t r) (one_token space bytes kind) (then_rest before middle now space bytes r e w)

-- a text between quotation marks
pub quoted_token : {T E : Type 0} (before now : Option (List ℕ)) (space bytes : List ℕ) (r : Result T E)
    → Writes before now (space ++ 34 ∷ (escaped bytes ++ 34 ∷ [])) r
    → Writes before now (text_of_pieces (behind space Text (quoted bytes) ∷ [])) r
unfolding quoted
quoted_token before now space bytes r w =
    subst (λ (t : List ℕ). Writes before now t r) (one_token space (34 ∷ (escaped bytes ++ 34 ∷ [])) Text) w

-- a text without bytes
pub empty_token : {T E : Type 0} (before now : Option (List ℕ)) (bytes : List ℕ) (r : Result T E)
    → bytes ≡ [] → Writes before now (32 ∷ 34 ∷ 34 ∷ []) r
    → Writes before now (text_of_pieces (behind (32 ∷ []) Text (quoted bytes) ∷ [])) r
unfolding escaped
empty_token before now bytes r e w =
    subst (λ (t : List ℕ). Writes before now (text_of_pieces (behind (32 ∷ []) Text (quoted t) ∷ [])) r) (sym e)
    (quoted_token before now (32 ∷ []) [] r w)

-- a number of one digit
pub zero_digits : 48 ∷ [] ≡ decimal 0
unfolding digits
zero_digits = refl

pub one_digits : 49 ∷ [] ≡ decimal 1
unfolding digits
one_digits = refl

pub two_digits : 50 ∷ [] ≡ decimal 2
unfolding digits
two_digits = refl

-- a number of these digits
pub number_token : {T E : Type 0} (before now : Option (List ℕ)) (n m : ℕ) (text : List ℕ) (r : Result T E)
    → n ≡ m → text ≡ decimal m → Writes before now (32 ∷ text) r
    → Writes before now (text_of_pieces (whole_piece n ∷ [])) r
number_token before now n m text r e same w =
    subst (λ (t : List ℕ). Writes before now t r)
    (one_token (32 ∷ []) text Number ∙ ap (λ (t : List ℕ). text_of_pieces (behind (32 ∷ []) Number t ∷ [])) (same ∙ ap decimal (sym e))) w

-- no token
pub nothing : (known : Option (List ℕ)) → known ≡ append_known known (text_of_pieces [])
unfolding text_of_pieces
nothing known = sym (append_known-nil known)

-- some tokens, and then others
pub first_part : (before now : Option (List ℕ)) (ps qs : List Piece)
    → AppendsPrefix before now (text_of_pieces ps) → AppendsPrefix before now (text_of_pieces (ps ++ qs))
first_part before now ps qs p =
    subst (AppendsPrefix before now) (text_of-append ps qs) (prefix_first before now (text_of_pieces ps) (text_of_pieces qs) p)

pub then_part : {T E : Type 0} (before middle now : Option (List ℕ)) (ps qs : List Piece) (r : Result T E)
    → middle ≡ append_known before (text_of_pieces ps) → Writes middle now (text_of_pieces qs) r
    → Writes before now (text_of_pieces (ps ++ qs)) r
then_part before middle now ps qs r e w =
    subst (λ (t : List ℕ). Writes before now t r) (text_of-append ps qs) (then_rest before middle now (text_of_pieces ps) (text_of_pieces qs) r e w)

-- a token, and then others
pub first_piece : (before now : Option (List ℕ)) (p : Piece) (qs : List Piece)
    → AppendsPrefix before now (text_of_pieces (p ∷ [])) → AppendsPrefix before now (text_of_pieces (p ∷ qs))
first_piece before now p qs w = first_part before now (p ∷ []) qs w

pub then_piece : {T E : Type 0} (before middle now : Option (List ℕ)) (p : Piece) (qs : List Piece) (r : Result T E)
    → middle ≡ append_known before (text_of_pieces (p ∷ [])) → Writes middle now (text_of_pieces qs) r
    → Writes before now (text_of_pieces (p ∷ qs)) r
then_piece before middle now p qs r e w = then_part before middle now (p ∷ []) qs r e w

-- the first tokens of all, or a front of them
pub first_tokens : (before now : Option (List ℕ)) (ps qs all : List Piece) → ps ++ qs ≡ all
    → AppendsPrefix before now (text_of_pieces ps) → AppendsPrefix before now (text_of_pieces all)
first_tokens before now ps qs all is p = subst (λ (t : List Piece). AppendsPrefix before now (text_of_pieces t)) is (first_part before now ps qs p)

-- the first tokens of all, and a front of the others
pub then_front : (before middle now : Option (List ℕ)) (ps qs all : List Piece) → ps ++ qs ≡ all
    → middle ≡ append_known before (text_of_pieces ps) → AppendsPrefix middle now (text_of_pieces qs)
    → AppendsPrefix before now (text_of_pieces all)
then_front before middle now ps qs all is e p =
    subst (AppendsPrefix before now) (text_of-append ps qs ∙ ap text_of_pieces is)
    (prefix_then before middle now (text_of_pieces ps) (text_of_pieces qs) e p)

-- the first tokens of all, and then the others
pub then_tokens : {T E : Type 0} (before middle now : Option (List ℕ)) (ps qs all : List Piece) (r : Result T E)
    → ps ++ qs ≡ all
    → middle ≡ append_known before (text_of_pieces ps) → Writes middle now (text_of_pieces qs) r
    → Writes before now (text_of_pieces all) r
then_tokens before middle now ps qs all r is e w =
    subst (λ (t : List Piece). Writes before now (text_of_pieces t) r) is (then_part before middle now ps qs r e w)

-- all tokens, and then the last line feed
canon_parts : (game : GameFile) → text_of_pieces (game_pieces game) ++ codes "\n" ≡ canon game
unfolding canon
canon_parts game = bytes_of-rest (game_pieces game) (codes "\n")

pub first_canon : (before now : Option (List ℕ)) (game : GameFile)
    → AppendsPrefix before now (text_of_pieces (game_pieces game)) → AppendsPrefix before now (canon game)
first_canon before now game p =
    subst (AppendsPrefix before now) (canon_parts game) (prefix_first before now (text_of_pieces (game_pieces game)) (codes "\n") p)

pub then_feed : {T E : Type 0} (before middle now : Option (List ℕ)) (game : GameFile) (r : Result T E)
    → middle ≡ append_known before (text_of_pieces (game_pieces game)) → Writes middle now (codes "\n") r
    → Writes before now (canon game) r
then_feed before middle now game r e w =
    subst (λ (t : List ℕ). Writes before now t r) (canon_parts game) (then_rest before middle now (text_of_pieces (game_pieces game)) (codes "\n") r e w)

-- Loops.

each_left : {A : Type 0} (f : A → List Piece) (xs : List A) (i : ℕ) (d : A) → i < length xs
    → text_of_pieces (each f (drop i xs))
    ≡ text_of_pieces (f (get_or xs i d)) ++ text_of_pieces (each f (drop (i + 1) xs))
unfolding each
each_left f xs i d lt =
    ap (λ ys. text_of_pieces (each f ys)) (drop_more xs i d lt)
    ∙ sym (text_of-append (f (get_or xs i d)) (each f (drop (i + 1) xs)))

-- one thing of several is written
pub each_step : {A : Type 0} (f : A → List Piece) (before middle now : Option (List ℕ)) (xs : List A) (i : ℕ) (d : A)
    → i < length xs
    → Progress before middle (text_of_pieces (each f xs)) (text_of_pieces (each f (drop i xs)))
    → now ≡ append_known middle (text_of_pieces (f (get_or xs i d)))
    → Progress before now (text_of_pieces (each f xs)) (text_of_pieces (each f (drop (i + 1) xs)))
each_step f before middle now xs i d lt p w =
    goes_on before middle now (text_of_pieces (each f xs)) _ (text_of_pieces (f (get_or xs i d))) _ p (each_left f xs i d lt) w

-- one thing of several failed
pub each_fail : {A : Type 0} (f : A → List Piece) (before middle now : Option (List ℕ)) (xs : List A) (i : ℕ) (d : A)
    → i < length xs
    → Progress before middle (text_of_pieces (each f xs)) (text_of_pieces (each f (drop i xs)))
    → AppendsPrefix middle now (text_of_pieces (f (get_or xs i d)))
    → AppendsPrefix before now (text_of_pieces (each f xs))
each_fail f before middle now xs i d lt p w =
    fails before middle now (text_of_pieces (each f xs)) _ (text_of_pieces (f (get_or xs i d))) _ p (each_left f xs i d lt) w

none_left : {A : Type 0} (f : A → List Piece) (xs : List A) (i : ℕ) → length xs ≤ i
    → text_of_pieces (each f (drop i xs)) ≡ []
unfolding each text_of_pieces
none_left f xs i le = ap (λ ys. text_of_pieces (each f ys)) (drop_all i xs le)

-- all of several are written
pub each_end : {A : Type 0} (f : A → List Piece) (before now : Option (List ℕ)) (xs : List A) (i : ℕ) → length xs ≤ i
    → Progress before now (text_of_pieces (each f xs)) (text_of_pieces (each f (drop i xs)))
    → now ≡ append_known before (text_of_pieces (each f xs))
each_end f before now xs i le p =
    whole before now (text_of_pieces (each f xs)) _ p (none_left f xs i le)
