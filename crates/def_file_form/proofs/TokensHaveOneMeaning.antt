-- Tokens say one thing at most.
use Rattle.std.proofs.Common.{◌≡◌, ◌≢◌, ℕ, ◌≤◌, true, List, [], ◌∷◌, ◌++◌, length, map, drop, Option, Result, Ok, sym, refl, ap, ◌∙◌, subst, append_assoc}
use Rattle.std.proofs.lemmas.List.{append_cancel_right}
use Rattle.std.proofs.lemmas.List.Elements.{All-nil, All-cons}
use Rattle.def_file_tokens.specs.declared.Token.{Token}
use Rattle.def_file_tokens.specs.declared.Token.TheVariants as kinds
use Rattle.def_file_tokens.specs.declared.Lexeme.{Lexeme}
use Rattle.def_file_tokens.specs.Texts.{unescaped}
use Rattle.def_file_tokens.specs.Bytes.{is_space}
use Rattle.def_file_tokens.specs.Spelling.{IsToken, Piece, bytes_of, ArePieces}
use Rattle.def_file_tokens.proofs.TokenLemmas.{next_from-sound}
use Rattle.def_file.specs.declared.FileFault.{FileFault}
use Rattle.def_file.specs.Content.{Record}
use Rattle.def_file.specs.Reading.{mark, name_at, entry_at}
use Rattle.def_file_form.specs.Form.{Spelled, spelled, text, IsText, IsName, AreNames, IsHead, IsEntry, spelled_at}
use Rattle.def_file_form.proofs.TokensAhead.{Ahead, not_end}
use Rattle.def_file_form.proofs.CompleteParts.{name_taken}
use Rattle.def_file_form.proofs.CompleteEntries.{clear_entries, entry_taken}
use Rattle.def_file_form.proofs.Pieces.{ahead_pieces}
use Rattle.def_file_form.specs.Offends.{AreNext, IsFront, EndsWhole}
use Rattle.def_file_form.specs.First.{IsHeadTokens}
use Rattle.def_file_form.proofs.NextByteTellsToken.{step_grows}
use Rattle.def_file_form.proofs.Lists.{no_text_closes}

-- A file of some tokens alone, with white space before each.

-- each is a token
abbrev pub AreTokens : List Spelled → Type 0
AreTokens [] = Unit {0}
AreTokens (s ∷ ss) = (s.kind ≢ kinds.End) × ((after : List ℕ) × IsToken s.kind s.bytes after) × AreTokens ss

-- what comes next from an offset on is spelled as tokens are
pub next_tokens : (whole : List ℕ) (at : ℕ) (ss : List Spelled) (end : ℕ) → at ≤ length whole → AreNext whole at ss end
    → AreTokens ss
next_tokens whole at [] end within next = tt
next_tokens whole at (s ∷ ss) end within next =
    let t : Lexeme = next.0 in
    let is = next_from-sound whole at within t next.1 in
    let grown = step_grows whole at within t (record { next = next.1; not_end = next.2 }) in
    let kind : t.kind ≡ s.kind = ap (λ (x : Spelled). x.kind) next.3 in (
      (λ ends. next.2 (kind ∙ ends)),
      (drop t.end whole, subst (λ (x : Spelled). IsToken x.kind x.bytes (drop t.end whole)) next.3 is.token),
      next_tokens whole t.end ss end grown.1 next.4,
    )

spaced : List Spelled → List Piece
spaced [] = []
spaced (s ∷ ss) = record { space = 32 ∷ []; kind = s.kind; bytes = s.bytes } ∷ spaced ss

spaced_spelled : (ss : List Spelled) → map spelled (spaced ss) ≡ ss
unfolding spaced
spaced_spelled [] = refl
spaced_spelled (s ∷ ss) = ap (λ l. s ∷ l) (spaced_spelled ss)

before_space : (kind : Token) (bytes after rest : List ℕ) → kind ≢ kinds.End → IsToken kind bytes after
    → IsToken kind bytes (32 ∷ rest)
before_space kinds.Word bytes after rest apart token = record { first = token.first; each = token.each; longest = refl }
before_space kinds.Text bytes after rest apart token = token
before_space kinds.Number bytes after rest apart token = record { first = token.first; each = token.each; longest = refl }
before_space kinds.Open bytes after rest apart token = token
before_space kinds.Close bytes after rest apart token = token
before_space kinds.Comma bytes after rest apart token = token
before_space kinds.End bytes after rest apart token = absurd (apart refl)

begins_space : (ss : List Spelled) → (rest : List ℕ) × (bytes_of (spaced ss) (32 ∷ []) ≡ 32 ∷ rest)
unfolding spaced
begins_space [] = ([], refl)
begins_space (s ∷ ss) = (s.bytes ++ bytes_of (spaced ss) (32 ∷ []), refl)

in_turn : (ss : List Spelled) → AreTokens ss → ArePieces (spaced ss) (32 ∷ [])
unfolding spaced
in_turn [] are = All-cons (λ b. is_space b ≡ true) 32 [] refl (All-nil (λ b. is_space b ≡ true))
in_turn (s ∷ ss) are =
    let rest = begins_space ss in
    let here : IsToken s.kind s.bytes (bytes_of (spaced ss) (32 ∷ [])) = subst (IsToken s.kind s.bytes) (sym rest.1)
    (before_space s.kind s.bytes are.1.0 rest.0 are.0 are.1.1) in
    (All-cons (λ b. is_space b ≡ true) 32 [] refl (All-nil (λ b. is_space b ≡ true)), here, are.0, in_turn ss are.2)

tokens_ahead : (ss : List Spelled) → AreTokens ss → Ahead (bytes_of (spaced ss) (32 ∷ [])) 0 ss
tokens_ahead ss are = subst (Ahead (bytes_of (spaced ss) (32 ∷ [])) 0) (spaced_spelled ss)
    (ahead_pieces (bytes_of (spaced ss) (32 ∷ [])) (spaced ss) (32 ∷ []) (in_turn ss are) refl)

-- a reading gives one value
value_once : {A : Type 0} (reading : Result (A × ℕ) FileFault) (v w : A) (m n : ℕ) → reading ≡ Ok (v, m)
    → reading ≡ Ok (w, n) → v ≡ w
value_once {A} reading v w m n a b =
    let both = sym a ∙ b in
    let same : ◌≡◌ {A = A × ℕ} (v, m) (w, n) = cc in
    ap (λ (p : A × ℕ). p.0) same

-- tokens are one entry at most
pub entry_once : (ss : List Spelled) → AreTokens ss → (r q : Record) → IsEntry r ss [] → IsEntry q ss [] → r ≡ q
entry_once ss are r q a b =
    let whole = bytes_of (spaced ss) (32 ∷ []) in
    let clear = clear_entries [] [] refl in
    let x = entry_taken whole 0 r ss [] a clear (tokens_ahead ss are) in
    let y = entry_taken whole 0 q ss [] b clear (tokens_ahead ss are) in
    value_once (entry_at whole 0) r q x.mid y.mid x.ok y.ok

-- tokens are one name at most, or none
pub name_once : (ss : List Spelled) → AreTokens ss → (v w : Option (List ℕ)) → IsName v ss [] → IsName w ss [] → v ≡ w
name_once ss are v w a b =
    let whole = bytes_of (spaced ss) (32 ∷ []) in
    let x = name_taken whole 0 v ss [] a (not_end mark) (tokens_ahead ss are) in
    let y = name_taken whole 0 w ss [] b (not_end mark) (tokens_ahead ss are) in
    value_once (name_at whole 0) v w x.mid y.mid x.ok y.ok

-- The head, before whatever comes behind it.

text_once : (v w : List ℕ) (ss rest more : List Spelled) → IsText v ss rest → IsText w ss more → (v ≡ w) × (rest ≡ more)
text_once v w ss rest more a b =
    let both : text a.inside ∷ rest ≡ text b.inside ∷ more = sym a.spelling ∙ b.spelling in
    let first : text a.inside ≡ text b.inside = cc in
    let bytes = ap (λ (s : Spelled). s.bytes) first in
    let behind : a.inside ++ 34 ∷ [] ≡ b.inside ++ 34 ∷ [] = cc in
    let inside : a.inside ≡ b.inside = append_cancel_right a.inside b.inside (34 ∷ []) behind in
    (a.stands_for ∙ ap unescaped inside ∙ sym b.stands_for, cc)

names_once : (ns ms : List (List ℕ)) (ss rest more : List Spelled) → AreNames ns ss rest → AreNames ms ss more
    → (ns ≡ ms) × (rest ≡ more)
names_once [] [] ss rest more a b = (refl, let both = sym a ∙ b in cc)
names_once [] (m ∷ ms) ss rest more a b = absurd (no_text_closes m rest b.0 (subst (λ tokens. IsText m tokens b.0) a b.1))
names_once (n ∷ ns) [] ss rest more a b = absurd (no_text_closes n more a.0 (subst (λ tokens. IsText n tokens a.0) b a.1))
names_once (n ∷ ns) (m ∷ ms) ss rest more a b =
    let here = text_once n m ss a.0 b.0 a.1 b.1 in
    let later = names_once ns ms b.0 rest more (subst (λ tokens. AreNames ns tokens rest) here.1 a.2) b.2 in
    (ap (λ x. x ∷ ns) here.0 ∙ ap (λ l. m ∷ l) later.0, later.1)

-- two heads at the front of the same tokens have the same title, names and rest
pub head_once : (t u : List ℕ) (ns ms : List (List ℕ)) (ss rest more : List Spelled) → IsHead t ns ss rest
    → IsHead u ms ss more → (t ≡ u) × (ns ≡ ms) × (rest ≡ more)
head_once t u ns ms ss rest more a b =
    let both = sym a.head ∙ b.head in
    let headed : a.headed ≡ b.headed = cc in
    let title = text_once t u b.headed a.titled b.titled (subst (λ tokens. IsText t tokens a.titled) headed a.title_text) b.title_text in
    let opened : a.opened ≡ b.opened = let e = sym a.brace ∙ title.1 ∙ b.brace in cc in
    let names = names_once ns ms b.opened rest more (subst (λ tokens. AreNames ns tokens rest) opened a.name_texts) b.name_texts in
    (title.0, names.0, names.1)

text_more : (v : List ℕ) (ss rest more : List Spelled) → IsText v ss rest → IsText v (ss ++ more) (rest ++ more)
text_more v ss rest more a = record { inside = a.inside; is_inside = a.is_inside; stands_for = a.stands_for; spelling = ap (λ l. l ++ more) a.spelling }

names_more : (ns : List (List ℕ)) (ss rest more : List Spelled) → AreNames ns ss rest
    → AreNames ns (ss ++ more) (rest ++ more)
names_more [] ss rest more a = ap (λ l. l ++ more) a
names_more (n ∷ ns) ss rest more a = (a.0 ++ more, text_more n ss a.0 more a.1, names_more ns a.0 rest more a.2)

head_more : (t : List ℕ) (ns : List (List ℕ)) (ss rest more : List Spelled) → IsHead t ns ss rest
    → IsHead t ns (ss ++ more) (rest ++ more)
head_more t ns ss rest more a = record {
  headed = a.headed ++ more;
  titled = a.titled ++ more;
  opened = a.opened ++ more;
  numbers = a.numbers;
  rational = a.rational;
  head = ap (λ l. l ++ more) a.head;
  title_text = text_more t a.headed a.titled more a.title_text;
  brace = ap (λ l. l ++ more) a.brace;
  name_texts = names_more ns a.opened rest more a.name_texts;
}

-- nothing goes on behind a head
no_more : (t : List ℕ) (ns : List (List ℕ)) (ss : List Spelled) → IsHead t ns ss [] → (s : Spelled)
    → IsFront IsHeadTokens (ss ++ s ∷ []) → ⊥
no_more t ns ss a s front =
    let other = front.1.2 in
    let longer : IsHead front.1.0 front.1.1 (ss ++ s ∷ front.0) [] = subst (λ tokens. IsHead front.1.0 front.1.1 tokens []) (append_assoc ss (s ∷ []) front.0)
    other in
    let same = (head_once t front.1.0 ns front.1.1 (ss ++ s ∷ front.0) (s ∷ front.0) [] (head_more t ns ss [] (s ∷ front.0) a) longer).2 in
    cc

-- nothing goes on behind the tokens of a head
pub head_ends : (whole : List ℕ) (place : ℕ) (t : List ℕ) (ns : List (List ℕ)) (ss : List Spelled) → IsHead t ns ss []
    → EndsWhole IsHeadTokens whole ss place
head_ends whole place t ns ss a = record {
  token = λ l next front. no_more t ns ss a (spelled_at whole l) front;
  no_text = λ p next takes. no_more t ns ss a (text takes.0) takes.2;
}
