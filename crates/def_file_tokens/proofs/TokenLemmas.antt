-- The token at an offset, by its first byte, and the next token behind white space.
use Rattle.std.proofs.Common.{◌≡◌, ◌≢◌, ℕ, zero, suc, ◌+◌, ◌-◌, ◌<◌, ◌≤◌, Bool, true, false, List, [], ◌∷◌, ◌++◌, length, take, drop, get_or, Option, Some}
use Rattle.std.proofs.Common.{None, Ok, Err, sym, refl, ap, ◌∙◌, subst, arith, ⊎_elim, eq-eqb, length-append, length-drop, take-append-drop, append_assoc}
use Rattle.std.proofs.Common.{add-zero}
use Rattle.std.specs.List.{prefix_len, AllPass, AllByRecursion, slice_range}
use Rattle.std.proofs.lemmas.List.Elements.{All-from_recursion, recursion_from_All}
use Rattle.std.proofs.lemmas.List.{drop-drop, drop_more, take_at, drop_all, length-take-le}
use Rattle.std.proofs.lemmas.List.Sums.{prefix_len-le-length}
use Rattle.std.proofs.lemmas.Bool.{ne_eqb, cases_Bool}
use Rattle.std.proofs.lemmas.Bool.Decides.{eqb_tells, nat_tests}
use Rattle.std.proofs.str.Laws.{order}
use Rattle.def_file_tokens.specs.declared.Token.{Token}
use Rattle.def_file_tokens.specs.declared.Token.TheVariants.{Word, Text, Number, Open, Close, Comma, End}
use Rattle.def_file_tokens.specs.declared.Lexeme.{Lexeme}
use Rattle.def_file_tokens.specs.declared.LexFault.{LexFault}
use Rattle.def_file_tokens.specs.declared.LexFault.TheVariants.{Syntax, Unclosed}
use Rattle.def_file_tokens.specs.Bytes.{is_space, in_run, begins_word, begins_number, begins_token}
use Rattle.def_file_tokens.specs.Texts.{closing_from, MarksEscaped}
use Rattle.def_file_tokens.specs.Spelling.{FirstPasses, FirstFails, IsRun, IsToken, IsLexemeFrom, IsFirstByteFrom, IsSyntaxFrom, IsUnclosedFrom}
use Rattle.def_file_tokens.specs.Tokens.{span, text_from, token_at, after_space, next_from}
use Rattle.def_file_tokens.proofs.TextLemmas.{closing_from-sound, closing_from-complete, closing_from-none, none-closing_from, EndsPlainly-last_or}
use Rattle.def_file_tokens.proofs.TextLemmas.{last_or-EndsPlainly}

-- a byte that passes a test isn't one that fails it
passes_apart : (test : ℕ → Bool) (b c : ℕ) → test b ≡ true → test c ≡ false → b ≢ c
passes_apart test b c passes fails same = let clash : true ≡ false = sym passes ∙ ap test same ∙ fails in absurd cc

-- the token by its first byte
pub token_at-text : (start b : ℕ) (bs : List ℕ) → b ≡ 34
    → token_at start (b ∷ bs) ≡ text_from start (closing_from (start + 1) b bs)
unfolding token_at
token_at-text start b bs is = rw (eq-eqb b 34 is) refl

-- an opening brace is a token of one byte
pub token_at-open : (start b : ℕ) (bs : List ℕ) → b ≡ 123 → token_at start (b ∷ bs) ≡ Ok (span Open start (start + 1))
unfolding token_at
token_at-open start b bs is = ap (λ x. token_at start (x ∷ bs)) is

-- a closing brace is a token of one byte
pub token_at-close : (start b : ℕ) (bs : List ℕ) → b ≡ 125 → token_at start (b ∷ bs) ≡ Ok (span Close start (start + 1))
unfolding token_at
token_at-close start b bs is = ap (λ x. token_at start (x ∷ bs)) is

-- a comma is a token of one byte
pub token_at-comma : (start b : ℕ) (bs : List ℕ) → b ≡ 44 → token_at start (b ∷ bs) ≡ Ok (span Comma start (start + 1))
unfolding token_at
token_at-comma start b bs is = ap (λ x. token_at start (x ∷ bs)) is

-- where a byte begins a word, the token is a word up to the end of the run
pub token_at-word : (start b : ℕ) (bs : List ℕ) → begins_word b ≡ true
    → token_at start (b ∷ bs) ≡ Ok (span Word start (start + prefix_len in_run (b ∷ bs)))
unfolding token_at
token_at-word start b bs word =
    let apart = λ (c : ℕ) (fails : begins_word c ≡ false). ne_eqb b c (passes_apart begins_word b c word fails) in
    rw (apart 34 refl, apart 123 refl, apart 125 refl, apart 44 refl, word) refl

-- where a byte begins a number and no word, the token is a number up to the end of the run
pub token_at-number : (start b : ℕ) (bs : List ℕ) → begins_word b ≡ false → begins_number b ≡ true
    → token_at start (b ∷ bs) ≡ Ok (span Number start (start + prefix_len in_run (b ∷ bs)))
unfolding token_at
token_at-number start b bs no_word number =
    let apart = λ (c : ℕ) (fails : begins_number c ≡ false). ne_eqb b c (passes_apart begins_number b c number fails) in
    rw (apart 34 refl, apart 123 refl, apart 125 refl, apart 44 refl, no_word, number) refl

-- a byte that begins no token is a fault, at its own offset
pub token_at-fault : (start b : ℕ) (bs : List ℕ) → b ≢ 34 → b ≢ 123 → b ≢ 125 → b ≢ 44 → begins_word b ≡ false
    → begins_number b ≡ false → token_at start (b ∷ bs) ≡ Err (Syntax start)
unfolding token_at
token_at-fault start b bs not_quote not_open not_close not_comma no_word no_number =
    rw (ne_eqb b 34 not_quote, ne_eqb b 123 not_open, ne_eqb b 125 not_close, ne_eqb b 44 not_comma, no_word, no_number) refl

-- where no bytes are left the token is the end
pub token_at-end : (start : ℕ) → token_at start [] ≡ Ok (span End start start)
unfolding token_at
token_at-end start = refl

-- what a first byte begins
data ByteBegins (b : ℕ) : Type 0 where
  quote : b ≡ 34 → ByteBegins b
  opens : b ≡ 123 → ByteBegins b
  closes : b ≡ 125 → ByteBegins b
  comma : b ≡ 44 → ByteBegins b
  word : begins_word b ≡ true → ByteBegins b
  number : begins_word b ≡ false → begins_number b ≡ true → ByteBegins b
  nothing : b ≢ 34 → b ≢ 123 → b ≢ 125 → b ≢ 44 → begins_word b ≡ false → begins_number b ≡ false → ByteBegins b

begins_of : (b : ℕ) → ByteBegins b
begins_of b =
    ⊎_elim (λ is. quote is.1) (λ not_quote.
    ⊎_elim (λ is. opens is.1) (λ not_open.
    ⊎_elim (λ is. closes is.1) (λ not_close.
    ⊎_elim (λ is. comma is.1) (λ not_comma.
    ⊎_elim (λ is. word is) (λ no_word.
    ⊎_elim (λ is. number no_word is) (λ no_number.
    nothing not_quote.1 not_open.1 not_close.1 not_comma.1 no_word no_number)
    (cases_Bool (begins_number b))) (cases_Bool (begins_word b))) (eqb_tells b 44)) (eqb_tells b 125)) (eqb_tells b 123)) (eqb_tells b 34)

-- the longest front of a list that passes a test
prefix_len-yes : (p : ℕ → Bool) (x : ℕ) (xs : List ℕ) → p x ≡ true → prefix_len p (x ∷ xs) ≡ suc (prefix_len p xs)
prefix_len-yes p x xs is = let one : 1 + prefix_len p xs ≡ suc (prefix_len p xs) = omega arith in rw is one

prefix_len-no : (p : ℕ → Bool) (x : ℕ) (xs : List ℕ) → p x ≡ false → prefix_len p (x ∷ xs) ≡ 0
prefix_len-no p x xs is = rw is refl

-- all pass, by recursion
abbrev pub Passing : (ℕ → Bool) → List ℕ → Type 0
Passing p xs = AllByRecursion (λ x. p x ≡ true) xs

passing_from : (p : ℕ → Bool) (xs : List ℕ) → AllPass p xs → Passing p xs
passing_from p xs all = recursion_from_All (λ x. p x ≡ true) xs all

from_passing : (p : ℕ → Bool) (xs : List ℕ) → Passing p xs → AllPass p xs
from_passing p xs all = All-from_recursion (λ x. p x ≡ true) xs all

prefix_passes : (p : ℕ → Bool) (xs : List ℕ) → Passing p (take (prefix_len p xs) xs)
prefix_passes p [] = tt
prefix_passes p (x ∷ xs) =
    ⊎_elim
    (λ yes. subst (λ n. Passing p (take n (x ∷ xs))) (sym (prefix_len-yes p x xs yes)) (yes, prefix_passes p xs))
    (λ no. subst (λ n. Passing p (take n (x ∷ xs))) (sym (prefix_len-no p x xs no)) tt)
    (cases_Bool (p x))

prefix_stops : (p : ℕ → Bool) (xs : List ℕ) → FirstFails p (drop (prefix_len p xs) xs)
prefix_stops p [] = tt
prefix_stops p (x ∷ xs) =
    ⊎_elim
    (λ yes. subst (λ n. FirstFails p (drop n (x ∷ xs))) (sym (prefix_len-yes p x xs yes)) (prefix_stops p xs))
    (λ no. subst (λ n. FirstFails p (drop n (x ∷ xs))) (sym (prefix_len-no p x xs no)) no)
    (cases_Bool (p x))

prefix_len-append : (p : ℕ → Bool) (xs ys : List ℕ) → Passing p xs → FirstFails p ys
    → prefix_len p (xs ++ ys) ≡ length xs
prefix_len-append p [] [] all stop = refl
prefix_len-append p [] (y ∷ ys) all stop = prefix_len-no p y ys stop
prefix_len-append p (x ∷ xs) ys all stop = prefix_len-yes p x (xs ++ ys) all.0 ∙ ap suc (prefix_len-append p xs ys all.1 stop)

-- a run
word_in_run : (b : ℕ) → begins_word b ≡ true → in_run b ≡ true
word_in_run b is = grind (arith, nat_tests)

number_in_run : (b : ℕ) → begins_number b ≡ true → in_run b ≡ true
number_in_run b is = grind (arith, nat_tests)

first_of_take : (p : ℕ → Bool) (n b : ℕ) (bs : List ℕ) → 0 < n → p b ≡ true → FirstPasses p (take n (b ∷ bs))
first_of_take p zero b bs some is = absurd (omega arith)
first_of_take p (suc n) b bs some is = is

run_here : (begins : ℕ → Bool) (b : ℕ) (bs : List ℕ) → begins b ≡ true → in_run b ≡ true
    → IsRun begins (take (prefix_len in_run (b ∷ bs)) (b ∷ bs)) (drop (prefix_len in_run (b ∷ bs)) (b ∷ bs))
run_here begins b bs is run = record {
  first = first_of_take begins (prefix_len in_run (b ∷ bs)) b bs (omega (arith, prefix_len-yes in_run b bs run)) is;
  each = from_passing in_run _ (prefix_passes in_run (b ∷ bs));
  longest = prefix_stops in_run (b ∷ bs);
}

-- what is read: a token of len bytes
pub record IsTokenOf (start : ℕ) (bytes : List ℕ) (lexeme : Lexeme) : Type 0 where
  pub begins : lexeme.start ≡ start
  pub len : ℕ
  pub ends : lexeme.end ≡ start + len
  pub within : len ≤ length bytes
  pub token : IsToken lexeme.kind (take len bytes) (drop len bytes)

-- a text from its opening mark
text_sound : (start : ℕ) (bs : List ℕ) (found : Option ℕ) (lexeme : Lexeme) → closing_from (start + 1) 34 bs ≡ found
    → text_from start found ≡ Ok lexeme → IsTokenOf start (34 ∷ bs) lexeme
text_sound start bs None lexeme search_is is = absurd cc
text_sound start bs (Some close) lexeme search_is is =
    let lexeme_is : span Text start (close + 1) ≡ lexeme = cc in
    let closing = closing_from-sound (start + 1) 34 bs close search_is in
    let c = closing.1 in
    let within = closing.0 in
    let regrouped : 34 ∷ bs ≡ (34 ∷ (c.inside ++ 34 ∷ [])) ++ c.after = ap (λ l. 34 ∷ l) (c.split ∙ sym (append_assoc c.inside (34 ∷ []) c.after)) in
    let len_is : length (34 ∷ (c.inside ++ 34 ∷ [])) ≡ close + 1 - start = omega (arith, length-append c.inside (34 ∷ []), c.is_len) in
    let quoted : take (close + 1 - start) (34 ∷ bs) ≡ 34 ∷ (c.inside ++ 34 ∷ []) = ap (take (close + 1 - start)) regrouped
    ∙ take_at (34 ∷ (c.inside ++ 34 ∷ [])) c.after (close + 1 - start) len_is in
    subst (IsTokenOf start (34 ∷ bs)) lexeme_is (record {
      begins = refl;
      len = close + 1 - start;
      ends = omega arith;
      within = omega (arith, ap length c.split, length-append c.inside (34 ∷ c.after), c.is_len);
      token = record {
        inside = c.inside;
        is_inside = record { escaped = c.escaped; plain_end = EndsPlainly-last_or c.inside c.plain };
        quoted = quoted;
      };
    })

-- a token of one byte
one_sound : (start b code : ℕ) (bs : List ℕ) (kind : Token) (lexeme : Lexeme) → b ≡ code → IsToken kind (code ∷ []) bs
    → span kind start (start + 1) ≡ lexeme → IsTokenOf start (b ∷ bs) lexeme
one_sound start b code bs kind lexeme is token lexeme_is =
    subst (IsTokenOf start (b ∷ bs)) lexeme_is (record {
      begins = refl;
      len = 1;
      ends = refl;
      within = omega arith;
      token = subst (λ x. IsToken kind (x ∷ []) bs) (sym is) token;
    })

-- a token that is read begins where reading does, and its bytes spell one of its kind
pub token_at-sound : (start : ℕ) (bytes : List ℕ) (lexeme : Lexeme) → token_at start bytes ≡ Ok lexeme
    → IsTokenOf start bytes lexeme
token_at-sound start [] lexeme is =
    let lexeme_is : span End start start ≡ lexeme = let e = sym (token_at-end start) ∙ is in cc in
    subst (IsTokenOf start []) lexeme_is (record { begins = refl; len = 0; ends = omega arith; within = omega arith; token = (refl, refl) })
token_at-sound start (b ∷ bs) lexeme is =
    elim (begins_of b) [
      | quote mark ↦
          subst (λ x. IsTokenOf start (x ∷ bs) lexeme) (sym mark) (text_sound start bs (closing_from (start + 1) 34 bs) lexeme refl
          (ap (λ x. text_from start (closing_from (start + 1) x bs)) (sym mark) ∙ sym (token_at-text start b bs mark) ∙ is))
      | opens mark ↦ one_sound start b 123 bs Open lexeme mark refl (let e = sym (token_at-open start b bs mark) ∙ is in cc)
      | closes mark ↦ one_sound start b 125 bs Close lexeme mark refl (let e = sym (token_at-close start b bs mark) ∙ is in cc)
      | comma mark ↦ one_sound start b 44 bs Comma lexeme mark refl (let e = sym (token_at-comma start b bs mark) ∙ is in cc)
      | word begins ↦
          let lexeme_is : span Word start (start + prefix_len in_run (b ∷ bs)) ≡ lexeme = let e = sym (token_at-word start b bs begins) ∙ is in cc in
          subst (IsTokenOf start (b ∷ bs)) lexeme_is (record {
            begins = refl;
            len = prefix_len in_run (b ∷ bs);
            ends = refl;
            within = prefix_len-le-length in_run (b ∷ bs);
            token = run_here begins_word b bs begins (word_in_run b begins);
          })
      | number no_word begins ↦
          let lexeme_is : span Number start (start + prefix_len in_run (b ∷ bs)) ≡ lexeme = let e = sym (token_at-number start b bs no_word begins)
          ∙ is in cc in
          subst (IsTokenOf start (b ∷ bs)) lexeme_is (record {
            begins = refl;
            len = prefix_len in_run (b ∷ bs);
            ends = refl;
            within = prefix_len-le-length in_run (b ∷ bs);
            token = run_here begins_number b bs begins (number_in_run b begins);
          })
      | nothing a d e f g h ↦ let clash = sym (token_at-fault start b bs a d e f g h) ∙ is in absurd cc
    ]

-- a byte of a run isn't white space
run_not_space : (b : ℕ) → in_run b ≡ true → is_space b ≡ false
run_not_space b is = grind (arith, nat_tests)

-- a token begins with no white space
token_not_space : (kind : Token) (bytes after : List ℕ) → IsToken kind bytes after
    → FirstFails is_space (bytes ++ after)
token_not_space Word [] after token = absurd token.first
token_not_space Word (b ∷ bs) after token = run_not_space b (word_in_run b token.first)
token_not_space Number [] after token = absurd token.first
token_not_space Number (b ∷ bs) after token = run_not_space b (number_in_run b token.first)
token_not_space Text bytes after token = subst (λ l. FirstFails is_space (l ++ after)) (sym token.quoted) refl
token_not_space Open bytes after token = subst (λ l. FirstFails is_space (l ++ after)) (sym token) refl
token_not_space Close bytes after token = subst (λ l. FirstFails is_space (l ++ after)) (sym token) refl
token_not_space Comma bytes after token = subst (λ l. FirstFails is_space (l ++ after)) (sym token) refl
token_not_space End bytes after token = subst (λ l. FirstFails is_space (l ++ after)) (sym token.0) (subst (FirstFails is_space) (sym token.1) tt)

-- no letter begins a number
number_no_word : (b : ℕ) → begins_number b ≡ true → begins_word b ≡ false
number_no_word b is = grind (arith, nat_tests)

-- a token is read where it stands
pub token_at-complete : (kind : Token) (start : ℕ) (bytes after : List ℕ) → IsToken kind bytes after
    → token_at start (bytes ++ after) ≡ Ok (span kind start (start + length bytes))
token_at-complete Word start [] after token = absurd token.first
token_at-complete Word start (b ∷ bs) after token =
    token_at-word start b (bs ++ after) token.first
    ∙ ap (λ n. Ok (span Word start (start + n))) (prefix_len-append in_run (b ∷ bs) after (passing_from in_run (b ∷ bs) token.each) token.longest)
token_at-complete Number start [] after token = absurd token.first
token_at-complete Number start (b ∷ bs) after token =
    token_at-number start b (bs ++ after) (number_no_word b token.first) token.first
    ∙ ap (λ n. Ok (span Number start (start + n))) (prefix_len-append in_run (b ∷ bs) after (passing_from in_run (b ∷ bs) token.each) token.longest)
token_at-complete Text start bytes after token =
    let inside = token.inside in
    let is = token.is_inside in
    let regrouped : bytes ++ after ≡ 34 ∷ (inside ++ 34 ∷ after) = ap (λ l. l ++ after) token.quoted ∙ ap (λ l. 34 ∷ l) (append_assoc inside (34 ∷ []) after) in
    let end_is : start + 1 + length inside + 1 ≡ start + length bytes = omega (arith, ap length token.quoted, length-append inside (34 ∷ [])) in
    ap (token_at start) regrouped
    ∙ token_at-text start 34 (inside ++ 34 ∷ after) refl
    ∙ ap (text_from start) (closing_from-complete (start + 1) 34 inside after is.escaped (last_or-EndsPlainly inside is.plain_end))
    ∙ ap (λ n. Ok (span Text start n)) end_is
token_at-complete Open start bytes after token =
    ap (λ l. token_at start (l ++ after)) token ∙ token_at-open start 123 after refl ∙ ap (λ n. Ok (span Open start (start + n))) (sym (ap length token))
token_at-complete Close start bytes after token =
    ap (λ l. token_at start (l ++ after)) token ∙ token_at-close start 125 after refl ∙ ap (λ n. Ok (span Close start (start + n))) (sym (ap length token))
token_at-complete Comma start bytes after token =
    ap (λ l. token_at start (l ++ after)) token ∙ token_at-comma start 44 after refl ∙ ap (λ n. Ok (span Comma start (start + n))) (sym (ap length token))
token_at-complete End start bytes after token =
    let none : start ≡ start + length bytes = omega (arith, ap length token.0) in
    ap (λ l. token_at start (l ++ after)) token.0 ∙ ap (token_at start) token.1 ∙ token_at-end start ∙ ap (λ n. Ok (span End start n)) none

-- the white space is skipped
module _ (whole : List ℕ) (at : ℕ) (within : at ≤ length whole) where
  -- the place behind the white space is the end of the bytes at most
  pub space_within : after_space whole at ≤ length whole
  space_within = omega (arith, prefix_len-le-length is_space (drop at whole), length-drop at whole)

  -- from the offset to the place behind the white space all bytes are white space
  pub space_passes : AllPass is_space (slice_range whole at (after_space whole at))
  space_passes =
      let len : after_space whole at - at ≡ prefix_len is_space (drop at whole) = omega arith in
      subst (λ n. AllPass is_space (take n (drop at whole))) (sym len) (from_passing is_space _ (prefix_passes is_space (drop at whole)))

  space_stops : FirstFails is_space (drop (after_space whole at) whole)
  space_stops = subst (FirstFails is_space) (drop-drop (prefix_len is_space (drop at whole)) at whole) (prefix_stops is_space (drop at whole))

  -- a place up to which all is white space, and at which none stands, is the one behind the white space
  pub space_is : (place : ℕ) → at ≤ place → place ≤ length whole → AllPass is_space (slice_range whole at place)
      → FirstFails is_space (drop place whole) → after_space whole at ≡ place
  space_is place from to space stops =
      let rest = drop at whole in
      let place_is : at + (place - at) ≡ place = omega arith in
      let left : drop (place - at) rest ≡ drop place whole = drop-drop (place - at) at whole ∙ ap (λ n. drop n whole) place_is in
      let len : prefix_len is_space rest ≡ place - at =
      ap (prefix_len is_space) (sym (take-append-drop (place - at) rest))
      ∙ prefix_len-append is_space (take (place - at) rest) (drop (place - at) rest) (passing_from is_space _ space)
      (subst (FirstFails is_space) (sym left) stops)
      ∙ length-take-le (place - at) rest (omega (arith, length-drop at whole)) in
      omega (arith, len)

  -- a token that reading gives is the next one from the offset on
  pub next_from-sound : (lexeme : Lexeme) → next_from whole at ≡ Ok lexeme → IsLexemeFrom whole at lexeme
  unfolding next_from
  next_from-sound lexeme is =
      let start = after_space whole at in
      let t = token_at-sound start (drop start whole) lexeme is in
      let starts : start ≡ lexeme.start = sym t.begins in
      let len : t.len ≡ lexeme.end - lexeme.start = omega (arith, t.begins, t.ends) in
      let place : start + t.len ≡ lexeme.end = sym t.ends in
      let ends_within : start + t.len ≤ length whole = omega (arith, t.within, length-drop start whole, space_within) in
      record {
        from = omega (arith, t.begins);
        order = omega (arith, t.begins, t.ends);
        within = omega (arith, ends_within, t.ends);
        space = subst (λ n. AllPass is_space (slice_range whole at n)) starts space_passes;
        token = subst (IsToken lexeme.kind (take (lexeme.end - lexeme.start) (drop lexeme.start whole)))
            (drop-drop t.len start whole ∙ ap (λ n. drop n whole) place)
            (subst (λ n. IsToken lexeme.kind (take n (drop lexeme.start whole)) (drop t.len (drop start whole))) len
            (subst (λ n. IsToken lexeme.kind (take t.len (drop n whole)) (drop t.len (drop start whole))) starts t.token));
      }

  -- the next token from the offset on is what reading gives
  pub next_from-complete : (lexeme : Lexeme) → IsLexemeFrom whole at lexeme → next_from whole at ≡ Ok lexeme
  unfolding next_from
  next_from-complete lexeme is =
      let start = lexeme.start in
      let rest = drop start whole in
      let len = lexeme.end - start in
      let place : start + len ≡ lexeme.end = omega (arith, is.order) in
      let left : drop len rest ≡ drop lexeme.end whole = drop-drop len start whole ∙ ap (λ n. drop n whole) place in
      let split : take len rest ++ drop lexeme.end whole ≡ rest = ap (λ l. take len rest ++ l) (sym left) ∙ take-append-drop len rest in
      let start_is = space_is start is.from (omega (arith, is.order, is.within)) is.space
      (subst (FirstFails is_space) split (token_not_space lexeme.kind (take len rest) (drop lexeme.end whole) is.token)) in
      let len_is : length (take len rest) ≡ len = length-take-le len rest (omega (arith, length-drop start whole, is.order, is.within)) in
      ap (λ n. token_at n (drop n whole)) start_is
      ∙ ap (token_at start) (sym split)
      ∙ token_at-complete lexeme.kind start (take len rest) (drop lexeme.end whole) is.token
      ∙ ap (λ n. Ok (span lexeme.kind start (start + n))) len_is
      ∙ ap (λ n. Ok (span lexeme.kind start n)) place

-- a byte that begins no token passes none of the tests, and the other way round
begins_none : (b : ℕ) → begins_token b ≡ false
    → (b ≢ 34) × (b ≢ 123) × (b ≢ 125) × (b ≢ 44) × (begins_word b ≡ false) × (begins_number b ≡ false)
begins_none b none = (other 34 refl, other 123 refl, other 125 refl, other 44 refl, no_word b none, no_number b none)
  where
    other : (c : ℕ) → begins_token c ≡ true → b ≢ c
    other c begins same = let clash : true ≡ false = sym begins ∙ ap begins_token (sym same) ∙ none in cc

    no_word : (b : ℕ) → begins_token b ≡ false → begins_word b ≡ false
    no_word b none = grind (arith, nat_tests)

    no_number : (b : ℕ) → begins_token b ≡ false → begins_number b ≡ false
    no_number b none = grind (arith, nat_tests)

none_begins : (b : ℕ) → b ≢ 34 → b ≢ 123 → b ≢ 125 → b ≢ 44 → begins_word b ≡ false → begins_number b ≡ false
    → begins_token b ≡ false
none_begins b not_quote not_open not_close not_comma no_word no_number =
    rw (ne_eqb b 34 not_quote, ne_eqb b 123 not_open, ne_eqb b 125 not_close, ne_eqb b 44 not_comma, no_word, no_number) refl

-- the faults by the first byte
syntax_sound : (start place b : ℕ) (bs : List ℕ) → token_at start (b ∷ bs) ≡ Err (Syntax place)
    → (start ≡ place) × (begins_token b ≡ false)
syntax_sound start place b bs is =
    elim (begins_of b) [
      | quote mark ↦ absurd (text_no_syntax start (closing_from (start + 1) b bs) place (sym (token_at-text start b bs mark) ∙ is))
      | opens mark ↦ let clash = sym (token_at-open start b bs mark) ∙ is in absurd cc
      | closes mark ↦ let clash = sym (token_at-close start b bs mark) ∙ is in absurd cc
      | comma mark ↦ let clash = sym (token_at-comma start b bs mark) ∙ is in absurd cc
      | word begins ↦ let clash = sym (token_at-word start b bs begins) ∙ is in absurd cc
      | number no_word begins ↦ let clash = sym (token_at-number start b bs no_word begins) ∙ is in absurd cc
      | nothing a d e f g h ↦ (let e1 = sym (token_at-fault start b bs a d e f g h) ∙ is in cc, none_begins b a d e f g h)
    ]
  where
    text_no_syntax : (start : ℕ) (found : Option ℕ) (place : ℕ) → text_from start found ≡ Err (Syntax place) → ⊥
    text_no_syntax start None place is = cc
    text_no_syntax start (Some close) place is = cc

unclosed_sound : (start place b : ℕ) (bs : List ℕ) → token_at start (b ∷ bs) ≡ Err (Unclosed place)
    → (start ≡ place) × (b ≡ 34) × MarksEscaped 34 bs
unclosed_sound start place b bs is =
    elim (begins_of b) [
      | quote mark ↦
          let found = text_unclosed start (closing_from (start + 1) b bs) place (sym (token_at-text start b bs mark) ∙ is) in
          (found.0, mark, closing_from-none (start + 1) 34 bs (ap (λ x. closing_from (start + 1) x bs) (sym mark) ∙ found.1))
      | opens mark ↦ let clash = sym (token_at-open start b bs mark) ∙ is in absurd cc
      | closes mark ↦ let clash = sym (token_at-close start b bs mark) ∙ is in absurd cc
      | comma mark ↦ let clash = sym (token_at-comma start b bs mark) ∙ is in absurd cc
      | word begins ↦ let clash = sym (token_at-word start b bs begins) ∙ is in absurd cc
      | number no_word begins ↦ let clash = sym (token_at-number start b bs no_word begins) ∙ is in absurd cc
      | nothing a d e f g h ↦ let clash = sym (token_at-fault start b bs a d e f g h) ∙ is in absurd cc
    ]
  where
    text_unclosed : (start : ℕ) (found : Option ℕ) (place : ℕ) → text_from start found ≡ Err (Unclosed place)
        → (start ≡ place) × (found ≡ None)
    text_unclosed start None place is = (cc, refl)
    text_unclosed start (Some close) place is = absurd cc

module _ (whole : List ℕ) (at : ℕ) (within : at ≤ length whole) where
  -- at a byte within the bytes
  pub first_byte : (place : ℕ) → after_space whole at ≡ place → place < length whole → IsFirstByteFrom whole at place
  first_byte place is inner = record {
    from = omega (arith, is);
    within = inner;
    space = subst (λ n. AllPass is_space (slice_range whole at n)) is (space_passes whole at within);
    byte = subst (FirstFails is_space) (drop_more whole place 0 inner) (subst (λ n. FirstFails is_space (drop n whole)) is (space_stops whole at within));
  }

  first_is : (place : ℕ) → IsFirstByteFrom whole at place
      → next_from whole at ≡ token_at place (get_or whole place 0 ∷ drop (place + 1) whole)
  unfolding next_from
  first_is place is =
      let start_is = space_is whole at within place is.from (omega (arith, is.within)) is.space
      (subst (FirstFails is_space) (sym (drop_more whole place 0 is.within)) is.byte) in
      ap (λ n. token_at n (drop n whole)) start_is ∙ ap (token_at place) (drop_more whole place 0 is.within)

  -- a fault comes within the bytes
  not_at_end : (fault : LexFault) → next_from whole at ≡ Err fault → after_space whole at < length whole
  unfolding next_from
  not_at_end fault is =
      let start = after_space whole at in
      ⊎_elim (λ inner. inner) (λ past. let clash = sym (ap (token_at start) (drop_all start whole past) ∙ token_at-end start) ∙ is in absurd cc)
      (order start (length whole))

  here : (fault : LexFault) (is : next_from whole at ≡ Err fault)
      → token_at (after_space whole at) (get_or whole (after_space whole at) 0 ∷ drop (after_space whole at + 1) whole)
      ≡ Err fault
  unfolding next_from
  here fault is = let start = after_space whole at in ap (token_at start) (sym (drop_more whole start 0 (not_at_end fault is))) ∙ is

  -- where reading gives a syntax fault, the first byte that isn't white space is at its place and begins no token
  pub next_from-syntax : (place : ℕ) → next_from whole at ≡ Err (Syntax place) → IsSyntaxFrom whole at place
  next_from-syntax place is =
      let start = after_space whole at in
      let found = syntax_sound start place _ _ (here (Syntax place) is) in
      record {
        first = first_byte place found.0 (subst (λ n. n < length whole) found.0 (not_at_end (Syntax place) is));
        no_token = subst (λ n. begins_token (get_or whole n 0) ≡ false) found.0 found.1;
      }

  -- where the first byte that isn't white space begins no token, reading gives a syntax fault at its place
  pub syntax-next_from : (place : ℕ) → IsSyntaxFrom whole at place → next_from whole at ≡ Err (Syntax place)
  syntax-next_from place is =
      let none = begins_none (get_or whole place 0) is.no_token in
      first_is place is.first ∙ token_at-fault place _ _ none.0 none.1 none.2 none.3 none.4 none.5

  -- where an unclosed text is found, the first byte that isn't white space is there: a quotation mark none closes
  pub next_from-unclosed : (place : ℕ) → next_from whole at ≡ Err (Unclosed place) → IsUnclosedFrom whole at place
  next_from-unclosed place is =
      let start = after_space whole at in
      let found = unclosed_sound start place _ _ (here (Unclosed place) is) in
      record {
        first = first_byte place found.0 (subst (λ n. n < length whole) found.0 (not_at_end (Unclosed place) is));
        mark = subst (λ n. get_or whole n 0 ≡ 34) found.0 found.1;
        no_closing = subst (λ n. MarksEscaped 34 (drop (n + 1) whole)) found.0 found.2;
      }

  -- where the first byte that isn't white space is a quotation mark that none closes, an unclosed text is found there
  pub unclosed-next_from : (place : ℕ) → IsUnclosedFrom whole at place → next_from whole at ≡ Err (Unclosed place)
  unclosed-next_from place is =
      let rest = drop (place + 1) whole in
      first_is place is.first
      ∙ ap (λ b. token_at place (b ∷ rest)) is.mark
      ∙ token_at-text place 34 rest refl
      ∙ ap (text_from place) (none-closing_from (place + 1) 34 rest is.no_closing)

-- at the end of the bytes the end comes next
pub next_from-end : (whole : List ℕ) → next_from whole (length whole) ≡ Ok (span End (length whole) (length whole))
unfolding next_from
next_from-end whole =
    let none : drop (length whole) whole ≡ [] = drop_all (length whole) whole (omega arith) in
    let start_is : after_space whole (length whole) ≡ length whole = ap (λ l. length whole + prefix_len is_space l) none ∙ add-zero (length whole) in
    ap (λ n. token_at n (drop n whole)) start_is ∙ ap (token_at (length whole)) none ∙ token_at-end (length whole)
