-- The head of the prologue.
use Rattle.std.proofs.Common.{◌≡◌, ℕ, zero, suc, ◌+◌, ◌≤◌, Bool, true, false, cond, ◌&&◌, ◌||◌, List, [], ◌∷◌, ◌++◌, length, Result, sym, refl, ap, ◌∙◌, subst}
use Rattle.std.proofs.Common.{arith, ◌⊎◌, inl, inr, ⊎_elim}
use Rattle.std.specs.Prelude.{codes, nat_eq}
use Rattle.std.specs.Cmp.Lexicographic.{pointwise}
use Rattle.def_file_tokens.specs.declared.Token.{Token}
use Rattle.def_file_tokens.specs.declared.Token.TheVariants as kinds
use Rattle.def_file_tokens.specs.declared.Lexeme.{Lexeme}
use Rattle.def_file.specs.declared.FileFault.{FileFault}
use Rattle.def_file.specs.Reading.{◌>>=◌, is_kind, is_token, next_is, close_byte, text_at, close_at, names_from, head_at, behind_head, prologue_at}
use Rattle.def_file_form.specs.Form.{Spelled, word, number, open_brace, close_brace, IsText, AreNames, spelled_at}
use Rattle.def_file_form.proofs.SoundEntries.{IsPrologueHead}
use Rattle.def_file_form.proofs.TokenByToken.{either, exact_here, open_step, ok_token}
use Rattle.def_file_form.proofs.Languages.{Alike, AlikeBut, FirstIsOther, After, NextIs}
use Rattle.def_file_form.proofs.NextByteTellsToken.{not_next}
use Rattle.def_file_form.proofs.SuccessiveReadings.{HasWord, Goes, goes_then, goes_with, goes_alike, goes_less, goes_other, FirstTaken, IsTest, BeginsPassing}
use Rattle.def_file_form.proofs.SuccessiveReadings.{goes_token}
use Rattle.def_file_form.proofs.OneTokenParts.{Part, each_takes_one, kind_test, text_word, text_goes}
use Rattle.def_file_form.proofs.Lists.{close_goes, spent, no_text_closes}

-- Names.

names_word : (T : List Spelled → Type 0) → HasWord T → HasWord (Part AreNames T)
names_word T word = (close_brace ∷ word.0, ([], word.0, refl, word.1))

names_closed : (T : List Spelled → Type 0) → Alike (After close_brace (Part AreNames T)) T
names_closed T = record { to = λ ss l. to ss l.0 l.1 l.2 l.3; back = λ ss there. ([], ss, refl, there) }
  where
    to : (ss : List Spelled) (v : List (List ℕ)) (rest : List Spelled) → AreNames v (close_brace ∷ ss) rest → T rest
        → T ss
    to ss [] rest is there = let same : rest ≡ ss = cc in subst T same there
    to ss (name ∷ more) rest is there = absurd (no_text_closes name ss is.0 is.1)

names_but : (T : List Spelled → Type 0) → AlikeBut kinds.Close (Part AreNames T) (Part IsText (Part AreNames T))
names_but T = record { to = λ ss fits l. to ss fits l.0 l.1 l.2 l.3; back = λ ss l. let later = l.3 in (l.0 ∷ later.0, later.1, (l.1, l.2, later.2), later.3) }
  where
    to : (ss : List Spelled) → FirstIsOther kinds.Close ss → (v : List (List ℕ)) (rest : List Spelled)
        → AreNames v ss rest → T rest → Part IsText (Part AreNames T) ss
    to ss fits [] rest is there = absurd (let clash = subst (FirstIsOther kinds.Close) is fits in clash refl)
    to ss fits (name ∷ more) rest is there = (name, is.0, is.1, (more, rest, is.2, there))

names_open : (T : List Spelled → Type 0) → Part AreNames T [] → ⊥
names_open T l = unfinished l.0 l.1 l.2
  where
    unfinished : (v : List (List ℕ)) (rest : List Spelled) → AreNames v [] rest → ⊥
    unfinished [] rest is = cc
    unfinished (name ∷ more) rest is = let e = is.1.spelling in cc

names_goes : (left : ℕ) (done : List (List ℕ)) (whole : List ℕ) (at : ℕ) → at ≤ length whole → length whole ≤ at + left
    → Goes 1 HasWord (Part AreNames) whole at (names_from left done whole at)
unfolding names_from
names_goes zero done whole at within left_is = spent HasWord (Part AreNames) whole at within left_is names_word (λ T word. names_open T)
names_goes (suc left) done whole at within left_is =
    chosen (next_is close_byte whole at) refl (λ text inner grown. names_goes left (done ++ text.0 ∷ []) whole text.1 inner (omega (arith, grown, left_is)))
  where
    chosen : (b : Bool) → next_is close_byte whole at ≡ b
        → ((text : List ℕ × ℕ) → text.1 ≤ length whole → at + 1 ≤ text.1
        → Goes 1 HasWord (Part AreNames) whole text.1 (names_from left (done ++ text.0 ∷ []) whole text.1))
        → Goes 1 HasWord (Part AreNames) whole at (cond b (close_at done whole at)
        (text_at whole at >>= λ text. names_from left (done ++ text.0 ∷ []) whole text.1))
    chosen true is again = close_goes done HasWord (Part AreNames) whole at within is (λ T word. names_closed T)
    chosen false is again =
        goes_other 1 kinds.Close (λ clash. cc) HasWord (λ T. Part IsText (Part AreNames T)) (Part AreNames) whole at _ (λ T word. names_but T)
        (not_next kinds.Close (omega arith) whole at is)
        (goes_then 1 HasWord HasWord (Part IsText) (Part AreNames) whole at (text_at whole at) _ (text_goes whole at within) names_word
        (λ text e inner grown. goes_less 1 0 HasWord (Part AreNames) whole text.1 _ (omega arith) (again text inner grown)))

-- the prologue is its head, and what stands behind it
pub prologue_is : (whole : List ℕ) (at : ℕ) → prologue_at whole at ≡ (head_at whole at >>= behind_head whole)
unfolding prologue_at
prologue_is whole at = refl

-- The head's languages.

-- a mark, and then what follows
abbrev Marked : Spelled → (List Spelled → Type 0) → List Spelled → Type 0
Marked s L ss = (rest : List Spelled) × (ss ≡ s ∷ rest) × L rest

marked_after : (s : Spelled) (L : List Spelled → Type 0) → Alike (After s (Marked s L)) L
marked_after s L = record { to = λ ss l. let same : l.0 ≡ ss = let e = l.1 in cc in subst L same l.2; back = λ ss l. (ss, refl, l) }

abbrev IsRational : Spelled → Type 0
IsRational s = (s ≡ word (codes "R")) ⊎ (s ≡ word (codes "D"))

abbrev Titled : (List Spelled → Type 0) → List Spelled → Type 0
Titled T = Part IsText (Marked open_brace (Part AreNames T))

abbrev NumberThenTitled : (List Spelled → Type 0) → List Spelled → Type 0
NumberThenTitled T ss = (s : Spelled) × (rest : List Spelled) × IsRational s × (ss ≡ s ∷ rest) × Titled T rest

head_alike : (T : List Spelled → Type 0)
    → Alike (Part IsPrologueHead T) (Marked (word (codes "EFG")) (Marked (number (codes "2")) (NumberThenTitled T)))
head_alike T = record {
  to = λ ss l.
      let is = l.2 in (
        number (codes "2") ∷ is.numbers ∷ is.headed,
        is.head,
        (
          is.numbers ∷ is.headed,
          refl,
          (is.numbers, is.headed, is.rational, refl, (l.0.0, is.titled, is.title_text, (is.opened, is.brace, (l.0.1, l.1, is.name_texts, l.3)))),
        ),
      );
  back = λ ss l.
      let m = l.2 in
      let n = m.2 in
      let t = n.4 in
      let o = t.3 in
      let names = o.2 in (
        (t.0, names.0),
        names.1,
        record {
          headed = n.1;
          titled = t.1;
          opened = o.0;
          numbers = n.0;
          rational = n.2;
          head = l.1 ∙ ap (λ x. word (codes "EFG") ∷ x) (m.1 ∙ ap (λ x. number (codes "2") ∷ x) n.3);
          title_text = t.2;
          brace = o.1;
          name_texts = names.2;
        },
        names.3,
      );
}

-- One token after the other.

abbrev exact_test : Token → List ℕ → Spelled → Bool
exact_test kind bytes s = is_kind kind s.kind && pointwise nat_eq s.bytes bytes

abbrev rational_test : Spelled → Bool
rational_test s = exact_test kinds.Word (codes "R") s || exact_test kinds.Word (codes "D") s

word_is_test : IsTest (exact_test kinds.Word (codes "EFG"))
word_is_test = record { not_end = λ s is. rw is refl; numbers = λ s is fails. (codes "1", refl, each_takes_one) }

version_is_test : IsTest (exact_test kinds.Number (codes "2"))
version_is_test = record { not_end = λ s is. rw is refl; numbers = λ s is fails. (codes "1", refl, each_takes_one) }

rational_is_test : IsTest rational_test
rational_is_test = record { not_end = λ s is. rw is refl; numbers = λ s is fails. (codes "1", refl, each_takes_one) }

marked_begins : (s : Spelled) (test : Spelled → Bool) → test s ≡ true
    → (In : (List Spelled → Type 0) → List Spelled → Type 0)
    → ((T : List Spelled → Type 0) → HasWord T → HasWord (In T)) → BeginsPassing HasWord (λ T. Marked s (In T)) test
marked_begins s test passes In word = record {
  word = λ T w. let found = word T w in (s ∷ found.0, (found.0, refl, found.1));
  first = λ T ss w l. subst (FirstTaken test) (sym l.1) passes;
}

titled_word : (T : List Spelled → Type 0) → HasWord T → HasWord (Titled T)
titled_word T w = let n = names_word T w in text_word (Marked open_brace (Part AreNames T)) (open_brace ∷ n.0, (n.0, refl, n.1))

numbered_begins : BeginsPassing HasWord NumberThenTitled rational_test
numbered_begins = record {
  word = λ T w. let t = titled_word T w in (word (codes "R") ∷ t.0, (word (codes "R"), t.0, inl refl, refl, t.1));
  first = λ T ss w l. subst (FirstTaken rational_test) (sym l.3) (passes l.0 l.2);
}
  where
    passes : (s : Spelled) → IsRational s → rational_test s ≡ true
    passes s (inl is) = ap rational_test is
    passes s (inr is) = ap rational_test is

numbered_after : (s : Spelled) → IsRational s → (T : List Spelled → Type 0)
    → Alike (After s (NumberThenTitled T)) (Titled T)
numbered_after s is T = record { to = λ ss l. let same : l.1 ≡ ss = let e = l.3 in cc in subst (Titled T) same l.4; back = λ ss l. (s, ss, is, refl, l) }

-- a token that a test passes, behind which the language is another
step_goes : {A : Type 0} (In On : (List Spelled → Type 0) → List Spelled → Type 0) (s : Spelled) (whole : List ℕ)
    (t : Lexeme) (r : Result (A × ℕ) FileFault)
    → spelled_at whole t ≡ s → ((T : List Spelled → Type 0) → Alike (After s (In T)) (On T))
    → Goes 1 HasWord On whole t.end r
    → Goes 0 HasWord (λ T. After (spelled_at whole t) (In T)) whole t.end r
step_goes In On s whole t r same alike go =
    subst (λ u. Goes 0 HasWord (λ T. After u (In T)) whole t.end r) (sym same)
    (goes_alike 0 HasWord HasWord On (λ T. After s (In T)) whole t.end r (λ T w. w) (λ T w. alike T) (goes_less 1 0 HasWord On whole t.end r (omega arith) go))

-- reading the prologue's head goes along its tokens, by one byte at least, or is stuck in them
pub head_goes : (whole : List ℕ) (at : ℕ) → at ≤ length whole
    → Goes 1 HasWord (Part IsPrologueHead) whole at (head_at whole at)
unfolding head_at
head_goes whole at within =
    goes_alike 1 HasWord HasWord (λ T. Marked (word (codes "EFG")) (Marked (number (codes "2")) (NumberThenTitled T))) (Part IsPrologueHead) whole at _
    (λ T w. w) (λ T w. head_alike T)
    (goes_token HasWord (λ T. Marked (word (codes "EFG")) (Marked (number (codes "2")) (NumberThenTitled T))) (exact_test kinds.Word (codes "EFG")) word_is_test
    (marked_begins (word (codes "EFG")) (exact_test kinds.Word (codes "EFG")) refl (λ T. Marked (number (codes "2")) (NumberThenTitled T)) version_begins.word)
    whole at _ within
    (λ marker step passes inner.
    step_goes (λ T. Marked (word (codes "EFG")) (Marked (number (codes "2")) (NumberThenTitled T))) (λ T. Marked (number (codes "2")) (NumberThenTitled T))
    (word (codes "EFG")) whole marker _
    ((exact_here whole at within marker kinds.Word (codes "EFG") (λ clash. cc) step.next passes).spelled)
    (λ T. marked_after (word (codes "EFG")) (Marked (number (codes "2")) (NumberThenTitled T)))
    (goes_token HasWord (λ T. Marked (number (codes "2")) (NumberThenTitled T)) (exact_test kinds.Number (codes "2")) version_is_test version_begins whole
    marker.end _ inner
    (λ version step passes inner2.
    step_goes (λ T. Marked (number (codes "2")) (NumberThenTitled T)) NumberThenTitled (number (codes "2")) whole version _
    ((exact_here whole marker.end inner version kinds.Number (codes "2") (λ clash. cc) step.next passes).spelled)
    (λ T. marked_after (number (codes "2")) (NumberThenTitled T))
    (goes_token HasWord NumberThenTitled rational_test rational_is_test numbered_begins whole version.end _ inner2
    (λ numbers step passes inner3.
    step_goes NumberThenTitled Titled (spelled_at whole numbers) whole numbers _ refl
    (numbered_after (spelled_at whole numbers) (rational whole version.end inner2 numbers step passes))
    (goes_then 1 HasWord HasWord (Part IsText) (λ T. Marked open_brace (Part AreNames T)) whole numbers.end (text_at whole numbers.end) _
    (text_goes whole numbers.end inner3) open_begins.word
    (λ title e inner4 grown.
    goes_less 1 0 HasWord (λ T. Marked open_brace (Part AreNames T)) whole title.1 _ (omega arith)
    (goes_token HasWord (λ T. Marked open_brace (Part AreNames T)) (λ s. is_kind kinds.Open s.kind) (kind_test kinds.Open (λ clash. cc) (λ clash. cc))
    open_begins whole title.1 _ inner4
    (λ opening step passes inner5.
    step_goes (λ T. Marked open_brace (Part AreNames T)) (Part AreNames) open_brace whole opening _
    (opened whole title.1 inner4 opening step passes) (λ T. marked_after open_brace (Part AreNames T))
    (goes_with 1 HasWord (Part AreNames) whole opening.end (names_from (length whole) [] whole opening.end) (λ names. (title.0, names.0))
    (names_goes (length whole) [] whole opening.end inner5 (omega arith)))))))))))))
  where
    version_begins : BeginsPassing HasWord (λ T. Marked (number (codes "2")) (NumberThenTitled T))
        (exact_test kinds.Number (codes "2"))
    version_begins = marked_begins (number (codes "2")) (exact_test kinds.Number (codes "2")) refl NumberThenTitled numbered_begins.word

    open_begins : BeginsPassing HasWord (λ T. Marked open_brace (Part AreNames T)) (λ s. is_kind kinds.Open s.kind)
    open_begins = marked_begins open_brace (λ s. is_kind kinds.Open s.kind) refl (Part AreNames) names_word

    opened : (whole : List ℕ) (at : ℕ) → at ≤ length whole → (t : Lexeme) → NextIs whole at t
        → is_kind kinds.Open t.kind ≡ true → spelled_at whole t ≡ open_brace
    opened whole at within t step passes = (open_step whole at within t (ok_token (is_token kinds.Open whole) whole at t step.next passes)).spelled

    rational : (whole : List ℕ) (at : ℕ) → at ≤ length whole → (t : Lexeme) → NextIs whole at t
        → rational_test (spelled_at whole t) ≡ true → IsRational (spelled_at whole t)
    rational whole at within t step passes =
        ⊎_elim (λ is. inl (exact_here whole at within t kinds.Word (codes "R") (λ clash. cc) step.next is).spelled)
        (λ is. inr (exact_here whole at within t kinds.Word (codes "D") (λ clash. cc) step.next is.1).spelled)
        (either (exact_test kinds.Word (codes "R") (spelled_at whole t)) (exact_test kinds.Word (codes "D") (spelled_at whole t)) passes)
