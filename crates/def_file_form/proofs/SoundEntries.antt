-- What is read of an entry and of the prologue is in the form.
use Rattle.std.proofs.Common.{◌≡◌, ℕ, zero, suc, ◌≤◌, Bool, true, false, cond, ◌||◌, List, [], ◌∷◌, ◌++◌, length, Ok, Err, sym, refl, ap, ◌∙◌, subst, arith}
use Rattle.std.proofs.Common.{append_assoc, append-nil, ◌⊎◌, inl, inr}
use Rattle.std.specs.Prelude.{codes, nat_eq, unwrap_or}
use Rattle.std.proofs.lemmas.Bool.{eqb-true}
use Rattle.def_file_tokens.specs.declared.Token.TheVariants as kinds
use Rattle.def_file_tokens.specs.declared.Lexeme.{Lexeme}
use Rattle.def_file_tokens.specs.Tokens.{next_from}
use Rattle.def_file.specs.declared.EntryKind.{EntryKind}
use Rattle.def_file.specs.declared.EntryKind.TheVariants.{Chance, Personal, Leaf}
use Rattle.def_file.specs.declared.FileFault.TheVariants.{Players}
use Rattle.def_file.specs.Content.{Prologue, Record, no_set_mention}
use Rattle.def_file.specs.Reading.{◌>>=◌, is_token, is_exact, is_numbers, begins_entry, token_where, next_is, close_byte, text_at, name_at, whole_at, close_at}
use Rattle.def_file.specs.Reading.{set_mention_at, outcome_mention_at, chance_entry_at, personal_entry_at, terminal_entry_at, entry_at, names_from}
use Rattle.def_file.specs.Reading.{checked_names, nth_name, PrologueHead, head_at, behind_head, prologue_at}
use Rattle.def_file_form.specs.Form.{Spelled, word, number, open_brace, IsText, IsName, IsWholeNumber, IsSet, IsOutcome, IsEntryAs, IsEntry, AreNames, IsHead}
use Rattle.def_file_form.specs.Form.{IsPrologue}
use Rattle.def_file_form.proofs.TokenByToken.{then_ok, either, token_ok, StepSpelled, Read, Then, IsOne, read_as, read_one, read_then, exact_here, exact_step}
use Rattle.def_file_form.proofs.TokenByToken.{open_step}
use Rattle.def_file_form.proofs.SoundParts.{text_read, name_read, whole_read, close_read, ItemsRead, set_mention_read, outcome_mention_read}

-- an entry behind its word
abbrev pub IsEntryBehind : EntryKind → List ℕ → Record → List Spelled → List Spelled → Type 0
IsEntryBehind kind bytes r tokens rest = (r.kind ≡ kind) × IsEntryAs kind r (word bytes ∷ tokens) rest

pub chance_entry_read : (whole : List ℕ) (at : ℕ) → at ≤ length whole → (read : Record × ℕ)
    → chance_entry_at whole at ≡ Ok read → Read whole at read.1 (IsEntryBehind Chance (codes "c") read.0)
unfolding chance_entry_at
chance_entry_read whole at within read e =
    then_ok (text_at whole at) _ _ e (λ name e0 e.
    then_ok (set_mention_at Chance whole name.1) _ _ e (λ set e1 e.
    then_ok (outcome_mention_at whole set.1) _ _ e (λ outcome e2 e.
    let s0 = text_read whole at within name e0 in
    let s1 = set_mention_read Chance whole name.1 s0.within set e1 in
    let s2 = outcome_mention_read whole set.1 s1.within outcome e2 in
    let entry : Record = record { kind = Chance; name = name.0; player = 0; set = set.0; outcome = outcome.0 } in
    let same : (entry, outcome.1) ≡ read = cc in
    let behind = read_then whole name.1 set.1 outcome.1 (IsSet Chance set.0) (IsOutcome outcome.0) s1 s2 in
    subst (λ (r : Record × ℕ). Read whole at r.1 (IsEntryBehind Chance (codes "c") r.0)) same
    (read_as whole at outcome.1 (Then (IsText name.0) (Then (IsSet Chance set.0) (IsOutcome outcome.0))) (IsEntryBehind Chance (codes "c") entry)
    (λ tokens rest t. (refl, record { headed = tokens; named = t.0; placed = t.2.0; head = refl; name = t.1; no_player = refl; set = t.2.1; outcome = t.2.2 }))
    (read_then whole at name.1 outcome.1 (IsText name.0) (Then (IsSet Chance set.0) (IsOutcome outcome.0)) s0 behind)))))

pub personal_entry_read : (whole : List ℕ) (at : ℕ) → at ≤ length whole → (read : Record × ℕ)
    → personal_entry_at whole at ≡ Ok read → Read whole at read.1 (IsEntryBehind Personal (codes "p") read.0)
unfolding personal_entry_at
personal_entry_read whole at within read e =
    then_ok (text_at whole at) _ _ e (λ name e0 e.
    then_ok (whole_at whole name.1) _ _ e (λ player e1 e.
    then_ok (set_mention_at Personal whole player.1) _ _ e (λ set e2 e.
    then_ok (outcome_mention_at whole set.1) _ _ e (λ outcome e3 e.
    let s0 = text_read whole at within name e0 in
    let s1 = whole_read whole name.1 s0.within player e1 in
    let s2 = set_mention_read Personal whole player.1 s1.within set e2 in
    let s3 = outcome_mention_read whole set.1 s2.within outcome e3 in
    let entry : Record = record { kind = Personal; name = name.0; player = player.0; set = set.0; outcome = outcome.0 } in
    let same : (entry, outcome.1) ≡ read = cc in
    let placed = read_then whole player.1 set.1 outcome.1 (IsSet Personal set.0) (IsOutcome outcome.0) s2 s3 in
    let moved = read_then whole name.1 player.1 outcome.1 (IsWholeNumber player.0) (Then (IsSet Personal set.0) (IsOutcome outcome.0)) s1 placed in
    subst (λ (r : Record × ℕ). Read whole at r.1 (IsEntryBehind Personal (codes "p") r.0)) same
    (read_as whole at outcome.1 (Then (IsText name.0) (Then (IsWholeNumber player.0) (Then (IsSet Personal set.0) (IsOutcome outcome.0))))
    (IsEntryBehind Personal (codes "p") entry)
    (λ tokens rest t. (
      refl,
      record {
        headed = tokens;
        named = t.0;
        moved = t.2.0;
        placed = t.2.2.0;
        head = refl;
        name = t.1;
        player = t.2.1;
        set = t.2.2.1;
        outcome = t.2.2.2;
      },
    ))
    (read_then whole at name.1 outcome.1 (IsText name.0) (Then (IsWholeNumber player.0) (Then (IsSet Personal set.0) (IsOutcome outcome.0))) s0 moved))))))

pub terminal_entry_read : (whole : List ℕ) (at : ℕ) → at ≤ length whole → (read : Record × ℕ)
    → terminal_entry_at whole at ≡ Ok read → Read whole at read.1 (IsEntryBehind Leaf (codes "t") read.0)
unfolding terminal_entry_at
terminal_entry_read whole at within read e =
    then_ok (text_at whole at) _ _ e (λ name e0 e.
    then_ok (outcome_mention_at whole name.1) _ _ e (λ outcome e1 e.
    let s0 = text_read whole at within name e0 in
    let s1 = outcome_mention_read whole name.1 s0.within outcome e1 in
    let entry : Record = record { kind = Leaf; name = name.0; player = 0; set = no_set_mention; outcome = outcome.0 } in
    let same : (entry, outcome.1) ≡ read = cc in
    subst (λ (r : Record × ℕ). Read whole at r.1 (IsEntryBehind Leaf (codes "t") r.0)) same
    (read_as whole at outcome.1 (Then (IsText name.0) (IsOutcome outcome.0)) (IsEntryBehind Leaf (codes "t") entry)
    (λ tokens rest t. (refl, record { headed = tokens; named = t.0; head = refl; name = t.1; no_player = refl; no_set = refl; outcome = t.2 }))
    (read_then whole at name.1 outcome.1 (IsText name.0) (IsOutcome outcome.0) s0 s1))))

-- an entry's word, and what is behind it
headed : (kind : EntryKind) (bytes : List ℕ) (r : Record) (tokens rest : List Spelled)
    → Then (IsOne (word bytes)) (IsEntryBehind kind bytes r) tokens rest → IsEntry r tokens rest
headed kind bytes r tokens rest t =
    subst (λ ss. IsEntry r ss rest) (sym t.1) (subst (λ k. IsEntryAs k r (word bytes ∷ t.0) rest) (sym t.2.0) t.2.1)

entry_behind_read : (kind : EntryKind) (bytes : List ℕ) (whole : List ℕ) (at : ℕ) (head : Lexeme) (read : Record × ℕ)
    → StepSpelled whole at head (word bytes) → Read whole head.end read.1 (IsEntryBehind kind bytes read.0)
    → Read whole at read.1 (IsEntry read.0)
entry_behind_read kind bytes whole at head read step behind =
    read_as whole at read.1 (Then (IsOne (word bytes)) (IsEntryBehind kind bytes read.0)) (IsEntry read.0) (headed kind bytes read.0)
    (read_then whole at head.end read.1 (IsOne (word bytes)) (IsEntryBehind kind bytes read.0) (read_one whole at head (word bytes) step) behind)

-- what is read as an entry is in the form of one
pub entry_read : (whole : List ℕ) (at : ℕ) → at ≤ length whole → (read : Record × ℕ) → entry_at whole at ≡ Ok read
    → Read whole at read.1 (IsEntry read.0)
unfolding entry_at
entry_read whole at within read e =
    then_ok (token_where (begins_entry whole) whole at) _ _ e (λ head e0 e.
    let found = token_ok (begins_entry whole) whole at head e0 in
    chosen head (is_exact kinds.Word (codes "c") whole head) (is_exact kinds.Word (codes "p") whole head) refl refl found.0 found.1 e)
  where
    step : (head : Lexeme) (bytes : List ℕ) → next_from whole at ≡ Ok head → is_exact kinds.Word bytes whole head ≡ true
        → StepSpelled whole at head (word bytes)
    step head bytes next is = exact_here whole at within head kinds.Word bytes (λ clash. cc) next is

    chosen : (head : Lexeme) (b c : Bool) → is_exact kinds.Word (codes "c") whole head ≡ b
        → is_exact kinds.Word (codes "p") whole head ≡ c → next_from whole at ≡ Ok head
        → (b || (c || is_exact kinds.Word (codes "t") whole head)) ≡ true
        → cond b (chance_entry_at whole head.end) (cond c (personal_entry_at whole head.end) (terminal_entry_at whole head.end)) ≡ Ok read
        → Read whole at read.1 (IsEntry read.0)
    chosen head true c is is2 next passes e =
        let s = step head (codes "c") next is in
        entry_behind_read Chance (codes "c") whole at head read s (chance_entry_read whole head.end s.within read e)
    chosen head false true is is2 next passes e =
        let s = step head (codes "p") next is2 in
        entry_behind_read Personal (codes "p") whole at head read s (personal_entry_read whole head.end s.within read e)
    chosen head false false is is2 next passes e =
        let s = step head (codes "t") next passes in
        entry_behind_read Leaf (codes "t") whole at head read s (terminal_entry_read whole head.end s.within read e)

-- The prologue.

pub names_read : (left : ℕ) (done : List (List ℕ)) (whole : List ℕ) (at : ℕ) → at ≤ length whole
    → (read : List (List ℕ) × ℕ) → names_from left done whole at ≡ Ok read → ItemsRead AreNames done whole at read
unfolding names_from
names_read zero done whole at within read e = absurd cc
names_read (suc left) done whole at within read e =
    chosen (next_is close_byte whole at) e (λ text inner e. names_read left (done ++ text.0 ∷ []) whole text.1 inner read e)
  where
    chosen : (b : Bool)
        → cond b (close_at done whole at) (text_at whole at >>= λ text. names_from left (done ++ text.0 ∷ []) whole text.1) ≡ Ok read
        → ((text : List ℕ × ℕ) → text.1 ≤ length whole → names_from left (done ++ text.0 ∷ []) whole text.1 ≡ Ok read
        → ItemsRead AreNames (done ++ text.0 ∷ []) whole text.1 read)
        → ItemsRead AreNames done whole at read
    chosen true e again =
        let closed = close_read done whole at within read e in
        record { more = []; all = closed.0 ∙ sym (append-nil done); taken = closed.1 }
    chosen false e again =
        then_ok (text_at whole at) _ _ e (λ text e0 e.
        let here = text_read whole at within text e0 in
        let later = again text here.within e in
        record {
          more = text.0 ∷ later.more;
          all = later.all ∙ append_assoc done (text.0 ∷ []) later.more;
          taken = read_then whole at text.1 read.1 (IsText text.0) (AreNames later.more) here later.taken;
        })

-- two names are the first and the second one
pub two_names : (names : List (List ℕ)) → length names ≡ 2 → names ≡ nth_name names 0 ∷ nth_name names 1 ∷ []
two_names [] is = absurd (omega (arith, is))
two_names (a ∷ []) is = absurd (omega (arith, is))
two_names (a ∷ b ∷ []) is = refl
two_names (a ∷ b ∷ c ∷ more) is = absurd (omega (arith, is))

checked_ok : (names : List (List ℕ)) (at read : ℕ) → checked_names names at ≡ Ok read → (length names ≡ 2) × (at ≡ read)
checked_ok names at read e = chosen (nat_eq (length names) 2) refl e
  where
    chosen : (b : Bool) → nat_eq (length names) 2 ≡ b → cond b (Ok at) (Err (Players (length names))) ≡ Ok read
        → (length names ≡ 2) × (at ≡ read)
    chosen true is e = (eqb-true (length names) 2 is, cc)
    chosen false is e = absurd cc

-- `R` or `D`
numbers_step : (whole : List ℕ) (at : ℕ) → at ≤ length whole → (l : Lexeme)
    → token_where (is_numbers whole) whole at ≡ Ok l
    → (s : Spelled) × ((s ≡ word (codes "R")) ⊎ (s ≡ word (codes "D"))) × StepSpelled whole at l s
numbers_step whole at within l e =
    let found = token_ok (is_numbers whole) whole at l e in
    chosen (either (is_exact kinds.Word (codes "R") whole l) (is_exact kinds.Word (codes "D") whole l) found.1) found.0
  where
    chosen : (is_exact kinds.Word (codes "R") whole l ≡ true)
        ⊎ ((is_exact kinds.Word (codes "R") whole l ≡ false) × (is_exact kinds.Word (codes "D") whole l ≡ true))
        → next_from whole at ≡ Ok l
        → (s : Spelled) × ((s ≡ word (codes "R")) ⊎ (s ≡ word (codes "D"))) × StepSpelled whole at l s
    chosen (inl is) next = (word (codes "R"), inl refl, exact_here whole at within l kinds.Word (codes "R") (λ clash. cc) next is)
    chosen (inr is) next = (word (codes "D"), inr refl, exact_here whole at within l kinds.Word (codes "D") (λ clash. cc) next is.1)

-- what the head of the prologue says
abbrev pub IsPrologueHead : PrologueHead → List Spelled → List Spelled → Type 0
IsPrologueHead head tokens rest = IsHead head.0 head.1 tokens rest

-- a head that is read is in the form
pub head_read : (whole : List ℕ) (at : ℕ) → at ≤ length whole → (x : PrologueHead × ℕ) → head_at whole at ≡ Ok x
    → Read whole at x.1 (IsPrologueHead x.0)
unfolding head_at
head_read whole at within x e =
    then_ok (token_where (is_exact kinds.Word (codes "EFG") whole) whole at) _ _ e (λ marker e0 e.
    then_ok (token_where (is_exact kinds.Number (codes "2") whole) whole marker.end) _ _ e (λ version e1 e.
    then_ok (token_where (is_numbers whole) whole version.end) _ _ e (λ numbers e2 e.
    then_ok (text_at whole numbers.end) _ _ e (λ title e3 e.
    then_ok (token_where (is_token kinds.Open whole) whole title.1) _ _ e (λ opening e4 e.
    then_ok (names_from (length whole) [] whole opening.end) _ _ e (λ names e5 e.
    let s0 = exact_step whole at within marker kinds.Word (codes "EFG") (λ clash. cc) e0 in
    let s1 = exact_step whole marker.end s0.within version kinds.Number (codes "2") (λ clash. cc) e1 in
    let s2 = numbers_step whole version.end s1.within numbers e2 in
    let s3 = text_read whole numbers.end s2.2.within title e3 in
    let s4 = open_step whole title.1 s3.within opening e4 in
    let s5 = names_read (length whole) [] whole opening.end s4.within names e5 in
    let same : ((title.0, names.0), names.1) ≡ x = cc in
    let texts : Read whole opening.end names.1 (AreNames names.0) = subst (λ ns. Read whole opening.end names.1 (AreNames ns)) (sym s5.all) s5.taken in
    let Names = AreNames names.0 in
    let Titled = Then (IsOne open_brace) Names in
    let Headed = Then (IsText title.0) Titled in
    let Numbered = Then (IsOne s2.0) Headed in
    let Version = Then (IsOne (number (codes "2"))) Numbered in
    let r5 = read_then whole title.1 opening.end names.1 (IsOne open_brace) Names (read_one whole title.1 opening open_brace s4) texts in
    let r4 = read_then whole numbers.end title.1 names.1 (IsText title.0) Titled s3 r5 in
    let r3 = read_then whole version.end numbers.end names.1 (IsOne s2.0) Headed (read_one whole version.end numbers s2.0 s2.2) r4 in
    let r2 = read_then whole marker.end version.end names.1 (IsOne (number (codes "2"))) Numbered (read_one whole marker.end version (number (codes "2")) s1)
    r3 in
    let r1 = read_then whole at marker.end names.1 (IsOne (word (codes "EFG"))) Version (read_one whole at marker (word (codes "EFG")) s0) r2 in
    subst (λ (y : PrologueHead × ℕ). Read whole at y.1 (IsPrologueHead y.0)) same
    (read_as whole at names.1 (Then (IsOne (word (codes "EFG"))) Version) (IsPrologueHead (title.0, names.0)) (λ tokens rest one.
    let v = one.2 in
    let n = v.2 in
    let h = n.2 in
    let t = h.2 in
    record {
      headed = n.0;
      titled = h.0;
      opened = t.0;
      numbers = s2.0;
      rational = s2.1;
      head = one.1 ∙ ap (λ ss. word (codes "EFG") ∷ ss) (v.1 ∙ ap (λ ss. number (codes "2") ∷ ss) n.1);
      title_text = h.1;
      brace = t.1;
      name_texts = t.2;
    }) r1)))))))

-- a prologue that is read is in the form
pub prologue_read : (whole : List ℕ) (at : ℕ) → at ≤ length whole → (read : Prologue × ℕ)
    → prologue_at whole at ≡ Ok read → Read whole at read.1 (IsPrologue read.0)
unfolding prologue_at behind_head
prologue_read whole at within read e =
    then_ok (head_at whole at) _ _ e (λ head e0 e.
    then_ok (checked_names head.0.1 head.1) _ _ e (λ behind e1 e.
    then_ok (name_at whole behind) _ _ e (λ comment e2 e.
    let h = head_read whole at within head e0 in
    let c = checked_ok head.0.1 head.1 behind e1 in
    let one = nth_name head.0.1 0 in
    let two = nth_name head.0.1 1 in
    let h2 : Read whole at behind (IsPrologueHead (head.0.0, one ∷ two ∷ [])) =
    subst (λ n. Read whole at n (IsPrologueHead (head.0.0, one ∷ two ∷ []))) c.1
    (subst (λ ns. Read whole at head.1 (IsPrologueHead (head.0.0, ns))) (two_names head.0.1 c.0) h) in
    let remark = name_read whole behind h2.within comment e2 in
    let p : Prologue = record { title = head.0.0; one = one; two = two; comment = unwrap_or comment.0 [] } in
    let same : (p, comment.1) ≡ read = cc in
    subst (λ (r : Prologue × ℕ). Read whole at r.1 (IsPrologue r.0)) same
    (read_as whole at comment.1 (Then (IsPrologueHead (head.0.0, one ∷ two ∷ [])) (IsName comment.0)) (IsPrologue p)
    (λ tokens rest t. record { behind = t.0; comment = comment.0; head = t.1; remark = t.2; text = refl })
    (read_then whole at behind comment.1 (IsPrologueHead (head.0.0, one ∷ two ∷ [])) (IsName comment.0) h2 remark)))))
