-- What is in the form of an entry and of the prologue is read.
use Rattle.std.proofs.Common.{◌≡◌, ℕ, zero, suc, ◌≤◌, Bool, true, false, ◌&&◌, ◌||◌, List, [], ◌∷◌, ◌++◌, length, Ok, sym, refl, ap, ◌∙◌, subst, arith, ⊎_elim}
use Rattle.std.proofs.Common.{append_assoc, append-nil}
use Rattle.std.specs.Prelude.{codes, nat_eq}
use Rattle.std.specs.Cmp.Lexicographic.{pointwise}
use Rattle.def_file_tokens.specs.declared.Token.TheVariants as kinds
use Rattle.def_file_tokens.specs.declared.Lexeme.{Lexeme}
use Rattle.def_file.specs.declared.EntryKind.{EntryKind}
use Rattle.def_file.specs.declared.EntryKind.TheVariants.{Chance, Personal, Leaf}
use Rattle.def_file.specs.Content.{Prologue, OutcomeMention, Record, no_set_mention}
use Rattle.def_file.specs.Reading.{is_kind, is_exact, is_numbers, begins_entry, token_where, next_is, mark, open_byte, close_byte, chance_entry_at}
use Rattle.def_file.specs.Reading.{personal_entry_at, terminal_entry_at, entry_at, names_from, head_at, behind_head, prologue_at}
use Rattle.def_file_form.specs.Form.{Spelled, word, number, open_brace, IsOutcome, IsEntryAs, IsEntry, AreEntries, AreNames, IsPrologue}
use Rattle.def_file_form.proofs.TokenByToken.{StepSpelled}
use Rattle.def_file_form.proofs.TokensAhead.{Ahead, ReadsValue, not_first, not_end, by_spelling, take_exact, take_kind, behind_step, ahead_length}
use Rattle.def_file_form.proofs.CompleteParts.{text_taken, text_first, text_length, name_taken, whole_taken, close_taken, close_first, IsClear, clear_number}
use Rattle.def_file_form.proofs.CompleteParts.{set_mention_taken, outcome_mention_taken}

clear_outcome : (m : OutcomeMention) (tokens rest : List Spelled) → IsOutcome m tokens rest → IsClear tokens
clear_outcome m tokens rest is = subst IsClear (sym is.number.spelling) (clear_number is.number.digits is.numbered)

-- an entry's word
clear_word : (b : ℕ) (bs : List ℕ) (rest : List Spelled) → nat_eq b 34 ≡ false → nat_eq b 123 ≡ false
    → IsClear (word (b ∷ bs) ∷ rest)
clear_word b bs rest no_text no_brace = record {
  no_text = not_first mark b (word (b ∷ bs)) bs rest refl no_text;
  no_brace = not_first open_byte b (word (b ∷ bs)) bs rest refl no_brace;
}

clear_entry : (kind : EntryKind) (r : Record) (tokens rest : List Spelled) → IsEntryAs kind r tokens rest
    → IsClear tokens
clear_entry Chance r tokens rest is = subst IsClear (sym is.head) (clear_word 99 [] is.headed refl refl)
clear_entry Personal r tokens rest is = subst IsClear (sym is.head) (clear_word 112 [] is.headed refl refl)
clear_entry Leaf r tokens rest is = subst IsClear (sym is.head) (clear_word 116 [] is.headed refl refl)

-- entries, or none, begin with neither a text nor a brace
pub clear_entries : (rs : List Record) (tokens : List Spelled) → AreEntries rs tokens → IsClear tokens
clear_entries [] tokens are = subst IsClear (sym are) (record { no_text = not_end mark; no_brace = not_end open_byte })
clear_entries (r ∷ rs) tokens are = clear_entry r.kind r tokens are.0 are.1

abbrev pub is_word_token : List ℕ → Spelled → Bool
is_word_token bytes s = is_kind kinds.Word s.kind && pointwise nat_eq s.bytes bytes

take_head : (bytes : List ℕ) (whole : List ℕ) (at : ℕ) (l : Lexeme)
    → (pointwise nat_eq bytes (codes "c") || (pointwise nat_eq bytes (codes "p") || pointwise nat_eq bytes (codes "t")))
    ≡ true
    → StepSpelled whole at l (word bytes) → token_where (begins_entry whole) whole at ≡ Ok l
take_head bytes whole at l passes step = by_spelling (λ s. is_word_token (codes "c") s || (is_word_token (codes "p") s || is_word_token (codes "t") s)) whole at
    l (word bytes) step passes

entry_as_taken : (kind : EntryKind) (whole : List ℕ) (at : ℕ) (r : Record) (tokens rest : List Spelled) → r.kind ≡ kind
    → IsEntryAs kind r tokens rest → IsClear rest → Ahead whole at tokens → ReadsValue whole (entry_at whole at) r rest
unfolding entry_at chance_entry_at personal_entry_at terminal_entry_at
entry_as_taken Chance whole at r tokens rest kind is clear ahead =
    let a : Ahead whole at (word (codes "c") ∷ is.headed) = subst (Ahead whole at) is.head ahead in
    let l : Lexeme = a.next.0 in
    let step : StepSpelled whole at l (word (codes "c")) = a.next.1 in
    let found = take_head (codes "c") whole at l refl step in
    let as_c : is_exact kinds.Word (codes "c") whole l ≡ true = ap (is_word_token (codes "c")) step.spelled in
    let name = text_taken whole l.end r.name is.headed is.named is.name (behind_step whole at (word (codes "c")) is.headed a) in
    let set = set_mention_taken Chance whole name.mid r.set is.named is.placed is.set (clear_outcome r.outcome is.placed rest is.outcome) name.ahead in
    let outcome = outcome_mention_taken whole set.mid r.outcome is.placed rest is.outcome clear set.ahead in
    let made : Record = record { kind = Chance; name = r.name; player = 0; set = r.set; outcome = r.outcome } in
    let same : made ≡ r = (λ i. record { kind = sym kind i; name = r.name; player = sym is.no_player i; set = r.set; outcome = r.outcome }) in
    record { mid = outcome.mid; ok = rw (found, as_c, name.ok, set.ok, outcome.ok) (ap (λ x. Ok (x, outcome.mid)) same); ahead = outcome.ahead }
entry_as_taken Personal whole at r tokens rest kind is clear ahead =
    let a : Ahead whole at (word (codes "p") ∷ is.headed) = subst (Ahead whole at) is.head ahead in
    let l : Lexeme = a.next.0 in
    let step : StepSpelled whole at l (word (codes "p")) = a.next.1 in
    let found = take_head (codes "p") whole at l refl step in
    let as_c : is_exact kinds.Word (codes "c") whole l ≡ false = ap (is_word_token (codes "c")) step.spelled in
    let as_p : is_exact kinds.Word (codes "p") whole l ≡ true = ap (is_word_token (codes "p")) step.spelled in
    let name = text_taken whole l.end r.name is.headed is.named is.name (behind_step whole at (word (codes "p")) is.headed a) in
    let player = whole_taken whole name.mid r.player is.named is.moved is.player name.ahead in
    let set = set_mention_taken Personal whole player.mid r.set is.moved is.placed is.set (clear_outcome r.outcome is.placed rest is.outcome) player.ahead in
    let outcome = outcome_mention_taken whole set.mid r.outcome is.placed rest is.outcome clear set.ahead in
    let made : Record = record { kind = Personal; name = r.name; player = r.player; set = r.set; outcome = r.outcome } in
    let same : made ≡ r = (λ i. record { kind = sym kind i; name = r.name; player = r.player; set = r.set; outcome = r.outcome }) in
    record {
      mid = outcome.mid;
      ok = rw (found, as_c, as_p, name.ok, player.ok, set.ok, outcome.ok) (ap (λ x. Ok (x, outcome.mid)) same);
      ahead = outcome.ahead;
    }
entry_as_taken Leaf whole at r tokens rest kind is clear ahead =
    let a : Ahead whole at (word (codes "t") ∷ is.headed) = subst (Ahead whole at) is.head ahead in
    let l : Lexeme = a.next.0 in
    let step : StepSpelled whole at l (word (codes "t")) = a.next.1 in
    let found = take_head (codes "t") whole at l refl step in
    let as_c : is_exact kinds.Word (codes "c") whole l ≡ false = ap (is_word_token (codes "c")) step.spelled in
    let as_p : is_exact kinds.Word (codes "p") whole l ≡ false = ap (is_word_token (codes "p")) step.spelled in
    let name = text_taken whole l.end r.name is.headed is.named is.name (behind_step whole at (word (codes "t")) is.headed a) in
    let outcome = outcome_mention_taken whole name.mid r.outcome is.named rest is.outcome clear name.ahead in
    let made : Record = record { kind = Leaf; name = r.name; player = 0; set = no_set_mention; outcome = r.outcome } in
    let same : made ≡ r = (λ i. record { kind = sym kind i; name = r.name; player = sym is.no_player i; set = sym is.no_set i; outcome = r.outcome }) in
    record { mid = outcome.mid; ok = rw (found, as_c, as_p, name.ok, outcome.ok) (ap (λ x. Ok (x, outcome.mid)) same); ahead = outcome.ahead }

-- where an entry comes, it is read, if no text and no brace stands behind it
pub entry_taken : (whole : List ℕ) (at : ℕ) (r : Record) (tokens rest : List Spelled) → IsEntry r tokens rest
    → IsClear rest → Ahead whole at tokens → ReadsValue whole (entry_at whole at) r rest
entry_taken whole at r tokens rest is clear ahead = entry_as_taken r.kind whole at r tokens rest refl is clear ahead

-- The prologue.

pub names_taken : (left : ℕ) (done more : List (List ℕ)) (whole : List ℕ) (at : ℕ) (tokens rest : List Spelled)
    → AreNames more tokens rest → length tokens ≤ left → Ahead whole at tokens
    → ReadsValue whole (names_from left done whole at) (done ++ more) rest
unfolding names_from
names_taken zero done [] whole at tokens rest are fuel ahead = absurd (omega (arith, ap length are, fuel))
names_taken zero done (a ∷ more) whole at tokens rest are fuel ahead = absurd (omega (arith, text_length a tokens are.0 are.1, fuel))
names_taken (suc left) done [] whole at tokens rest are fuel ahead =
    let closes = close_first whole at tokens rest are ahead in
    let c = close_taken whole at done tokens rest are ahead in
    record { mid = c.mid; ok = rw (closes, c.ok) (ap (λ ns. Ok (ns, c.mid)) (sym (append-nil done))); ahead = c.ahead }
names_taken (suc left) done (a ∷ more) whole at tokens rest are fuel ahead =
    let open_yet : next_is close_byte whole at ≡ false = text_first close_byte whole at a tokens are.0 are.1 ahead in
    let here = text_taken whole at a tokens are.0 are.1 ahead in
    let later = names_taken left (done ++ a ∷ []) more whole here.mid are.0 rest are.2 (omega (arith, text_length a tokens are.0 are.1, fuel)) here.ahead in
    record { mid = later.mid; ok = rw (open_yet, here.ok) (later.ok ∙ ap (λ ns. Ok (ns, later.mid)) (append_assoc done (a ∷ []) more)); ahead = later.ahead }

-- where the prologue comes, it is read, if no text and no brace stands behind it
pub prologue_taken : (whole : List ℕ) (at : ℕ) (p : Prologue) (tokens rest : List Spelled) → IsPrologue p tokens rest
    → IsClear rest → Ahead whole at tokens → ReadsValue whole (prologue_at whole at) p rest
unfolding prologue_at head_at behind_head
prologue_taken whole at p tokens rest is clear ahead =
    let h = is.head in
    let a0 : Ahead whole at (word (codes "EFG") ∷ number (codes "2") ∷ h.numbers ∷ h.headed) = subst (Ahead whole at) h.head ahead in
    let l0 : Lexeme = a0.next.0 in
    let e0 = take_exact whole at l0 kinds.Word (codes "EFG") refl a0.next.1 in
    let a1 : Ahead whole l0.end (number (codes "2") ∷ h.numbers ∷ h.headed) = behind_step whole at (word (codes "EFG")) _ a0 in
    let l1 : Lexeme = a1.next.0 in
    let e1 = take_exact whole l0.end l1 kinds.Number (codes "2") refl a1.next.1 in
    let a2 : Ahead whole l1.end (h.numbers ∷ h.headed) = behind_step whole l0.end (number (codes "2")) _ a1 in
    let l2 : Lexeme = a2.next.0 in
    let test = λ (s : Spelled). is_word_token (codes "R") s || is_word_token (codes "D") s in
    let passes : test h.numbers ≡ true = ⊎_elim (λ same. ap test same) (λ same. ap test same) h.rational in
    let e2 : token_where (is_numbers whole) whole l1.end ≡ Ok l2 = by_spelling test whole l1.end l2 h.numbers a2.next.1 passes in
    let title = text_taken whole l2.end p.title h.headed h.titled h.title_text (behind_step whole l1.end h.numbers h.headed a2) in
    let a4 : Ahead whole title.mid (open_brace ∷ h.opened) = subst (Ahead whole title.mid) h.brace title.ahead in
    let l4 : Lexeme = a4.next.0 in
    let e4 = take_kind whole title.mid l4 kinds.Open _ refl a4.next.1 in
    let inner = behind_step whole title.mid open_brace h.opened a4 in
    let names = names_taken (length whole) [] (p.one ∷ p.two ∷ []) whole l4.end h.opened is.behind h.name_texts (ahead_length whole l4.end h.opened inner)
    inner in
    let comment = name_taken whole names.mid is.comment is.behind rest is.remark clear.no_text names.ahead in
    record {
      mid = comment.mid;
      ok = rw (e0, e1, e2, title.ok, e4, names.ok, comment.ok) (ap (λ c. Ok (record { title = p.title; one = p.one; two = p.two; comment = c }, comment.mid))
          (sym is.text));
      ahead = comment.ahead;
    }
