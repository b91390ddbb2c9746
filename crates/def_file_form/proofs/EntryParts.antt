-- Entries.
use Rattle.std.proofs.Common.{◌≡◌, ◌≢◌, ℕ, ◌≤◌, Bool, true, false, cond, ◌||◌, List, [], ◌∷◌, length, Option, Some, None, Result, sym, refl, ap, ◌∙◌, subst}
use Rattle.std.proofs.Common.{arith}
use Rattle.std.specs.Prelude.{codes}
use Rattle.def_file_tokens.specs.declared.Token.TheVariants as kinds
use Rattle.def_file_tokens.specs.declared.Lexeme.{Lexeme}
use Rattle.def_file.specs.declared.FileFault.{FileFault}
use Rattle.def_file.specs.declared.EntryKind.{EntryKind}
use Rattle.def_file.specs.declared.EntryKind.TheVariants.{Chance, Personal, Leaf}
use Rattle.def_file.specs.Content.{Record, no_set_mention}
use Rattle.def_file.specs.Reading.{is_exact, text_at, name_at, whole_at, set_number_at, actions_at, payoffs_at, set_mention_at, outcome_mention_at}
use Rattle.def_file.specs.Reading.{chance_entry_at, personal_entry_at, terminal_entry_at, entry_behind, entry_at}
use Rattle.def_file_form.specs.Form.{Spelled, word, number, open_brace, IsText, IsName, IsWholeNumber, IsActionList, IsPayoffList, IsSet, IsOutcome}
use Rattle.def_file_form.specs.Form.{IsChanceEntry, IsPersonalEntry, IsTerminalEntry, IsEntryAs, IsEntry, spelled_at}
use Rattle.def_file_form.proofs.TokenByToken.{exact_here}
use Rattle.def_file_form.proofs.Languages.{Alike, After, NextIs}
use Rattle.def_file_form.proofs.SuccessiveReadings.{HasWord, Goes, goes_then, goes_with, goes_alike, goes_less, FirstTaken, IsTest, BeginsPassing, goes_token}
use Rattle.def_file_form.proofs.OneTokenParts.{Part, NoFirst, each_takes_one, text_word, text_goes, name_goes}
use Rattle.def_file_form.proofs.Numerals.{IsSetNumber, set_number_goes, set_number_word, whole_goes, whole_word}
use Rattle.def_file_form.proofs.Lists.{action_list_goes}
use Rattle.def_file_form.proofs.Payoffs.{payoff_list_goes}
use Rattle.def_file_form.proofs.CompleteEntries.{is_word_token}

-- what may follow an optional part: it has a word, and begins with no text and no brace
pub record MayFollow (T : List Spelled → Type 0) : Type 0 where
  pub word : HasWord T
  pub no_text : (s : Spelled) (ss : List Spelled) → T (s ∷ ss) → s.kind ≢ kinds.Text
  pub no_open : (s : Spelled) (ss : List Spelled) → T (s ∷ ss) → s.kind ≢ kinds.Open

-- Sets.

actions_follow : (kind : EntryKind) (T : List Spelled → Type 0) → MayFollow T
    → NoFirst kinds.Text (Part (IsActionList kind) T)
actions_follow kind T f = record { word = (f.word.0, (None, f.word.0, refl, f.word.1)); apart = λ s ss l. apart s ss l.0 l.1 l.2 l.3 }
  where
    apart : (s : Spelled) (ss : List Spelled) (v : Option _) (rest : List Spelled) → IsActionList kind v (s ∷ ss) rest
        → T rest → s.kind ≢ kinds.Text
    apart s ss None rest is there same = f.no_text s ss (subst T (sym is) there) same
    apart s ss (Some actions) rest is there same =
        let first : s ≡ open_brace = let e = is.1 in cc in
        let clash : kinds.Text ≡ kinds.Open = sym same ∙ ap (λ (u : Spelled). u.kind) first in cc

abbrev SetIn : EntryKind → (List Spelled → Type 0) → List Spelled → Type 0
SetIn kind T = Part IsSetNumber (Part IsName (Part (IsActionList kind) T))

set_alike : (kind : EntryKind) (T : List Spelled → Type 0) → Alike (Part (IsSet kind) T) (SetIn kind T)
set_alike kind T = record {
  to = λ ss l. let is = l.2 in (l.0.number, is.numbered, (is.number, is.from_one), (l.0.name, is.named, is.name, (l.0.actions, l.1, is.actions, l.3)));
  back = λ ss l.
      let a = l.3 in
      let b = a.3 in (
        record { number = l.0; name = a.0; actions = b.0 },
        b.1,
        record {
          numbered = l.1;
          named = a.1;
          number = l.2.0;
          from_one = l.2.1;
          name = a.2;
          actions = b.2;
        },
        b.3,
      );
}

set_goes : (kind : EntryKind) (whole : List ℕ) (at : ℕ) → at ≤ length whole
    → Goes 1 MayFollow (Part (IsSet kind)) whole at (set_mention_at kind whole at)
unfolding set_mention_at
set_goes kind whole at within =
    goes_alike 1 MayFollow MayFollow (SetIn kind) (Part (IsSet kind)) whole at _ (λ T f. f) (λ T f. set_alike kind T)
    (goes_then 1 HasWord MayFollow (Part IsSetNumber) (λ T. Part IsName (Part (IsActionList kind) T)) whole at (set_number_at whole at) _
    (set_number_goes whole at within)
    (λ T f. let w = (actions_follow kind T f).word in (w.0, (None, w.0, refl, w.1)))
    (λ number e inner grown.
    goes_then 0 (NoFirst kinds.Text) MayFollow (Part IsName) (Part (IsActionList kind)) whole number.1 (name_at whole number.1) _
    (name_goes whole number.1 inner) (actions_follow kind)
    (λ name e inner grown.
    goes_alike 0 (NoFirst kinds.Open) MayFollow (Part (IsActionList kind)) (Part (IsActionList kind)) whole name.1 _
    (λ T f. record { word = f.word; apart = f.no_open }) (λ T f. record { to = λ ss l. l; back = λ ss l. l })
    (goes_with 0 (NoFirst kinds.Open) (Part (IsActionList kind)) whole name.1 (actions_at kind whole name.1)
    (λ actions. record { number = number.0; name = name.0; actions = actions.0 }) (action_list_goes kind whole name.1 inner)))))

-- Outcomes.

payoffs_follow : (T : List Spelled → Type 0) → MayFollow T → NoFirst kinds.Text (Part IsPayoffList T)
payoffs_follow T f = record { word = (f.word.0, (None, f.word.0, refl, f.word.1)); apart = λ s ss l. apart s ss l.0 l.1 l.2 l.3 }
  where
    apart : (s : Spelled) (ss : List Spelled) (v : Option _) (rest : List Spelled) → IsPayoffList v (s ∷ ss) rest
        → T rest → s.kind ≢ kinds.Text
    apart s ss None rest is there same = f.no_text s ss (subst T (sym is) there) same
    apart s ss (Some payoffs) rest is there same =
        let first : s ≡ open_brace = let e = is.1 in cc in
        let clash : kinds.Text ≡ kinds.Open = sym same ∙ ap (λ (u : Spelled). u.kind) first in cc

abbrev OutcomeIn : (List Spelled → Type 0) → List Spelled → Type 0
OutcomeIn T = Part IsWholeNumber (Part IsName (Part IsPayoffList T))

outcome_alike : (T : List Spelled → Type 0) → Alike (Part IsOutcome T) (OutcomeIn T)
outcome_alike T = record {
  to = λ ss l. let is = l.2 in (l.0.number, is.numbered, is.number, (l.0.name, is.named, is.name, (l.0.payoffs, l.1, is.payoffs, l.3)));
  back = λ ss l.
      let a = l.3 in
      let b = a.3 in
      (record { number = l.0; name = a.0; payoffs = b.0 }, b.1, record { numbered = l.1; named = a.1; number = l.2; name = a.2; payoffs = b.2 }, b.3);
}

name_word : (T : List Spelled → Type 0) → MayFollow T → HasWord (Part IsName (Part IsPayoffList T))
name_word T f = let w = (payoffs_follow T f).word in (w.0, (None, w.0, refl, w.1))

outcome_goes : (whole : List ℕ) (at : ℕ) → at ≤ length whole
    → Goes 1 MayFollow (Part IsOutcome) whole at (outcome_mention_at whole at)
unfolding outcome_mention_at
outcome_goes whole at within =
    goes_alike 1 MayFollow MayFollow OutcomeIn (Part IsOutcome) whole at _ (λ T f. f) (λ T f. outcome_alike T)
    (goes_then 1 HasWord MayFollow (Part IsWholeNumber) (λ T. Part IsName (Part IsPayoffList T)) whole at (whole_at whole at) _ (whole_goes whole at within)
    name_word
    (λ number e inner grown.
    goes_then 0 (NoFirst kinds.Text) MayFollow (Part IsName) (Part IsPayoffList) whole number.1 (name_at whole number.1) _ (name_goes whole number.1 inner)
    payoffs_follow
    (λ name e inner grown.
    goes_alike 0 (NoFirst kinds.Open) MayFollow (Part IsPayoffList) (Part IsPayoffList) whole name.1 _ (λ T f. record { word = f.word; apart = f.no_open })
    (λ T f. record { to = λ ss l. l; back = λ ss l. l })
    (goes_with 0 (NoFirst kinds.Open) (Part IsPayoffList) whole name.1 (payoffs_at whole name.1)
    (λ payoffs. record { number = number.0; name = name.0; payoffs = payoffs.0 }) (payoff_list_goes whole name.1 inner)))))

-- a number comes first
outcome_follow : (T : List Spelled → Type 0) → MayFollow T → MayFollow (Part IsOutcome T)
outcome_follow T f = record {
  word = let w = whole_word (Part IsName (Part IsPayoffList T)) (name_word T f) in (w.0, (outcome_alike T).back w.0 w.1);
  no_text = λ s ss l same. let clash : kinds.Text ≡ kinds.Number = sym same ∙ first s ss l in cc;
  no_open = λ s ss l same. let clash : kinds.Open ≡ kinds.Number = sym same ∙ first s ss l in cc;
}
  where
    first : (s : Spelled) (ss : List Spelled) → Part IsOutcome T (s ∷ ss) → s.kind ≡ kinds.Number
    first s ss l =
        let n = l.2.number in
        let same : s ≡ number n.digits = let e = n.spelling in cc in
        ap (λ (u : Spelled). u.kind) same

set_word : (kind : EntryKind) (T : List Spelled → Type 0) → MayFollow T → HasWord (Part (IsSet kind) T)
set_word kind T f =
    let w = (actions_follow kind T f).word in
    let n = set_number_word (Part IsName (Part (IsActionList kind) T)) (w.0, (None, w.0, refl, w.1)) in
    (n.0, (set_alike kind T).back n.0 n.1)

-- Entries behind their word.

abbrev ChanceIn : (List Spelled → Type 0) → List Spelled → Type 0
ChanceIn T = Part IsText (Part (IsSet Chance) (Part IsOutcome T))

abbrev PersonalIn : (List Spelled → Type 0) → List Spelled → Type 0
PersonalIn T = Part IsText (Part IsWholeNumber (Part (IsSet Personal) (Part IsOutcome T)))

abbrev TerminalIn : (List Spelled → Type 0) → List Spelled → Type 0
TerminalIn T = Part IsText (Part IsOutcome T)

chance_entry_goes : (whole : List ℕ) (at : ℕ) → at ≤ length whole
    → Goes 1 MayFollow ChanceIn whole at (chance_entry_at whole at)
unfolding chance_entry_at
chance_entry_goes whole at within =
    goes_then 1 HasWord MayFollow (Part IsText) (λ T. Part (IsSet Chance) (Part IsOutcome T)) whole at (text_at whole at) _ (text_goes whole at within)
    (λ T f. set_word Chance (Part IsOutcome T) (outcome_follow T f))
    (λ name e inner grown.
    goes_less 1 0 MayFollow (λ T. Part (IsSet Chance) (Part IsOutcome T)) whole name.1 _ (omega arith)
    (goes_then 1 MayFollow MayFollow (Part (IsSet Chance)) (Part IsOutcome) whole name.1 (set_mention_at Chance whole name.1) _
    (set_goes Chance whole name.1 inner) outcome_follow
    (λ set e inner grown.
    goes_less 1 0 MayFollow (Part IsOutcome) whole set.1 _ (omega arith)
    (goes_with 1 MayFollow (Part IsOutcome) whole set.1 (outcome_mention_at whole set.1)
    (λ outcome. record { kind = Chance; name = name.0; player = 0; set = set.0; outcome = outcome.0 }) (outcome_goes whole set.1 inner)))))

personal_entry_goes : (whole : List ℕ) (at : ℕ) → at ≤ length whole
    → Goes 1 MayFollow PersonalIn whole at (personal_entry_at whole at)
unfolding personal_entry_at
personal_entry_goes whole at within =
    goes_then 1 HasWord MayFollow (Part IsText) (λ T. Part IsWholeNumber (Part (IsSet Personal) (Part IsOutcome T))) whole at (text_at whole at) _
    (text_goes whole at within) (λ T f. whole_word (Part (IsSet Personal) (Part IsOutcome T)) (set_word Personal (Part IsOutcome T) (outcome_follow T f)))
    (λ name e inner grown.
    goes_less 1 0 MayFollow (λ T. Part IsWholeNumber (Part (IsSet Personal) (Part IsOutcome T))) whole name.1 _ (omega arith)
    (goes_then 1 HasWord MayFollow (Part IsWholeNumber) (λ T. Part (IsSet Personal) (Part IsOutcome T)) whole name.1 (whole_at whole name.1) _
    (whole_goes whole name.1 inner) (λ T f. set_word Personal (Part IsOutcome T) (outcome_follow T f))
    (λ player e inner grown.
    goes_less 1 0 MayFollow (λ T. Part (IsSet Personal) (Part IsOutcome T)) whole player.1 _ (omega arith)
    (goes_then 1 MayFollow MayFollow (Part (IsSet Personal)) (Part IsOutcome) whole player.1 (set_mention_at Personal whole player.1) _
    (set_goes Personal whole player.1 inner) outcome_follow
    (λ set e inner grown.
    goes_less 1 0 MayFollow (Part IsOutcome) whole set.1 _ (omega arith)
    (goes_with 1 MayFollow (Part IsOutcome) whole set.1 (outcome_mention_at whole set.1)
    (λ outcome. record { kind = Personal; name = name.0; player = player.0; set = set.0; outcome = outcome.0 }) (outcome_goes whole set.1 inner)))))))

terminal_entry_goes : (whole : List ℕ) (at : ℕ) → at ≤ length whole
    → Goes 1 MayFollow TerminalIn whole at (terminal_entry_at whole at)
unfolding terminal_entry_at
terminal_entry_goes whole at within =
    goes_then 1 HasWord MayFollow (Part IsText) (Part IsOutcome) whole at (text_at whole at) _ (text_goes whole at within) (λ T f. (outcome_follow T f).word)
    (λ name e inner grown.
    goes_less 1 0 MayFollow (Part IsOutcome) whole name.1 _ (omega arith)
    (goes_with 1 MayFollow (Part IsOutcome) whole name.1 (outcome_mention_at whole name.1)
    (λ outcome. record { kind = Leaf; name = name.0; player = 0; set = no_set_mention; outcome = outcome.0 }) (outcome_goes whole name.1 inner)))

-- Entries.

chance_to : (T : List Spelled → Type 0) (r : Record) (ss rest : List Spelled)
    → IsChanceEntry r (word (codes "c") ∷ ss) rest → T rest → ChanceIn T ss
chance_to T r ss rest is there =
    let same : is.headed ≡ ss = let e = is.head in cc in
    (r.name, is.named, subst (λ tokens. IsText r.name tokens is.named) same is.name, (r.set, is.placed, is.set, (r.outcome, rest, is.outcome, there)))

personal_to : (T : List Spelled → Type 0) (r : Record) (ss rest : List Spelled)
    → IsPersonalEntry r (word (codes "p") ∷ ss) rest → T rest → PersonalIn T ss
personal_to T r ss rest is there =
    let same : is.headed ≡ ss = let e = is.head in cc in (
      r.name,
      is.named,
      subst (λ tokens. IsText r.name tokens is.named) same is.name,
      (r.player, is.moved, is.player, (r.set, is.placed, is.set, (r.outcome, rest, is.outcome, there))),
    )

terminal_to : (T : List Spelled → Type 0) (r : Record) (ss rest : List Spelled)
    → IsTerminalEntry r (word (codes "t") ∷ ss) rest → T rest → TerminalIn T ss
terminal_to T r ss rest is there =
    let same : is.headed ≡ ss = let e = is.head in cc in
    (r.name, is.named, subst (λ tokens. IsText r.name tokens is.named) same is.name, (r.outcome, rest, is.outcome, there))

-- two words of different bytes
words_apart : (a b : ℕ) (ss tt : List Spelled) → (a ≡ b → ⊥) → word (a ∷ []) ∷ ss ≡ word (b ∷ []) ∷ tt → ⊥
words_apart a b ss tt apart e =
    let first : word (a ∷ []) ≡ word (b ∷ []) = cc in
    let bytes : a ∷ [] ≡ b ∷ [] = ap (λ (s : Spelled). s.bytes) first in
    apart cc

c_after : (T : List Spelled → Type 0) → Alike (After (word (codes "c")) (Part IsEntry T)) (ChanceIn T)
c_after T = record {
  to = λ ss l. to ss l.0 l.1 l.0.kind refl l.2 l.3;
  back = λ ss l.
      let a = l.3 in
      let b = a.3 in
      let r : Record = record { kind = Chance; name = l.0; player = 0; set = a.0; outcome = b.0 } in
      (r, b.1, record { headed = ss; named = l.1; placed = a.1; head = refl; name = l.2; no_player = refl; set = a.2; outcome = b.2 }, b.3);
}
  where
    to : (ss : List Spelled) (r : Record) (rest : List Spelled) (kind : EntryKind) → r.kind ≡ kind
        → IsEntryAs kind r (word (codes "c") ∷ ss) rest → T rest → ChanceIn T ss
    to ss r rest Chance is e there = chance_to T r ss rest e there
    to ss r rest Personal is e there = absurd (words_apart 99 112 ss e.headed (λ same. omega (arith, same)) e.head)
    to ss r rest Leaf is e there = absurd (words_apart 99 116 ss e.headed (λ same. omega (arith, same)) e.head)

p_after : (T : List Spelled → Type 0) → Alike (After (word (codes "p")) (Part IsEntry T)) (PersonalIn T)
p_after T = record {
  to = λ ss l. to ss l.0 l.1 l.0.kind refl l.2 l.3;
  back = λ ss l.
      let m = l.3 in
      let a = m.3 in
      let b = a.3 in
      let r : Record = record { kind = Personal; name = l.0; player = m.0; set = a.0; outcome = b.0 } in
      (r, b.1, record { headed = ss; named = l.1; moved = m.1; placed = a.1; head = refl; name = l.2; player = m.2; set = a.2; outcome = b.2 }, b.3);
}
  where
    to : (ss : List Spelled) (r : Record) (rest : List Spelled) (kind : EntryKind) → r.kind ≡ kind
        → IsEntryAs kind r (word (codes "p") ∷ ss) rest → T rest → PersonalIn T ss
    to ss r rest Chance is e there = absurd (words_apart 112 99 ss e.headed (λ same. omega (arith, same)) e.head)
    to ss r rest Personal is e there = personal_to T r ss rest e there
    to ss r rest Leaf is e there = absurd (words_apart 112 116 ss e.headed (λ same. omega (arith, same)) e.head)

t_after : (T : List Spelled → Type 0) → Alike (After (word (codes "t")) (Part IsEntry T)) (TerminalIn T)
t_after T = record {
  to = λ ss l. to ss l.0 l.1 l.0.kind refl l.2 l.3;
  back = λ ss l.
      let b = l.3 in
      let r : Record = record { kind = Leaf; name = l.0; player = 0; set = no_set_mention; outcome = b.0 } in
      (r, b.1, record { headed = ss; named = l.1; head = refl; name = l.2; no_player = refl; no_set = refl; outcome = b.2 }, b.3);
}
  where
    to : (ss : List Spelled) (r : Record) (rest : List Spelled) (kind : EntryKind) → r.kind ≡ kind
        → IsEntryAs kind r (word (codes "t") ∷ ss) rest → T rest → TerminalIn T ss
    to ss r rest Chance is e there = absurd (words_apart 116 99 ss e.headed (λ same. omega (arith, same)) e.head)
    to ss r rest Personal is e there = absurd (words_apart 116 112 ss e.headed (λ same. omega (arith, same)) e.head)
    to ss r rest Leaf is e there = terminal_to T r ss rest e there

abbrev head_test : Spelled → Bool
head_test s = is_word_token (codes "c") s || (is_word_token (codes "p") s || is_word_token (codes "t") s)

head_is_test : IsTest head_test
head_is_test = record {
  not_end = λ s is. rw is refl;
  numbers = λ s is fails. (codes "1", refl, each_takes_one);
}

head_begins : BeginsPassing MayFollow (Part IsEntry) head_test
head_begins = record {
  word = λ T f. let w = text_word (Part IsOutcome T) (outcome_follow T f).word in (word (codes "t") ∷ w.0, (t_after T).back w.0 w.1);
  first = λ T ss f l. first T ss l.0 l.1 l.0.kind refl l.2;
}
  where
    first : (T : List Spelled → Type 0) (ss : List Spelled) (r : Record) (rest : List Spelled) (kind : EntryKind)
        → r.kind ≡ kind → IsEntryAs kind r ss rest → FirstTaken head_test ss
    first T ss r rest Chance is e = subst (FirstTaken head_test) (sym e.head) refl
    first T ss r rest Personal is e = subst (FirstTaken head_test) (sym e.head) refl
    first T ss r rest Leaf is e = subst (FirstTaken head_test) (sym e.head) refl

-- reading an entry goes along its tokens, by one byte at least, or is stuck in them
pub entry_goes : (whole : List ℕ) (at : ℕ) → at ≤ length whole
    → Goes 1 MayFollow (Part IsEntry) whole at (entry_at whole at)
unfolding entry_at
entry_goes whole at within =
    goes_token MayFollow (Part IsEntry) head_test head_is_test head_begins whole at (entry_behind whole) within
    (λ t step passes inner. chosen t step inner (is_exact kinds.Word (codes "c") whole t) (is_exact kinds.Word (codes "p") whole t) refl refl passes)
  where
    behind : (t : Lexeme) → NextIs whole at t → t.end ≤ length whole → (bytes : List ℕ)
        → is_exact kinds.Word bytes whole t ≡ true → (In : (List Spelled → Type 0) → List Spelled → Type 0)
        → ((T : List Spelled → Type 0) → Alike (After (word bytes) (Part IsEntry T)) (In T))
        → (r : Result (Record × ℕ) FileFault) → Goes 1 MayFollow In whole t.end r
        → Goes 0 MayFollow (λ T. After (spelled_at whole t) (Part IsEntry T)) whole t.end r
    behind t step inner bytes is In alike r go =
        let s = exact_here whole at within t kinds.Word bytes (λ clash. cc) step.next is in
        subst (λ u. Goes 0 MayFollow (λ T. After u (Part IsEntry T)) whole t.end r) (sym s.spelled)
        (goes_alike 0 MayFollow MayFollow In (λ T. After (word bytes) (Part IsEntry T)) whole t.end r (λ T f. f) (λ T f. alike T)
        (goes_less 1 0 MayFollow In whole t.end r (omega arith) go))

    chosen : (t : Lexeme) → NextIs whole at t → t.end ≤ length whole → (b c : Bool)
        → is_exact kinds.Word (codes "c") whole t ≡ b → is_exact kinds.Word (codes "p") whole t ≡ c
        → (b || (c || is_exact kinds.Word (codes "t") whole t)) ≡ true
        → Goes 0 MayFollow (λ T. After (spelled_at whole t) (Part IsEntry T)) whole t.end
        (cond b (chance_entry_at whole t.end) (cond c (personal_entry_at whole t.end) (terminal_entry_at whole t.end)))
    chosen t step inner true c is is2 passes = behind t step inner (codes "c") is ChanceIn c_after (chance_entry_at whole t.end)
        (chance_entry_goes whole t.end inner)
    chosen t step inner false true is is2 passes = behind t step inner (codes "p") is2 PersonalIn p_after (personal_entry_at whole t.end)
        (personal_entry_goes whole t.end inner)
    chosen t step inner false false is is2 passes = behind t step inner (codes "t") passes TerminalIn t_after (terminal_entry_at whole t.end)
        (terminal_entry_goes whole t.end inner)
