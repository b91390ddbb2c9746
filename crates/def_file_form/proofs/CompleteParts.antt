-- What is in the form is read: each reading takes its tokens.
use Rattle.std.proofs.Common.{◌≡◌, ℕ, zero, suc, ◌<◌, ◌≤◌, true, false, eqb, List, [], ◌∷◌, ◌++◌, length, Option, Some, None, Result, Ok, sym, refl, ap, ◌∙◌}
use Rattle.std.proofs.Common.{subst, arith, ⊎_elim, append_assoc, append-nil}
use Rattle.std.proofs.lemmas.Bool.{le-leb}
use Rattle.def_file_tokens.specs.declared.Token.TheVariants as kinds
use Rattle.def_file_tokens.specs.declared.Lexeme.{Lexeme}
use Rattle.def_file_tokens.specs.Texts.{unescaped}
use Rattle.def_file_tokens.proofs.TextLemmas.{slice_range-inner}
use Rattle.def_fraction.specs.declared.fault.NumberFault.{NumberFault}
use Rattle.def_fraction.specs.Digits.{number_of}
use Rattle.def_fraction.specs.Fraction.{Fraction, most}
use Rattle.def_fraction.specs.Reading.{read_as_literal, read_as_whole}
use Rattle.def_fraction.proofs.JudgeLemmas.{read_as_literal-judged}
use Rattle.def_file.specs.declared.EntryKind.{EntryKind}
use Rattle.def_file.specs.declared.EntryKind.TheVariants.{Chance, Personal, Leaf}
use Rattle.def_file.specs.Content.{Action, SetMention, OutcomeMention}
use Rattle.def_file.specs.Reading.{bytes_at, next_is, mark, open_byte, close_byte, comma_byte, token_text, text_at, name_at, number_at, literal_at, whole_at}
use Rattle.def_file.specs.Reading.{from_one, read_as_set, set_number_at, chance_at, action_at, close_at, actions_from, actions_at, payoff_at, payoffs_from}
use Rattle.def_file.specs.Reading.{payoffs_at, set_mention_at, outcome_mention_at}
use Rattle.def_file_form.specs.Form.{Spelled, number, text, open_brace, close_brace, comma, IsText, IsName, IsWholeNumber, IsFraction, IsChance, AreActionsUpTo}
use Rattle.def_file_form.specs.Form.{IsActionList, IsPayoffList, IsSet, IsOutcome}
use Rattle.def_file_form.proofs.TokenByToken.{StepSpelled, Then, IsOne}
use Rattle.def_file_form.proofs.SoundParts.{IsAction, IsPayoff, ArePayoffsBehind}
use Rattle.def_file_form.proofs.TokensAhead.{Ahead, ReadsValue, NotNextByte, not_number, not_first, next_is_step, is_first, take_kind, behind_step}
use Rattle.def_file_form.proofs.TokensAhead.{ahead_length}

-- what a text token stands for
text_is : (whole : List ℕ) (at : ℕ) (l : Lexeme) (inside : List ℕ) → StepSpelled whole at l (text inside)
    → token_text whole l ≡ unescaped inside
text_is whole at l inside step = ap unescaped (slice_range-inner whole l.start l.end inside step.within (ap (λ (s : Spelled). s.bytes) step.spelled)).1

-- where a text comes, it is read, as the bytes that it stands for
pub text_taken : (whole : List ℕ) (at : ℕ) (v : List ℕ) (tokens rest : List Spelled) → IsText v tokens rest
    → Ahead whole at tokens → ReadsValue whole (text_at whole at) v rest
unfolding text_at
text_taken whole at v tokens rest is ahead =
    let a : Ahead whole at (text is.inside ∷ rest) = subst (Ahead whole at) is.spelling ahead in
    let l : Lexeme = a.next.0 in
    let step : StepSpelled whole at l (text is.inside) = a.next.1 in
    let found = take_kind whole at l kinds.Text _ refl step in
    record {
      mid = l.end;
      ok = rw found (ap (λ b. Ok (b, l.end)) (text_is whole at l is.inside step ∙ sym is.stands_for));
      ahead = behind_step whole at (text is.inside) rest a;
    }

-- a text begins with a quotation mark
pub text_first : (byte : ℕ) (whole : List ℕ) (at : ℕ) (v : List ℕ) (tokens rest : List Spelled) → IsText v tokens rest
    → Ahead whole at tokens → next_is byte whole at ≡ eqb 34 byte
text_first byte whole at v tokens rest is ahead =
    let a : Ahead whole at (text is.inside ∷ rest) = subst (Ahead whole at) is.spelling ahead in
    next_is_step byte whole at a.next.0 (text is.inside) 34 (is.inside ++ 34 ∷ []) a.next.1 refl

-- where a name comes, or none, it is read so, if no text stands behind it
pub name_taken : (whole : List ℕ) (at : ℕ) (v : Option (List ℕ)) (tokens rest : List Spelled) → IsName v tokens rest
    → NotNextByte mark rest → Ahead whole at tokens → ReadsValue whole (name_at whole at) v rest
unfolding name_at
name_taken whole at None tokens rest is behind ahead =
    let a : Ahead whole at rest = subst (Ahead whole at) is ahead in
    let none : next_is mark whole at ≡ false = behind.here whole at a in
    record { mid = at; ok = rw none refl; ahead = a }
name_taken whole at (Some b) tokens rest is behind ahead =
    let t = text_taken whole at b tokens rest is ahead in
    let some : next_is mark whole at ≡ true = text_first mark whole at b tokens rest is ahead in
    record { mid = t.mid; ok = rw (some, t.ok) refl; ahead = t.ahead }

-- Numbers.

pub number_taken : {A : Type 0} (as_read : List ℕ → Result A NumberFault) (whole : List ℕ) (at : ℕ) (bytes : List ℕ)
    (v : A) (tokens rest : List Spelled)
    → tokens ≡ number bytes ∷ rest → as_read bytes ≡ Ok v → Ahead whole at tokens
    → ReadsValue whole (number_at as_read whole at) v rest
number_taken as_read whole at bytes v tokens rest is ok ahead =
    let a : Ahead whole at (number bytes ∷ rest) = subst (Ahead whole at) is ahead in
    let l : Lexeme = a.next.0 in
    let step : StepSpelled whole at l (number bytes) = a.next.1 in
    let found = take_kind whole at l kinds.Number bytes refl step in
    let same : as_read (bytes_at whole l) ≡ Ok v = ap as_read (ap (λ (s : Spelled). s.bytes) step.spelled) ∙ ok in
    record { mid = l.end; ok = rw (found, same) refl; ahead = behind_step whole at (number bytes) rest a }

pub literal_taken : (whole : List ℕ) (at : ℕ) (v : Fraction) (tokens rest : List Spelled) → IsFraction v tokens rest
    → Ahead whole at tokens → ReadsValue whole (literal_at whole at) v rest
unfolding literal_at
literal_taken whole at v tokens rest is ahead = number_taken read_as_literal whole at is.bytes v tokens rest is.spelling
    (((read_as_literal-judged is.bytes).value v).1 is.literal) ahead

is_whole : (n : ℕ) (tokens rest : List Spelled) → (is : IsWholeNumber n tokens rest) → read_as_whole is.digits ≡ Ok n
unfolding read_as_whole
is_whole n tokens rest is =
    let limit = le-leb (number_of is.digits) most (subst (λ k. k ≤ most) (sym is.value) is.limit) in
    rw (is.numeral, limit) (ap Ok is.value)

-- where a whole number within the limit comes, it is read
pub whole_taken : (whole : List ℕ) (at v : ℕ) (tokens rest : List Spelled) → IsWholeNumber v tokens rest
    → Ahead whole at tokens → ReadsValue whole (whole_at whole at) v rest
unfolding whole_at
whole_taken whole at v tokens rest is ahead = number_taken read_as_whole whole at is.digits v tokens rest is.spelling (is_whole v tokens rest is) ahead

one_from : (n : ℕ) → 1 ≤ n → from_one (Ok n) ≡ Ok n
one_from zero some = absurd (omega (arith, some))
one_from (suc n) some = refl

is_set_number : (n : ℕ) (tokens rest : List Spelled) → (is : IsWholeNumber n tokens rest) → 1 ≤ n
    → read_as_set is.digits ≡ Ok n
unfolding read_as_set
is_set_number n tokens rest is some = ap from_one (is_whole n tokens rest is) ∙ one_from n some

pub set_number_taken : (whole : List ℕ) (at v : ℕ) (tokens rest : List Spelled) → IsWholeNumber v tokens rest → 1 ≤ v
    → Ahead whole at tokens → ReadsValue whole (set_number_at whole at) v rest
unfolding set_number_at
set_number_taken whole at v tokens rest is some ahead = number_taken read_as_set whole at is.digits v tokens rest is.spelling
    (is_set_number v tokens rest is some) ahead

pub chance_taken : (kind : EntryKind) (whole : List ℕ) (at : ℕ) (v : Fraction) (tokens rest : List Spelled)
    → IsChance kind v tokens rest → Ahead whole at tokens → ReadsValue whole (chance_at kind whole at) v rest
chance_taken Chance whole at v tokens rest is ahead = literal_taken whole at v tokens rest is ahead
chance_taken Personal whole at v tokens rest is ahead = record { mid = at; ok = ap (λ f. Ok (f, at)) (sym is.0); ahead = subst (Ahead whole at) is.1 ahead }
chance_taken Leaf whole at v tokens rest is ahead = record { mid = at; ok = ap (λ f. Ok (f, at)) (sym is.0); ahead = subst (Ahead whole at) is.1 ahead }

-- Lists.

pub action_taken : (kind : EntryKind) (whole : List ℕ) (at : ℕ) (v : Action) (tokens rest : List Spelled)
    → IsAction kind v tokens rest → Ahead whole at tokens → ReadsValue whole (action_at kind whole at) v rest
unfolding action_at
action_taken kind whole at v tokens rest is ahead =
    let name = text_taken whole at v.name tokens is.0 is.1 ahead in
    let chance = chance_taken kind whole name.mid v.chance is.0 rest is.2 name.ahead in
    record { mid = chance.mid; ok = rw (name.ok, chance.ok) refl; ahead = chance.ahead }

-- where a closing brace comes, the list ends there with what was read of it
pub close_taken : {A : Type 0} (whole : List ℕ) (at : ℕ) (v : A) (tokens rest : List Spelled)
    → IsOne close_brace tokens rest → Ahead whole at tokens → ReadsValue whole (close_at v whole at) v rest
unfolding close_at
close_taken whole at v tokens rest is ahead =
    let a : Ahead whole at (close_brace ∷ rest) = subst (Ahead whole at) is ahead in
    let found = take_kind whole at a.next.0 kinds.Close _ refl a.next.1 in
    record { mid = a.next.0.end; ok = rw found refl; ahead = behind_step whole at close_brace rest a }

-- where a closing brace comes, its byte is next
pub close_first : (whole : List ℕ) (at : ℕ) (tokens rest : List Spelled) → IsOne close_brace tokens rest
    → Ahead whole at tokens → next_is close_byte whole at ≡ true
close_first whole at tokens rest is ahead = is_first close_byte 125 close_brace [] rest whole at refl refl (subst (Ahead whole at) is ahead)

-- a text is one token
pub text_length : (v : List ℕ) (tokens rest : List Spelled) → IsText v tokens rest → length tokens ≡ suc (length rest)
text_length v tokens rest is = ap length is.spelling

chance_length : (kind : EntryKind) (v : Fraction) (tokens rest : List Spelled) → IsChance kind v tokens rest
    → length rest ≤ length tokens
chance_length Chance v tokens rest is = omega (arith, ap length is.spelling)
chance_length Personal v tokens rest is = omega (arith, ap length is.1)
chance_length Leaf v tokens rest is = omega (arith, ap length is.1)

pub actions_taken : (kind : EntryKind) (left : ℕ) (done more : List Action) (whole : List ℕ) (at : ℕ)
    (tokens rest : List Spelled)
    → AreActionsUpTo kind more tokens rest → length tokens ≤ left → Ahead whole at tokens
    → ReadsValue whole (actions_from kind left done whole at) (done ++ more) rest
unfolding actions_from
actions_taken kind zero done [] whole at tokens rest are fuel ahead = absurd (omega (arith, ap length are, fuel))
actions_taken kind zero done (a ∷ more) whole at tokens rest are fuel ahead = absurd (omega (arith, text_length a.name tokens are.0 are.2, fuel))
actions_taken kind (suc left) done [] whole at tokens rest are fuel ahead =
    let closes = close_first whole at tokens rest are ahead in
    let c = close_taken whole at done tokens rest are ahead in
    record { mid = c.mid; ok = rw (closes, c.ok) (ap (λ as'. Ok (as', c.mid)) (sym (append-nil done))); ahead = c.ahead }
actions_taken kind (suc left) done (a ∷ more) whole at tokens rest are fuel ahead =
    let open_yet : next_is close_byte whole at ≡ false = text_first close_byte whole at a.name tokens are.0 are.2 ahead in
    let here = action_taken kind whole at a tokens are.1 (are.0, are.2, are.3) ahead in
    let shorter : length are.1 ≤ left = omega (arith, text_length a.name tokens are.0 are.2, chance_length kind a.chance are.0 are.1 are.3, fuel) in
    let later = actions_taken kind left (done ++ a ∷ []) more whole here.mid are.1 rest are.4 shorter here.ahead in
    record { mid = later.mid; ok = rw (open_yet, here.ok) (later.ok ∙ ap (λ as'. Ok (as', later.mid)) (append_assoc done (a ∷ []) more)); ahead = later.ahead }

-- the opening brace
open_first : (whole : List ℕ) (at : ℕ) (rest : List Spelled) → Ahead whole at (open_brace ∷ rest)
    → next_is open_byte whole at ≡ true
open_first whole at rest a = is_first open_byte 123 open_brace [] rest whole at refl refl a

pub action_list_taken : (kind : EntryKind) (whole : List ℕ) (at : ℕ) (v : Option (List Action))
    (tokens rest : List Spelled)
    → IsActionList kind v tokens rest → NotNextByte open_byte rest → Ahead whole at tokens
    → ReadsValue whole (actions_at kind whole at) v rest
unfolding actions_at
action_list_taken kind whole at None tokens rest is behind ahead =
    let a : Ahead whole at rest = subst (Ahead whole at) is ahead in
    let none : next_is open_byte whole at ≡ false = behind.here whole at a in
    record { mid = at; ok = rw none refl; ahead = a }
action_list_taken kind whole at (Some actions) tokens rest is behind ahead =
    let a : Ahead whole at (open_brace ∷ is.0) = subst (Ahead whole at) is.1 ahead in
    let opens = open_first whole at is.0 a in
    let found = take_kind whole at a.next.0 kinds.Open _ refl a.next.1 in
    let inner = behind_step whole at open_brace is.0 a in
    let later = actions_taken kind (length whole) [] actions whole a.next.0.end is.0 rest is.2 (ahead_length whole a.next.0.end is.0 inner) inner in
    record { mid = later.mid; ok = rw (opens, found, later.ok) refl; ahead = later.ahead }

-- Payoffs.

payoff_taken : (done : List Fraction) (whole : List ℕ) (at : ℕ) (v : Fraction) (tokens rest : List Spelled)
    → IsPayoff done v tokens rest → Ahead whole at tokens → ReadsValue whole (payoff_at done whole at) v rest
unfolding payoff_at
payoff_taken [] whole at v tokens rest is ahead = literal_taken whole at v is.0 rest is.2 (subst (Ahead whole at) is.1 ahead)
payoff_taken (d ∷ ds) whole at v tokens rest is ahead =
    ⊎_elim
    (λ same.
    let a : Ahead whole at is.0 = subst (Ahead whole at) same ahead in
    let b : Ahead whole at (number is.2.bytes ∷ rest) = subst (Ahead whole at) is.2.spelling a in
    let none : next_is comma_byte whole at ≡ false = (not_number comma_byte refl is.2.bytes rest).here whole at b in
    let f = literal_taken whole at v is.0 rest is.2 a in
    record { mid = f.mid; ok = rw (none, f.ok) refl; ahead = f.ahead })
    (λ same.
    let a : Ahead whole at (comma ∷ is.0) = subst (Ahead whole at) same ahead in
    let some : next_is comma_byte whole at ≡ true = is_first comma_byte 44 comma [] is.0 whole at refl refl a in
    let found = take_kind whole at a.next.0 kinds.Comma _ refl a.next.1 in
    let f = literal_taken whole a.next.0.end v is.0 rest is.2 (behind_step whole at comma is.0 a) in
    record { mid = f.mid; ok = rw (some, found, f.ok) refl; ahead = f.ahead })
    is.1

-- a payoff begins with no brace
payoff_first : (done : List Fraction) (whole : List ℕ) (at : ℕ) (v : Fraction) (tokens rest : List Spelled)
    → IsPayoff done v tokens rest → Ahead whole at tokens → next_is close_byte whole at ≡ false
payoff_first [] whole at v tokens rest is ahead = (not_number close_byte refl is.2.bytes rest).here whole at
    (subst (Ahead whole at) (is.1 ∙ is.2.spelling) ahead)
payoff_first (d ∷ ds) whole at v tokens rest is ahead =
    ⊎_elim
    (λ same. (not_number close_byte refl is.2.bytes rest).here whole at (subst (Ahead whole at) (same ∙ is.2.spelling) ahead))
    (λ same. (not_first close_byte 44 comma [] is.0 refl refl).here whole at (subst (Ahead whole at) same ahead))
    is.1

payoff_length : (done : List Fraction) (v : Fraction) (tokens rest : List Spelled) → IsPayoff done v tokens rest
    → length rest < length tokens
payoff_length [] v tokens rest is = omega (arith, ap length is.1, ap length is.2.spelling)
payoff_length (d ∷ ds) v tokens rest is =
    ⊎_elim (λ same. omega (arith, ap length same, ap length is.2.spelling)) (λ same. omega (arith, ap length same, ap length is.2.spelling)) is.1

-- the parts of payoffs
payoffs_end : (done : List Fraction) (tokens rest : List Spelled) → ArePayoffsBehind done [] tokens rest
    → IsOne close_brace tokens rest
payoffs_end [] tokens rest are = are
payoffs_end (d ∷ ds) tokens rest are = are

payoffs_more : (done : List Fraction) (f : Fraction) (fs : List Fraction) (tokens rest : List Spelled)
    → ArePayoffsBehind done (f ∷ fs) tokens rest
    → Then (IsPayoff done f) (ArePayoffsBehind (done ++ f ∷ []) fs) tokens rest
payoffs_more [] f fs tokens rest are = (are.0, (tokens, refl, are.1), are.2)
payoffs_more (d ∷ ds) f fs tokens rest are = (are.1, (are.0, are.2, are.3), are.4)

pub payoffs_taken : (left : ℕ) (done more : List Fraction) (whole : List ℕ) (at : ℕ) (tokens rest : List Spelled)
    → ArePayoffsBehind done more tokens rest → length tokens ≤ left → Ahead whole at tokens
    → ReadsValue whole (payoffs_from left done whole at) (done ++ more) rest
unfolding payoffs_from
payoffs_taken zero done [] whole at tokens rest are fuel ahead = absurd (omega (arith, ap length (payoffs_end done tokens rest are), fuel))
payoffs_taken zero done (f ∷ more) whole at tokens rest are fuel ahead =
    let p = payoffs_more done f more tokens rest are in absurd (omega (arith, payoff_length done f tokens p.0 p.1, fuel))
payoffs_taken (suc left) done [] whole at tokens rest are fuel ahead =
    let ends = payoffs_end done tokens rest are in
    let closes = close_first whole at tokens rest ends ahead in
    let c = close_taken whole at done tokens rest ends ahead in
    record { mid = c.mid; ok = rw (closes, c.ok) (ap (λ fs. Ok (fs, c.mid)) (sym (append-nil done))); ahead = c.ahead }
payoffs_taken (suc left) done (f ∷ more) whole at tokens rest are fuel ahead =
    let p = payoffs_more done f more tokens rest are in
    let open_yet = payoff_first done whole at f tokens p.0 p.1 ahead in
    let here = payoff_taken done whole at f tokens p.0 p.1 ahead in
    let later = payoffs_taken left (done ++ f ∷ []) more whole here.mid p.0 rest p.2 (omega (arith, payoff_length done f tokens p.0 p.1, fuel)) here.ahead in
    record { mid = later.mid; ok = rw (open_yet, here.ok) (later.ok ∙ ap (λ fs. Ok (fs, later.mid)) (append_assoc done (f ∷ []) more)); ahead = later.ahead }

pub payoff_list_taken : (whole : List ℕ) (at : ℕ) (v : Option (List Fraction)) (tokens rest : List Spelled)
    → IsPayoffList v tokens rest → NotNextByte open_byte rest → Ahead whole at tokens
    → ReadsValue whole (payoffs_at whole at) v rest
unfolding payoffs_at
payoff_list_taken whole at None tokens rest is behind ahead =
    let a : Ahead whole at rest = subst (Ahead whole at) is ahead in
    let none : next_is open_byte whole at ≡ false = behind.here whole at a in
    record { mid = at; ok = rw none refl; ahead = a }
payoff_list_taken whole at (Some payoffs) tokens rest is behind ahead =
    let a : Ahead whole at (open_brace ∷ is.0) = subst (Ahead whole at) is.1 ahead in
    let opens = open_first whole at is.0 a in
    let found = take_kind whole at a.next.0 kinds.Open _ refl a.next.1 in
    let inner = behind_step whole at open_brace is.0 a in
    let later = payoffs_taken (length whole) [] payoffs whole a.next.0.end is.0 rest is.2 (ahead_length whole a.next.0.end is.0 inner) inner in
    record { mid = later.mid; ok = rw (opens, found, later.ok) refl; ahead = later.ahead }

-- Sets and outcomes. What comes behind is neither a text nor an opening brace.

-- neither a quotation mark nor an opening brace comes next
pub record IsClear (rest : List Spelled) : Type 0 where
  pub no_text : NotNextByte mark rest
  pub no_brace : NotNextByte open_byte rest

-- a number is neither a text nor a brace, so that optional parts may end before it
pub clear_number : (digits : List ℕ) (rest : List Spelled) → IsClear (number digits ∷ rest)
clear_number digits rest = record { no_text = not_number mark refl digits rest; no_brace = not_number open_byte refl digits rest }

actions_no_text : (kind : EntryKind) (v : Option (List Action)) (tokens rest : List Spelled)
    → IsActionList kind v tokens rest → NotNextByte mark rest → NotNextByte mark tokens
actions_no_text kind None tokens rest is behind = subst (NotNextByte mark) (sym is) behind
actions_no_text kind (Some actions) tokens rest is behind = subst (NotNextByte mark) (sym is.1) (not_first mark 123 open_brace [] is.0 refl refl)

payoffs_no_text : (v : Option (List Fraction)) (tokens rest : List Spelled) → IsPayoffList v tokens rest
    → NotNextByte mark rest → NotNextByte mark tokens
payoffs_no_text None tokens rest is behind = subst (NotNextByte mark) (sym is) behind
payoffs_no_text (Some payoffs) tokens rest is behind = subst (NotNextByte mark) (sym is.1) (not_first mark 123 open_brace [] is.0 refl refl)

-- where an entry's set comes, it is read, if no text and no brace stands behind it
pub set_mention_taken : (kind : EntryKind) (whole : List ℕ) (at : ℕ) (v : SetMention) (tokens rest : List Spelled)
    → IsSet kind v tokens rest → IsClear rest → Ahead whole at tokens
    → ReadsValue whole (set_mention_at kind whole at) v rest
unfolding set_mention_at
set_mention_taken kind whole at v tokens rest is clear ahead =
    let n = set_number_taken whole at v.number tokens is.numbered is.number is.from_one ahead in
    let name = name_taken whole n.mid v.name is.numbered is.named is.name (actions_no_text kind v.actions is.named rest is.actions clear.no_text) n.ahead in
    let actions = action_list_taken kind whole name.mid v.actions is.named rest is.actions clear.no_brace name.ahead in
    record { mid = actions.mid; ok = rw (n.ok, name.ok, actions.ok) refl; ahead = actions.ahead }

-- where an entry's outcome comes, it is read, if no text and no brace stands behind it
pub outcome_mention_taken : (whole : List ℕ) (at : ℕ) (v : OutcomeMention) (tokens rest : List Spelled)
    → IsOutcome v tokens rest → IsClear rest → Ahead whole at tokens
    → ReadsValue whole (outcome_mention_at whole at) v rest
unfolding outcome_mention_at
outcome_mention_taken whole at v tokens rest is clear ahead =
    let n = whole_taken whole at v.number tokens is.numbered is.number ahead in
    let name = name_taken whole n.mid v.name is.numbered is.named is.name (payoffs_no_text v.payoffs is.named rest is.payoffs clear.no_text) n.ahead in
    let payoffs = payoff_list_taken whole name.mid v.payoffs is.named rest is.payoffs clear.no_brace name.ahead in
    record { mid = payoffs.mid; ok = rw (n.ok, name.ok, payoffs.ok) refl; ahead = payoffs.ahead }
