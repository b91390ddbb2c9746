-- What is read is in the form: each reading with the tokens that it took.
use Rattle.std.proofs.Common.{◌≡◌, ℕ, zero, suc, ◌≤◌, Bool, true, false, cond, List, [], ◌∷◌, ◌++◌, length, Option, Some, None, Result, Ok, Err, sym, refl, ap}
use Rattle.std.proofs.Common.{◌∙◌, subst, arith, append_assoc, append-nil, ◌⊎◌, inl, inr}
use Rattle.std.specs.Prelude.{nat_le}
use Rattle.std.proofs.lemmas.Bool.{leb-true}
use Rattle.def_file_tokens.specs.declared.Token.TheVariants as kinds
use Rattle.def_file_tokens.specs.declared.Lexeme.{Lexeme}
use Rattle.def_fraction.specs.declared.fault.NumberFault.{NumberFault}
use Rattle.def_fraction.specs.declared.fault.NumberFault.TheVariants.{Form, Range}
use Rattle.def_fraction.specs.Digits.{is_numeral, number_of}
use Rattle.def_fraction.specs.Fraction.{Fraction, most, zero_fraction}
use Rattle.def_fraction.specs.Reading.{read_as_literal, read_as_whole}
use Rattle.def_fraction.proofs.JudgeLemmas.{read_as_literal-judged}
use Rattle.def_file.specs.declared.EntryKind.{EntryKind}
use Rattle.def_file.specs.declared.EntryKind.TheVariants.{Chance, Personal, Leaf}
use Rattle.def_file.specs.Content.{Action, SetMention, OutcomeMention}
use Rattle.def_file.specs.Reading.{◌>>=◌, bytes_at, is_token, token_where, next_is, mark, open_byte, close_byte, comma_byte, token_text, text_at, name_at}
use Rattle.def_file.specs.Reading.{number_or_fault, number_at, literal_at, whole_at, from_one, read_as_set, set_number_at, chance_at, action_at, close_at}
use Rattle.def_file.specs.Reading.{actions_from, actions_at, comma_at, payoff_at, payoffs_from, payoffs_at, set_mention_at, outcome_mention_at}
use Rattle.def_file_form.specs.Form.{Spelled, number, text, open_brace, close_brace, comma, IsText, IsName, IsWholeNumber, IsFraction, IsChance, AreActionsUpTo}
use Rattle.def_file_form.specs.Form.{IsActionList, AreMorePayoffs, ArePayoffs, IsPayoffList, IsSet, IsOutcome}
use Rattle.def_file_form.proofs.TokenByToken.{then_ok, Read, Then, IsOne, IsNone, read_as, read_one, read_none, read_then, open_step, close_step, comma_step}
use Rattle.def_file_form.proofs.TokenByToken.{text_step, number_step}

-- what is read as a text is one, and stands for the bytes that were read
pub text_read : (whole : List ℕ) (at : ℕ) → at ≤ length whole → (read : List ℕ × ℕ) → text_at whole at ≡ Ok read
    → Read whole at read.1 (IsText read.0)
unfolding text_at
text_read whole at within read e =
    then_ok (token_where (is_token kinds.Text whole) whole at) _ _ e (λ token e0 e.
    let s = text_step whole at within token e0 in
    let same : (token_text whole token, token.end) ≡ read = cc in
    subst (λ (r : List ℕ × ℕ). Read whole at r.1 (IsText r.0)) same
    (read_as whole at token.end (IsOne (text s.0)) (IsText (token_text whole token))
    (λ tokens rest one. record { inside = s.0; is_inside = s.1; stands_for = s.3; spelling = one }) (read_one whole at token (text s.0) s.2)))

-- what is read as a name is a text, or nothing where none was read
pub name_read : (whole : List ℕ) (at : ℕ) → at ≤ length whole → (read : Option (List ℕ) × ℕ)
    → name_at whole at ≡ Ok read → Read whole at read.1 (IsName read.0)
unfolding name_at
name_read whole at within read e = chosen (next_is mark whole at) e
  where
    chosen : (b : Bool) → cond b (text_at whole at >>= λ text. Ok (Some text.0, text.1)) (Ok (None, at)) ≡ Ok read
        → Read whole at read.1 (IsName read.0)
    chosen true e =
        then_ok (text_at whole at) _ _ e (λ text e0 e.
        let same : (Some text.0, text.1) ≡ read = cc in
        subst (λ (r : Option (List ℕ) × ℕ). Read whole at r.1 (IsName r.0)) same (text_read whole at within text e0))
    chosen false e =
        let same : (None, at) ≡ read = cc in
        subst (λ (r : Option (List ℕ) × ℕ). Read whole at r.1 (IsName r.0)) same (read_none whole at within)

-- a number that was read, with its bytes
pub record NumberRead {A : Type 0} (as_read : List ℕ → Result A NumberFault) (whole : List ℕ) (at : ℕ)
    (read : A × ℕ) : Type 0 where
  pub bytes : List ℕ
  pub ok : as_read bytes ≡ Ok read.0
  pub taken : Read whole at read.1 (IsOne (number bytes))

numbered_ok : {A : Type 0} (token : Lexeme) (r : Result A NumberFault) (read : A × ℕ)
    → number_or_fault token r ≡ Ok read → (r ≡ Ok read.0) × (token.end ≡ read.1)
numbered_ok token (Ok n) read e = let same : (n, token.end) ≡ read = cc in (ap (λ x. Ok x.0) same, ap (λ x. x.1) same)
numbered_ok token (Err fault) read e = absurd cc

pub number_read : {A : Type 0} (as_read : List ℕ → Result A NumberFault) (whole : List ℕ) (at : ℕ) → at ≤ length whole
    → (read : A × ℕ) → number_at as_read whole at ≡ Ok read → NumberRead as_read whole at read
number_read as_read whole at within read e =
    then_ok (token_where (is_token kinds.Number whole) whole at) _ _ e (λ token e0 e.
    let found = numbered_ok token (as_read (bytes_at whole token)) read e in
    record {
      bytes = bytes_at whole token;
      ok = found.0;
      taken = subst (λ n. Read whole at n (IsOne (number (bytes_at whole token)))) found.1
          (read_one whole at token (number (bytes_at whole token)) (number_step whole at within token e0));
    })

pub literal_read : (whole : List ℕ) (at : ℕ) → at ≤ length whole → (read : Fraction × ℕ) → literal_at whole at ≡ Ok read
    → Read whole at read.1 (IsFraction read.0)
unfolding literal_at
literal_read whole at within read e =
    let r = number_read read_as_literal whole at within read e in
    read_as whole at read.1 (IsOne (number r.bytes)) (IsFraction read.0) (λ tokens rest one.
    record { bytes = r.bytes; literal = ((read_as_literal-judged r.bytes).value read.0).0 r.ok; spelling = one }) r.taken

-- a whole number's bytes
whole_ok : (bytes : List ℕ) (n : ℕ) (tokens rest : List Spelled) → read_as_whole bytes ≡ Ok n
    → IsOne (number bytes) tokens rest → IsWholeNumber n tokens rest
unfolding read_as_whole
whole_ok bytes n tokens rest e one = chosen (is_numeral bytes) (nat_le (number_of bytes) most) refl refl e
  where
    chosen : (b c : Bool) → is_numeral bytes ≡ b → nat_le (number_of bytes) most ≡ c
        → cond b (cond c (Ok (number_of bytes)) (Err Range)) (Err Form) ≡ Ok n → IsWholeNumber n tokens rest
    chosen true true numeral limit e =
        let same : number_of bytes ≡ n = cc in
        record { digits = bytes; numeral = numeral; value = same; limit = subst (λ k. k ≤ most) same (leb-true (number_of bytes) most limit); spelling = one }
    chosen true false numeral limit e = absurd cc
    chosen false c numeral limit e = absurd cc

-- what is read as a whole number is digits that write it, within the limit
pub whole_read : (whole : List ℕ) (at : ℕ) → at ≤ length whole → (read : ℕ × ℕ) → whole_at whole at ≡ Ok read
    → Read whole at read.1 (IsWholeNumber read.0)
unfolding whole_at
whole_read whole at within read e =
    let r = number_read read_as_whole whole at within read e in
    read_as whole at read.1 (IsOne (number r.bytes)) (IsWholeNumber read.0) (λ tokens rest one. whole_ok r.bytes read.0 tokens rest r.ok one) r.taken

from_one_ok : (r : Result ℕ NumberFault) (n : ℕ) → from_one r ≡ Ok n → (r ≡ Ok n) × (1 ≤ n)
from_one_ok (Ok zero) n e = absurd cc
from_one_ok (Ok (suc k)) n e = let same : suc k ≡ n = cc in (e, omega arith)
from_one_ok (Err fault) n e = absurd cc

-- what is read as a set's number is read as the same whole number, and isn't 0
pub set_ok : (bytes : List ℕ) (n : ℕ) → read_as_set bytes ≡ Ok n → (read_as_whole bytes ≡ Ok n) × (1 ≤ n)
unfolding read_as_set
set_ok bytes n e = from_one_ok (read_as_whole bytes) n e

pub set_number_read : (whole : List ℕ) (at : ℕ) → at ≤ length whole → (read : ℕ × ℕ) → set_number_at whole at ≡ Ok read
    → Read whole at read.1 (IsWholeNumber read.0) × (1 ≤ read.0)
unfolding set_number_at
set_number_read whole at within read e =
    let r = number_read read_as_set whole at within read e in
    let n = set_ok r.bytes read.0 r.ok in
    (read_as whole at read.1 (IsOne (number r.bytes)) (IsWholeNumber read.0) (λ tokens rest one. whole_ok r.bytes read.0 tokens rest n.0 one) r.taken, n.1)

pub chance_read : (kind : EntryKind) (whole : List ℕ) (at : ℕ) → at ≤ length whole → (read : Fraction × ℕ)
    → chance_at kind whole at ≡ Ok read → Read whole at read.1 (IsChance kind read.0)
chance_read Chance whole at within read e = literal_read whole at within read e
chance_read Personal whole at within read e =
    let same : (zero_fraction, at) ≡ read = cc in
    subst (λ (r : Fraction × ℕ). Read whole at r.1 (IsChance Personal r.0)) same
    (read_as whole at at IsNone (IsChance Personal zero_fraction) (λ tokens rest none. (refl, none)) (read_none whole at within))
chance_read Leaf whole at within read e =
    let same : (zero_fraction, at) ≡ read = cc in
    subst (λ (r : Fraction × ℕ). Read whole at r.1 (IsChance Leaf r.0)) same
    (read_as whole at at IsNone (IsChance Leaf zero_fraction) (λ tokens rest none. (refl, none)) (read_none whole at within))

-- Lists.

-- an action's name, and its probability
abbrev pub IsAction : EntryKind → Action → List Spelled → List Spelled → Type 0
IsAction kind a tokens rest = Then (IsText a.name) (IsChance kind a.chance) tokens rest

pub action_read : (kind : EntryKind) (whole : List ℕ) (at : ℕ) → at ≤ length whole → (read : Action × ℕ)
    → action_at kind whole at ≡ Ok read → Read whole at read.1 (IsAction kind read.0)
unfolding action_at
action_read kind whole at within read e =
    then_ok (text_at whole at) _ _ e (λ name e0 e.
    then_ok (chance_at kind whole name.1) _ _ e (λ chance e1 e.
    let s0 = text_read whole at within name e0 in
    let s1 = chance_read kind whole name.1 s0.within chance e1 in
    let same : (record { name = name.0; chance = chance.0 }, chance.1) ≡ read = cc in
    subst (λ (r : Action × ℕ). Read whole at r.1 (IsAction kind r.0)) same (read_then whole at name.1 chance.1 (IsText name.0) (IsChance kind chance.0) s0 s1)))

-- the closing brace
pub close_read : {A : Type 0} (value : A) (whole : List ℕ) (at : ℕ) → at ≤ length whole → (read : A × ℕ)
    → close_at value whole at ≡ Ok read → (read.0 ≡ value) × Read whole at read.1 (IsOne close_brace)
unfolding close_at
close_read value whole at within read e =
    then_ok (token_where (is_token kinds.Close whole) whole at) _ _ e (λ token e0 e.
    let same : (value, token.end) ≡ read = cc in (
      ap (λ r. r.0) (sym same),
      subst (λ n. Read whole at n (IsOne close_brace)) (ap (λ r. r.1) same)
          (read_one whole at token close_brace (close_step whole at within token e0)),
    ))

-- items that were read behind those that were done
pub record ItemsRead {A : Type 0} (Are : List A → List Spelled → List Spelled → Type 0) (done : List A)
    (whole : List ℕ) (at : ℕ) (read : List A × ℕ) : Type 0 where
  pub more : List A
  pub all : read.0 ≡ done ++ more
  pub taken : Read whole at read.1 (Are more)

pub actions_read : (kind : EntryKind) (left : ℕ) (done : List Action) (whole : List ℕ) (at : ℕ) → at ≤ length whole
    → (read : List Action × ℕ) → actions_from kind left done whole at ≡ Ok read
    → ItemsRead (AreActionsUpTo kind) done whole at read
unfolding actions_from
actions_read kind zero done whole at within read e = absurd cc
actions_read kind (suc left) done whole at within read e =
    chosen (next_is close_byte whole at) e (λ action inner e. actions_read kind left (done ++ action.0 ∷ []) whole action.1 inner read e)
  where
    chosen : (b : Bool)
        → cond b (close_at done whole at) (action_at kind whole at >>= λ action. actions_from kind left (done ++ action.0 ∷ []) whole action.1) ≡ Ok read
        → ((action : Action × ℕ) → action.1 ≤ length whole
        → actions_from kind left (done ++ action.0 ∷ []) whole action.1 ≡ Ok read
        → ItemsRead (AreActionsUpTo kind) (done ++ action.0 ∷ []) whole action.1 read)
        → ItemsRead (AreActionsUpTo kind) done whole at read
    chosen true e again =
        let closed = close_read done whole at within read e in
        record { more = []; all = closed.0 ∙ sym (append-nil done); taken = closed.1 }
    chosen false e again =
        then_ok (action_at kind whole at) _ _ e (λ action e0 e.
        let here = action_read kind whole at within action e0 in
        let later = again action here.within e in
        record {
          more = action.0 ∷ later.more;
          all = later.all ∙ append_assoc done (action.0 ∷ []) later.more;
          taken = read_as whole at read.1 (Then (IsAction kind action.0) (AreActionsUpTo kind later.more)) (AreActionsUpTo kind (action.0 ∷ later.more))
              (λ tokens rest both. (both.1.0, both.0, both.1.1, both.1.2, both.2))
              (read_then whole at action.1 read.1 (IsAction kind action.0) (AreActionsUpTo kind later.more) here later.taken);
        })

pub action_list_read : (kind : EntryKind) (whole : List ℕ) (at : ℕ) → at ≤ length whole
    → (read : Option (List Action) × ℕ) → actions_at kind whole at ≡ Ok read
    → Read whole at read.1 (IsActionList kind read.0)
unfolding actions_at
action_list_read kind whole at within read e = chosen (next_is open_byte whole at) e
  where
    chosen : (b : Bool)
        → cond b (token_where (is_token kinds.Open whole) whole at >>= λ opening. actions_from kind (length whole) [] whole opening.end >>= λ actions. Ok
        (Some actions.0, actions.1)) (Ok (None, at)) ≡ Ok read
        → Read whole at read.1 (IsActionList kind read.0)
    chosen true e =
        then_ok (token_where (is_token kinds.Open whole) whole at) _ _ e (λ opening e0 e.
        then_ok (actions_from kind (length whole) [] whole opening.end) _ _ e (λ actions e1 e.
        let s0 = open_step whole at within opening e0 in
        let s1 = actions_read kind (length whole) [] whole opening.end s0.within actions e1 in
        let same : (Some actions.0, actions.1) ≡ read = cc in
        subst (λ (r : Option (List Action) × ℕ). Read whole at r.1 (IsActionList kind r.0)) same
        (read_then whole at opening.end actions.1 (IsOne open_brace) (AreActionsUpTo kind actions.0) (read_one whole at opening open_brace s0)
        (subst (λ as'. Read whole opening.end actions.1 (AreActionsUpTo kind as')) (sym s1.all) s1.taken))))
    chosen false e =
        let same : (None, at) ≡ read = cc in
        subst (λ (r : Option (List Action) × ℕ). Read whole at r.1 (IsActionList kind r.0)) same (read_none whole at within)

-- payoffs behind those that are done
abbrev pub ArePayoffsBehind : List Fraction → List Fraction → List Spelled → List Spelled → Type 0
ArePayoffsBehind [] fs = ArePayoffs fs
ArePayoffsBehind (_ ∷ _) fs = AreMorePayoffs fs

-- a comma, or nothing
abbrev pub MayPart : List Spelled → List Spelled → Type 0
MayPart tokens parted = (tokens ≡ parted) ⊎ (tokens ≡ comma ∷ parted)

abbrev pub IsParted : List Fraction → List Spelled → List Spelled → Type 0
IsParted [] = IsNone
IsParted (_ ∷ _) = MayPart

comma_read : (done : List Fraction) (whole : List ℕ) (at : ℕ) → at ≤ length whole → (read : ℕ)
    → comma_at done whole at ≡ Ok read → Read whole at read (IsParted done)
comma_read [] whole at within read e = let same : at ≡ read = cc in subst (λ n. Read whole at n IsNone) same (read_none whole at within)
comma_read (d ∷ ds) whole at within read e = chosen (next_is comma_byte whole at) e
  where
    chosen : (b : Bool)
        → cond b (token_where (is_token kinds.Comma whole) whole at >>= λ token. Ok token.end) (Ok at) ≡ Ok read
        → Read whole at read MayPart
    chosen true e =
        then_ok (token_where (is_token kinds.Comma whole) whole at) _ _ e (λ token e0 e.
        let same : token.end ≡ read = cc in
        subst (λ n. Read whole at n MayPart) same (read_as whole at token.end (IsOne comma) MayPart (λ tokens rest one. inr one)
        (read_one whole at token comma (comma_step whole at within token e0))))
    chosen false e = let same : at ≡ read = cc in subst (λ n. Read whole at n MayPart) same
        (read_as whole at at IsNone MayPart (λ tokens rest none. inl none) (read_none whole at within))

-- a payoff behind those that are done
abbrev pub IsPayoff : List Fraction → Fraction → List Spelled → List Spelled → Type 0
IsPayoff done f = Then (IsParted done) (IsFraction f)

pub payoff_read : (done : List Fraction) (whole : List ℕ) (at : ℕ) → at ≤ length whole → (read : Fraction × ℕ)
    → payoff_at done whole at ≡ Ok read → Read whole at read.1 (IsPayoff done read.0)
unfolding payoff_at
payoff_read done whole at within read e =
    then_ok (comma_at done whole at) _ _ e (λ start e0 e.
    let s0 = comma_read done whole at within start e0 in
    read_then whole at start read.1 (IsParted done) (IsFraction read.0) s0 (literal_read whole start s0.within read e))

-- one more payoff
payoff_more : (done : List Fraction) (f : Fraction) (fs : List Fraction) (tokens rest : List Spelled)
    → Then (IsPayoff done f) (ArePayoffsBehind (done ++ f ∷ []) fs) tokens rest
    → ArePayoffsBehind done (f ∷ fs) tokens rest
payoff_more [] f fs tokens rest both = (both.0, subst (λ ss. IsFraction f ss both.0) (sym both.1.1) both.1.2, both.2)
payoff_more (d ∷ ds) f fs tokens rest both = (both.1.0, both.0, both.1.1, both.1.2, both.2)

no_more : (done : List Fraction) (tokens rest : List Spelled) → IsOne close_brace tokens rest
    → ArePayoffsBehind done [] tokens rest
no_more [] tokens rest one = one
no_more (d ∷ ds) tokens rest one = one

pub payoffs_read : (left : ℕ) (done : List Fraction) (whole : List ℕ) (at : ℕ) → at ≤ length whole
    → (read : List Fraction × ℕ) → payoffs_from left done whole at ≡ Ok read
    → ItemsRead (ArePayoffsBehind done) done whole at read
unfolding payoffs_from
payoffs_read zero done whole at within read e = absurd cc
payoffs_read (suc left) done whole at within read e =
    chosen (next_is close_byte whole at) e (λ payoff inner e. payoffs_read left (done ++ payoff.0 ∷ []) whole payoff.1 inner read e)
  where
    chosen : (b : Bool)
        → cond b (close_at done whole at) (payoff_at done whole at >>= λ payoff. payoffs_from left (done ++ payoff.0 ∷ []) whole payoff.1) ≡ Ok read
        → ((payoff : Fraction × ℕ) → payoff.1 ≤ length whole
        → payoffs_from left (done ++ payoff.0 ∷ []) whole payoff.1 ≡ Ok read
        → ItemsRead (ArePayoffsBehind (done ++ payoff.0 ∷ [])) (done ++ payoff.0 ∷ []) whole payoff.1 read)
        → ItemsRead (ArePayoffsBehind done) done whole at read
    chosen true e again =
        let closed = close_read done whole at within read e in
        record {
          more = [];
          all = closed.0 ∙ sym (append-nil done);
          taken = read_as whole at read.1 (IsOne close_brace) (ArePayoffsBehind done [])
              (no_more done) closed.1;
        }
    chosen false e again =
        then_ok (payoff_at done whole at) _ _ e (λ payoff e0 e.
        let here = payoff_read done whole at within payoff e0 in
        let later = again payoff here.within e in
        record {
          more = payoff.0 ∷ later.more;
          all = later.all ∙ append_assoc done (payoff.0 ∷ []) later.more;
          taken = read_as whole at read.1 (Then (IsPayoff done payoff.0) (ArePayoffsBehind (done ++ payoff.0 ∷ []) later.more))
              (ArePayoffsBehind done (payoff.0 ∷ later.more)) (payoff_more done payoff.0 later.more)
              (read_then whole at payoff.1 read.1 (IsPayoff done payoff.0) (ArePayoffsBehind (done ++ payoff.0 ∷ []) later.more) here later.taken);
        })

pub payoff_list_read : (whole : List ℕ) (at : ℕ) → at ≤ length whole → (read : Option (List Fraction) × ℕ)
    → payoffs_at whole at ≡ Ok read → Read whole at read.1 (IsPayoffList read.0)
unfolding payoffs_at
payoff_list_read whole at within read e = chosen (next_is open_byte whole at) e
  where
    chosen : (b : Bool)
        → cond b (token_where (is_token kinds.Open whole) whole at >>= λ opening. payoffs_from (length whole) [] whole opening.end >>= λ payoffs. Ok
        (Some payoffs.0, payoffs.1)) (Ok (None, at)) ≡ Ok read
        → Read whole at read.1 (IsPayoffList read.0)
    chosen true e =
        then_ok (token_where (is_token kinds.Open whole) whole at) _ _ e (λ opening e0 e.
        then_ok (payoffs_from (length whole) [] whole opening.end) _ _ e (λ payoffs e1 e.
        let s0 = open_step whole at within opening e0 in
        let s1 = payoffs_read (length whole) [] whole opening.end s0.within payoffs e1 in
        let same : (Some payoffs.0, payoffs.1) ≡ read = cc in
        subst (λ (r : Option (List Fraction) × ℕ). Read whole at r.1 (IsPayoffList r.0)) same
        (read_then whole at opening.end payoffs.1 (IsOne open_brace) (ArePayoffs payoffs.0) (read_one whole at opening open_brace s0)
        (subst (λ fs. Read whole opening.end payoffs.1 (ArePayoffs fs)) (sym s1.all) s1.taken))))
    chosen false e =
        let same : (None, at) ≡ read = cc in
        subst (λ (r : Option (List Fraction) × ℕ). Read whole at r.1 (IsPayoffList r.0)) same (read_none whole at within)

-- Sets and outcomes.

-- what is read as an entry's set is in the form of one
pub set_mention_read : (kind : EntryKind) (whole : List ℕ) (at : ℕ) → at ≤ length whole → (read : SetMention × ℕ)
    → set_mention_at kind whole at ≡ Ok read → Read whole at read.1 (IsSet kind read.0)
unfolding set_mention_at
set_mention_read kind whole at within read e =
    then_ok (set_number_at whole at) _ _ e (λ n e0 e.
    then_ok (name_at whole n.1) _ _ e (λ name e1 e.
    then_ok (actions_at kind whole name.1) _ _ e (λ actions e2 e.
    let s0 = set_number_read whole at within n e0 in
    let s1 = name_read whole n.1 s0.0.within name e1 in
    let s2 = action_list_read kind whole name.1 s1.within actions e2 in
    let mention : SetMention = record { number = n.0; name = name.0; actions = actions.0 } in
    let same : (mention, actions.1) ≡ read = cc in
    let behind = read_then whole n.1 name.1 actions.1 (IsName name.0) (IsActionList kind actions.0) s1 s2 in
    subst (λ (r : SetMention × ℕ). Read whole at r.1 (IsSet kind r.0)) same
    (read_as whole at actions.1 (Then (IsWholeNumber n.0) (Then (IsName name.0) (IsActionList kind actions.0))) (IsSet kind mention)
    (λ tokens rest t. record { numbered = t.0; named = t.2.0; number = t.1; from_one = s0.1; name = t.2.1; actions = t.2.2 })
    (read_then whole at n.1 actions.1 (IsWholeNumber n.0) (Then (IsName name.0) (IsActionList kind actions.0)) s0.0 behind)))))

-- what is read as an entry's outcome is in the form of one
pub outcome_mention_read : (whole : List ℕ) (at : ℕ) → at ≤ length whole → (read : OutcomeMention × ℕ)
    → outcome_mention_at whole at ≡ Ok read → Read whole at read.1 (IsOutcome read.0)
unfolding outcome_mention_at
outcome_mention_read whole at within read e =
    then_ok (whole_at whole at) _ _ e (λ n e0 e.
    then_ok (name_at whole n.1) _ _ e (λ name e1 e.
    then_ok (payoffs_at whole name.1) _ _ e (λ payoffs e2 e.
    let s0 = whole_read whole at within n e0 in
    let s1 = name_read whole n.1 s0.within name e1 in
    let s2 = payoff_list_read whole name.1 s1.within payoffs e2 in
    let mention : OutcomeMention = record { number = n.0; name = name.0; payoffs = payoffs.0 } in
    let same : (mention, payoffs.1) ≡ read = cc in
    let behind = read_then whole n.1 name.1 payoffs.1 (IsName name.0) (IsPayoffList payoffs.0) s1 s2 in
    subst (λ (r : OutcomeMention × ℕ). Read whole at r.1 (IsOutcome r.0)) same
    (read_as whole at payoffs.1 (Then (IsWholeNumber n.0) (Then (IsName name.0) (IsPayoffList payoffs.0))) (IsOutcome mention)
    (λ tokens rest t. record { numbered = t.0; named = t.2.0; number = t.1; name = t.2.1; payoffs = t.2.2 })
    (read_then whole at n.1 payoffs.1 (IsWholeNumber n.0) (Then (IsName name.0) (IsPayoffList payoffs.0)) s0 behind)))))
