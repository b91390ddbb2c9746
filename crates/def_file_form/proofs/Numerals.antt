-- Numbers, by the place that takes them.
use Rattle.std.proofs.Common.{◌≡◌, ℕ, zero, suc, ◌≤◌, Bool, true, false, cond, List, [], ◌∷◌, length, None, Result, Ok, Err, sym, refl, ap, ◌∙◌, subst, arith}
use Rattle.std.specs.Prelude.{codes, nat_le, IsTrue}
use Rattle.std.proofs.lemmas.Bool.{leb-true, le-leb}
use Rattle.def_file_tokens.specs.declared.Token.TheVariants as kinds
use Rattle.def_file_tokens.specs.declared.Lexeme.{Lexeme}
use Rattle.def_file_tokens.specs.Tokens.{next_from}
use Rattle.def_fraction.specs.declared.fault.NumberFault.{NumberFault}
use Rattle.def_fraction.specs.declared.fault.NumberFault.TheVariants.{Form, Range}
use Rattle.def_fraction.specs.Digits.{is_numeral, number_of}
use Rattle.def_fraction.specs.Fraction.{most}
use Rattle.def_fraction.specs.Reading.{read_as_literal, read_as_whole}
use Rattle.def_fraction.proofs.JudgeLemmas.{read_as_literal-judged}
use Rattle.def_file.specs.declared.FileFault.{FileFault}
use Rattle.def_file.specs.declared.FileFault.TheVariants.{Number}
use Rattle.def_file.specs.Reading.{◌>>=◌, is_kind, is_token, token_where, bytes_at, number_or_fault, number_at, literal_at, whole_at, from_one, read_as_set}
use Rattle.def_file.specs.Reading.{set_number_at}
use Rattle.def_file_form.specs.Form.{Spelled, number, IsWholeNumber, IsFraction, spelled_at}
use Rattle.def_file_form.proofs.SoundParts.{set_ok}
use Rattle.def_file_form.proofs.TokenByToken.{is_kind-true, token_ok}
use Rattle.def_file_form.specs.Offends.{NumberKind, wholes, wholes_from_one, literals, fault_of, literal_fault, TakesNumbers}
use Rattle.def_file_form.proofs.Languages.{After, NextIs, Halt}
use Rattle.def_file_form.proofs.NextByteTellsToken.{step_grows}
use Rattle.def_file_form.proofs.SuccessiveReadings.{HasWord, Goes, goes_past, goes_stuck, BeginsPassing, token_fault}
use Rattle.def_file_form.proofs.OneTokenParts.{Part, OneToken, one_alike, one_begins, number_test, each_takes_one}

abbrev pub NumberFits : NumberKind → Spelled → Type 0
NumberFits numbers s = (bytes : List ℕ) × (literal_fault numbers bytes ≡ None) × (s ≡ number bytes)

-- a number's reading gives a value
fault_none : {A : Type 0} (r : Result A NumberFault) → fault_of r ≡ None → (v : A) × (r ≡ Ok v)
fault_none (Ok v) e = (v, refl)
fault_none (Err fault) e = absurd cc

whole_reads : (bytes : List ℕ) (n : ℕ) → IsTrue (is_numeral bytes) → number_of bytes ≡ n → n ≤ most
    → read_as_whole bytes ≡ Ok n
unfolding read_as_whole
whole_reads bytes n numeral value limit =
    let fits : nat_le (number_of bytes) most ≡ true = le-leb (number_of bytes) most (subst (λ k. k ≤ most) (sym value) limit) in
    rw (numeral, fits) (ap Ok value)

whole_from : (bytes : List ℕ) (n : ℕ) → read_as_whole bytes ≡ Ok n → (rest : List Spelled)
    → IsWholeNumber n (number bytes ∷ rest) rest
unfolding read_as_whole
whole_from bytes n e rest = chosen (is_numeral bytes) (nat_le (number_of bytes) most) refl refl e
  where
    chosen : (b c : Bool) → is_numeral bytes ≡ b → nat_le (number_of bytes) most ≡ c
        → cond b (cond c (Ok (number_of bytes)) (Err Range)) (Err Form) ≡ Ok n
        → IsWholeNumber n (number bytes ∷ rest) rest
    chosen true true numeral limit e =
        let same : number_of bytes ≡ n = cc in
        record { digits = bytes; numeral = numeral; value = same; limit = subst (λ k. k ≤ most) same (leb-true (number_of bytes) most limit); spelling = refl }
    chosen true false numeral limit e = absurd cc
    chosen false c numeral limit e = absurd cc

pub one_whole : OneToken IsWholeNumber (NumberFits wholes)
one_whole = record {
  to = λ n ss rest is. (number is.digits, is.spelling, (is.digits, ap fault_of (whole_reads is.digits n is.numeral is.value is.limit), refl));
  back = λ s fits.
      let found = fault_none (read_as_whole fits.0) fits.1 in
      (found.0, λ rest. subst (λ u. IsWholeNumber found.0 (u ∷ rest) rest) (sym fits.2) (whole_from fits.0 found.0 found.1 rest));
}

pub one_literal : OneToken IsFraction (NumberFits literals)
one_literal = record {
  to = λ f ss rest is. (number is.bytes, is.spelling, (is.bytes, ap fault_of (((read_as_literal-judged is.bytes).value f).1 is.literal), refl));
  back = λ s fits.
      let found = fault_none (read_as_literal fits.0) fits.1 in
      (found.0, λ rest. record { bytes = fits.0; literal = ((read_as_literal-judged fits.0).value found.0).0 found.1; spelling = ap (λ u. u ∷ rest) fits.2 });
}

-- a set's number
abbrev pub IsSetNumber : ℕ → List Spelled → List Spelled → Type 0
IsSetNumber n tokens rest = IsWholeNumber n tokens rest × (1 ≤ n)

from_one_some : (r : Result ℕ NumberFault) (n : ℕ) → r ≡ Ok n → 1 ≤ n → from_one r ≡ Ok n
from_one_some r zero e some = absurd (omega (arith, some))
from_one_some r (suc n) e some = ap from_one e

pub one_set_number : OneToken IsSetNumber (NumberFits wholes_from_one)
unfolding read_as_set
one_set_number = record {
  to = λ n ss rest is.
      let w = is.0 in (
        number w.digits,
        w.spelling,
        (
          w.digits,
          ap fault_of (from_one_some (read_as_whole w.digits) n (whole_reads w.digits n w.numeral w.value w.limit) is.1),
          refl,
        ),
      );
  back = λ s fits.
      let found = fault_none (from_one (read_as_whole fits.0)) fits.1 in
      let n = set_ok fits.0 found.0 found.1 in
      (found.0, λ rest. (subst (λ u. IsWholeNumber found.0 (u ∷ rest) rest) (sym fits.2) (whole_from fits.0 found.0 n.0 rest), n.1));
}

-- Reading a number.

module _ {A : Type 0} (R : A → List Spelled → List Spelled → Type 0) (numbers : NumberKind)
    (one : OneToken R (NumberFits numbers)) where
  number_begins : BeginsPassing HasWord (Part R) (λ s. is_kind kinds.Number s.kind)
  number_begins = one_begins R (NumberFits numbers) one (λ s. is_kind kinds.Number s.kind) (number (codes "1")) (codes "1", each_takes_one numbers, refl)
      (λ u fits. ap (λ (s : Spelled). is_kind kinds.Number s.kind) fits.2)

  takes_numbers : (T : List Spelled → Type 0) → HasWord T → TakesNumbers (Part R T) [] numbers
  takes_numbers T word bytes = (
    (λ front.
        let l = front.1 in
        let found = one.to l.0 (number bytes ∷ front.0) l.1 l.2 in
        let same : number bytes ≡ number found.2.0 = let e = found.1 in let f = found.2.2 in cc in
        ap (literal_fault numbers) (ap (λ (s : Spelled). s.bytes) same) ∙ found.2.1),
    (λ none. (word.0, (one_alike R (NumberFits numbers) one (number bytes) (bytes, none, refl) T).back word.0 word.1)),
  )

  module _ (read : List ℕ → Result A NumberFault)
      (faults : (bytes : List ℕ) → literal_fault numbers bytes ≡ fault_of (read bytes)) (whole : List ℕ) (at : ℕ)
      (within : at ≤ length whole) where
    numbered_goes : (t : Lexeme) → next_from whole at ≡ Ok t → kinds.Number ≡ t.kind → (r : Result A NumberFault)
        → read (bytes_at whole t) ≡ r → Goes 1 HasWord (Part R) whole at (number_or_fault t r)
    numbered_goes t next is (Ok v) ok =
        let step : NextIs whole at t = record { next = next; not_end = λ ends. let clash : kinds.Number ≡ kinds.End = is ∙ ends in cc } in
        let grown = step_grows whole at within t step in
        goes_past 1 HasWord (Part R) whole at (v, t.end) (record {
          within = grown.1;
          grows = omega (arith, grown.0);
          along = λ P walk T word there.
              let fits : NumberFits numbers (spelled_at whole t) = (
                bytes_at whole t,
                faults (bytes_at whole t) ∙ ap fault_of ok,
                ap (λ k. record { kind = k; bytes = bytes_at whole t }) (sym is),
              ) in
              walk.step (Part R T) at t step (walk.alike (After (spelled_at whole t) (Part R T)) T t.end
              (one_alike R (NumberFits numbers) one (spelled_at whole t) fits T) there);
        })
    numbered_goes t next is (Err why) bad = goes_stuck 1 HasWord (Part R) whole at (Number t.start why) (λ T word. record {
      tokens = [];
      place = at;
      before = refl;
      front = number_begins.word T word;
      halt = Halt.bad_number t.start why refl (number_begins.first T [] word) (record {
        token = t;
        next = next;
        is_number = sym is;
        start = refl;
        numbers = numbers;
        needed = takes_numbers T word;
        has_fault = faults (bytes_at whole t) ∙ ap fault_of bad;
      });
    })

    pub number_goes : Goes 1 HasWord (Part R) whole at (number_at read whole at)
    number_goes = found (token_where (is_token kinds.Number whole) whole at) refl
      where
        found : (r : Result Lexeme FileFault) → token_where (is_token kinds.Number whole) whole at ≡ r
            → Goes 1 HasWord (Part R) whole at (r >>= λ token. number_or_fault token (read (bytes_at whole token)))
        found (Ok t) is =
            let ok = token_ok (is_token kinds.Number whole) whole at t is in
            numbered_goes t ok.0 (is_kind-true kinds.Number t.kind ok.1) (read (bytes_at whole t)) refl
        found (Err d) is = goes_stuck 1 HasWord (Part R) whole at d (λ T word. token_fault HasWord (Part R) (λ s. is_kind kinds.Number s.kind) number_test
            number_begins whole at T word d is)

-- reading a literal goes along its token, or is stuck there
pub literal_goes : (whole : List ℕ) (at : ℕ) → at ≤ length whole
    → Goes 1 HasWord (Part IsFraction) whole at (literal_at whole at)
unfolding literal_at
literal_goes whole at within = number_goes IsFraction literals one_literal read_as_literal (λ bytes. refl) whole at within

-- reading a whole number goes along its token, or is stuck there
pub whole_goes : (whole : List ℕ) (at : ℕ) → at ≤ length whole
    → Goes 1 HasWord (Part IsWholeNumber) whole at (whole_at whole at)
unfolding whole_at
whole_goes whole at within = number_goes IsWholeNumber wholes one_whole read_as_whole (λ bytes. refl) whole at within

-- reading a set's number goes along its token, or is stuck there
pub set_number_goes : (whole : List ℕ) (at : ℕ) → at ≤ length whole
    → Goes 1 HasWord (Part IsSetNumber) whole at (set_number_at whole at)
unfolding set_number_at
set_number_goes whole at within = number_goes IsSetNumber wholes_from_one one_set_number read_as_set (λ bytes. refl) whole at within

-- a language that has a word has one with a literal in front
pub literal_word : (T : List Spelled → Type 0) → HasWord T → HasWord (Part IsFraction T)
literal_word = (number_begins IsFraction literals one_literal).word

-- a language that has a word has one with a whole number in front
pub whole_word : (T : List Spelled → Type 0) → HasWord T → HasWord (Part IsWholeNumber T)
whole_word = (number_begins IsWholeNumber wholes one_whole).word

-- a language that has a word has one with a set's number in front
pub set_number_word : (T : List Spelled → Type 0) → HasWord T → HasWord (Part IsSetNumber T)
set_number_word = (number_begins IsSetNumber wholes_from_one one_set_number).word
