-- From one place on tokens are whole in one way at most, or stop with one fault.
use Rattle.std.proofs.Common.{◌≡◌, ◌≢◌, ℕ, List, [], ◌∷◌, ◌++◌, Some, None, Ok, Err, sym, refl, ap, ◌∙◌, subst, inl, inr, append_assoc, append-nil}
use Rattle.std.specs.Prelude.{codes}
use Rattle.def_file_tokens.specs.declared.Token.TheVariants as kinds
use Rattle.def_file_tokens.specs.declared.Lexeme.{Lexeme}
use Rattle.def_file_tokens.specs.declared.LexFault.TheVariants as lexing
use Rattle.def_file_tokens.specs.Tokens.{next_from}
use Rattle.def_fraction.specs.declared.fault.NumberFault.{NumberFault}
use Rattle.def_fraction.specs.Divisors.{gcd}
use Rattle.def_fraction.specs.Fraction.{fraction_of}
use Rattle.def_fraction.specs.Reading.{power_of, decimal_of, body_after, body_of, literal_of, value_of, read_as_literal, read_as_whole}
use Rattle.def_file.specs.declared.FileFault.{FileFault}
use Rattle.def_file.specs.declared.FileFault.TheVariants.{Syntax, UnexpectedEnd, Number}
use Rattle.def_file.specs.Reading.{bytes_at, read_as_set}
use Rattle.def_file_form.specs.Form.{Spelled, number, spelled_at}
use Rattle.def_file_form.specs.Offends.{AreNext, NumberKind, wholes, wholes_from_one, literals, literal_fault, IsFront, TakesNumbers, IsUnfit, IsNumberFault}
use Rattle.def_file_form.specs.Offends.{Stops, Offends, EndsWhole}
use Rattle.def_file_form.proofs.Languages.{Halt, Stuck, halt_stops}
use Rattle.def_file_form.proofs.OneTokenParts.{each_takes_one}

-- Two lists of tokens from one place on.

-- a token goes on behind a place
record GoesOn (whole : List ℕ) (place : ℕ) (shorter longer : List Spelled) : Type 0 where
  token : Lexeme
  next : next_from whole place ≡ Ok token
  not_end : token.kind ≢ kinds.End
  rest : List Spelled
  longer_is : longer ≡ shorter ++ spelled_at whole token ∷ rest

more_on : (whole : List ℕ) (place : ℕ) (s : Spelled) (shorter longer : List Spelled) → GoesOn whole place shorter longer
    → GoesOn whole place (s ∷ shorter) (s ∷ longer)
more_on whole place s shorter longer on = record {
  token = on.token;
  next = on.next;
  not_end = on.not_end;
  rest = on.rest;
  longer_is = ap (λ x. s ∷ x) on.longer_is;
}

-- they are one, or one goes on behind the other
data Compared (whole : List ℕ) (ss ts : List Spelled) (p q : ℕ) : Type 0 where
  same_place : ss ≡ ts → p ≡ q → Compared whole ss ts p q
  second_goes_on : GoesOn whole p ss ts → Compared whole ss ts p q
  first_goes_on : GoesOn whole q ts ss → Compared whole ss ts p q

compared : (whole : List ℕ) (at : ℕ) (ss ts : List Spelled) (p q : ℕ) → AreNext whole at ss p → AreNext whole at ts q
    → Compared whole ss ts p q
compared whole at [] [] p q a b = same_place refl (sym a ∙ b)
compared whole at [] (t ∷ ts) p q a b =
    second_goes_on (record { token = b.0; next = ap (next_from whole) (sym a) ∙ b.1; not_end = b.2; rest = ts; longer_is = ap (λ x. x ∷ ts) (sym b.3) })
compared whole at (s ∷ ss) [] p q a b =
    first_goes_on (record { token = a.0; next = ap (next_from whole) (sym b) ∙ a.1; not_end = a.2; rest = ss; longer_is = ap (λ x. x ∷ ss) (sym a.3) })
compared whole at (s ∷ ss) (t ∷ ts) p q a b =
    let token_same : a.0 ≡ b.0 = let e = sym a.1 ∙ b.1 in cc in
    let first_same : s ≡ t = sym a.3 ∙ ap (spelled_at whole) token_same ∙ b.3 in
    elim (compared whole a.0.end ss ts p q a.4 (subst (λ (l : Lexeme). AreNext whole l.end ts q) (sym token_same) b.4)) [
      | same_place same place ↦ same_place (λ i. first_same i ∷ same i) place
      | second_goes_on on ↦ second_goes_on (subst (λ x. GoesOn whole p (s ∷ ss) (x ∷ ts)) first_same (more_on whole p s ss ts on))
      | first_goes_on on ↦ first_goes_on (subst (λ x. GoesOn whole q (x ∷ ts) (s ∷ ss)) first_same (more_on whole q s ts ss on))
    ]

-- the token with which the longer goes on may come
front_on : (L : List Spelled → Type 0) (whole : List ℕ) (place : ℕ) (ss ts : List Spelled)
    (on : GoesOn whole place ss ts)
    → IsFront L ts → IsFront L (ss ++ spelled_at whole on.token ∷ [])
front_on L whole place ss ts on front =
    let s = spelled_at whole on.token in
    let longer : ts ++ front.0 ≡ (ss ++ s ∷ []) ++ (on.rest ++ front.0) =
    ap (λ x. x ++ front.0) on.longer_is ∙ append_assoc ss (s ∷ on.rest) front.0 ∙ sym (append_assoc ss (s ∷ []) (on.rest ++ front.0)) in
    (on.rest ++ front.0, subst L longer front.1)

-- Which numbers a place takes is one class.

abbrev Agree : NumberKind → NumberKind → Type 0
Agree n m = (bytes : List ℕ) → literal_fault n bytes ≡ None → literal_fault m bytes ≡ None

class_once : (n m : NumberKind) → Agree n m → Agree m n → n ≡ m
unfolding read_as_whole read_as_set read_as_literal literal_of value_of body_of body_after decimal_of power_of fraction_of gcd
class_once wholes wholes to back = refl
class_once wholes wholes_from_one to back = let clash = to (codes "0") refl in absurd cc
class_once wholes literals to back = let clash = back (codes "-1") refl in absurd cc
class_once wholes_from_one wholes to back = let clash = back (codes "0") refl in absurd cc
class_once wholes_from_one wholes_from_one to back = refl
class_once wholes_from_one literals to back = let clash = back (codes "-1") refl in absurd cc
class_once literals wholes to back = let clash = to (codes "-1") refl in absurd cc
class_once literals wholes_from_one to back = let clash = to (codes "-1") refl in absurd cc
class_once literals literals to back = refl

numbers_once : (L : List Spelled → Type 0) (ss : List Spelled) (n m : NumberKind) → TakesNumbers L ss n
    → TakesNumbers L ss m → n ≡ m
numbers_once L ss n m a b = class_once n m (λ bytes none. (b bytes).0 ((a bytes).1 none)) (λ bytes none. (a bytes).0 ((b bytes).1 none))

-- Why tokens stop.

data Cause (L : List Spelled → Type 0) (whole : List ℕ) (tokens : List Spelled) (place : ℕ)
    (fault : FileFault) : Type 0 where
  bad_byte : (at : ℕ) → fault ≡ Syntax at → next_from whole place ≡ Err (lexing.Syntax at)
      → Cause L whole tokens place fault
  bad_token : (at : ℕ) → fault ≡ Syntax at → IsUnfit L whole tokens place at → Cause L whole tokens place fault
  no_token : (t : Lexeme) → fault ≡ UnexpectedEnd → next_from whole place ≡ Ok t → t.kind ≡ kinds.End
      → Cause L whole tokens place fault
  no_mark : (at : ℕ) → fault ≡ UnexpectedEnd → next_from whole place ≡ Err (lexing.Unclosed at)
      → Cause L whole tokens place fault
  bad_number : (at : ℕ) (why : NumberFault) → fault ≡ Number at why → IsNumberFault L whole tokens place at why
      → Cause L whole tokens place fault

cause_of : (L : List Spelled → Type 0) (whole : List ℕ) (tokens : List Spelled) (place : ℕ) (fault : FileFault)
    → Stops L whole tokens place fault → Cause L whole tokens place fault
cause_of L whole tokens place (Syntax at) (unfinished, inl next) = bad_byte at refl next
cause_of L whole tokens place (Syntax at) (unfinished, inr unfit) = bad_token at refl unfit
cause_of L whole tokens place UnexpectedEnd (inl stop) = no_token stop.1 refl stop.2 stop.3
cause_of L whole tokens place UnexpectedEnd (inr stop) = no_mark stop.0 refl stop.1
cause_of L whole tokens place (Number at why) stop = bad_number at why refl stop
cause_of L whole tokens place _ stop = absurd stop

token_once : (whole : List ℕ) (place : ℕ) (t u : Lexeme) → next_from whole place ≡ Ok t → next_from whole place ≡ Ok u
    → t ≡ u
token_once whole place t u a b = let e = sym a ∙ b in cc

-- a token that stops as number
number_token : (L : List Spelled → Type 0) (whole : List ℕ) (ss : List Spelled) (place at : ℕ) (why : NumberFault)
    (n : IsNumberFault L whole ss place at why) (t : Lexeme)
    → next_from whole place ≡ Ok t → IsFront L (ss ++ spelled_at whole t ∷ []) → ⊥
number_token L whole ss place at why n t next front =
    let same : t ≡ n.token = token_once whole place t n.token next n.next in
    let spelled : spelled_at whole t ≡ number (bytes_at whole n.token) = ap (spelled_at whole) same
    ∙ ap (λ k. record { kind = k; bytes = bytes_at whole n.token }) n.is_number in
    let none = (n.needed (bytes_at whole n.token)).0 (subst (λ s. IsFront L (ss ++ s ∷ [])) spelled front) in
    let clash : None ≡ Some why = sym none ∙ n.has_fault in
    cc

-- where a token goes on, nothing stops
goes_no_stop : (L : List Spelled → Type 0) (whole : List ℕ) (place : ℕ) (ss ts : List Spelled) (fault : FileFault)
    → GoesOn whole place ss ts → IsFront L ts → Stops L whole ss place fault → ⊥
goes_no_stop L whole place ss ts fault on front stop = caused (cause_of L whole ss place fault stop)
  where
    fits : IsFront L (ss ++ spelled_at whole on.token ∷ [])
    fits = front_on L whole place ss ts on front

    caused : Cause L whole ss place fault → ⊥
    caused (bad_byte at is next) = let e = sym on.next ∙ next in cc
    caused (bad_token at is u) = u.unfit (subst (λ l. IsFront L (ss ++ spelled_at whole l ∷ [])) (token_once whole place on.token u.token on.next u.next) fits)
    caused (no_token t is next ends) = on.not_end (ap (λ (l : Lexeme). l.kind) (token_once whole place on.token t on.next next) ∙ ends)
    caused (no_mark at is next) = let e = sym on.next ∙ next in cc
    caused (bad_number at why is n) = number_token L whole ss place at why n on.token on.next fits

-- one place stops with one fault
module _ (L : List Spelled → Type 0) (whole : List ℕ) (ss : List Spelled) (place : ℕ) (f g : FileFault) where
  unfit_number : (at : ℕ) → IsUnfit L whole ss place at → (from : ℕ) (why : NumberFault)
      → IsNumberFault L whole ss place from why → ⊥
  unfit_number at u from why n =
      let same : u.token ≡ n.token = token_once whole place u.token n.token u.next n.next in
      u.no_number (ap (λ (l : Lexeme). l.kind) same ∙ n.is_number) n.numbers n.needed

  end_unfit : (t : Lexeme) → next_from whole place ≡ Ok t → t.kind ≡ kinds.End → (at : ℕ) → IsUnfit L whole ss place at
      → ⊥
  end_unfit t next ends at u = u.not_end (ap (λ (l : Lexeme). l.kind) (token_once whole place u.token t u.next next) ∙ ends)

  end_number : (t : Lexeme) → next_from whole place ≡ Ok t → t.kind ≡ kinds.End → (at : ℕ) (why : NumberFault)
      → IsNumberFault L whole ss place at why → ⊥
  end_number t next ends at why n =
      let same = ap (λ (l : Lexeme). l.kind) (token_once whole place t n.token next n.next) in
      let clash : kinds.End ≡ kinds.Number = sym ends ∙ same ∙ n.is_number in cc

  causes_once : Cause L whole ss place f → Cause L whole ss place g → f ≡ g
  causes_once (bad_byte at is next) (bad_byte from is2 next2) = let e = sym next ∙ next2 in cc
  causes_once (bad_byte at is next) (bad_token from is2 u) = let e = sym next ∙ u.next in absurd cc
  causes_once (bad_byte at is next) (no_token t is2 next2 ends) = let e = sym next ∙ next2 in absurd cc
  causes_once (bad_byte at is next) (no_mark from is2 next2) = let e = sym next ∙ next2 in absurd cc
  causes_once (bad_byte at is next) (bad_number from why is2 n) = let e = sym next ∙ n.next in absurd cc
  causes_once (bad_token at is u) (bad_byte from is2 next2) = let e = sym u.next ∙ next2 in absurd cc
  causes_once (bad_token at is u) (bad_token from is2 v) =
      let same : at ≡ from = sym u.start ∙ ap (λ (l : Lexeme). l.start) (token_once whole place u.token v.token u.next v.next) ∙ v.start in
      is ∙ ap Syntax same ∙ sym is2
  causes_once (bad_token at is u) (no_token t is2 next2 ends) = absurd (end_unfit t next2 ends at u)
  causes_once (bad_token at is u) (no_mark from is2 next2) = let e = sym u.next ∙ next2 in absurd cc
  causes_once (bad_token at is u) (bad_number from why is2 n) = absurd (unfit_number at u from why n)
  causes_once (no_token t is next ends) (bad_byte from is2 next2) = let e = sym next ∙ next2 in absurd cc
  causes_once (no_token t is next ends) (bad_token from is2 v) = absurd (end_unfit t next ends from v)
  causes_once (no_token t is next ends) (no_token t2 is2 next2 ends2) = is ∙ sym is2
  causes_once (no_token t is next ends) (no_mark from is2 next2) = is ∙ sym is2
  causes_once (no_token t is next ends) (bad_number from why is2 n) = absurd (end_number t next ends from why n)
  causes_once (no_mark at is next) (bad_byte from is2 next2) = let e = sym next ∙ next2 in absurd cc
  causes_once (no_mark at is next) (bad_token from is2 v) = let e = sym next ∙ v.next in absurd cc
  causes_once (no_mark at is next) (no_token t2 is2 next2 ends2) = is ∙ sym is2
  causes_once (no_mark at is next) (no_mark from is2 next2) = is ∙ sym is2
  causes_once (no_mark at is next) (bad_number from why is2 n) = let e = sym next ∙ n.next in absurd cc
  causes_once (bad_number at why is n) (bad_byte from is2 next2) = let e = sym n.next ∙ next2 in absurd cc
  causes_once (bad_number at why is n) (bad_token from is2 v) = absurd (unfit_number from v at why n)
  causes_once (bad_number at why is n) (no_token t2 is2 next2 ends2) = absurd (end_number t2 next2 ends2 at why n)
  causes_once (bad_number at why is n) (no_mark from is2 next2) = let e = sym n.next ∙ next2 in absurd cc
  causes_once (bad_number at why is n) (bad_number from because is2 m) =
      let token : n.token ≡ m.token = token_once whole place n.token m.token n.next m.next in
      let start : at ≡ from = sym n.start ∙ ap (λ (l : Lexeme). l.start) token ∙ m.start in
      let class : n.numbers ≡ m.numbers = numbers_once L ss n.numbers m.numbers n.needed m.needed in
      let found : Some why ≡ Some because = sym n.has_fault ∙ (λ i. literal_fault (class i) (bytes_at whole (token i))) ∙ m.has_fault in
      let reason : why ≡ because = cc in
      is ∙ (λ i. Number (start i) (reason i)) ∙ sym is2

-- From one offset on there is one first fault at most.
pub one_offence : (L : List Spelled → Type 0) (whole : List ℕ) (at : ℕ) (f g : FileFault) → Offends L whole at f
    → Offends L whole at g → f ≡ g
one_offence L whole at f g a b =
    elim (compared whole at a.tokens b.tokens a.place b.place a.before b.before) [
      | same_place same place ↦
          causes_once L whole b.tokens b.place f g (subst (λ ss. Cause L whole ss b.place f) same
          (subst (λ n. Cause L whole a.tokens n f) place (cause_of L whole a.tokens a.place f a.stop))) (cause_of L whole b.tokens b.place g b.stop)
      | second_goes_on on ↦ absurd (goes_no_stop L whole a.place a.tokens b.tokens f on b.front a.stop)
      | first_goes_on on ↦ absurd (goes_no_stop L whole b.place b.tokens a.tokens g on a.front b.stop)
    ]

-- tokens that are whole, behind which nothing goes on
pub record IsEnded (L : List Spelled → Type 0) (whole : List ℕ) (at : ℕ) (tokens : List Spelled)
    (end : ℕ) : Type 0 where
  pub next : AreNext whole at tokens end
  pub word : L tokens
  pub ends : EndsWhole L whole tokens end

front_of : (L : List Spelled → Type 0) (ss : List Spelled) → L ss → IsFront L ss
front_of L ss word = ([], subst L (sym (append-nil ss)) word)

-- they are one
pub one_end : (L : List Spelled → Type 0) (whole : List ℕ) (at : ℕ) (ss ts : List Spelled) (p q : ℕ)
    → IsEnded L whole at ss p → IsEnded L whole at ts q → (ss ≡ ts) × (p ≡ q)
one_end L whole at ss ts p q a b =
    elim (compared whole at ss ts p q a.next b.next) [
      | same_place same place ↦ (same, place)
      | second_goes_on on ↦ absurd (a.ends.token on.token on.next (front_on L whole p ss ts on (front_of L ts b.word)))
      | first_goes_on on ↦ absurd (b.ends.token on.token on.next (front_on L whole q ts ss on (front_of L ss a.word)))
    ]

module _ (L : List Spelled → Type 0) (whole : List ℕ) (at : ℕ) (ts : List Spelled) (end : ℕ)
    (b : IsEnded L whole at ts end) (fault : FileFault) where
  -- what is stuck isn't whole
  pub stuck_no_end : Stuck L whole at fault → ⊥
  stuck_no_end a =
      elim (compared whole at a.tokens ts a.place end a.before b.next) [
        | same_place same place ↦ halted (subst (λ ss. Halt L whole ss end fault) same (subst (λ n. Halt L whole a.tokens n fault) place a.halt))
        | second_goes_on on ↦ goes_no_stop L whole a.place a.tokens ts fault on (front_of L ts b.word) (halt_stops L whole a.tokens a.place fault a.halt)
        | first_goes_on on ↦ b.ends.token on.token on.next (front_on L whole end ts a.tokens on a.front)
      ]
    where
      halted : Halt L whole ts end fault → ⊥
      halted (Halt.bad_byte p is unfinished next) = unfinished b.word
      halted (Halt.bad_token p is unfinished unfit) = unfinished b.word
      halted (Halt.no_token t is unfinished next ends) = unfinished b.word
      halted (Halt.no_mark p is next takes) = b.ends.no_text p next (takes b.word)
      halted (Halt.bad_number p why is unfinished n) = unfinished b.word

  -- nor is what offends, where no number may follow either
  pub offence_no_end : ((bytes : List ℕ) → IsFront L (ts ++ number bytes ∷ []) → ⊥) → Offends L whole at fault → ⊥
  offence_no_end no_number a =
      elim (compared whole at a.tokens ts a.place end a.before b.next) [
        | same_place same place ↦ stopped fault (subst (λ ss. Stops L whole ss end fault) same (subst (λ n. Stops L whole a.tokens n fault) place a.stop))
        | second_goes_on on ↦ goes_no_stop L whole a.place a.tokens ts fault on (front_of L ts b.word) a.stop
        | first_goes_on on ↦ b.ends.token on.token on.next (front_on L whole end ts a.tokens on a.front)
      ]
    where
      stopped : (fault : FileFault) → Stops L whole ts end fault → ⊥
      stopped (Syntax p) stop = stop.0 b.word
      stopped UnexpectedEnd (inl stop) = stop.0 b.word
      stopped UnexpectedEnd (inr stop) = b.ends.no_text stop.0 stop.1 (stop.2 b.word)
      stopped (Number p why) n = no_number (codes "1") ((n.needed (codes "1")).1 (each_takes_one n.numbers))
      stopped _ stop = stop
