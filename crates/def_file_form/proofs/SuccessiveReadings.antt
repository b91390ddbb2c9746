-- Readings by the languages that they take in front of what follows, and readings one after another.
use Rattle.std.proofs.Common.{◌≡◌, ◌≢◌, ℕ, ◌+◌, ◌≤◌, Bool, true, false, cond, List, [], ◌∷◌, length, None, Result, Ok, Err, sym, refl, ap, ◌∙◌, subst, arith}
use Rattle.def_file_tokens.specs.declared.Token.{Token}
use Rattle.def_file_tokens.specs.declared.Token.TheVariants as kinds
use Rattle.def_file_tokens.specs.declared.Lexeme.{Lexeme}
use Rattle.def_file_tokens.specs.declared.LexFault.{LexFault}
use Rattle.def_file_tokens.specs.declared.LexFault.TheVariants as lexing
use Rattle.def_file_tokens.specs.Tokens.{next_from}
use Rattle.def_file.specs.declared.FileFault.{FileFault}
use Rattle.def_file.specs.declared.FileFault.TheVariants.{Syntax, UnexpectedEnd}
use Rattle.def_file.specs.Reading.{◌>>=◌, is_kind, token_if, unfit, token_where}
use Rattle.def_file_form.specs.Form.{Spelled, number, spelled_at}
use Rattle.def_file_form.proofs.TokenByToken.{is_kind-true, token_ok}
use Rattle.def_file_form.specs.Offends.{NumberKind, literal_fault, IsFront}
use Rattle.def_file_form.proofs.Languages.{Alike, AlikeBut, After, NextIs, NotNext, Walk, Halt, Stuck, stuck_walk}
use Rattle.def_file_form.proofs.NextByteTellsToken.{step_grows}

-- there is a word
abbrev pub HasWord : (List Spelled → Type 0) → Type 0
HasWord L = (ss : List Spelled) × L ss

-- A language of a part and of what follows is one of what follows: `In T` are the words of the part with one of T
-- behind it, for those T that may follow.

-- what was read up to an offset
pub record Past (least : ℕ) (Follows : (List Spelled → Type 0) → Type 0) (In : (List Spelled → Type 0) → List Spelled → Type 0) (whole : List ℕ)
    (at end : ℕ) : Type 1 where
  pub within : end ≤ length whole
  pub grows : at + least ≤ end
  pub along : (P : (List Spelled → Type 0) → ℕ → Type 0) → Walk whole P → (T : List Spelled → Type 0) → Follows T
      → P T end → P (In T) at

-- a reading goes along the language, with so many bytes at least, or is stuck in it
pub record Goes {A : Type 0} (least : ℕ) (Follows : (List Spelled → Type 0) → Type 0) (In : (List Spelled → Type 0) → List Spelled → Type 0) (whole : List ℕ)
    (at : ℕ) (r : Result (A × ℕ) FileFault) : Type 1 where
  pub past : (x : A × ℕ) → r ≡ Ok x → Past least Follows In whole at x.1
  pub stuck : (fault : FileFault) → r ≡ Err fault → (T : List Spelled → Type 0) → Follows T
      → Stuck (In T) whole at fault

-- a reading that gives a value goes along, if what it read does
pub goes_past : {A : Type 0} (least : ℕ) (Follows : (List Spelled → Type 0) → Type 0)
    (In : (List Spelled → Type 0) → List Spelled → Type 0) (whole : List ℕ) (at : ℕ) (x : A × ℕ)
    → Past least Follows In whole at x.1 → Goes least Follows In whole at (Ok x)
goes_past {A} least Follows In whole at x p = record {
  past = λ y e. let same : x ≡ y = cc in subst (λ (z : A × ℕ). Past least Follows In whole at z.1) same p;
  stuck = λ fault e. absurd cc;
}

-- a reading that ends with a fault is stuck, if it is so before all that may follow
pub goes_stuck : {A : Type 0} (least : ℕ) (Follows : (List Spelled → Type 0) → Type 0)
    (In : (List Spelled → Type 0) → List Spelled → Type 0) (whole : List ℕ) (at : ℕ) (fault : FileFault)
    → ((T : List Spelled → Type 0) → Follows T → Stuck (In T) whole at fault)
    → Goes {A = A} least Follows In whole at (Err fault)
goes_stuck {A} least Follows In whole at fault s = record {
  past = λ y e. absurd cc;
  stuck = λ d e T f. let same : fault ≡ d = cc in subst (Stuck (In T) whole at) same (s T f);
}

-- one reading after another
pub goes_then : {A B : Type 0} (least : ℕ) (F G : (List Spelled → Type 0) → Type 0)
    (In On : (List Spelled → Type 0) → List Spelled → Type 0) (whole : List ℕ) (at : ℕ) (r : Result (A × ℕ) FileFault)
    (f : A × ℕ → Result (B × ℕ) FileFault)
    → Goes least F In whole at r → ((T : List Spelled → Type 0) → G T → F (On T))
    → ((x : A × ℕ) → r ≡ Ok x → x.1 ≤ length whole → at + least ≤ x.1 → Goes 0 G On whole x.1 (f x))
    → Goes least G (λ T. In (On T)) whole at (r >>= f)
goes_then least F G In On whole at (Ok x) f first follows again =
    let p = first.past x refl in
    let rest = again x refl p.within p.grows in
    record {
      past = λ y e.
          let q = rest.past y e in
          record {
            within = q.within;
            grows = omega (arith, p.grows, q.grows);
            along = λ P walk T g there. p.along P walk (On T) (follows T g) (q.along P walk T g there);
          };
      stuck = λ fault e T g. p.along (λ L n. Stuck L whole n fault) (stuck_walk whole fault) (On T) (follows T g) (rest.stuck fault e T g);
    }
goes_then least F G In On whole at (Err d) f first follows again = record {
  past = λ y e. absurd cc;
  stuck = λ fault e T g. first.stuck fault (let same : d ≡ fault = cc in ap Err same) (On T) (follows T g);
}

-- a value from what was read
pub goes_with : {A B : Type 0} (least : ℕ) (F : (List Spelled → Type 0) → Type 0)
    (In : (List Spelled → Type 0) → List Spelled → Type 0) (whole : List ℕ) (at : ℕ) (r : Result (A × ℕ) FileFault)
    (f : A × ℕ → B)
    → Goes least F In whole at r → Goes least F In whole at (r >>= λ x. Ok (f x, x.1))
goes_with least F In whole at (Ok x) f first = goes_past least F In whole at (f x, x.1) (first.past x refl)
goes_with least F In whole at (Err d) f first = goes_stuck least F In whole at d (first.stuck d refl)

-- in a language with the same words, with fewer languages that may follow
pub goes_alike : {A : Type 0} (least : ℕ) (F G : (List Spelled → Type 0) → Type 0)
    (In On : (List Spelled → Type 0) → List Spelled → Type 0) (whole : List ℕ) (at : ℕ) (r : Result (A × ℕ) FileFault)
    → ((T : List Spelled → Type 0) → G T → F T) → ((T : List Spelled → Type 0) → G T → Alike (On T) (In T))
    → Goes least F In whole at r → Goes least G On whole at r
goes_alike least F G In On whole at r fewer alike go = record {
  past = λ x e.
      let p = go.past x e in
      record { within = p.within; grows = p.grows; along = λ P walk T g there. walk.alike (On T) (In T) at (alike T g) (p.along P walk T (fewer T g) there) };
  stuck = λ fault e T g. (stuck_walk whole fault).alike (On T) (In T) at (alike T g) (go.stuck fault e T (fewer T g));
}

-- with fewer bytes
pub goes_less : {A : Type 0} (least less : ℕ) (F : (List Spelled → Type 0) → Type 0)
    (In : (List Spelled → Type 0) → List Spelled → Type 0) (whole : List ℕ) (at : ℕ) (r : Result (A × ℕ) FileFault)
    → less ≤ least → Goes least F In whole at r → Goes less F In whole at r
goes_less least less F In whole at r order go = record {
  past = λ x e. let p = go.past x e in record { within = p.within; grows = omega (arith, p.grows, order); along = p.along };
  stuck = go.stuck;
}

-- where what comes next is of another kind
pub goes_other : {A : Type 0} (least : ℕ) (kind : Token) → kind ≢ kinds.Number
    → (F : (List Spelled → Type 0) → Type 0) → (In On : (List Spelled → Type 0) → List Spelled → Type 0)
    → (whole : List ℕ) (at : ℕ) (r : Result (A × ℕ) FileFault)
    → ((T : List Spelled → Type 0) → F T → AlikeBut kind (On T) (In T)) → NotNext kind whole at
    → Goes least F In whole at r → Goes least F On whole at r
goes_other least kind not_number F In On whole at r but apart go = record {
  past = λ x e.
      let p = go.past x e in
      record {
        within = p.within;
        grows = p.grows;
        along = λ P walk T g there. walk.other kind not_number (On T) (In T) at (but T g) apart
            (p.along P walk T g there);
      };
  stuck = λ fault e T g. (stuck_walk whole fault).other kind not_number (On T) (In T) at (but T g) apart (go.stuck fault e T g);
}

-- behind a token
pub goes_step : {A : Type 0} (F : (List Spelled → Type 0) → Type 0)
    (In : (List Spelled → Type 0) → List Spelled → Type 0) (whole : List ℕ) (at : ℕ)
    → at ≤ length whole → (t : Lexeme) → NextIs whole at t → (r : Result (A × ℕ) FileFault)
    → Goes 0 F (λ T. After (spelled_at whole t) (In T)) whole t.end r → Goes 1 F In whole at r
goes_step F In whole at within t step r go =
    let grown = step_grows whole at within t step in
    record {
      past = λ x e.
          let q = go.past x e in
          record {
            within = q.within;
            grows = omega (arith, grown.0, q.grows);
            along = λ P walk T g there. walk.step (In T) at t step (q.along P walk T g there);
          };
      stuck = λ fault e T g. (stuck_walk whole fault).step (In T) at t step (go.stuck fault e T g);
    }

-- A token that has to pass a test.

-- there is a first token, and it passes the test
abbrev pub FirstTaken : (Spelled → Bool) → List Spelled → Type 0
FirstTaken test [] = ⊥
FirstTaken test (s ∷ ss) = test s ≡ true

-- the end doesn't pass; where a number doesn't, there is one that doesn't and that each place of numbers takes
pub record IsTest (test : Spelled → Bool) : Type 0 where
  pub not_end : (s : Spelled) → s.kind ≡ kinds.End → test s ≡ false
  pub numbers : (s : Spelled) → s.kind ≡ kinds.Number → test s ≡ false
      → (bytes : List ℕ) × (test (number bytes) ≡ false) × ((numbers : NumberKind) → literal_fault numbers bytes ≡ None)

-- only tokens that pass come first
pub record BeginsPassing (F : (List Spelled → Type 0) → Type 0) (In : (List Spelled → Type 0) → List Spelled → Type 0) (test : Spelled → Bool) : Type 1 where
  pub word : (T : List Spelled → Type 0) → F T → HasWord (In T)
  pub first : (T : List Spelled → Type 0) (ss : List Spelled) → F T → In T ss → FirstTaken test ss

module _ (F : (List Spelled → Type 0) → Type 0) (In : (List Spelled → Type 0) → List Spelled → Type 0)
    (test : Spelled → Bool) (is_test : IsTest test) (begins : BeginsPassing F In test) (whole : List ℕ) (at : ℕ)
    (T : List Spelled → Type 0) (follows : F T) where
  unfinished : In T [] → ⊥
  unfinished l = begins.first T [] follows l

  taken : (s : Spelled) → test s ≡ false → IsFront (In T) (s ∷ []) → ⊥
  taken s fails front = let passes : test s ≡ true = begins.first T (s ∷ front.0) follows front.1 in absurd
      (let clash : true ≡ false = sym passes ∙ fails in cc)

  here : (fault : FileFault) → Halt (In T) whole [] at fault → Stuck (In T) whole at fault
  here fault halt = record { tokens = []; place = at; before = refl; front = begins.word T follows; halt = halt }

  unfit_here : (t : Lexeme) (b : Bool) → is_kind kinds.End t.kind ≡ b → next_from whole at ≡ Ok t
      → test (spelled_at whole t) ≡ false → Stuck (In T) whole at (cond b UnexpectedEnd (Syntax t.start))
  unfit_here t true is next fails = here UnexpectedEnd (Halt.no_token t refl unfinished next (sym (is_kind-true kinds.End t.kind is)))
  unfit_here t false is next fails = here (Syntax t.start) (Halt.bad_token t.start refl unfinished (record {
    token = t;
    next = next;
    not_end = λ ends. let clash : true ≡ false = sym (ap (is_kind kinds.End) ends) ∙ is in cc;
    start = refl;
    unfit = taken (spelled_at whole t) fails;
    no_number = λ is_number numbers takes.
        let n = is_test.numbers (spelled_at whole t) is_number fails in
        taken (number n.0) n.1 ((takes n.0).1 (n.2 numbers));
  }))

  fault_here : (r : Result Lexeme LexFault) (fault : FileFault) → next_from whole at ≡ r
      → token_if (λ t. test (spelled_at whole t)) r ≡ Err fault → Stuck (In T) whole at fault
  fault_here (Ok t) fault next e = tested (test (spelled_at whole t)) refl e
    where
      tested : (b : Bool) → test (spelled_at whole t) ≡ b → cond b (Ok t) (Err (unfit t)) ≡ Err fault
          → Stuck (In T) whole at fault
      tested true is e = absurd cc
      tested false is e = let same : unfit t ≡ fault = cc in subst (Stuck (In T) whole at) same (unfit_here t (is_kind kinds.End t.kind) refl next is)
  fault_here (Err (lexing.Syntax p)) fault next e = let same : Syntax p ≡ fault = cc in subst (Stuck (In T) whole at) same
      (here (Syntax p) (Halt.bad_byte p refl unfinished next))
  fault_here (Err (lexing.Unclosed p)) fault next e = let same : UnexpectedEnd
      ≡ fault = cc in subst (Stuck (In T) whole at) same (here UnexpectedEnd (Halt.no_mark p refl next (λ l. absurd (unfinished l))))

  -- where only tokens that pass the test come first, reading is stuck with the fault that comes instead of one
  pub token_fault : (fault : FileFault) → token_where (λ t. test (spelled_at whole t)) whole at ≡ Err fault
      → Stuck (In T) whole at fault
  unfolding token_where
  token_fault fault e = fault_here (next_from whole at) fault refl e

-- a token that passes the test, and what is read behind it
pub goes_token : {A : Type 0} (F : (List Spelled → Type 0) → Type 0)
    (In : (List Spelled → Type 0) → List Spelled → Type 0) (test : Spelled → Bool)
    → IsTest test → BeginsPassing F In test → (whole : List ℕ) (at : ℕ) (f : Lexeme → Result (A × ℕ) FileFault)
    → at ≤ length whole
    → ((t : Lexeme) → NextIs whole at t → test (spelled_at whole t) ≡ true → t.end ≤ length whole
    → Goes 0 F (λ T. After (spelled_at whole t) (In T)) whole t.end (f t))
    → Goes 1 F In whole at (token_where (λ t. test (spelled_at whole t)) whole at >>= f)
goes_token {A} F In test is_test begins whole at f within again = found (token_where (λ t. test (spelled_at whole t)) whole at) refl
  where
    found : (r : Result Lexeme FileFault) → token_where (λ t. test (spelled_at whole t)) whole at ≡ r
        → Goes 1 F In whole at (r >>= f)
    found (Ok t) is =
        let ok = token_ok (λ t. test (spelled_at whole t)) whole at t is in
        let step : NextIs whole at t = record {
          next = ok.0;
          not_end = λ ends. let clash : true ≡ false = sym ok.1 ∙ is_test.not_end (spelled_at whole t) ends in cc;
        } in
        goes_step F In whole at within t step (f t) (again t step ok.1 (step_grows whole at within t step).1)
    found (Err d) is = goes_stuck 1 F In whole at d (λ T g. token_fault F In test is_test begins whole at T g d is)
