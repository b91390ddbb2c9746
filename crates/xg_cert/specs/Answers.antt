-- What a reader answers, where memory may run out.
use Rattle.std.specs.Prelude.{◌≡◌, ℕ, List, ◌++◌, Result, Ok, Err, ⊤}
use Rattle.def_cert_text.specs.declared.fault.CertFault.{CertFault}
use Rattle.def_cert_text.specs.Fields.{◌>>=◌}
use Rattle.def_cert_text.specs.Formats.{Format}
use Rattle.def_cert_text.specs.CertText.{if_at_end}
use Rattle.xg_cert.specs.declared.refused.CertRefused.{CertRefused}
use Rattle.xg_cert.specs.declared.refused.CertRefused.TheVariants.{Cert, NoMemory}

-- the fault that reading gives, memory apart
abbrev pub Fails : {Y : Type 0} → CertRefused → Result Y CertFault → Type 0
Fails (Cert fault) read = read ≡ Err fault
Fails NoMemory read = ⊤

-- the value or the fault that reading gives, memory apart
abbrev pub AnswersCertificate : {X : Type 0} → Result X CertRefused → Result X CertFault → Type 0
AnswersCertificate (Ok x) read = read ≡ Ok x
AnswersCertificate (Err refused) read = Fails refused read

-- a value, seen by `view`, or the fault
abbrev pub Gives : {X Y : Type 0} → (X → Y) → Result X CertFault → Result Y CertFault → Type 0
Gives view (Ok x) read = read ≡ Ok (view x)
Gives view (Err fault) read = read ≡ Err fault

-- what reading gives up to the end of the text
abbrev pub text_read : {X : Type 0} → Format X → ℕ → List ℕ → Result X CertFault
text_read f total bytes = f.read total bytes >>= λ x. if_at_end total x.0 x.1

-- a value, seen by `view`, and the bytes behind it
abbrev pub GivesValueFor : {X Y : Type 0} → (X → Y) → Result X CertRefused → List ℕ → Result (Y × List ℕ) CertFault
    → Type 0
GivesValueFor view (Ok x) left read = read ≡ Ok (view x, left)
GivesValueFor view (Err refused) left read = Fails refused read

-- what is read, behind what was there before
abbrev pub behind_front : {A : Type 0} → List A → Result (List A × List ℕ) CertFault
    → Result (List A × List ℕ) CertFault
behind_front front read = read >>= λ x. Ok (front ++ x.0, x.1)

-- what stands there now is what stood there before and what reading gives
abbrev pub Extends : {X A : Type 0} → List A → List A → Result X CertRefused → List ℕ
    → Result (List A × List ℕ) CertFault → Type 0
Extends before now (Ok _) left read = behind_front before read ≡ Ok (now, left)
Extends before now (Err refused) left read = Fails refused read
