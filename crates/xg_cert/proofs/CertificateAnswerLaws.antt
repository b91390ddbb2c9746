-- What is answered is what the laws of the text say.
use Rattle.std.proofs.Common.{◌≡◌, ℕ, List, Result, Ok, Err, IfOk, ◌∙◌, sym, subst}
use Rattle.def_cert_text.specs.Versions.{VersionedCertificate, VersionedFits}
use Rattle.def_cert_text.specs.declared.fault.CertFault.{CertFault}
use Rattle.def_cert_text.specs.CertText.{versioned_in, versioned_text}
use Rattle.def_cert_text.specs.FirstFault.{FirstVersionedFault}
use Rattle.def_cert_text.specs.Laws.{VersionedReadingIsExact, FirstVersionedFaultDecides}
use Rattle.xg_cert.specs.declared.refused.CertRefused.{CertRefused}
use Rattle.xg_cert.specs.declared.refused.CertRefused.TheVariants.{Cert, NoMemory}
use Rattle.xg_cert.specs.Answers.{AnswersCertificate}

same_answer : {X : Type 0} (result : Result X CertRefused) (a b : Result X CertFault) → a ≡ b
    → AnswersCertificate result a
    → AnswersCertificate result b
same_answer (Ok x) a b same e = sym same ∙ e
same_answer (Err (Cert fault)) a b same e = sym same ∙ e
same_answer (Err NoMemory) a b same e = e

pub answer_fits : VersionedReadingIsExact → (bytes : List ℕ) (result : Result VersionedCertificate CertRefused)
    → AnswersCertificate result (versioned_in bytes)
    → IfOk result VersionedFits
answer_fits law bytes (Ok c) e = ((law bytes c).0 e).0
answer_fits law bytes (Err refused) e = tt

-- where reading is exact, the bytes are the text of the certificate that is answered
pub answer_text : VersionedReadingIsExact → (bytes : List ℕ) (result : Result VersionedCertificate CertRefused)
    → AnswersCertificate result (versioned_in bytes)
    → IfOk result (λ c. bytes ≡ versioned_text c)
answer_text law bytes (Ok c) e = ((law bytes c).0 e).1
answer_text law bytes (Err refused) e = tt

-- where reading is exact, the text of a certificate within its ranges is answered by that one, memory apart
pub answer_only : VersionedReadingIsExact → (bytes : List ℕ) (result : Result VersionedCertificate CertRefused)
    → AnswersCertificate result (versioned_in bytes)
    → (c : VersionedCertificate) → VersionedFits c → bytes ≡ versioned_text c → AnswersCertificate result (Ok c)
answer_only law bytes result e c fits text = same_answer result (versioned_in bytes) (Ok c) ((law bytes c).1 (fits, text)) e

-- where reading stops at the first fault, a fault of the bytes that is answered is that one
pub answer_first : FirstVersionedFaultDecides → (bytes : List ℕ) (result : Result VersionedCertificate CertRefused)
    → AnswersCertificate result (versioned_in bytes)
    → (fault : CertFault) → result ≡ Err (Cert fault) → FirstVersionedFault bytes fault
answer_first law bytes result e fault same =
    (law bytes fault).0 (subst (λ (r : Result VersionedCertificate CertRefused). AnswersCertificate r (versioned_in bytes)) same e)

-- where reading stops at the first fault, that one is answered, memory apart
pub answer_faults : FirstVersionedFaultDecides → (bytes : List ℕ) (result : Result VersionedCertificate CertRefused)
    → AnswersCertificate result (versioned_in bytes)
    → (fault : CertFault) → FirstVersionedFault bytes fault → AnswersCertificate result (Err fault)
answer_faults law bytes result e fault first = same_answer result (versioned_in bytes) (Err fault) ((law bytes fault).1 first) e
