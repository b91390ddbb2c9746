-- What holds of the text. Each law is the contract of a function of this crate.
use Rattle.std.specs.Prelude.{◌≡◌, ◌≢◌, ℕ, ◌<◌, ◌↔◌, false, List, ◌∷◌, ◌++◌, codes, length, take, Some, None, Result}
use Rattle.std.specs.Prelude.{Ok, Err}
use Rattle.def_cert_text.specs.declared.fault.CertFault.{CertFault}
use Rattle.def_cert_text.specs.declared.fault.CertFault.TheVariants.{CertShort, CertVersion}
use Rattle.def_reply.specs.Outcome.{Head}
use Rattle.def_cert_verdict.specs.Certificate.{PrintedBounds}
use Rattle.def_cert_text.specs.Versions.{PrintedBracket, VersionedCertificate, in_version_one, VersionedFits}
use Rattle.def_cert_text.specs.declared.version.TextVersion.{TextVersion}
use Rattle.def_cert_text.specs.declared.version.TextVersion.TheVariants as versions
use Rattle.def_cert_text.specs.Fields.{space, next_field, behind_field, is_empty}
use Rattle.def_cert_text.specs.Formats.{text_of}
use Rattle.def_cert_text.specs.CertText.{trace_lines, plan_lines, reply_lines, bracket_line, versioned_text}
use Rattle.def_cert_text.specs.CertText.{head_text_of, first_text_of, asked_text, bounds_text, second_text, last_text}
use Rattle.def_cert_text.specs.CertText.{versioned_in}
use Rattle.def_cert_text.specs.FirstFault.{FirstVersionedFault}

-- reading gives a value exactly where that is within its ranges and the bytes are its text
abbrev pub ReadingIsExact : {A : Type 0} → (A → Type 0) → (A → List ℕ) → (List ℕ → Result A CertFault) → Type 0
ReadingIsExact {A = A} Fits text reading = (bytes : List ℕ) (x : A) → (reading bytes ≡ Ok x)
    ↔ (Fits x × (bytes ≡ text x))

abbrev pub VersionedReadingIsExact : Type 0
VersionedReadingIsExact = ReadingIsExact VersionedFits versioned_text versioned_in

-- a text says one value
abbrev pub TextsTell : {A : Type 0} → (A → Type 0) → (A → List ℕ) → Type 0
TextsTell {A = A} Fits text = (c d : A) → Fits c → Fits d → text c ≡ text d → c ≡ d

abbrev pub TextsTellVersions : Type 0
TextsTellVersions = TextsTell VersionedFits versioned_text

-- reading stops with a fault exactly where that is the first
abbrev pub FaultsAreFirst : {A : Type 0} → (List ℕ → Result A CertFault) → (List ℕ → CertFault → Type 0) → Type 0
FaultsAreFirst reading IsFirst = (bytes : List ℕ) (fault : CertFault) → (reading bytes ≡ Err fault)
    ↔ IsFirst bytes fault

abbrev pub FirstVersionedFaultDecides : Type 0
FirstVersionedFaultDecides = FaultsAreFirst versioned_in FirstVersionedFault

-- a text that is cut anywhere is short
abbrev pub CutsAreShort : {A : Type 0} → (A → Type 0) → (A → List ℕ) → (List ℕ → Result A CertFault) → Type 0
CutsAreShort {A = A} Fits text reading = (c : A) (n : ℕ) → Fits c → n < length (text c) → reading (take n (text c))
    ≡ Err CertShort

abbrev pub CutVersionedTextsAreShort : Type 0
CutVersionedTextsAreShort = CutsAreShort VersionedFits versioned_text versioned_in

-- the first line begins with its word, and its next field, which a separator ends, is neither `1` nor `2`
pub record NamesNoVersion (bytes : List ℕ) : Type 0 where
  pub left : List ℕ
  pub parts : bytes ≡ codes "XGCERT" ++ space ∷ left
  pub ended : is_empty (behind_field left) ≡ false
  pub not_one : next_field left ≢ codes "1"
  pub not_two : next_field left ≢ codes "2"

-- just such a text is of another version
abbrev pub OtherVersionsAreRefused : Type 0
OtherVersionsAreRefused = (bytes : List ℕ) → (versioned_in bytes ≡ Err CertVersion) ↔ NamesNoVersion bytes

-- a head alone in a text of either version, where no round was asked
abbrev pub versioned_head : TextVersion → Head → VersionedCertificate
versioned_head v head = record { version = v; certificate = record { head = head; bounds = None }; second = None }

-- bounds in a text of version 2, with the second bracket
abbrev pub with_second : Head → PrintedBounds → PrintedBracket → VersionedCertificate
with_second head b second = record {
  version = versions.Two;
  certificate = record { head = head; bounds = Some b };
  second = Some second;
}

-- the text is its lines one after another
pub record VersionedTextIsItsLines : Type 0 where
  pub head_alone : (v : TextVersion) (head : Head)
      → versioned_text (versioned_head v head) ≡ first_text_of v
      ++ (head_text_of v head ++ (asked_text head ++ last_text))
  pub bounds_alone : (head : Head) (b : PrintedBounds)
      → versioned_text (in_version_one (record { head = head; bounds = Some b }))
      ≡ first_text_of versions.One ++ (head_text_of versions.One head
      ++ (asked_text head ++ (bounds_text head b ++ last_text)))
  pub with_bounds : (head : Head) (b : PrintedBounds) (second : PrintedBracket)
      → versioned_text (with_second head b second)
      ≡ first_text_of versions.Two ++ (head_text_of versions.Two head
      ++ (asked_text head ++ (bounds_text head b ++ (second_text second ++ last_text))))
  pub bounds : (head : Head) (b : PrintedBounds)
      → bounds_text head b
      ≡ text_of (trace_lines head) b.trace ++ (text_of (plan_lines (codes "1") head.sets_one) b.plan_one
      ++ (text_of (reply_lines (codes "2") head.sets_two) b.reply_two
      ++ (text_of (plan_lines (codes "2") head.sets_two) b.plan_two
      ++ (text_of (reply_lines (codes "1") head.sets_one) b.reply_one ++ text_of bracket_line (b.low, b.high)))))
