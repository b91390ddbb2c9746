-- What is said of the certificate that words check.
use Rattle.std.proofs.Common.{◌≡◌, ℕ, List, Option, Some, sym, ◌∙◌, subst}
use Rattle.std.proofs.lemmas.Option.{same_Some}
use Rattle.def_outside.specs.Calls.{SinkCall, Wrote}
use Rattle.def_cert_verdict.specs.Verdict.{Verdict, shown_by}
use Rattle.def_cert_text.specs.CertText.{versioned_text}
use Rattle.def_cert_text.specs.Versions.{VersionedCertificate}
use Rattle.def_cert_versions.specs.Verdict.{upgraded}
use Rattle.def_command.specs.Grammar.{Check, Command, Upgrade, command_of_words}
use Rattle.def_cert_accepted.specs.Bounds.{BoundsHold}
use Rattle.def_program.specs.CheckLines.{verdict_text}
use Rattle.def_program.specs.Checked.{AreChecked, HoldsOfFile, checked_text}
use Rattle.def_program_readings.specs.Checks.{ChecksAreRead, IsShown}

-- a command's own text of a certificate that it accepts
module _ (out : SinkCall) (text : VersionedCertificate → Verdict → List ℕ) (file bytes : List ℕ) where
  abbrev Holds : Type 0
  Holds = HoldsOfFile file bytes (λ c verdict. Wrote out (text c verdict)) BoundsHold

  abbrev Shown : Type 0
  Shown = IsShown out (λ c. text c (shown_by c.certificate.bounds)) file bytes

  shown : Holds → Shown
  shown h = record {
    game = h.game;
    certificate = h.certificate;
    accepted = h.read.accepted;
    text_of = h.read.text;
    head = h.head;
    second = h.second;
    wrote = h.verdict;
    bounds = h.bounds;
  }

  holds : Shown → Holds
  holds s = record {
    game = s.game;
    certificate = s.certificate;
    read = record { accepted = s.accepted; text = s.text_of };
    head = s.head;
    second = s.second;
    verdict = s.wrote;
    bounds = s.bounds;
  }

module _ (told : List ℕ → Option (List ℕ)) (out : SinkCall) (name other file bytes : List ℕ)
    (known : told name ≡ Some file) (known_other : told other ≡ Some bytes) where
  -- what holds of each content that is told holds of this one, and the other way round
  one_told : (P : List ℕ → List ℕ → Type 0)
      → ((f b : List ℕ) → (told name ≡ Some f) × (told other ≡ Some b) → P f b) → P file bytes
  one_told P each = each file bytes (known, known_other)

  each_told : (P : List ℕ → List ℕ → Type 0) → P file bytes
      → (f b : List ℕ) → (told name ≡ Some f) × (told other ≡ Some b) → P f b
  each_told P p f b are =
      subst (λ x. P x b) (same_Some file f (sym known ∙ are.0))
      (subst (λ y. P file y) (same_Some bytes b (sym known_other ∙ are.1)) p)

  abbrev Each : Option Command → Type 0
  Each command = (f b : List ℕ) → AreChecked command told f b
      → HoldsOfFile f b (λ c verdict. Wrote out (checked_text command c verdict)) BoundsHold

  check_read : (command : Option Command) → command ≡ Some (Check name other)
      → (Each command → IsShown out (λ c. verdict_text (shown_by c.certificate.bounds)) file bytes)
      × (IsShown out (λ c. verdict_text (shown_by c.certificate.bounds)) file bytes → Each command)
  check_read command is =
      let text : VersionedCertificate → Verdict → List ℕ = λ c verdict. verdict_text verdict in (
        λ each. shown out text file bytes (one_told (λ f b. Holds out text f b) (subst Each is each)),
        λ s. subst Each (sym is) (each_told (λ f b. Holds out text f b) (holds out text file bytes s)),
      )

  upgrade_read : (command : Option Command) → command ≡ Some (Upgrade name other)
      → (Each command → IsShown out (λ c. versioned_text (upgraded c)) file bytes)
      × (IsShown out (λ c. versioned_text (upgraded c)) file bytes → Each command)
  upgrade_read command is =
      let text : VersionedCertificate → Verdict → List ℕ = λ c verdict. versioned_text (upgraded c) in (
        λ each. shown out text file bytes (one_told (λ f b. Holds out text f b) (subst Each is each)),
        λ s. subst Each (sym is) (each_told (λ f b. Holds out text f b) (holds out text file bytes s)),
      )

pub checks_read : ChecksAreRead
checks_read = record {
  check = λ words told out name other file bytes is known known_other.
      check_read told out name other file bytes known known_other (command_of_words words) is;
  upgrade = λ words told out name other file bytes is known known_other.
      upgrade_read told out name other file bytes known known_other (command_of_words words) is;
  solve = λ told file bytes name asked rows h. h;
  plus = λ told file bytes name asked rows h. h;
  drill = λ told file bytes cards asked rows h. h;
  batch = λ told file bytes names asked workers h. h;
  info = λ told file bytes name h. h;
  gen = λ told file bytes cards h. h;
  usage = λ told file bytes h. h;
}
