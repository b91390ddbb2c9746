-- A whole certificate, read part after part.
use Rattle.std.proofs.Common.{◌≡◌, ℕ, List, [], ◌∷◌, codes, nat_lt, Option, Result, Ok, Err, ap}
use Rattle.def_reply.specs.Outcome.{Head}
use Rattle.def_cert_verdict.specs.Certificate.{PrintedBounds}
use Rattle.def_cert_text.specs.declared.fault.CertFault.{CertFault}
use Rattle.def_cert_text.specs.declared.version.TextVersion.{TextVersion}
use Rattle.def_cert_text.specs.Fields.{◌>>=◌, space, fixed_word}
use Rattle.def_cert_text.specs.Formats.{fixed_field, read_asked}
use Rattle.def_cert_text.specs.CertText.{bounds_lines, head_lines_of, if_at_end, last_lines, version_field, versioned_certificate}
use Rattle.def_cert_text.specs.CertText.{PartsOfVersioned, versioned_of_parts}
use Rattle.def_cert_text.specs.Versions.{PrintedBracket, VersionedCertificate}
use Rattle.xg_cert.specs.Answers.{text_read}

abbrev Ended : Type 0
Ended = Option PrintedBracket × Unit {0}

-- what is behind the bounds ends the text, whatever the parts before it are
ended : (total : ℕ) (v : TextVersion) (head : Head) (bounds : Option PrintedBounds) (second : Option PrintedBracket)
    (read : Result (Ended × List ℕ) CertFault)
    → (◌>>=◌ {B = Ended} read (λ x. if_at_end total x.0 x.1)) ≡ Ok (second, tt)
    → (◌>>=◌ {B = VersionedCertificate} (◌>>=◌ {B = VersionedCertificate × List ℕ} (◌>>=◌ {B = PartsOfVersioned × List ℕ}
    (◌>>=◌ {B = (Head × (Option PrintedBounds × Ended)) × List ℕ} (◌>>=◌ {B = (Option PrintedBounds × Ended) × List ℕ} read
    (λ y. Ok ((bounds, y.0), y.1))) (λ y. Ok ((head, y.0), y.1))) (λ y. Ok ((v, y.0), y.1))) (λ x. Ok (versioned_of_parts x.0, x.1)))
    (λ x. if_at_end total x.0 x.1))
    ≡ Ok (record { version = v; certificate = record { head = head; bounds = bounds }; second = second })
ended total v head bounds second (Ok (y, [])) e =
    let same : y ≡ (second, tt) = cc in
    ap (λ (z : Ended). Ok (record { version = v; certificate = record { head = head; bounds = bounds }; second = z.0 })) same
ended total v head bounds second (Ok (y, byte ∷ left)) e = cc
ended total v head bounds second (Err fault) e = cc

-- a whole certificate is read where its parts are
pub lines_read : (total : ℕ) (bytes behind_word behind_version behind_head behind_bounds : List ℕ) (v : TextVersion)
    (head : Head)
    (bounds : Option PrintedBounds) (second : Option PrintedBracket)
    → (fixed_field fixed_word (codes "XGCERT") space).read total bytes ≡ Ok (tt, behind_word)
    → version_field.read total behind_word ≡ Ok (v, behind_version)
    → (head_lines_of v).read total behind_version ≡ Ok (head, behind_head)
    → read_asked (nat_lt 0 head.rounds) (bounds_lines head) total behind_head ≡ Ok (bounds, behind_bounds)
    → text_read (last_lines v head) total behind_bounds ≡ Ok (second, tt)
    → text_read versioned_certificate total bytes
    ≡ Ok (record { version = v; certificate = record { head = head; bounds = bounds }; second = second })
lines_read total bytes behind_word behind_version behind_head behind_bounds v head bounds second word version_is head_is bounds_are last =
    rw (word, version_is, head_is, bounds_are) (ended total v head bounds second ((last_lines v head).read total behind_bounds) last)
