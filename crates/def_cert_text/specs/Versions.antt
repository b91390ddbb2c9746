-- The versions of a certificate's text, and what a text of either says. Version 1 has the sum behind the unit, where it
-- isn't 0; version 2 has a line of its own for the sum, and one for the bracket of player two's own payoff.
use Rattle.std.specs.Prelude.{◌≡◌, Bool, true, false, Option, Some, None}
use Rattle.def_fraction.specs.Fraction.{Fraction}
use Rattle.def_cert_verdict.specs.Certificate.{PrintedBounds, Certificate}
use Rattle.def_cert_verdict.specs.Ranges.{BoundFits, CertificateFits}
use Rattle.def_cert_text.specs.declared.version.TextVersion.{TextVersion}
use Rattle.def_cert_text.specs.declared.version.TextVersion.TheVariants as versions

-- the two ends of a bracket in payoff units
pub record PrintedBracket : Type 0 where
  pub low : Fraction
  pub high : Fraction

-- a certificate with its version, and with the second bracket, which is player two's, in version 2
pub record VersionedCertificate : Type 0 where
  pub version : TextVersion
  pub certificate : Certificate
  pub second : Option PrintedBracket

abbrev pub has_second : TextVersion → Bool
has_second versions.One = false
has_second versions.Two = true

-- a certificate in a text of version 1
abbrev pub in_version_one : Certificate → VersionedCertificate
in_version_one c = record { version = versions.One; certificate = c; second = None }

-- ---- the ranges: the second bracket is there where the version has one and the certificate has bounds
abbrev pub SecondFits : TextVersion → Option PrintedBounds → Option PrintedBracket → Type 0
SecondFits versions.Two (Some b) (Some second) = BoundFits second.low × BoundFits second.high
SecondFits versions.Two (Some b) None = ⊥
SecondFits versions.Two None second = second ≡ None
SecondFits versions.One bounds second = second ≡ None

pub record VersionedFits (c : VersionedCertificate) : Type 0 where
  pub certificate : CertificateFits c.certificate
  pub second : SecondFits c.version c.certificate.bounds c.second
