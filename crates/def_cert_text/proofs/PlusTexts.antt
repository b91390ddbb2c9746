-- Texts of CFR+: the lines of a certificate below another first line.
use Rattle.std.proofs.Common.{◌≡◌, ℕ, ◌-◌, List, ◌++◌, drop, length, Option, Err, refl, sym, ap, ◌∙◌, arith}
use Rattle.def_cert_verdict.specs.Certificate.{Certificate}
use Rattle.def_cert_text.specs.declared.fault.CertFault.TheVariants.{CertSyntax}
use Rattle.def_cert_text.specs.declared.version.TextVersion.{TextVersion}
use Rattle.def_cert_text.specs.declared.version.TextVersion.TheVariants as versions
use Rattle.def_cert_text.specs.Fields.{items_text, read_field}
use Rattle.def_cert_text.specs.Versions.{PrintedBracket}
use Rattle.def_cert_text.specs.CertText.{first_text_of, versioned_in, versioned_text}
use Rattle.def_cert_text.specs.PlusText.{PlusTextsAreNoCertificates, PlusTextsTellTheirNumbers, TextsHaveTheirFirstLine, below_first_text, plus_text}
use Rattle.def_cert_text.proofs.TextLaws.{versioned_tell}

pub first_lines : TextsHaveTheirFirstLine
unfolding items_text
first_lines c = by c.version c.certificate c.second
  where
    by : (v : TextVersion) (certificate : Certificate) (second : Option PrintedBracket)
        → versioned_text (record { version = v; certificate = certificate; second = second })
        ≡ first_text_of v ++ below_first_text (record { version = v; certificate = certificate; second = second })
    by versions.One certificate second = refl
    by versions.Two certificate second = refl

pub no_certificates : PlusTextsAreNoCertificates
unfolding versioned_in read_field
no_certificates c =
    let total : ℕ = length (plus_text c) in
    let first : total - total ≡ 0 = omega arith in
    ap (λ (at : ℕ). Err (CertSyntax at)) first

pub plus_tell : PlusTextsTellTheirNumbers
plus_tell c d fits_c fits_d same =
    let below : below_first_text c ≡ below_first_text d = ap (λ (bytes : List ℕ). drop 9 bytes) same in
    let first : first_text_of c.version ≡ first_text_of d.version = ap first_text_of (fits_c.version ∙ sym fits_d.version) in
    versioned_tell c d fits_c.fits fits_d.fits (first_lines c ∙ (λ i. first i ++ below i) ∙ sym (first_lines d))
