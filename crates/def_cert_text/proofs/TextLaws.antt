-- Reading a value's text gives just what was written, and its fault is the first one: for a format with ranges, and so
-- for certificates.
use Rattle.std.proofs.Common.{◌≡◌, ◌≢◌, ℕ, ◌-◌, true, List, [], ◌∷◌, ◌++◌, length, Result, Ok, Err, refl, sym, ap, ◌∙◌, subst, arith, ⊎_elim}
use Rattle.std.proofs.lemmas.List.{append-nil, length-append}
use Rattle.def_cert_text.specs.declared.fault.CertFault.{CertFault}
use Rattle.def_cert_text.specs.declared.fault.CertFault.TheVariants.{CertTrailing}
use Rattle.def_cert_text.specs.Fields.{◌>>=◌}
use Rattle.def_cert_text.specs.Formats.{Format, text_of}
use Rattle.def_cert_text.specs.Versions.{VersionedCertificate, VersionedFits}
use Rattle.def_cert_text.specs.CertText.{versioned_certificate, if_at_end, read_to_end, versioned_in}
use Rattle.def_cert_text.specs.FirstFault.{IsTrailing, FirstFaultOf, within, behind}
use Rattle.def_cert_text.specs.Laws.{ReadingIsExact, TextsTell, FaultsAreFirst, VersionedReadingIsExact, TextsTellVersions, FirstVersionedFaultDecides}
use Rattle.def_cert_text.proofs.FieldLaws.{bind_ok, ok_is}
use Rattle.def_cert_text.proofs.FormatLaws.{IsFormat, bind_err}
use Rattle.def_cert_text.proofs.Fits.{fits_versioned, versioned_fit}
use Rattle.def_cert_text.proofs.LineLaws.{versioned_laws}

-- a format that keeps the laws and takes just the values within the ranges
pub record IsWithRanges (A : Type 0) (f : Format A) (Fits : A → Type 0) : Type 0 where
  pub laws : IsFormat A f
  pub within_ranges : (x : A) → f.fits x ≡ true → Fits x
  pub taken : (x : A) → Fits x → f.fits x ≡ true

abbrev end_of : {A : Type 0} → ℕ → (A × List ℕ) → Result A CertFault
end_of total x = if_at_end total x.0 x.1

written : (A : Type 0) (f : Format A) → IsFormat A f → (x : A) → f.fits x ≡ true → read_to_end f (text_of f x) ≡ Ok x
written A f laws x fits =
    let total = length (text_of f x) in
    ap (λ (bytes : List ℕ). f.read total bytes >>= end_of total) (sym (append-nil (text_of f x)))
    ∙ ap (λ (r : Result (A × List ℕ) CertFault). r >>= end_of total) (laws.again total x [] fits)

at_end : (A : Type 0) (total : ℕ) (x y : A) (left : List ℕ) → if_at_end total x left ≡ Ok y → (left ≡ []) × (x ≡ y)
at_end A total x y [] e = (refl, ok_is x y e)
at_end A total x y (b ∷ more) e = absurd cc

read : (A : Type 0) (f : Format A) → IsFormat A f → (bytes : List ℕ) (x : A) → read_to_end f bytes ≡ Ok x
    → (f.fits x ≡ true) × (bytes ≡ text_of f x)
read A f laws bytes x e =
    let total = length bytes in
    let a = bind_ok (f.read total bytes) (end_of total) x e in
    let y = a.0 in
    let one = laws.only total bytes y.0 y.1 a.1 in
    let end = at_end A total y.0 x y.1 a.2 in
    subst (λ (z : A). (f.fits z ≡ true) × (bytes ≡ text_of f z)) end.1
    (one.0, one.1 ∙ ap (λ (t : List ℕ). text_of f y.0 ++ t) end.0 ∙ append-nil (text_of f y.0))

-- reading gives a value exactly where it is within its ranges and the bytes are its text
exact : (A : Type 0) (f : Format A) (Fits : A → Type 0) → IsWithRanges A f Fits
    → ReadingIsExact Fits (text_of f) (read_to_end f)
exact A f Fits is bytes x = (
  λ e. (let p = read A f is.laws bytes x e in (is.within_ranges x p.0, p.1)),
  λ p. ap (read_to_end f) p.1 ∙ written A f is.laws x (is.taken x p.0),
)

-- values within the ranges that have the same text are the same
tell : (A : Type 0) (f : Format A) (Fits : A → Type 0) → IsWithRanges A f Fits → TextsTell Fits (text_of f)
tell A f Fits is x y fx fy e =
    ok_is x y (sym (written A f is.laws x (is.taken x fx)) ∙ ap (read_to_end f) e ∙ written A f is.laws y (is.taken y fy))

-- ---- faults
some_left : (b : ℕ) (more : List ℕ) → (b ∷ more) ≢ []
some_left b more e = cc

fault_of_end : (A : Type 0) (total : ℕ) (x : A) (b : ℕ) (more : List ℕ) (fault : CertFault)
    → if_at_end total x (b ∷ more) ≡ Err fault → fault ≡ CertTrailing (total - length (b ∷ more))
fault_of_end A total x b more fault e = cc

trailing_of : (A : Type 0) (f : Format A) (Fits : A → Type 0) → IsWithRanges A f Fits → (bytes : List ℕ) (x : A)
    (left : List ℕ) (fault : CertFault) → f.fits x ≡ true
    → bytes ≡ text_of f x ++ left → if_at_end (length bytes) x left ≡ Err fault → IsTrailing f Fits bytes fault
trailing_of A f Fits is bytes x [] fault fits parts e = absurd cc
trailing_of A f Fits is bytes x (b ∷ more) fault fits parts e =
    let place : length bytes - length (b ∷ more) ≡ length (text_of f x) = omega (arith, ap length parts, length-append (text_of f x) (b ∷ more)) in
    record {
      value = x;
      left = b ∷ more;
      fits = is.within_ranges x fits;
      parts = parts;
      more = some_left b more;
      fault_is = fault_of_end A (length bytes) x b more fault e ∙ ap CertTrailing place;
    }

stops : (A : Type 0) (f : Format A) (Fits : A → Type 0) → IsWithRanges A f Fits → (bytes : List ℕ) (fault : CertFault)
    → read_to_end f bytes ≡ Err fault → FirstFaultOf f Fits bytes fault
stops A f Fits is bytes fault e =
    let total = length bytes in
    ⊎_elim
    (λ here. within (is.laws.faults total bytes fault here))
    (λ later.
    let x = later.0 in
    let one = is.laws.only total bytes x.0 x.1 later.1 in
    behind (trailing_of A f Fits is bytes x.0 x.1 fault one.0 one.1 later.2))
    (bind_err (f.read total bytes) (end_of total) fault e)

no_end : (A : Type 0) (total : ℕ) (x : A) (left : List ℕ) → left ≢ []
    → if_at_end total x left ≡ Err (CertTrailing (total - length left))
no_end A total x [] some = absurd (some refl)
no_end A total x (b ∷ more) some = refl

stopped : (A : Type 0) (f : Format A) (Fits : A → Type 0) → IsWithRanges A f Fits → (bytes : List ℕ) (fault : CertFault)
    → FirstFaultOf f Fits bytes fault → read_to_end f bytes ≡ Err fault
stopped A f Fits is bytes fault (within h) = ap (λ (r : Result (A × List ℕ) CertFault). r >>= end_of (length bytes))
    (is.laws.found (length bytes) bytes fault h)
stopped A f Fits is bytes fault (behind h) =
    let total = length bytes in
    let x = h.value in
    let place : total - length h.left ≡ length (text_of f x) = omega (arith, ap length h.parts, length-append (text_of f x) h.left) in
    ap (λ (b : List ℕ). f.read total b >>= end_of total) h.parts
    ∙ ap (λ (r : Result (A × List ℕ) CertFault). r >>= end_of total) (is.laws.again total x h.left (is.taken x h.fits))
    ∙ no_end A total x h.left h.more
    ∙ ap (λ n. Err (CertTrailing n)) place
    ∙ ap Err (sym h.fault_is)

-- reading stops with a fault exactly where that is the first fault of the bytes
pub faults_are_first : (A : Type 0) (f : Format A) (Fits : A → Type 0) → IsWithRanges A f Fits
    → FaultsAreFirst (read_to_end f) (FirstFaultOf f Fits)
faults_are_first A f Fits is bytes fault = (stops A f Fits is bytes fault, stopped A f Fits is bytes fault)

-- ---- certificates
pub of_versions : IsWithRanges VersionedCertificate versioned_certificate VersionedFits
of_versions = record { laws = versioned_laws; within_ranges = fits_versioned; taken = versioned_fit }

pub versioned_reading : VersionedReadingIsExact
unfolding versioned_in
versioned_reading = exact VersionedCertificate versioned_certificate VersionedFits of_versions

pub versioned_tell : TextsTellVersions
versioned_tell = tell VersionedCertificate versioned_certificate VersionedFits of_versions

pub first_versioned_fault : FirstVersionedFaultDecides
unfolding versioned_in
first_versioned_fault = faults_are_first VersionedCertificate versioned_certificate VersionedFits of_versions
