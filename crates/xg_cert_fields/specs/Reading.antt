-- What a reader gives, beside what reading the bytes gives by definition.
use Rattle.std.specs.Prelude.{◌≡◌, ℕ, List, Option, Result, Ok, Err, if◌then◌else◌}
use Rattle.def_cert_text.specs.declared.fault.CertFault.{CertFault}
use Rattle.def_cert_text.specs.declared.fault.CertFault.TheVariants.{CertShort}
use Rattle.def_cert_text.specs.Fields.{if_fit, is_empty}

-- the bytes that are left of a text of so many bytes in all
pub record Reading : Type 0 where
  pub total : ℕ
  pub left : List ℕ

-- a value, seen by `view`, and the bytes behind it, or the fault
abbrev pub GivesValue : {X Y : Type 0} → (X → Y) → Result X CertFault → List ℕ → Result (Y × List ℕ) CertFault → Type 0
GivesValue view (Ok x) left read = read ≡ Ok (view x, left)
GivesValue view (Err fault) left read = read ≡ Err fault

-- the value of a field and its separator, from what is behind the field
abbrev pub if_behind : {A : Type 0} → CertFault → ℕ → ℕ → Option A → List ℕ → Result (A × List ℕ) CertFault
if_behind unfit sep total value behind = if is_empty behind then Err CertShort else if_fit unfit sep total value behind
