-- A text that is written at once.
use Rattle.std.proofs.Common.{◌≡◌, ℕ, List, Option, Result, Ok, Err}
use Rattle.std.specs.Prelude.{OnOk, OnErr}
use Rattle.std.specs.Io.KnownBytes.{append_known}
use Rattle.def_outside.specs.Sinks.{AppendsPrefix, Writes}

-- it was written, or a front of it
pub written : {T E : Type 0} (before now : Option (List ℕ)) (text : List ℕ) (r : Result T E)
    → OnOk r (now ≡ append_known before text) → OnErr r (AppendsPrefix before now text) → Writes before now text r
written before now text (Ok x) whole front = whole
written before now text (Err x) whole front = front
