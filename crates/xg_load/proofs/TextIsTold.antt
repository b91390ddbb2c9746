-- A text that is written is told.
use Rattle.std.proofs.Common.{◌≡◌, ℕ, List, Option, Result, Ok, Err, sym, subst}
use Rattle.std.specs.Prelude.{OnErr, OnOk}
use Rattle.std.specs.Io.KnownBytes.{append_known}
use Rattle.def_outside.specs.Cause.{HasCause}
use Rattle.def_outside.specs.Sinks.{AppendsPrefix, Writes}
use Rattle.def_outside.specs.Calls.{SinkCall, Wrote, WroteFront}
use Rattle.xg_load.specs.Endings.{IsEndingOf, Tells}
use Rattle.xg_load.specs.declared.ending.Ending.{Ending}

-- a text was written, or a front of it
pub tells : {T E : Type 0} (out : SinkCall) (text bytes : List ℕ) → bytes ≡ text → (r : Result T E) (ending : Ending)
    → IsEndingOf r ending → Writes out.before out.now bytes r → HasCause out.faults.before out.faults.now r
    → Tells text out ending
tells out text bytes is (Ok _) ending done writes cause =
    subst (λ (e : Ending). Tells text out e) (sym done) (cause, subst (Wrote out) is writes)
tells out text bytes is (Err _) ending failed writes cause =
    subst (λ (e : Ending). Tells text out e) (sym failed) (cause, subst (WroteFront out) is writes)

-- a writer's clauses say that it writes the text
pub writes_of : {T E : Type 0} (before now : Option (List ℕ)) (text : List ℕ) (r : Result T E)
    → OnOk r (now ≡ append_known before text) → OnErr r (AppendsPrefix before now text) → Writes before now text r
writes_of before now text (Ok x) whole front = whole
writes_of before now text (Err x) whole front = front
