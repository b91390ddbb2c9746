-- A visitor that does nothing more once something has stopped it.
use Rattle.std.specs.Prelude.{◌≡◌, Option, Some, None}

-- a step of it: it stands as it was, is stopped by it, or goes on
abbrev pub Steps : {S : Type 0} → Option S → Option S → (S → Type 0) → Type 0 → Type 0
Steps (Some stop) after Stops GoesOn = after ≡ Some stop
Steps None (Some stop) Stops GoesOn = Stops stop
Steps None None Stops GoesOn = GoesOn

abbrev pub UnlessStopped : {S : Type 0} → Option S → Type 0 → Type 0
UnlessStopped (Some _) GoesOn = Unit {0}
UnlessStopped None GoesOn = GoesOn
