-- What is said of a search, and at its end.
--     SaysBy heard sink text   the text was written, or the one write that failed cut it off
--     SaysOfSearch             lines of progress, unless it was to be quiet, and then the line of the status
use Rattle.std.specs.Prelude.{◌≡◌, ◌⊎◌, ℕ, List, [], ◌++◌, Bool, true, false, IsTrue}
use Rattle.def_outside.specs.Calls.{HasFailedOnce, HasNoFault, SinkCall, Wrote, WroteFront}
use Rattle.def_program.specs.Lines.{IsLine}
use Rattle.def_program.specs.Meaning.{EachMeant}
use Rattle.def_program.specs.Program.{Answer}
use Rattle.def_progress.specs.Progress.{AreProgress, Standing}

-- the text was written whole, or as a front, by whether all of it was taken
abbrev pub SaysBy : Bool → SinkCall → List ℕ → Type 0
SaysBy true sink text = HasNoFault sink.faults × Wrote sink text
SaysBy false sink text = HasFailedOnce sink.faults × WroteFront sink text

-- the lines of progress of a search, by whether all of them were taken; none where it is to be quiet
pub record SaysProgress (IsTrueOf : Standing → Type 0) (quiet heard : Bool) (err : SinkCall) : Type 0 where
  pub progress : List ℕ
  pub lines : AreProgress IsTrueOf progress
  pub none : IsTrue quiet → progress ≡ []
  pub said : SaysBy heard err progress

-- the line that goes with a status; at 0 and 6 there is none
pub data IsLineAtEnd (taken status : ℕ) (line : List ℕ) : Type 0 where
  of_bracket : (status ≡ 0) ⊎ (status ≡ 6) → line ≡ [] → IsLineAtEnd taken status line
  of_fault : IsLine ⊥ taken status line → IsLineAtEnd taken status line

-- Lines of progress, each of which is true, and then the line of the status. At status 1 it is the line of the
-- answer that is meant. They were said whole, or as a front up to the one write that failed.
pub record SaysOfSearch (IsTrueOf : Standing → Type 0) (quiet : Bool) (meant : Answer → Type 0) (status taken : ℕ)
    (err : SinkCall) : Type 0 where
  pub progress : List ℕ
  pub line : List ℕ
  pub lines : AreProgress IsTrueOf progress
  pub none : IsTrue quiet → progress ≡ []
  pub fits : IsLineAtEnd taken status line
  pub answered : status ≡ 1 → EachMeant meant (λ answer. answer.line ≡ line)
  pub heard : Bool
  pub said : SaysBy heard err (progress ++ line)
