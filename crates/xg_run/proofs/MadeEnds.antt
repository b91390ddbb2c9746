-- How a command ends that reads no file.
use Rattle.std.proofs.Common.{ℕ, ◌≤◌, List, Option, ◌∙◌, ap}
use Rattle.def_sums.specs.Limits.{least_cards, most_cards}
use Rattle.def_outside.specs.Calls.{FilesCall, SinkCall, HasNoFault}
use Rattle.def_file.specs.declared.FileFault.{FileFault}
use Rattle.def_file.specs.Content.{GameFile}
use Rattle.def_canon.specs.Canon.{canon}
use Rattle.def_canon.specs.Poker.{poker}
use Rattle.def_poker.proofs.Faultless.{poker_has_no_fault}
use Rattle.def_check.specs.Accepting.{unless_faulty}
use Rattle.def_program.specs.Program.{Answer, game_answer, success}
use Rattle.def_program.specs.Meaning.{FileMeans, MeansOnly}
use Rattle.def_program.proofs.Meant.{made_computed}
use Rattle.xg_load.specs.declared.ending.Ending.{Ending}
use Rattle.xg_load.specs.declared.ending.Ending.TheVariants.{Done, Refused, ReadFault, WriteFault, NoMemory}
use Rattle.xg_load.specs.Endings.{Tells}
use Rattle.xg_run.specs.Concludes.{Concludes}

module _ (meant : Answer → Type 0) (files : FilesCall) (out : SinkCall) (read : HasNoFault files.faults) where
  -- the text that is meant was written or cut off
  pub text_told : (text : List ℕ) → MeansOnly meant (success text) → (ending : Ending) → Tells text out ending
      → Concludes ⊥ meant files out ending
  text_told text only Done tells =
      record { text = text; means = only; read = read; written = tells.0; wrote = tells.1 }
  text_told text only WriteFault tells =
      record { text = text; means = only; read = read; cause = tells.0; front = tells.1 }
  text_told text only NoMemory untouched = untouched
  text_told text only (Refused line) tells = absurd tells
  text_told text only ReadFault tells = absurd tells

-- of one-card poker, which has no fault
module _ (cards : ℕ) (some : least_cards ≤ cards) (few : cards ≤ most_cards) where
  -- the text is meant, and no refusal
  pub poker_is_told : (text : GameFile → List ℕ)
      → MeansOnly (FileMeans text (canon (poker cards))) (success (text (poker cards)))
  poker_is_told text answer means =
      made_computed text cards some few answer means
      ∙ ap (λ (o : Option FileFault). game_answer text (unless_faulty o (poker cards))) (poker_has_no_fault cards some few)
