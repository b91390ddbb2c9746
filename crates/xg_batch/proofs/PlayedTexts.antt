-- The texts that are written of an accepted game.
use Rattle.std.proofs.Common.{◌≡◌, [], None, Some, sym, ap, ◌∙◌}
use Rattle.def_file.specs.Content.{GameFile}
use Rattle.def_plan.specs.Form.{SequenceForm}
use Rattle.def_reply.specs.Offers.{board_after}
use Rattle.def_reply.specs.Outcome.{Head, Outcome}
use Rattle.def_run.specs.Run.{offers_in, outcome_with}
use Rattle.def_plus.specs.declared.Variant.{Variant}
use Rattle.def_plus_run.specs.VariantRun.{run_of, outcome_of}
use Rattle.def_command.specs.declared.Settings.{Settings}
use Rattle.def_program.specs.Text.{form_of_file, game_head, played_text}
use Rattle.def_game_numbers.specs.Weighed.{weighed_game}
use Rattle.xg_engine.specs.State.{head_with}
use Rattle.xg_load.proofs.Heads.{run_head_is}
use Rattle.xg_batch.specs.Texts.{left_text}

-- what a run leaves is written as the text of the game
pub played_is : (variant : Variant) (game : GameFile) (settings : Settings) (form : SequenceForm) (left : Outcome)
    → form ≡ form_of_file game → left ≡ outcome_of variant (form_of_file game) (head_with (weighed_game game) settings)
    → left_text variant form left ≡ played_text variant game settings
played_is variant game settings form left form_is left_is =
    (λ i. left_text variant (form_is i) (left_is i))
    ∙ ap (λ (head : Head). left_text variant (form_of_file game) (outcome_of variant (form_of_file game) head))
    (run_head_is game settings)

-- without rounds the trace is empty, and there are no ends
without_rounds : (variant : Variant) (form : SequenceForm) (head : Head) → head.rounds ≡ 0
    → record { head = head; trace = []; ends = None } ≡ outcome_of variant form head
without_rounds variant form head none =
    sym (ap (λ rounds. outcome_with head (board_after (offers_in form (run_of variant form head.scale) head.every rounds))) none)

-- and the head alone is written
pub unplayed_is : (variant : Variant) (game : GameFile) (settings : Settings) (form : SequenceForm) (head : Head)
    (left : Outcome) → settings.rounds ≡ 0 → form ≡ form_of_file game → head ≡ game_head game settings
    → left ≡ record { head = head; trace = []; ends = None }
    → left_text variant form left ≡ played_text variant game settings
unplayed_is variant game settings form head left none form_is head_is left_is =
    ap (left_text variant form) left_is
    ∙ (λ i. left_text variant (form_is i) (record { head = head_is i; trace = []; ends = None }))
    ∙ ap (left_text variant (form_of_file game))
    (without_rounds variant (form_of_file game) (game_head game settings) none)

-- an outcome that is there is one
pub same_outcome : (left other : Outcome) → Some left ≡ Some other → left ≡ other
same_outcome left other same = cc
