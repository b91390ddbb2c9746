-- A run between rounds, and the ends that it leaves.
use Rattle.std.specs.Prelude.{◌≡◌, ℕ, ◌<◌, ◌≤◌, IsTrue, length}
use Rattle.def_plan.specs.Form.{SequenceForm}
use Rattle.def_reply.specs.Bracket.{evaluated_rounds}
use Rattle.def_reply.specs.Offers.{board_after}
use Rattle.def_reply.specs.Outcome.{OutcomeEnds}
use Rattle.def_plus.specs.declared.Variant.{Variant}
use Rattle.xg_bracket.specs.Board.{last_round}
use Rattle.xg_bracket.specs.declared.parts.PlanAndReply.{PlanAndReply}
use Rattle.xg_engine.specs.Evaluations.{CanEvaluate, offers_upto}
use Rattle.xg_engine.specs.Turns.{AreReady}
use Rattle.xg_engine.specs.declared.running.Run.{Run}
use Rattle.def_command.specs.declared.Settings.{Settings}

-- after so many rounds the players stand as the rounds say, if not ahead by the plans of a round that follows, and the
-- board has the offers of the evaluated ones
pub record IsAfter (variant : Variant) (form : SequenceForm) (settings : Settings) (n : ℕ) (run : Run) : Type 0 where
  pub players : AreReady variant form settings.scale n run.players.have_plans run.players
  pub goes_on : IsTrue run.players.have_plans → n < settings.rounds
  pub room : CanEvaluate variant form (length (evaluated_rounds settings.every settings.rounds)) run.evaluator
  pub board : run.evaluator.board.board ≡ board_after (offers_upto variant form settings n)
  pub last : last_round run.evaluator.board.board.trace ≤ n

-- both ends of the parts of a board
abbrev pub ends_of_parts : (PlanAndReply × PlanAndReply) → OutcomeEnds
ends_of_parts ends = record {
  lower = record { plan = ends.0.plan; reply = ends.0.reply.reply };
  upper = record { plan = ends.1.plan; reply = ends.1.reply.reply };
}
