-- An end of the bracket that is kept.
use Rattle.std.specs.Prelude.{◌≡◌}
use Rattle.def_sums.specs.Limits.{most_root}
use Rattle.def_tree.specs.declared.Player.{Player}
use Rattle.def_tree.specs.Opponent.{opponent}
use Rattle.def_plan.specs.Form.{SequenceForm, player_sets}
use Rattle.def_plan.specs.Plan.{IsPlan}
use Rattle.def_reply.specs.Reply.{best_reply_to}
use Rattle.xg_bracket.specs.declared.parts.PlanAndReply.{PlanAndReply}

-- a plan of the player of the greatest root, with the other player's best reply to it
pub record IsEndOf (form : SequenceForm) (player : Player) (end : PlanAndReply) : Type 0 where
  pub plan : IsPlan (player_sets form player) most_root end.plan
  pub reply : end.reply.reply ≡ best_reply_to form (opponent player) end.plan
