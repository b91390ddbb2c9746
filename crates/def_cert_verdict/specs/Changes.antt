-- Certificates with some fields changed, each by the line that it stands in. Sets and trace lines count from 1.
use Rattle.std.specs.Prelude.{ℕ, ◌-◌, List, [], ◌∷◌, ℤ, slice_set}
use Rattle.def_fraction.specs.Fraction.{over}
use Rattle.def_reply.specs.Reply.{Reply, SetReply}
use Rattle.def_reply.specs.declared.TraceLine.{TraceLine}
use Rattle.def_cert_verdict.specs.Certificate.{PrintedPlan, PrintedBounds}

abbrev pub said : ℤ → ℕ → SetReply
said value choice = record { value = value; choice = choice }

abbrev pub traced : ℕ → ℕ → ℤ → ℕ → ℤ → TraceLine
traced round low_round low high_round high = record {
  round = round;
  low_round = low_round;
  low = low;
  high_round = high_round;
  high = high;
}

pub data Change : Type 0 where
  line : ℕ → TraceLine → Change
  plan_one : ℕ → Change
  plan_two : ℕ → Change
  weights_one : ℕ → List ℕ → Change
  weights_two : ℕ → List ℕ → Change
  reply_one : ℤ → Change
  reply_two : ℤ → Change
  value_one : ℕ → ℤ → ℕ → Change
  value_two : ℕ → ℤ → ℕ → Change
  low_end : ℤ → ℕ → Change
  high_end : ℤ → ℕ → Change

abbrev with_weights : ℕ → List ℕ → PrintedPlan → PrintedPlan
with_weights set ws plan = record plan { weights = slice_set plan.weights (set - 1) ws }

abbrev with_set_reply : ℕ → ℤ → ℕ → Reply → Reply
with_set_reply set value choice reply = record reply { sets = slice_set reply.sets (set - 1) (said value choice) }

abbrev pub with_change : Change → PrintedBounds → PrintedBounds
with_change (line k row) b = record b { trace = slice_set b.trace (k - 1) row }
with_change (plan_one root) b = record b { plan_one = record (b.plan_one) { root = root } }
with_change (plan_two root) b = record b { plan_two = record (b.plan_two) { root = root } }
with_change (weights_one set ws) b = record b { plan_one = with_weights set ws b.plan_one }
with_change (weights_two set ws) b = record b { plan_two = with_weights set ws b.plan_two }
with_change (reply_one total) b = record b { reply_one = record (b.reply_one) { total = total } }
with_change (reply_two total) b = record b { reply_two = record (b.reply_two) { total = total } }
with_change (value_one set value choice) b = record b { reply_one = with_set_reply set value choice b.reply_one }
with_change (value_two set value choice) b = record b { reply_two = with_set_reply set value choice b.reply_two }
with_change (low_end num den) b = record b { low = over num den }
with_change (high_end num den) b = record b { high = over num den }

abbrev pub changed : PrintedBounds → List Change → PrintedBounds
changed b [] = b
changed b (change ∷ changes) = with_change change (changed b changes)
