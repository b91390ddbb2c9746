-- The ends that a board keeps, and its lines.
use Rattle.std.specs.Prelude.{◌≡◌, ℕ, zero, suc, ◌≤◌, List, length, Option, Some, None, unsigned_abs}
use Rattle.def_sums.specs.Limits.{most_row}
use Rattle.def_tree.specs.declared.Player.{Player}
use Rattle.def_plan.specs.Form.{SequenceForm, player_sets, sequence_count}
use Rattle.def_reply.specs.Reply.{Reply}
use Rattle.def_reply.specs.declared.TraceLine.{TraceLine}
use Rattle.def_reply.specs.Offers.{KeptEnd, most_divisor}
use Rattle.def_plus.specs.declared.Variant.{Variant}
use Rattle.def_plus.specs.Variants.{weight_of_rounds}
use Rattle.xg_bracket.specs.declared.end.BestEnd.{BestEnd}

abbrev pub kept_end : ℕ → ℕ → List ℕ → Reply → KeptEnd
kept_end round divisor plan reply = record { round = round; divisor = divisor; plan = plan; reply = reply }

abbrev pub kept_of : BestEnd → KeptEnd
kept_of end = kept_end end.round end.divisor end.plan end.reply.reply

-- what is kept after so many offers: before the first there is no end
abbrev pub end_after : ℕ → KeptEnd → Option KeptEnd
end_after zero end = None
end_after (suc _) end = Some end

-- the line of a round with these ends
abbrev pub line_with : ℕ → BestEnd → BestEnd → TraceLine
line_with round lower upper = record {
  round = round;
  low_round = lower.round;
  low = lower.reply.reply.total;
  high_round = upper.round;
  high = upper.reply.reply.total;
}

-- the end has a bound within the limits, and room for a plan and a reply of its sizes
pub record IsEnd (end : BestEnd) : Type 0 where
  pub sets : length end.reply.reply.sets ≡ end.sets
  pub divisor : end.divisor ≤ most_divisor
  pub small : unsigned_abs end.reply.reply.total ≤ most_row

-- an end is divided by what the rounds up to its own weigh
pub record IsDividedByWeight (variant : Variant) (end : BestEnd) : Type 0 where
  pub some : 1 ≤ end.divisor
  pub divisor : end.divisor ≡ weight_of_rounds variant end.round

-- a plan and a reply that the end has room for, within the limits
pub record CanKeep (end : BestEnd) (divisor : ℕ) (plan : List ℕ) (reply : Reply) : Type 0 where
  pub is_end : IsEnd end
  pub sequences : length plan ≡ length end.plan
  pub sets : length reply.sets ≡ end.sets
  pub small_divisor : divisor ≤ most_divisor
  pub small : unsigned_abs reply.total ≤ most_row

-- the room for a player's plan and the other player's reply
pub record IsFreshEnd (form : SequenceForm) (player other : Player) (end : BestEnd) : Type 0 where
  pub is_end : IsEnd end
  pub plan : length end.plan ≡ sequence_count (player_sets form player)
  pub reply : length end.reply.reply.sets ≡ length (player_sets form other)
