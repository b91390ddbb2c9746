-- What a bracket is offered after a round, and what it keeps: any plans with their replies, whoever made them.
use Rattle.std.specs.Prelude.{◌≡◌, ℕ, ◌*◌, ◌≤◌, ◌<◌, List, [], ◌∷◌, ◌++◌, fold, pos, ◌*ℤ◌, int_lt, Option, Some, None}
use Rattle.std.specs.Prelude.{if◌then◌else◌}
use Rattle.def_sums.specs.Limits.{most_root, most_rounds}
use Rattle.def_tree.specs.declared.Player.TheVariants.{One, Two}
use Rattle.def_plan.specs.Form.{SequenceForm}
use Rattle.def_plan.specs.Plan.{IsPlan}
use Rattle.def_reply.specs.Reply.{Reply, best_reply_to}
use Rattle.def_reply.specs.Bracket.{Evaluation}
use Rattle.def_reply.specs.declared.TheConstants.{MOST_DIVISOR}
use Rattle.def_reply.specs.declared.TraceLine.{TraceLine}

-- the sums of both players' plans after a round, by what their bounds are divided, and the reply to each plan
pub record Offer : Type 0 where
  pub round : ℕ
  pub divisor : ℕ
  pub plan_one : List ℕ
  pub plan_two : List ℕ
  pub against_one : Reply
  pub against_two : Reply

abbrev pub evaluation_of_offer : Offer → Evaluation
evaluation_of_offer offer =
    record {
      round = offer.round;
      divisor = offer.divisor;
      low = offer.against_one.total;
      high = offer.against_two.total;
    }

-- an end: a player's plan and the reply to it, with the round and the divisor that they come from
pub record KeptEnd : Type 0 where
  pub round : ℕ
  pub divisor : ℕ
  pub plan : List ℕ
  pub reply : Reply

abbrev pub lower_of : Offer → KeptEnd
lower_of offer = record {
  round = offer.round;
  divisor = offer.divisor;
  plan = offer.plan_one;
  reply = offer.against_one;
}

abbrev pub upper_of : Offer → KeptEnd
upper_of offer = record {
  round = offer.round;
  divisor = offer.divisor;
  plan = offer.plan_two;
  reply = offer.against_two;
}

-- an end gives way to the next only where the next is better
abbrev pub keep_lower : Option KeptEnd → KeptEnd → KeptEnd
keep_lower None next = next
keep_lower (Some kept) next = if int_lt (kept.reply.total *ℤ pos next.divisor) (next.reply.total *ℤ pos kept.divisor)
    then next else kept

abbrev pub keep_upper : Option KeptEnd → KeptEnd → KeptEnd
keep_upper None next = next
keep_upper (Some kept) next = if int_lt (next.reply.total *ℤ pos kept.divisor) (kept.reply.total *ℤ pos next.divisor)
    then next else kept

-- the trace so far, and the ends
pub record Board : Type 0 where
  pub trace : List TraceLine
  pub lower : Option KeptEnd
  pub upper : Option KeptEnd

abbrev pub new_board : Board
new_board = record { trace = []; lower = None; upper = None }

-- a board with these ends after a round
abbrev pub board_with : List TraceLine → ℕ → KeptEnd → KeptEnd → Board
board_with lines round lower upper = record {
  trace = lines ++ record {
    round = round;
    low_round = lower.round;
    low = lower.reply.total;
    high_round = upper.round;
    high = upper.reply.total;
  } ∷ [];
  lower = Some lower;
  upper = Some upper;
}

abbrev pub offered : Board → Offer → Board
offered board offer = board_with board.trace offer.round (keep_lower board.lower (lower_of offer))
    (keep_upper board.upper (upper_of offer))

abbrev pub board_after : List Offer → Board
board_after offers = fold offered new_board offers

-- the greatest number by which bounds are divided
abbrev pub most_divisor : ℕ
most_divisor = MOST_DIVISOR

-- what may be offered after a last round: both plans have one root, which is the divisor times a scale, and the replies
-- to them are the best ones
pub record IsFair (form : SequenceForm) (last : ℕ) (offer : Offer) : Type 0 where
  pub scale : ℕ
  pub later : last < offer.round
  pub few_rounds : offer.round ≤ most_rounds
  pub some_divisor : 1 ≤ offer.divisor
  pub small_divisor : offer.divisor ≤ most_divisor
  pub some_scale : 1 ≤ scale
  pub small_root : offer.divisor * scale ≤ most_root
  pub plan_one : IsPlan form.sets_one (offer.divisor * scale) offer.plan_one
  pub plan_two : IsPlan form.sets_two (offer.divisor * scale) offer.plan_two
  pub against_one : offer.against_one ≡ best_reply_to form Two offer.plan_one
  pub against_two : offer.against_two ≡ best_reply_to form One offer.plan_two
