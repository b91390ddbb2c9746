-- What holds of printed bounds: the bounds of both printed plans, in payoff units.
--     GetsLow, ConcedesHigh      each printed plan keeps its bound against every plan of the other player
--     RepliesAttain              the printed replies attain both bounds
--     TraceNarrows               no trace line is wider than an earlier one, and the last one has both plans and bounds
--     GapIsExploitability        the bounds are apart by the total exploitability of both plans
--     NoPlanDoesBetter           no plan is sure of more than the other player's bound
--     BoundsHold                 all of this
use Rattle.std.specs.Prelude.{◌≡◌, ℕ, ◌*◌, ◌<◌, ◌≤◌, List, length, slice_index_or, ℤ, pos, ◌-ℤ◌, ◌*ℤ◌, ◌≤ℤ◌}
use Rattle.def_fraction.specs.Fraction.{Fraction}
use Rattle.def_fraction.specs.Laws.{HasValue}
use Rattle.def_plan.specs.Plan.{IsPlan, pure_plan}
use Rattle.def_plan.specs.Weighed.{WeighedGame}
use Rattle.def_reply.specs.Reply.{choices_of}
use Rattle.def_reply.specs.Bounds.{IsFloor, IsCeiling, AttainsFloor, AttainsCeiling, IsExploitability}
use Rattle.def_reply.specs.Bracket.{LiesWithinBy}
use Rattle.def_reply.specs.declared.TraceLine.{TraceLine}
use Rattle.def_plus.specs.declared.Variant.{Variant}
use Rattle.def_plus.specs.Variants.{weight_of_rounds}
use Rattle.def_cert_verdict.specs.Certificate.{PrintedBounds, printed_numbers, last_line}
use Rattle.def_cert_verdict.specs.Laws.{GetsAtLeast, ConcedesAtMost, IsTotalOver}

-- player one's printed plan gets at least LOW against every plan of player two, whatever its root weight
pub record GetsLow (game : WeighedGame) (b : PrintedBounds) : Type 0 where
  pub is_plan : IsPlan game.form.sets_one b.plan_one.root (printed_numbers b.plan_one)
  pub gets : GetsAtLeast game b.plan_one.root (printed_numbers b.plan_one) b.low

-- player two's printed plan concedes at most HIGH to every plan of player one
pub record ConcedesHigh (game : WeighedGame) (b : PrintedBounds) : Type 0 where
  pub is_plan : IsPlan game.form.sets_two b.plan_two.root (printed_numbers b.plan_two)
  pub concedes : ConcedesAtMost game b.plan_two.root (printed_numbers b.plan_two) b.high

-- The total of player two's reply is the floor of player one's plan, and the plan of the reply's choices attains it.
-- LOW is this total over the unit times the plan's root, in lowest terms. The same of player one's reply and HIGH.
pub record RepliesAttain (game : WeighedGame) (b : PrintedBounds) : Type 0 where
  pub floor : IsFloor game.form (printed_numbers b.plan_one) b.reply_two.total
  pub floor_attained : AttainsFloor game.form (printed_numbers b.plan_one) b.reply_two.total
      (pure_plan game.form.sets_two (choices_of b.reply_two.sets))
  pub low : IsTotalOver b.low b.reply_two.total (game.unit * b.plan_one.root)
  pub ceiling : IsCeiling game.form (printed_numbers b.plan_two) b.reply_one.total
  pub ceiling_attained : AttainsCeiling game.form (printed_numbers b.plan_two) b.reply_one.total
      (pure_plan game.form.sets_one (choices_of b.reply_one.sets))
  pub high : IsTotalOver b.high b.reply_one.total (game.unit * b.plan_two.root)

-- no line is wider than an earlier one, each bound over what the rounds up to its own weigh; and the last one has the
-- totals of both replies, and for each plan the round after which it stood: its root is what the rounds up to this one
-- weigh times the scale
pub record TraceNarrows (game : WeighedGame) (variant : Variant) (scale : ℕ) (b : PrintedBounds) : Type 0 where
  pub within_earlier : (j k : ℕ) (line : TraceLine) → j ≤ k → k < length b.trace
      → LiesWithinBy (λ n. weight_of_rounds variant n) (slice_index_or b.trace k line) (slice_index_or b.trace j line)
  pub last_low : (last_line b.trace).low ≡ b.reply_two.total
  pub last_high : (last_line b.trace).high ≡ b.reply_one.total
  pub low_round : b.plan_one.root ≡ weight_of_rounds variant (last_line b.trace).low_round * scale
  pub high_round : b.plan_two.root ≡ weight_of_rounds variant (last_line b.trace).high_round * scale

-- f less g, not in lowest terms
abbrev pub difference : Fraction → Fraction → Fraction
difference f g = record { num = (f.num *ℤ pos g.den) -ℤ (g.num *ℤ pos f.den); den = f.den * g.den }

-- HIGH less LOW is the total exploitability of the two printed plans, in payoff units
pub record GapIsExploitability (game : WeighedGame) (b : PrintedBounds) : Type 0 where
  pub gap : ℤ
  pub exploitability : IsExploitability game.form b.plan_one.root b.plan_two.root (printed_numbers b.plan_one)
      (printed_numbers b.plan_two) gap
  pub in_units : HasValue (difference b.high b.low) gap (game.unit * (b.plan_one.root * b.plan_two.root))

-- no plan of player one is sure of more than HIGH, and none of player two is sure to concede less than LOW
pub record NoPlanDoesBetter (game : WeighedGame) (b : PrintedBounds) : Type 0 where
  pub floors : (root : ℕ) (plan : List ℕ) (floor : ℤ) → IsPlan game.form.sets_one root plan
      → IsFloor game.form plan floor → (floor *ℤ pos b.high.den) ≤ℤ (b.high.num *ℤ pos (game.unit * root))
  pub ceilings : (root : ℕ) (plan : List ℕ) (ceiling : ℤ) → IsPlan game.form.sets_two root plan
      → IsCeiling game.form plan ceiling → (b.low.num *ℤ pos (game.unit * root)) ≤ℤ (ceiling *ℤ pos b.low.den)

-- all of it holds of printed bounds, where each round of the variant deals out the scale
pub record BoundsHold (game : WeighedGame) (variant : Variant) (scale : ℕ) (b : PrintedBounds) : Type 0 where
  pub lower : GetsLow game b
  pub upper : ConcedesHigh game b
  pub attained : RepliesAttain game b
  pub trace : TraceNarrows game variant scale b
  pub gap : GapIsExploitability game b
  pub value : NoPlanDoesBetter game b
