-- What bounds that hold say of a game, with totals, roots and trace.
use Rattle.std.specs.Prelude.{◌≡◌, ◌↔◌, ℕ, ◌*◌, ◌<◌, ◌≤◌, length, slice_index_or, ℤ, pos, ◌*ℤ◌, ◌≤ℤ◌}
use Rattle.def_fraction.specs.Fraction.{IsInLowestTerms}
use Rattle.def_plan.specs.Plan.{IsPlan, pure_plan}
use Rattle.def_plan.specs.Weighed.{WeighedGame}
use Rattle.def_reply.specs.Bounds.{AttainsCeiling, AttainsFloor, IsCeiling, IsFloor}
use Rattle.def_reply.specs.Reply.{choices_of}
use Rattle.def_reply.specs.declared.TraceLine.{TraceLine}
use Rattle.def_cert_verdict.specs.Certificate.{PrintedBounds, last_line, printed_numbers}
use Rattle.def_cert_verdict.specs.Laws.{ConcedesAtMost, GetsAtLeast}
use Rattle.def_plus.specs.declared.Variant.{Variant}
use Rattle.def_plus.specs.Variants.{weight_of_rounds}
use Rattle.def_cert_accepted.specs.Bounds.{BoundsHold, GapIsExploitability, NoPlanDoesBetter}

-- a later line of the trace is no lower and no higher than an earlier one, each bound over what its rounds weigh
pub record IsNoWider (variant : Variant) (later earlier : TraceLine) : Type 0 where
  pub low : (earlier.low *ℤ pos (weight_of_rounds variant later.low_round))
      ≤ℤ (later.low *ℤ pos (weight_of_rounds variant earlier.low_round))
  pub high : (later.high *ℤ pos (weight_of_rounds variant earlier.high_round))
      ≤ℤ (earlier.high *ℤ pos (weight_of_rounds variant later.high_round))

-- player one's plan gets LOW, which is the total of player two's reply, a floor that the reply attains
pub record LowSays (game : WeighedGame) (b : PrintedBounds) : Type 0 where
  pub is_plan : IsPlan game.form.sets_one b.plan_one.root (printed_numbers b.plan_one)
  pub gets : GetsAtLeast game b.plan_one.root (printed_numbers b.plan_one) b.low
  pub floor : IsFloor game.form (printed_numbers b.plan_one) b.reply_two.total
  pub attained : AttainsFloor game.form (printed_numbers b.plan_one) b.reply_two.total
      (pure_plan game.form.sets_two (choices_of b.reply_two.sets))
  pub lowest : IsInLowestTerms b.low
  pub total : b.low.num *ℤ pos (game.unit * b.plan_one.root) ≡ b.reply_two.total *ℤ pos b.low.den

-- player two's plan concedes HIGH, which is the total of player one's reply, a ceiling that the reply attains
pub record HighSays (game : WeighedGame) (b : PrintedBounds) : Type 0 where
  pub is_plan : IsPlan game.form.sets_two b.plan_two.root (printed_numbers b.plan_two)
  pub concedes : ConcedesAtMost game b.plan_two.root (printed_numbers b.plan_two) b.high
  pub ceiling : IsCeiling game.form (printed_numbers b.plan_two) b.reply_one.total
  pub attained : AttainsCeiling game.form (printed_numbers b.plan_two) b.reply_one.total
      (pure_plan game.form.sets_one (choices_of b.reply_one.sets))
  pub lowest : IsInLowestTerms b.high
  pub total : b.high.num *ℤ pos (game.unit * b.plan_two.root) ≡ b.reply_one.total *ℤ pos b.high.den

-- the trace narrows to both totals, and the roots are those of the rounds after which the plans stood
pub record TraceSays (variant : Variant) (scale : ℕ) (b : PrintedBounds) : Type 0 where
  pub narrows : (j k : ℕ) (line : TraceLine) → j ≤ k → k < length b.trace
      → IsNoWider variant (slice_index_or b.trace k line) (slice_index_or b.trace j line)
  pub low : (last_line b.trace).low ≡ b.reply_two.total
  pub high : (last_line b.trace).high ≡ b.reply_one.total
  pub root_one : b.plan_one.root ≡ weight_of_rounds variant (last_line b.trace).low_round * scale
  pub root_two : b.plan_two.root ≡ weight_of_rounds variant (last_line b.trace).high_round * scale

pub record BoundsSay (game : WeighedGame) (variant : Variant) (scale : ℕ) (b : PrintedBounds) : Type 0 where
  pub low : LowSays game b
  pub high : HighSays game b
  pub trace : TraceSays variant scale b
  pub gap : GapIsExploitability game b
  pub value : NoPlanDoesBetter game b

abbrev pub BoundsAreRead : Type 0
BoundsAreRead = (game : WeighedGame) (variant : Variant) (scale : ℕ) (b : PrintedBounds)
    → BoundsHold game variant scale b ↔ BoundsSay game variant scale b
