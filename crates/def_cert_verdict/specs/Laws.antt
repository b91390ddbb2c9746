-- What an accepted certificate shows, whoever wrote it. Each law is the contract of a function of this crate.
use Rattle.std.specs.Prelude.{◌≡◌, ℕ, ◌+◌, ◌*◌, ◌≤◌, ◌<◌, ◌↔◌, List, length, take, slice_index_or, All, ℤ, pos, ◌*ℤ◌}
use Rattle.std.specs.Prelude.{◌≤ℤ◌, Option, Some, None, Ok}
use Rattle.std.specs.List.{AllZip}
use Rattle.def_tree.specs.declared.Player.{Player}
use Rattle.def_tree.specs.declared.Player.TheVariants.{One, Two}
use Rattle.def_fraction.specs.Fraction.{Fraction, IsInLowestTerms, fraction_of}
use Rattle.def_fraction.specs.Laws.{HasValue}
use Rattle.def_plan.specs.Form.{InformationSet, AreInOrder, sequence_count}
use Rattle.def_plan.specs.Plan.{IsPlan, pure_plan}
use Rattle.def_plan.specs.Payoff.{leaf_sum, pay, mass_of}
use Rattle.def_reply.specs.Reply.{Reply, choices_of, total, AreTight}
use Rattle.def_reply.specs.Bounds.{IsFloor, IsCeiling, AttainsFloor, AttainsCeiling}
use Rattle.def_reply.specs.Bracket.{LiesWithinBy}
use Rattle.def_reply.specs.declared.TraceLine.{TraceLine}
use Rattle.def_reply.specs.Outcome.{Head}
use Rattle.def_cert_verdict.specs.declared.fault.TestFault.{TestFault}
use Rattle.def_cert_verdict.specs.Certificate.{PrintedPlan, PrintedBounds, Certificate, printed_numbers, last_line}
use Rattle.def_plan.specs.Weighed.{WeighedGame}
use Rattle.def_cert_verdict.specs.Verdict.{head_only, bracket, first_failing, verdict}

-- the verdict is the fault of the first test that fails: those before it pass
pub record IsFirstFailure (outcomes : List (Option TestFault)) (fault : TestFault) : Type 0 where
  pub place : ℕ
  pub within : place < length outcomes
  pub fails : (d : Option TestFault) → slice_index_or outcomes place d ≡ Some fault
  pub earlier_pass : All (λ outcome. outcome ≡ None) (take place outcomes)

pub record TheFirstFailureDecides : Type 0 where
  pub none : (outcomes : List (Option TestFault))
      → (first_failing outcomes ≡ None) ↔ All (λ outcome. outcome ≡ None) outcomes
  pub some : (outcomes : List (Option TestFault)) (fault : TestFault) → first_failing outcomes ≡ Some fault
      → IsFirstFailure outcomes fault

-- ---- what holds of a certificate that is accepted

-- the lines 2 to 6 of the text are the game's, line 5 with its sum
pub record IsHeadOf (game : WeighedGame) (head : Head) : Type 0 where
  pub nodes : head.nodes ≡ game.nodes
  pub leaves : head.leaves ≡ length game.form.leaves
  pub sets_one : head.sets_one ≡ length game.form.sets_one
  pub sets_two : head.sets_two ≡ length game.form.sets_two
  pub sequences_one : head.sequences_one ≡ sequence_count game.form.sets_one
  pub sequences_two : head.sequences_two ≡ sequence_count game.form.sets_two
  pub unit : head.unit ≡ game.unit
  pub sum_is : head.sum ≡ game.sum
  pub mass_is : head.mass ≡ mass_of game.form.leaves

-- a printed plan is one of the root, with as many numbers for each set as it has actions
pub record HoldsAsPlan (sets : List InformationSet) (root : ℕ) (plan : PrintedPlan) : Type 0 where
  pub root_is : plan.root ≡ root
  pub sizes : AllZip (λ h weights. length weights ≡ h.actions) sets plan.weights
  pub is_plan : IsPlan sets plan.root (printed_numbers plan)

-- a printed total is the worth of the empty sequence and the one that is traced,
-- and over the scale it is the printed bound
pub record HoldsAsTotal (sums : ℕ → ℤ) (sets : List InformationSet) (reply : Reply) (traced : ℤ) (bound : Fraction)
    (scale : ℕ) : Type 0 where
  pub worth_is : reply.total ≡ total sums sets reply.sets
  pub traced_is : reply.total ≡ traced
  pub bound_is : bound ≡ fraction_of reply.total scale

-- a printed reply is tight, and its total holds
pub record HoldsAsReply (player : Player) (sums : ℕ → ℤ) (sets : List InformationSet) (reply : Reply) (traced : ℤ)
    (bound : Fraction) (scale : ℕ) : Type 0 where
  pub tight : AreTight player sums sets reply.sets
  pub total_is : HoldsAsTotal sums sets reply traced bound scale

-- no trace line is wider than the one before it, where a bound is divided by what the rounds up to its own weigh
abbrev pub NeverWidensBy : (ℕ → ℕ) → List TraceLine → Type 0
NeverWidensBy weight lines = (k : ℕ) (line : TraceLine) → k + 1 < length lines
    → LiesWithinBy weight (slice_index_or lines (k + 1) line) (slice_index_or lines k line)

abbrev pub NeverWidens : List TraceLine → Type 0
NeverWidens lines = NeverWidensBy (λ round. round) lines

-- the conditions of acceptance without their order, where the rounds up to each one weigh this
pub record HoldsUpBy (weight : ℕ → ℕ) (game : WeighedGame) (scale : ℕ) (b : PrintedBounds) : Type 0 where
  pub plan_one : HoldsAsPlan game.form.sets_one (weight (last_line b.trace).low_round * scale) b.plan_one
  pub plan_two : HoldsAsPlan game.form.sets_two (weight (last_line b.trace).high_round * scale) b.plan_two
  pub reply_two : HoldsAsReply Two (leaf_sum Two game.form.leaves (printed_numbers b.plan_one)) game.form.sets_two
      b.reply_two (last_line b.trace).low b.low (game.unit * b.plan_one.root)
  pub reply_one : HoldsAsReply One (leaf_sum One game.form.leaves (printed_numbers b.plan_two)) game.form.sets_one
      b.reply_one (last_line b.trace).high b.high (game.unit * b.plan_two.root)
  pub trace : NeverWidensBy weight b.trace

-- of a certificate, whose rounds weigh 1 each
abbrev pub HoldsUp : WeighedGame → ℕ → PrintedBounds → Type 0
HoldsUp game scale b = HoldsUpBy (λ round. round) game scale b

abbrev pub without_bounds : Head → Certificate
without_bounds head = record { head = head; bounds = None }

abbrev pub with_bounds : Head → PrintedBounds → Certificate
with_bounds head b = record { head = head; bounds = Some b }

-- a certificate is accepted exactly where its head is the game's and its bounds, if it has any, hold up;
-- what it shows are these
pub record AcceptanceIsExact : Type 0 where
  pub head_alone : (game : WeighedGame) (head : Head)
      → (verdict game (without_bounds head) ≡ Ok head_only) ↔ IsHeadOf game head
  pub no_bracket : (game : WeighedGame) (head : Head) (low high : Fraction)
      → ¬ (verdict game (without_bounds head) ≡ Ok (bracket low high))
  pub with_bracket : (game : WeighedGame) (head : Head) (b : PrintedBounds) (low high : Fraction)
      → (verdict game (with_bounds head b) ≡ Ok (bracket low high))
      ↔ (IsHeadOf game head × HoldsUp game head.scale b × (low ≡ b.low) × (high ≡ b.high))
  pub not_head_alone : (game : WeighedGame) (head : Head) (b : PrintedBounds)
      → ¬ (verdict game (with_bounds head b) ≡ Ok head_only)

-- ---- what that shows

-- a total over unit and root, in lowest terms
pub record IsTotalOver (bound : Fraction) (total : ℤ) (scale : ℕ) : Type 0 where
  pub lowest : IsInLowestTerms bound
  pub value : HasValue bound total scale

-- in payoff units, and with plans scaled to the root 1,
-- player one's plan gets at least `low` against every plan of player two
abbrev pub GetsAtLeast : WeighedGame → ℕ → List ℕ → Fraction → Type 0
GetsAtLeast game root plan_one low = (root_two : ℕ) (plan_two : List ℕ) → IsPlan game.form.sets_two root_two plan_two
    → (low.num *ℤ pos (game.unit * root * root_two)) ≤ℤ (pay game.form.leaves plan_one plan_two *ℤ pos low.den)

-- and player two's plan concedes at most `high` to every plan of player one
abbrev pub ConcedesAtMost : WeighedGame → ℕ → List ℕ → Fraction → Type 0
ConcedesAtMost game root plan_two high = (root_one : ℕ) (plan_one : List ℕ)
    → IsPlan game.form.sets_one root_one plan_one
    → (pay game.form.leaves plan_one plan_two *ℤ pos high.den) ≤ℤ (high.num *ℤ pos (game.unit * root * root_one))

-- both plans are plans, their totals are floor and ceiling, attained by the printed choices; LOW and HIGH are these
-- totals in payoff units, which the plans get and concede; no trace line is wider than the one before it
pub record ShowsItsBoundsBy (weight : ℕ → ℕ) (game : WeighedGame) (b : PrintedBounds) : Type 0 where
  pub plan_one : IsPlan game.form.sets_one b.plan_one.root (printed_numbers b.plan_one)
  pub plan_two : IsPlan game.form.sets_two b.plan_two.root (printed_numbers b.plan_two)
  pub floor : IsFloor game.form (printed_numbers b.plan_one) b.reply_two.total
  pub floor_attained : AttainsFloor game.form (printed_numbers b.plan_one) b.reply_two.total
      (pure_plan game.form.sets_two (choices_of b.reply_two.sets))
  pub ceiling : IsCeiling game.form (printed_numbers b.plan_two) b.reply_one.total
  pub ceiling_attained : AttainsCeiling game.form (printed_numbers b.plan_two) b.reply_one.total
      (pure_plan game.form.sets_one (choices_of b.reply_one.sets))
  pub low : IsTotalOver b.low b.reply_two.total (game.unit * b.plan_one.root)
  pub high : IsTotalOver b.high b.reply_one.total (game.unit * b.plan_two.root)
  pub gets : GetsAtLeast game b.plan_one.root (printed_numbers b.plan_one) b.low
  pub concedes : ConcedesAtMost game b.plan_two.root (printed_numbers b.plan_two) b.high
  pub traced_low : b.reply_two.total ≡ (last_line b.trace).low
  pub traced_high : b.reply_one.total ≡ (last_line b.trace).high
  pub trace : NeverWidensBy weight b.trace

abbrev pub ShowsItsBounds : WeighedGame → PrintedBounds → Type 0
ShowsItsBounds game b = ShowsItsBoundsBy (λ round. round) game b

-- so it is of bounds that hold up, whatever the rounds weigh
abbrev pub BoundsThatHoldUpAreShown : Type 0
BoundsThatHoldUpAreShown = (weight : ℕ → ℕ) (game : WeighedGame) (scale : ℕ) (b : PrintedBounds)
    → AreInOrder game.form.sets_one → AreInOrder game.form.sets_two → 1 ≤ game.unit → HoldsUpBy weight game scale b
    → ShowsItsBoundsBy weight game b

-- the verdict's bracket is the certificate's, and it is shown
abbrev pub AcceptedCertificatesShowTheirBounds : Type 0
AcceptedCertificatesShowTheirBounds =
    (game : WeighedGame) (head : Head) (b : PrintedBounds) (low high : Fraction) → AreInOrder game.form.sets_one
    → AreInOrder game.form.sets_two → 1 ≤ game.unit
    → verdict game (with_bounds head b) ≡ Ok (bracket low high)
    → (low ≡ b.low) × (high ≡ b.high) × ShowsItsBounds game b
