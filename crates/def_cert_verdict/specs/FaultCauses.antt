-- When each fault comes, in words: stage by stage, where all stages before hold. Places in lists count from 0.
use Rattle.std.specs.Prelude.{◌≡◌, ℕ, ◌+◌, ◌*◌, ◌≤◌, ◌<◌, ◌⊎◌, ◌↔◌, List, length, slice_get, slice_index_or, ℤ, Option}
use Rattle.std.specs.Prelude.{Some, None, Err}
use Rattle.std.specs.Option.{option_map}
use Rattle.def_tree.specs.declared.Player.{Player}
use Rattle.def_tree.specs.declared.Player.TheVariants.{One, Two}
use Rattle.def_fraction.specs.Fraction.{Fraction}
use Rattle.def_plan.specs.Form.{InformationSet, PlacedSet, placed, sequence_count}
use Rattle.def_plan.specs.Plan.{AddsUp, chosen}
use Rattle.def_plan.specs.Payoff.{leaf_sum, worth, mass_of, IsNoBetter}
use Rattle.def_reply.specs.Reply.{Reply, SetReply, values_of, AreTight}
use Rattle.def_reply.specs.Bracket.{LiesWithin}
use Rattle.def_reply.specs.declared.TraceLine.{TraceLine}
use Rattle.def_reply.specs.Outcome.{Head}
use Rattle.def_cert_verdict.specs.declared.fault.TestFault.{TestFault}
use Rattle.def_cert_verdict.specs.declared.fault.TestFault.TheVariants.{HeadDiffers, NotAPlan, ValueTooGood}
use Rattle.def_cert_verdict.specs.declared.fault.TestFault.TheVariants.{ReplyNotTight, TotalDiffers, TraceWidens}
use Rattle.def_cert_verdict.specs.Certificate.{PrintedPlan, PrintedBounds, Certificate, printed_numbers, last_line}
use Rattle.def_plan.specs.Weighed.{WeighedGame}
use Rattle.def_cert_verdict.specs.Verdict.{end_shown_by, first_trace_line, verdict}
use Rattle.def_cert_verdict.specs.Laws.{IsHeadOf, HoldsAsPlan, HoldsAsTotal, HoldsAsReply}

-- the first place where something doesn't hold
pub record IsFirstNot (Holds : ℕ → Type 0) (k : ℕ) : Type 0 where
  pub fails : ¬ (Holds k)
  pub earlier : (j : ℕ) → j < k → Holds j

-- ---- the head: a line of the text, from 1, says what the game is
pub record NamesLine (game : WeighedGame) (head : Head) (line : ℕ) : Type 0 where
  pub nodes : line ≡ 2 → (head.nodes ≡ game.nodes) × (head.leaves ≡ length game.form.leaves)
  pub sets : line ≡ 3 → (head.sets_one ≡ length game.form.sets_one) × (head.sets_two ≡ length game.form.sets_two)
  pub sequences : line ≡ 4
      → (head.sequences_one ≡ sequence_count game.form.sets_one)
      × (head.sequences_two ≡ sequence_count game.form.sets_two)
  pub unit : line ≡ 5 → (head.unit ≡ game.unit) × (head.sum ≡ game.sum)
  pub mass_is : line ≡ 6 → head.mass ≡ mass_of game.form.leaves

abbrev pub HeadFault : WeighedGame → Head → TestFault → Type 0
HeadFault game head (HeadDiffers line) = IsFirstNot (NamesLine game head) line
HeadFault game head fault = ⊥

-- ---- a plan: the root is from 1 and the one that is wanted
abbrev pub HasPrintedRoot : ℕ → PrintedPlan → Type 0
HasPrintedRoot root plan = (1 ≤ plan.root) × (plan.root ≡ root)

-- at a place of both lists there are as many numbers as the set has actions, and neither list is longer
abbrev pub HasItsActions : List InformationSet → List (List ℕ) → ℕ → Type 0
HasItsActions sets weights k = option_map length (slice_get weights k) ≡ option_map (λ h. h.actions) (slice_get sets k)

abbrev pub AddsUpAt : List ℕ → List PlacedSet → ℕ → Type 0
AddsUpAt plan hs k = (h : PlacedSet) → slice_get hs k ≡ Some h → AddsUp plan h

-- set 0 where the root is another, else the first set of another size, else the first whose numbers don't add up
pub data IsBadPlan (sets : List InformationSet) (root : ℕ) (plan : PrintedPlan) (set : ℕ) : Type 0 where
  other_root : ¬ (HasPrintedRoot root plan) → set ≡ 0 → IsBadPlan sets root plan set
  other_size : HasPrintedRoot root plan → (k : ℕ) → IsFirstNot (HasItsActions sets plan.weights) k → set ≡ 1 + k
      → IsBadPlan sets root plan set
  not_adding : HasPrintedRoot root plan → ((j : ℕ) → HasItsActions sets plan.weights j) → (k : ℕ)
      → IsFirstNot (AddsUpAt (printed_numbers plan) (placed sets)) k → set ≡ 1 + k → IsBadPlan sets root plan set

abbrev pub PlanFault : Player → List InformationSet → ℕ → PrintedPlan → TestFault → Type 0
PlanFault player sets root plan (NotAPlan p set) = (p ≡ player) × IsBadPlan sets root plan set
PlanFault player sets root plan fault = ⊥

-- ---- a reply: what is said at a set and a reply of the same place
abbrev pub NoActionBetterAt : Player → (ℕ → ℤ) → Option PlacedSet → Option SetReply → Type 0
NoActionBetterAt player w (Some h) (Some r) = (i : ℕ) → i < h.actions → IsNoBetter player (w (chosen h (1 + i))) r.value
NoActionBetterAt player w (Some h) None = Unit {0}
NoActionBetterAt player w None r = Unit {0}

abbrev pub ReachedAt : (ℕ → ℤ) → Option PlacedSet → Option SetReply → Type 0
ReachedAt w (Some h) (Some r) = (1 ≤ r.choice) × (r.choice ≤ h.actions) × (w (chosen h r.choice) ≡ r.value)
ReachedAt w None None = Unit {0}
ReachedAt w (Some h) None = ⊥
ReachedAt w None (Some r) = ⊥

abbrev pub TightAt : Player → (ℕ → ℤ) → List PlacedSet → List SetReply → ℕ → Type 0
TightAt player w hs rs k = NoActionBetterAt player w (slice_get hs k) (slice_get rs k)
    × ReachedAt w (slice_get hs k) (slice_get rs k)

-- the sets before it are tight, and this action is the first that is better than the value
pub record IsTooGood (player : Player) (w : ℕ → ℤ) (hs : List PlacedSet) (rs : List SetReply) (k i : ℕ) : Type 0 where
  pub earlier : (j : ℕ) → j < k → TightAt player w hs rs j
  pub set : PlacedSet
  pub reply : SetReply
  pub set_there : slice_get hs k ≡ Some set
  pub reply_there : slice_get rs k ≡ Some reply
  pub action : IsFirstNot (λ a. a < set.actions → IsNoBetter player (w (chosen set (1 + a))) reply.value) i

-- the sets before it are tight, no action is better than the value, and the choice isn't worth it
pub record IsNotReached (player : Player) (w : ℕ → ℤ) (hs : List PlacedSet) (rs : List SetReply) (k : ℕ) : Type 0 where
  pub earlier : (j : ℕ) → j < k → TightAt player w hs rs j
  pub no_better : NoActionBetterAt player w (slice_get hs k) (slice_get rs k)
  pub not_reached : ¬ (ReachedAt w (slice_get hs k) (slice_get rs k))

abbrev pub SetFault : Player → (ℕ → ℤ) → ℕ → List PlacedSet → List SetReply → TestFault → Type 0
SetFault player w first hs rs (ValueTooGood p set action) = (p ≡ player)
    × ((k : ℕ) × (i : ℕ) × (set ≡ first + k) × (action ≡ 1 + i) × IsTooGood player w hs rs k i)
SetFault player w first hs rs (ReplyNotTight p set) = (p ≡ player)
    × ((k : ℕ) × (set ≡ first + k) × IsNotReached player w hs rs k)
SetFault player w first hs rs fault = ⊥

abbrev pub TotalFault : Player → (ℕ → ℤ) → List InformationSet → Reply → ℤ → Fraction → ℕ → TestFault → Type 0
TotalFault player sums sets reply traced bound scale (TotalDiffers end) = (end ≡ end_shown_by player)
    × (¬ (HoldsAsTotal sums sets reply traced bound scale))
TotalFault player sums sets reply traced bound scale fault = ⊥

-- a set's fault, or where all sets are tight that of the total
abbrev pub ReplyFault : Player → (ℕ → ℤ) → List InformationSet → Reply → ℤ → Fraction → ℕ → TestFault → Type 0
ReplyFault player sums sets reply traced bound scale fault =
    SetFault player (worth sums (placed sets) (values_of reply.sets)) 1 (placed sets) reply.sets fault
    ⊎ (AreTight player sums sets reply.sets × TotalFault player sums sets reply traced bound scale fault)

-- ---- the trace: the line behind a place isn't wider
abbrev pub IsNoWider : List TraceLine → ℕ → Type 0
IsNoWider lines k = (line : TraceLine) → k + 1 < length lines
    → LiesWithin (slice_index_or lines (k + 1) line) (slice_index_or lines k line)

abbrev pub TraceFault : ℕ → List TraceLine → TestFault → Type 0
TraceFault first lines (TraceWidens line) = (k : ℕ) × (line ≡ first + k + 1) × IsFirstNot (IsNoWider lines) k
TraceFault first lines fault = ⊥

-- ---- all stages: player one's plan, player two's plan, player two's reply, player one's reply, the trace
abbrev pub BoundsFault : WeighedGame → ℕ → ℕ → PrintedBounds → TestFault → Type 0
BoundsFault game first scale b fault =
    let form = game.form in
    let last = last_line b.trace in
    let sums_two = leaf_sum Two form.leaves (printed_numbers b.plan_one) in
    let sums_one = leaf_sum One form.leaves (printed_numbers b.plan_two) in
    PlanFault One form.sets_one (last.low_round * scale) b.plan_one fault
    ⊎ (HoldsAsPlan form.sets_one (last.low_round * scale) b.plan_one
    × (PlanFault Two form.sets_two (last.high_round * scale) b.plan_two fault
    ⊎ (HoldsAsPlan form.sets_two (last.high_round * scale) b.plan_two
    × (ReplyFault Two sums_two form.sets_two b.reply_two last.low b.low (game.unit * b.plan_one.root) fault
    ⊎ (HoldsAsReply Two sums_two form.sets_two b.reply_two last.low b.low (game.unit * b.plan_one.root)
    × (ReplyFault One sums_one form.sets_one b.reply_one last.high b.high (game.unit * b.plan_two.root) fault
    ⊎ (HoldsAsReply One sums_one form.sets_one b.reply_one last.high b.high (game.unit * b.plan_two.root)
    × TraceFault first b.trace fault)))))))

abbrev pub FaultBelowHead : WeighedGame → ℕ → ℕ → Option PrintedBounds → TestFault → Type 0
FaultBelowHead game first scale None fault = ⊥
FaultBelowHead game first scale (Some b) fault = BoundsFault game first scale b fault

-- a certificate is refused with a fault exactly where it comes: in the head, or where that is the game's in the bounds
abbrev pub EachFaultHasItsCause : Type 0
EachFaultHasItsCause = (game : WeighedGame) (c : Certificate) (fault : TestFault)
    → (verdict game c ≡ Err fault) ↔ (HeadFault game c.head fault
    ⊎ (IsHeadOf game c.head × FaultBelowHead game first_trace_line c.head.scale c.bounds fault))
