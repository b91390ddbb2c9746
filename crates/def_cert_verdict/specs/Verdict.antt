-- The tests of a certificate in their order. A worth is a leaf sum plus the printed values of the sets directly after;
-- no test takes a greatest or a least.
use Rattle.std.specs.Prelude.{ℕ, ◌+◌, ◌*◌, ◌==◌, Bool, ◌&&◌, ◌||◌, nat_le, List, [], ◌∷◌, ◌++◌, map, length, ℤ, pos}
use Rattle.std.specs.Prelude.{◌*ℤ◌, int_lt, Option, Some, None, Result, Ok, Err, if◌then◌else◌}
use Rattle.std.specs.Ordering.{int_eq}
use Rattle.std.specs.List.{range_with_len}
use Rattle.def_tree.specs.declared.Player.{Player}
use Rattle.def_tree.specs.declared.Player.TheVariants.{One, Two}
use Rattle.def_fraction.specs.Fraction.{Fraction, fraction_of}
use Rattle.def_plan.specs.Form.{InformationSet, PlacedSet, placed, sequence_count}
use Rattle.def_plan.specs.Weighed.{WeighedGame}
use Rattle.def_plan.specs.Plan.{chosen, first_not_adding}
use Rattle.def_plan.specs.Payoff.{leaf_sum, worth, mass_of}
use Rattle.def_reply.specs.Reply.{Reply, SetReply, values_of, total}
use Rattle.def_reply.specs.declared.TraceLine.{TraceLine}
use Rattle.def_reply.specs.Outcome.{Head}
use Rattle.def_cert_verdict.specs.declared.fault.Which.{Which}
use Rattle.def_cert_verdict.specs.declared.fault.Which.TheVariants.{Lower, Upper}
use Rattle.def_cert_verdict.specs.declared.fault.TestFault.{TestFault}
use Rattle.def_cert_verdict.specs.declared.fault.TestFault.TheVariants.{HeadDiffers, NotAPlan, ValueTooGood}
use Rattle.def_cert_verdict.specs.declared.fault.TestFault.TheVariants.{ReplyNotTight, TotalDiffers, TraceWidens}
use Rattle.def_cert_verdict.specs.Certificate.{PrintedPlan, PrintedBounds, Certificate, printed_numbers, last_line}

-- what an accepted certificate shows: the bracket, or where no round was asked that its head is the game's
pub data Verdict : Type 0 where
  head_only : Verdict
  bracket : Fraction → Fraction → Verdict

-- the fault of the first failing test
abbrev pub first_failing : List (Option TestFault) → Option TestFault
first_failing [] = None
first_failing (None ∷ tests) = first_failing tests
first_failing (Some fault ∷ tests) = Some fault

abbrev pub unless : Bool → TestFault → Option TestFault
unless passes fault = if passes then None else Some fault

abbrev pub is_same_fraction : Fraction → Fraction → Bool
is_same_fraction a b = int_eq a.num b.num && a.den == b.den

-- ---- the head: the lines 2 to 6 of the text are the game's, line 5 with its sum
abbrev pub head_tests : WeighedGame → Head → List (Option TestFault)
head_tests game head =
    unless (head.nodes == game.nodes && head.leaves == length game.form.leaves) (HeadDiffers 2)
    ∷ unless (head.sets_one == length game.form.sets_one && head.sets_two == length game.form.sets_two) (HeadDiffers 3)
    ∷ unless (head.sequences_one == sequence_count game.form.sets_one
    && head.sequences_two == sequence_count game.form.sets_two) (HeadDiffers 4)
    ∷ unless (head.unit == game.unit && is_same_fraction head.sum game.sum) (HeadDiffers 5)
    ∷ unless (head.mass == mass_of game.form.leaves) (HeadDiffers 6)
    ∷ []

-- ---- a plan: its root, then how many numbers each set has, then their sums
abbrev pub first_of_other_size : ℕ → List InformationSet → List (List ℕ) → Option ℕ
first_of_other_size k [] [] = None
first_of_other_size k [] (ws ∷ wss) = Some k
first_of_other_size k (h ∷ hs) [] = Some k
first_of_other_size k (h ∷ hs) (ws ∷ wss) = if length ws == h.actions then first_of_other_size (k + 1) hs wss else Some
    k

abbrev pub not_a_plan_at : Player → Option ℕ → Option TestFault
not_a_plan_at player None = None
not_a_plan_at player (Some set) = Some (NotAPlan player set)

abbrev pub plan_tests : Player → List InformationSet → ℕ → PrintedPlan → List (Option TestFault)
plan_tests player sets root plan =
    unless (nat_le 1 plan.root && plan.root == root) (NotAPlan player 0)
    ∷ not_a_plan_at player (first_of_other_size 1 sets plan.weights)
    ∷ not_a_plan_at player (first_not_adding (printed_numbers plan) 1 (placed sets))
    ∷ []

-- ---- a set of a reply: no action is better than the value, and the chosen one is worth it
abbrev pub is_better : Player → ℤ → ℤ → Bool
is_better One a b = int_lt b a
is_better Two a b = int_lt a b

abbrev pub action_test : Player → (ℕ → ℤ) → ℕ → PlacedSet → SetReply → ℕ → Option TestFault
action_test player worth_of k h reply action =
    if is_better player (worth_of (chosen h action)) reply.value then Some (ValueTooGood player k action) else None

abbrev pub set_tests : Player → (ℕ → ℤ) → ℕ → PlacedSet → SetReply → List (Option TestFault)
set_tests player worth_of k h reply =
    map (action_test player worth_of k h reply) (range_with_len 1 h.actions)
    ++ unless ((nat_le 1 reply.choice && nat_le reply.choice h.actions)
    && int_eq (worth_of (chosen h reply.choice)) reply.value) (ReplyNotTight player k) ∷ []

abbrev pub reply_tests : Player → (ℕ → ℤ) → ℕ → List PlacedSet → List SetReply → List (Option TestFault)
reply_tests player worth_of k [] [] = []
reply_tests player worth_of k [] (r ∷ rs) = Some (ReplyNotTight player k) ∷ []
reply_tests player worth_of k (h ∷ hs) [] = Some (ReplyNotTight player k) ∷ []
reply_tests player worth_of k (h ∷ hs) (r ∷ rs) = set_tests player worth_of k h r
    ++ reply_tests player worth_of (k + 1) hs rs

-- ---- a total: it is the worth of the empty sequence, that of the last trace line,
-- and over unit times root the printed bound
-- player two's reply shows the lower end
abbrev pub end_shown_by : Player → Which
end_shown_by One = Upper
end_shown_by Two = Lower

abbrev pub total_test : Player → (ℕ → ℤ) → List InformationSet → Reply → ℤ → Fraction → ℕ → Option TestFault
total_test player sums sets reply traced bound scale =
    unless (int_eq reply.total (total sums sets reply.sets)
    && (int_eq reply.total traced && is_same_fraction bound (fraction_of reply.total scale)))
    (TotalDiffers (end_shown_by player))

-- all tests of a reply, whose sets begin at 1
abbrev pub whole_reply_tests : Player → (ℕ → ℤ) → List InformationSet → Reply → ℤ → Fraction → ℕ
    → List (Option TestFault)
whole_reply_tests player sums sets reply traced bound scale =
    reply_tests player (worth sums (placed sets) (values_of reply.sets)) 1 (placed sets) reply.sets
    ++ total_test player sums sets reply traced bound scale ∷ []

-- ---- the trace: no line is wider than the one before it
abbrev pub is_wider : TraceLine → TraceLine → Bool
is_wider later earlier =
    int_lt (later.low *ℤ pos earlier.low_round) (earlier.low *ℤ pos later.low_round)
    || int_lt (earlier.high *ℤ pos later.high_round) (later.high *ℤ pos earlier.high_round)

-- the first line of the list has the number k
abbrev pub trace_tests : ℕ → List TraceLine → List (Option TestFault)
trace_tests k [] = []
trace_tests k (a ∷ []) = []
trace_tests k (a ∷ b ∷ lines) = (if is_wider b a then Some (TraceWidens (k + 1)) else None)
    ∷ trace_tests (k + 1) (b ∷ lines)

-- seven lines stand before the trace
abbrev pub first_trace_line : ℕ
first_trace_line = 8

-- ---- all of them: both plans, player two's sets and total, player one's, and the trace, whose first line has this
-- number
abbrev pub bounds_tests : WeighedGame → ℕ → ℕ → PrintedBounds → List (Option TestFault)
bounds_tests game first scale b =
    let form = game.form in
    let last = last_line b.trace in
    plan_tests One form.sets_one (last.low_round * scale) b.plan_one
    ++ (plan_tests Two form.sets_two (last.high_round * scale) b.plan_two
    ++ (whole_reply_tests Two (leaf_sum Two form.leaves (printed_numbers b.plan_one)) form.sets_two b.reply_two last.low
    b.low (game.unit * b.plan_one.root)
    ++ (whole_reply_tests One (leaf_sum One form.leaves (printed_numbers b.plan_two)) form.sets_one b.reply_one
    last.high b.high (game.unit * b.plan_two.root)
    ++ trace_tests first b.trace)))

-- where no round was asked the tests end after the head
abbrev pub tests_below_head : WeighedGame → ℕ → ℕ → Option PrintedBounds → List (Option TestFault)
tests_below_head game first scale None = []
tests_below_head game first scale (Some b) = bounds_tests game first scale b

abbrev pub tests : WeighedGame → Certificate → List (Option TestFault)
tests game c = head_tests game c.head ++ tests_below_head game first_trace_line c.head.scale c.bounds

-- what is shown where no test fails
abbrev pub shown_by : Option PrintedBounds → Verdict
shown_by None = head_only
shown_by (Some b) = bracket b.low b.high

abbrev pub decided_by : Option PrintedBounds → Option TestFault → Result Verdict TestFault
decided_by bounds None = Ok (shown_by bounds)
decided_by bounds (Some fault) = Err fault

-- the verdict on a certificate for a game: what it shows, or the fault of the first test that fails
abbrev pub verdict : WeighedGame → Certificate → Result Verdict TestFault
verdict game c = decided_by c.bounds (first_failing (tests game c))
