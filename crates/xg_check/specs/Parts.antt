-- The tests of one line and of one player's reply, and what has to hold of a game and a certificate before tests are
-- made.
use Rattle.std.specs.Prelude.{◌≡◌, ℕ, ◌*◌, ◌≤◌, ◌==◌, Bool, ◌&&◌, List, ◌++◌, length, ℤ, Option}
use Rattle.def_fraction.specs.Fraction.{Fraction}
use Rattle.def_tree.specs.declared.Player.{Player}
use Rattle.def_tree.specs.declared.Player.TheVariants.{One, Two}
use Rattle.def_tree.specs.Opponent.{opponent}
use Rattle.def_plan.specs.Form.{player_sets, sequence_count}
use Rattle.def_plan.specs.Payoff.{leaf_sum}
use Rattle.def_reply.specs.Outcome.{Head}
use Rattle.def_reply.specs.declared.TraceLine.{TraceLine}
use Rattle.def_cert_verdict.specs.declared.fault.TestFault.{TestFault}
use Rattle.def_cert_verdict.specs.Certificate.{Certificate, PrintedBounds, last_line, printed_numbers}
use Rattle.def_plan.specs.Weighed.{WeighedGame}
use Rattle.def_cert_verdict.specs.Verdict.{is_same_fraction, plan_tests, whole_reply_tests}
use Rattle.def_cert_text.specs.declared.version.TextVersion.{TextVersion}
use Rattle.def_cert_text.specs.declared.version.TextVersion.TheVariants as versions
use Rattle.xg_cert.specs.Printed.{plan_in, reply_in, set_count_in}

-- the end of a line that a player's reply shows, with the round that it comes from, and the bound that it shows
abbrev pub total_in : Player → TraceLine → ℤ
total_in One line = line.high
total_in Two line = line.low

abbrev pub bound_in : Player → PrintedBounds → Fraction
bound_in One b = b.high
bound_in Two b = b.low

-- the round of the end at which a player's plan stands
abbrev pub plan_round_in : Player → TraceLine → ℕ
plan_round_in One line = line.low_round
plan_round_in Two line = line.high_round

abbrev pub tests_of_plan : Player → WeighedGame → ℕ → PrintedBounds → List (Option TestFault)
tests_of_plan player game scale b =
    plan_tests player (player_sets game.form player) (plan_round_in player (last_line b.trace) * scale)
    (plan_in player b)

abbrev pub tests_of_reply : Player → WeighedGame → PrintedBounds → List (Option TestFault)
tests_of_reply player game b =
    let plan = plan_in (opponent player) b in
    whole_reply_tests player (leaf_sum player game.form.leaves (printed_numbers plan)) (player_sets game.form player)
    (reply_in player b) (total_in player (last_line b.trace)) (bound_in player b) (game.unit * plan.root)

-- both plans, player one's first, and both replies, player two's first
abbrev pub tests_of_plans : WeighedGame → ℕ → PrintedBounds → List (Option TestFault)
tests_of_plans game scale b = tests_of_plan One game scale b ++ tests_of_plan Two game scale b

abbrev pub tests_of_replies : WeighedGame → PrintedBounds → List (Option TestFault)
tests_of_replies game b = tests_of_reply Two game b ++ tests_of_reply One game b

-- the line of the unit is the game's, which has the sum too in version 1
abbrev pub is_unit_line : TextVersion → WeighedGame → Head → Bool
is_unit_line versions.One game head = head.unit == game.unit && is_same_fraction head.sum game.sum
is_unit_line versions.Two game head = head.unit == game.unit

-- the head has the game's numbers of sets
abbrev pub HasSetCountsOf : WeighedGame → Head → Type 0
HasSetCountsOf game head = (player : Player) → set_count_in player head ≡ length (player_sets game.form player)

-- and a round was asked
pub record HasSetsOf (game : WeighedGame) (c : Certificate) : Type 0 where
  pub asked : 1 ≤ c.head.rounds
  pub sets : HasSetCountsOf game c.head

-- a player's printed plan has a number for each sequence
abbrev pub HasEachSequence : Player → WeighedGame → PrintedBounds → Type 0
HasEachSequence player game b =
    length (printed_numbers (plan_in player b)) ≡ sequence_count (player_sets game.form player)
