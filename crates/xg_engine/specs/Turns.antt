-- One player's part of a round: what it asks of the player, and what it leaves; and both players between rounds.
use Rattle.std.specs.Prelude.{◌≡◌, ℕ, ◌+◌, ◌*◌, ◌<◌, ◌≤◌, ℤ, Bool, List, IsTrue, MatchBool, length, unsigned_abs}
use Rattle.def_tree.specs.declared.Player.{Player}
use Rattle.def_tree.specs.declared.Player.TheVariants.{One, Two}
use Rattle.def_sums.specs.Limits.{most_round_row, most_rounds, most_scale}
use Rattle.def_sums.specs.Sum.{nat_sum_over}
use Rattle.def_plan.specs.Form.{SequenceForm, player_sets, sequence_count}
use Rattle.def_plan.specs.FormRows.{player_rows}
use Rattle.def_plan.specs.Plan.{IsPlan}
use Rattle.def_round.specs.Play.{GivesAllUnits, plan_of_play, play_of}
use Rattle.def_round.specs.Round.{own_sum, regrets_after}
use Rattle.def_plus.specs.declared.Variant.{Variant}
use Rattle.def_plus.specs.Variants.{rounds_of}
use Rattle.xg_engine.specs.Players.{CanGrow, HasRoomForSequences, StandAfter, regrets_kept, sum_with, times_of}
use Rattle.xg_engine.specs.declared.players.Learner.{Learner}
use Rattle.xg_engine.specs.declared.players.Players.{Players}
use Rattle.xg_engine.specs.declared.turns.Turn.{Turn}

-- the player can play a round, and the sum can take a plan of this root
pub record CanPlan (form : SequenceForm) (player : Player) (variant : Variant) (root round : ℕ) (learner : Learner)
    : Type 0 where
  pub room : HasRoomForSequences (player_sets form player) learner
  pub some_root : 1 ≤ root
  pub small_root : root ≤ most_scale
  pub sums : CanGrow (player_sets form player) (times_of variant round * root) learner.sum

-- the player has played by the regrets as they stood, and the sum has the plan of this play
pub record HasPlanned (form : SequenceForm) (player : Player) (variant : Variant) (root round : ℕ)
    (before after : Learner) : Type 0 where
  pub room : HasRoomForSequences (player_sets form player) after
  pub play : after.play ≡ play_of (player_sets form player) before.regrets.of_sequences
  pub all_units : GivesAllUnits after.play (player_sets form player)
  pub plan : after.plan ≡ plan_of_play (player_sets form player) after.play root
  pub is_plan : IsPlan (player_sets form player) root after.plan
  pub sums : after.sum ≡ sum_with variant round before.sum after.plan
  pub regrets : after.regrets ≡ before.regrets

-- the player can learn from these rows
pub record CanLearn (form : SequenceForm) (player : Player) (rows : List ℤ) (learner : Learner) : Type 0 where
  pub room : HasRoomForSequences (player_sets form player) learner
  pub few_rounds : learner.regrets.closed < most_rounds
  pub all_units : GivesAllUnits learner.play (player_sets form player)
  pub rows_are : length rows ≡ sequence_count (player_sets form player)
  pub small : nat_sum_over unsigned_abs rows ≤ most_round_row

-- the player has learned from these rows, against whatever plan they were made
pub record HasLearnedFrom (form : SequenceForm) (player : Player) (variant : Variant) (rows : List ℤ)
    (before after : Learner) : Type 0 where
  pub room : HasRoomForSequences (player_sets form player) after
  pub regrets : (against : List ℕ) → rows ≡ player_rows form player against
      → after.regrets.of_sequences
      ≡ regrets_kept variant (regrets_after (own_sum player form.leaves against) before.play (player_sets form player)
      before.regrets.of_sequences)
  pub closed : after.regrets.closed ≡ before.regrets.closed + 1
  pub sums : after.sum ≡ before.sum
  pub plan : after.plan ≡ before.plan

-- the player can learn from these rows, and if it goes on, play the next round, too
pub record CanTakeTurn (form : SequenceForm) (player : Player) (turn : Turn) (rows : List ℤ) (learner : Learner)
    : Type 0 where
  pub learn : CanLearn form player rows learner
  pub plan : IsTrue turn.goes_on → CanPlan form player turn.variant turn.scale turn.next learner

-- the player has learned from these rows, and, if it went on, has played the next round by what was learned
pub record HasTakenTurn (form : SequenceForm) (player : Player) (turn : Turn) (rows : List ℤ) (before after : Learner)
    : Type 0 where
  pub between : Learner
  pub learned : HasLearnedFrom form player turn.variant rows before between
  pub planned : MatchBool turn.goes_on (HasPlanned form player turn.variant turn.scale turn.next between after)
      (after ≡ between)

-- a player's plan by the regrets after so many rounds
abbrev pub plan_after : Variant → SequenceForm → Player → ℕ → ℕ → List ℕ
plan_after variant form One root n =
    plan_of_play form.sets_one (play_of form.sets_one (rounds_of variant form root n).regrets_one) root
plan_after variant form Two root n =
    plan_of_play form.sets_two (play_of form.sets_two (rounds_of variant form root n).regrets_two) root

-- both players stand as after so many rounds of the variant with plans of this root; or they stood so before they
-- played the next round, too
pub record AreReady (variant : Variant) (form : SequenceForm) (root n : ℕ) (have_plans : Bool) (players : Players)
    : Type 0 where
  pub before : Players
  pub stand : StandAfter variant form root n before
  pub one : MatchBool have_plans (HasPlanned form One variant root (n + 1) before.one players.one)
      (players.one ≡ before.one)
  pub two : MatchBool have_plans (HasPlanned form Two variant root (n + 1) before.two players.two)
      (players.two ≡ before.two)
  pub rows_one : length players.rows.one ≡ sequence_count form.sets_one
  pub rows_two : length players.rows.two ≡ sequence_count form.sets_two
