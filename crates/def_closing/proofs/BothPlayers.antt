-- One round of both players: the plans that are dealt, what the round is worth to each, and what their dealing costs.
use Rattle.std.proofs.Common.{◌≡◌, ℕ, ◌+◌, ◌*◌, ◌≤◌, List, arith}
use Rattle.std.specs.Prelude.{ℤ, pos, ◌+ℤ◌, ◌*ℤ◌, ◌≤ℤ◌, neg_ℤ}
use Rattle.std.proofs.lemmas.Int.{ints}
use Rattle.def_sums.proofs.RingLaws.{*ℤ-+ℤ, *ℤ-cancel, one-*ℤ}
use Rattle.def_tree.specs.declared.Player.TheVariants.{One, Two}
use Rattle.def_plan.specs.Form.{InformationSet, PlacedSet, placed, AreInOrder, SequenceForm}
use Rattle.def_plan.specs.Plan.{IsPlan}
use Rattle.def_plan.specs.Payoff.{gain, worth, pay}
use Rattle.def_round.specs.Play.{regret_of, play_of, plan_of_play}
use Rattle.def_round.specs.Round.{own_sum, round_values, regrets_after}
use Rattle.def_round.specs.Rounds.{Standing}
use Rattle.def_round.proofs.Plays.{plays_all_units, plays_deal_plans}
use Rattle.def_round.proofs.Gains.{own_sums_gain}
use Rattle.def_round.proofs.Regrets.{computed_adds, length-values_of}
use Rattle.def_round.proofs.Values.{values_solve}
use Rattle.def_closing.specs.Width.{AreWithinSpread, IsSpread, dealing_cost}
use Rattle.def_closing.proofs.Identity.{regret_identity}
use Rattle.def_closing.proofs.Dealing.{round_cost}

-- a player's regret of a plan of root 1, and the worth of the round
pub record PlayerRound (root : ℕ) (spread : PlacedSet → ℕ) (sums : ℕ → ℤ) (sets : List InformationSet) (before : List ℤ) (is_worth : ℤ) : Type 0 where
  pub identity : (q : List ℕ) → IsPlan sets 1 q
      → gain (regret_of (regrets_after sums (play_of sets before) sets before)) sets q +ℤ is_worth ≡ gain (regret_of before) sets q +ℤ gain sums sets q
  pub dealt : (pos root *ℤ is_worth) ≤ℤ (gain sums sets (plan_of_play sets (play_of sets before) root) +ℤ pos (root * dealing_cost spread sets))

player_round : (root : ℕ) (spread : PlacedSet → ℕ) (sums : ℕ → ℤ) (sets : List InformationSet) (before : List ℤ)
    → AreInOrder sets → 1 ≤ root → regret_of before 0 ≡ pos 0 → AreWithinSpread root spread sets sums (play_of sets before)
    → PlayerRound root spread sums sets before (worth sums (placed sets) (round_values sums (play_of sets before) sets) 0)
player_round root spread sums sets before order some none near =
    let play : List ℕ = play_of sets before in
    let values : List ℤ = round_values sums play sets in
    record {
      identity = λ q plan. omega (
        arith,
        ints,
        regret_identity sums sets values before (regrets_after sums play sets before) 1 q
            (computed_adds sums sets values before (length-values_of sums play sets)) none plan,
        one-*ℤ (worth sums (placed sets) values 0),
      );
      dealt = round_cost sums sets values root spread play order some (plays_all_units sets before order) (values_solve sums play sets order) near;
    }

-- both players' worths of a round nearly cancel
worths_cancel : (root : ℕ) (one two paid gain_one gain_two : ℤ) (a b : ℕ) → 1 ≤ root
    → (pos root *ℤ one) ≤ℤ (gain_one +ℤ pos (root * a)) → (pos root *ℤ two) ≤ℤ (gain_two +ℤ pos (root * b))
    → gain_one ≡ paid → gain_two ≡ neg_ℤ paid
    → (one +ℤ two) ≤ℤ pos (a + b)
worths_cancel root one two paid gain_one gain_two a b some le_one le_two is_one is_two =
    *ℤ-cancel root (one +ℤ two) (pos (a + b)) some
    (omega (arith, ints, le_one, le_two, is_one, is_two, *ℤ-+ℤ (pos root) one two))

-- ---- both players
module _ (form : SequenceForm) (root : ℕ) (before : Standing) where
  abbrev pub dealt_one : List ℕ
  dealt_one = plan_of_play form.sets_one (play_of form.sets_one before.regrets_one) root

  abbrev pub dealt_two : List ℕ
  dealt_two = plan_of_play form.sets_two (play_of form.sets_two before.regrets_two) root

  abbrev pub sums_one : ℕ → ℤ
  sums_one = own_sum One form.leaves dealt_two

  abbrev pub sums_two : ℕ → ℤ
  sums_two = own_sum Two form.leaves dealt_one

  abbrev pub worth_one : ℤ
  worth_one = worth sums_one (placed form.sets_one) (round_values sums_one (play_of form.sets_one before.regrets_one) form.sets_one) 0

  abbrev pub worth_two : ℤ
  worth_two = worth sums_two (placed form.sets_two) (round_values sums_two (play_of form.sets_two before.regrets_two) form.sets_two) 0

-- both plans are plans, both players' actions are within their spreads, and both worths together cost no more than the dealing
pub record BothPlayers (form : SequenceForm) (root : ℕ) (spread_one spread_two : PlacedSet → ℕ) (before : Standing) : Type 0 where
  pub plan_one : IsPlan form.sets_one root (dealt_one form root before)
  pub plan_two : IsPlan form.sets_two root (dealt_two form root before)
  pub near_one : AreWithinSpread root spread_one form.sets_one (sums_one form root before) (play_of form.sets_one before.regrets_one)
  pub near_two : AreWithinSpread root spread_two form.sets_two (sums_two form root before) (play_of form.sets_two before.regrets_two)
  pub round_one : PlayerRound root spread_one (sums_one form root before) form.sets_one before.regrets_one (worth_one form root before)
  pub round_two : PlayerRound root spread_two (sums_two form root before) form.sets_two before.regrets_two (worth_two form root before)
  pub cancel : (worth_one form root before +ℤ worth_two form root before)
      ≤ℤ pos (dealing_cost spread_one form.sets_one + dealing_cost spread_two form.sets_two)

pub both_players : (form : SequenceForm) (root : ℕ) (spread_one spread_two : PlacedSet → ℕ) → AreInOrder form.sets_one
    → AreInOrder form.sets_two → 1 ≤ root → IsSpread One form spread_one → IsSpread Two form spread_two → (before : Standing)
    → regret_of before.regrets_one 0 ≡ pos 0 → regret_of before.regrets_two 0 ≡ pos 0
    → BothPlayers form root spread_one spread_two before
both_players form root spread_one spread_two order_one order_two some are_one are_two before none_one none_two =
    let play_one : List ℕ = play_of form.sets_one before.regrets_one in
    let play_two : List ℕ = play_of form.sets_two before.regrets_two in
    let x : List ℕ = dealt_one form root before in
    let y : List ℕ = dealt_two form root before in
    let plan_x : IsPlan form.sets_one root x = plays_deal_plans form.sets_one play_one root order_one some in
    let plan_y : IsPlan form.sets_two root y = plays_deal_plans form.sets_two play_two root order_two some in
    let gain_one : ℕ → ℤ = own_sum One form.leaves y in
    let gain_two : ℕ → ℤ = own_sum Two form.leaves x in
    let near_one : AreWithinSpread root spread_one form.sets_one gain_one play_one =
    are_one root play_one y (plays_all_units form.sets_one before.regrets_one order_one) plan_y in
    let near_two : AreWithinSpread root spread_two form.sets_two gain_two play_two =
    are_two root play_two x (plays_all_units form.sets_two before.regrets_two order_two) plan_x in
    let round_one = player_round root spread_one gain_one form.sets_one before.regrets_one order_one some none_one near_one in
    let round_two = player_round root spread_two gain_two form.sets_two before.regrets_two order_two some none_two near_two in
    let gains_x = (own_sums_gain form x y).of_one plan_x.all_sequences in
    let gains_y = (own_sums_gain form x y).of_two plan_y.all_sequences in
    record {
      plan_one = plan_x;
      plan_two = plan_y;
      near_one = near_one;
      near_two = near_two;
      round_one = round_one;
      round_two = round_two;
      cancel =
          worths_cancel root (worth_one form root before) (worth_two form root before) (pay form.leaves x y) (gain gain_one form.sets_one x)
          (gain gain_two form.sets_two y) (dealing_cost spread_one form.sets_one) (dealing_cost spread_two form.sets_two)
          some round_one.dealt round_two.dealt gains_x gains_y;
    }
