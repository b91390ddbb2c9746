-- A player from one round to the next.
use Rattle.std.proofs.Common.{◌≡◌, ℕ, suc, ◌+◌, ℤ, List, length, ap, ◌∙◌, subst, sym, arith}
use Rattle.def_tree.specs.declared.Player.{Player}
use Rattle.def_tree.specs.declared.Player.TheVariants.{One, Two}
use Rattle.def_plan.specs.Form.{InformationSet, Leaf, SequenceForm, sequence_count}
use Rattle.def_round.specs.Play.{plan_of_play, play_of}
use Rattle.def_round.specs.Round.{own_sum, regrets_after}
use Rattle.def_round.specs.Rounds.{Standing}
use Rattle.def_plus.specs.declared.Variant.{Variant}
use Rattle.def_plus.specs.declared.Variant.TheVariants.{Plain, Plus}
use Rattle.def_plus.specs.PlusRounds.{next_plus_round, plus_rounds}
use Rattle.def_plus.specs.Variants.{rounds_of}
use Rattle.xg_engine.specs.Players.{HasRoomForSequences, StandAfter, StandsWith, regrets_kept, sum_with}
use Rattle.xg_engine.specs.declared.players.Learner.{Learner}
use Rattle.xg_engine.specs.declared.players.Players.{Players}

module _ (variant : Variant) (sets : List InformationSet) (root n : ℕ) (regrets : List ℤ) (sums : List ℕ) where
  abbrev next_plan : List ℕ
  next_plan = plan_of_play sets (play_of sets regrets) root

  -- the player has played by these regrets, and the sum has the plan of this play
  pub record HasPlayed (learner : Learner) : Type 0 where
    pub play : learner.play ≡ play_of sets regrets
    pub plan : learner.plan ≡ plan_of_play sets (play_of sets regrets) root
    pub sums_are : learner.sum ≡ sum_with variant (n + 1) sums (plan_of_play sets (play_of sets regrets) root)
    pub regrets_are : learner.regrets.of_sequences ≡ regrets
    pub closed : learner.regrets.closed ≡ n

  -- a player who stood with these regrets, and whose play, plan and sum come of them, has played by them
  pub has_played : (before after : Learner) → StandsWith sets n regrets sums before
      → after.play ≡ play_of sets before.regrets.of_sequences → after.plan ≡ plan_of_play sets after.play root
      → after.sum ≡ sum_with variant (n + 1) before.sum after.plan → after.regrets ≡ before.regrets → HasPlayed after
  has_played before after stands play plan grown same =
      let played : after.play ≡ play_of sets regrets = play ∙ ap (play_of sets) stands.regrets_are in
      let planned : after.plan ≡ next_plan = plan ∙ ap (λ p. plan_of_play sets p root) played in
      record {
        play = played;
        plan = planned;
        sums_are = grown ∙ (λ i. sum_with variant (n + 1) (stands.sums_are i) (planned i));
        regrets_are = ap (λ r. r.of_sequences) same ∙ stands.regrets_are;
        closed = ap (λ r. r.closed) same ∙ stands.closed_are;
      }

  -- and then has learned from the other player's plan
  pub has_learned : (player : Player) (leaves : List Leaf) (against other : List ℕ) (before after : Learner)
      → HasPlayed before → against ≡ other → HasRoomForSequences sets after
      → after.regrets.of_sequences
      ≡ regrets_kept variant (regrets_after (own_sum player leaves against) before.play sets before.regrets.of_sequences)
      → after.regrets.closed ≡ before.regrets.closed + 1 → after.sum ≡ before.sum
      → StandsWith sets (n + 1) (regrets_kept variant (regrets_after (own_sum player leaves other) (play_of sets regrets) sets regrets))
      (sum_with variant (n + 1) sums next_plan) after
  has_learned player leaves against other before after played same room learned closed kept = record {
    room = room;
    regrets_are =
        learned
        ∙ (λ i. regrets_kept variant (regrets_after (own_sum player leaves (same i)) (played.play i) sets (played.regrets_are i)));
    closed_are = closed ∙ ap (λ k. k + 1) played.closed;
    sums_are = kept ∙ played.sums_are;
  }

-- the player has learned from the other player's plan
pub record HasLearned (variant : Variant) (form : SequenceForm) (player : Player) (sets : List InformationSet)
    (against : List ℕ) (before after : Learner) : Type 0 where
  pub room : HasRoomForSequences sets after
  pub regrets : after.regrets.of_sequences
      ≡ regrets_kept variant (regrets_after (own_sum player form.leaves against) before.play sets before.regrets.of_sequences)
  pub closed : after.regrets.closed ≡ before.regrets.closed + 1
  pub sums : after.sum ≡ before.sum

-- the standing after the next round, by what both players keep of it
abbrev pub next_standing : Variant → SequenceForm → ℕ → ℕ → Standing
next_standing variant form root n =
    let before = rounds_of variant form root n in
    let play_one = play_of form.sets_one before.regrets_one in
    let play_two = play_of form.sets_two before.regrets_two in
    let plan_one = plan_of_play form.sets_one play_one root in
    let plan_two = plan_of_play form.sets_two play_two root in
    record {
      regrets_one = regrets_kept variant (regrets_after (own_sum One form.leaves plan_two) play_one form.sets_one before.regrets_one);
      regrets_two = regrets_kept variant (regrets_after (own_sum Two form.leaves plan_one) play_two form.sets_two before.regrets_two);
      sum_one = sum_with variant (n + 1) before.sum_one plan_one;
      sum_two = sum_with variant (n + 1) before.sum_two plan_two;
    }

-- it is the standing after one round more
pub is_next : (variant : Variant) (form : SequenceForm) (root n : ℕ)
    → next_standing variant form root n ≡ rounds_of variant form root (n + 1)
is_next Plain form root n =
    let count : suc n ≡ n + 1 = omega arith in
    ap (λ k. rounds_of Plain form root k) count
is_next Plus form root n =
    let count : suc n ≡ n + 1 = omega arith in
    ap (λ k. next_plus_round form root k (plus_rounds form root n)) (sym count) ∙ ap (λ k. rounds_of Plus form root k) count

-- both players after the next round
pub stand_next : (variant : Variant) (form : SequenceForm) (root n : ℕ) (players : Players)
    → let next = next_standing variant form root n in
    StandsWith form.sets_one (n + 1) next.regrets_one next.sum_one players.one
    → StandsWith form.sets_two (n + 1) next.regrets_two next.sum_two players.two
    → length players.rows.one ≡ sequence_count form.sets_one → length players.rows.two ≡ sequence_count form.sets_two
    → StandAfter variant form root (n + 1) players
stand_next variant form root n players one two rows_one rows_two =
    let is = is_next variant form root n in
    record {
      one = subst (λ (s : Standing). StandsWith form.sets_one (n + 1) s.regrets_one s.sum_one players.one) is one;
      two = subst (λ (s : Standing). StandsWith form.sets_two (n + 1) s.regrets_two s.sum_two players.two) is two;
      rows_one = rows_one;
      rows_two = rows_two;
    }

-- both players have played the round, and then have learned from the rows against each other's plan
pub both_learned : (variant : Variant) (form : SequenceForm) (root n : ℕ) (before after : Players)
    → let was = rounds_of variant form root n in
    HasPlayed variant form.sets_one root n was.regrets_one was.sum_one before.one
    → HasPlayed variant form.sets_two root n was.regrets_two was.sum_two before.two
    → HasLearned variant form One form.sets_one before.two.plan before.one after.one
    → HasLearned variant form Two form.sets_two before.one.plan before.two after.two
    → length after.rows.one ≡ sequence_count form.sets_one → length after.rows.two ≡ sequence_count form.sets_two
    → StandAfter variant form root (n + 1) after
both_learned variant form root n before after played_one played_two one two rows_one rows_two =
    let was = rounds_of variant form root n in
    stand_next variant form root n after
    (has_learned variant form.sets_one root n was.regrets_one was.sum_one One form.leaves before.two.plan _ before.one after.one played_one
    played_two.plan one.room one.regrets one.closed one.sums)
    (has_learned variant form.sets_two root n was.regrets_two was.sum_two Two form.leaves before.one.plan _ before.two after.two played_two
    played_one.plan two.room two.regrets two.closed two.sums)
    rows_one rows_two
