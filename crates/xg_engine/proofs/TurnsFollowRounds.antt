-- Both players' turns: that they may be taken, and that they lead from one round to the next.
use Rattle.std.proofs.Common.{◌≡◌, ℕ, ◌+◌, ◌*◌, ◌<◌, ◌≤◌, ℤ, Bool, false, true, List, MatchBool, length, refl, ap, ◌∙◌, subst, sym, arith}
use Rattle.def_tree.specs.declared.Player.TheVariants.{One, Two}
use Rattle.def_sums.specs.Limits.{most_rounds}
use Rattle.def_plan.specs.Form.{SequenceForm, sequence_count}
use Rattle.def_plan.specs.FormRows.{player_rows}
use Rattle.def_round.specs.Rounds.{Standing}
use Rattle.def_plus.specs.declared.Variant.{Variant}
use Rattle.def_plus.specs.Variants.{most_rounds_of, most_scale_of, rounds_of}
use Rattle.xg_engine.specs.Players.{CanGrow, IsSoundForm, StandAfter, StandsWith, times_of}
use Rattle.xg_engine.specs.Turns.{AreReady, CanLearn, CanPlan, HasLearnedFrom, HasPlanned, HasTakenTurn, plan_after}
use Rattle.xg_engine.specs.declared.players.Players.{Players}
use Rattle.xg_engine.specs.declared.turns.Turn.{Turn}
use Rattle.xg_engine.proofs.Growing.{can_grow_one, can_grow_two, rounds_within, scale_within}
use Rattle.xg_reply.proofs.RowSizes.{count_of_rows, small_in_round}
use Rattle.xg_engine.proofs.PlayersFollowRounds.{HasPlayed, both_learned, has_played, is_next}

module _ (variant : Variant) (form : SequenceForm) (root n : ℕ) where
  abbrev was : Standing
  was = rounds_of variant form root n

  -- players who haven't played the next round yet stand as after the rounds before it
  pub stands : (players : Players) → players.have_plans ≡ false
      → AreReady variant form root n players.have_plans players → StandAfter variant form root n players
  stands players none ready =
      let r : AreReady variant form root n false players = subst (λ b. AreReady variant form root n b players) none ready in
      record {
        one = subst (StandsWith form.sets_one n was.regrets_one was.sum_one) (sym r.one) r.stand.one;
        two = subst (StandsWith form.sets_two n was.regrets_two was.sum_two) (sym r.two) r.stand.two;
        rows_one = r.rows_one;
        rows_two = r.rows_two;
      }

  -- and so are ready for it
  pub ready : (players : Players) → players.have_plans ≡ false → StandAfter variant form root n players
      → AreReady variant form root n players.have_plans players
  ready players none stand =
      let r : AreReady variant form root n false players =
      record { before = players; stand = stand; one = refl; two = refl; rows_one = stand.rows_one; rows_two = stand.rows_two } in
      subst (λ b. AreReady variant form root n b players) (sym none) r

  module _ (sound : IsSoundForm form) (some : 1 ≤ root) (small : root ≤ most_scale_of variant)
      (few : n < most_rounds_of variant) (round : ℕ) (next : round ≡ n + 1) (players : Players)
      (stand : StandAfter variant form root n players) where
    pub can_plan_one : CanPlan form One variant root round players.one
    can_plan_one = record {
      room = stand.one.room;
      some_root = some;
      small_root = scale_within variant root small;
      sums = subst (λ k. CanGrow form.sets_one (times_of variant k * root) players.one.sum) (sym next)
          (subst (CanGrow form.sets_one (times_of variant (n + 1) * root)) (sym stand.one.sums_are)
          (can_grow_one variant form root sound some small n few));
    }

    pub can_plan_two : CanPlan form Two variant root round players.two
    can_plan_two = record {
      room = stand.two.room;
      some_root = some;
      small_root = scale_within variant root small;
      sums = subst (λ k. CanGrow form.sets_two (times_of variant k * root) players.two.sum) (sym next)
          (subst (CanGrow form.sets_two (times_of variant (n + 1) * root)) (sym stand.two.sums_are)
          (can_grow_two variant form root sound some small n few));
    }

  -- players who have played the next round
  module _ (between : Players) (r : AreReady variant form root n true between) where
    played_one : HasPlayed variant form.sets_one root n was.regrets_one was.sum_one between.one
    played_one =
        has_played variant form.sets_one root n was.regrets_one was.sum_one r.before.one between.one r.stand.one r.one.play
        r.one.plan r.one.sums r.one.regrets

    played_two : HasPlayed variant form.sets_two root n was.regrets_two was.sum_two between.two
    played_two =
        has_played variant form.sets_two root n was.regrets_two was.sum_two r.before.two between.two r.stand.two r.two.play
        r.two.plan r.two.sums r.two.regrets

    -- what holds of their plans holds of those by the regrets before them, and the other way round
    pub of_plans : (P : List ℕ → List ℕ → Type 0) → P between.one.plan between.two.plan
        → P (plan_after variant form One root n) (plan_after variant form Two root n)
    of_plans P holds =
        subst (λ one. P one (plan_after variant form Two root n)) played_one.plan (subst (P between.one.plan) played_two.plan holds)

    pub of_these_plans : (P : List ℕ → List ℕ → Type 0)
        → P (plan_after variant form One root n) (plan_after variant form Two root n) → P between.one.plan between.two.plan
    of_these_plans P holds =
        subst (λ one. P one between.two.plan) (sym played_one.plan)
        (subst (P (plan_after variant form One root n)) (sym played_two.plan) holds)

    module _ (sound : IsSoundForm form) (small : root ≤ most_scale_of variant) (few : n < most_rounds_of variant)
        (rows_one rows_two : List ℤ) (are_one : rows_one ≡ player_rows form One between.two.plan)
        (are_two : rows_two ≡ player_rows form Two between.one.plan) where
      few_plain : n < most_rounds
      few_plain =
          let within : n + 1 ≤ most_rounds = rounds_within variant (n + 1) (omega (arith, few)) in
          omega (arith, within)

      pub can_learn_one : CanLearn form One rows_one between.one
      can_learn_one = record {
        room = r.one.room;
        few_rounds = subst (λ k. k < most_rounds) (sym played_one.closed) few_plain;
        all_units = r.one.all_units;
        rows_are = count_of_rows form One between.two.plan rows_one are_one;
        small = small_in_round form One between.two.plan rows_one are_one form.sets_two root sound.order_two r.two.is_plan
            sound.small_mass (scale_within variant root small);
      }

      pub can_learn_two : CanLearn form Two rows_two between.two
      can_learn_two = record {
        room = r.two.room;
        few_rounds = subst (λ k. k < most_rounds) (sym played_two.closed) few_plain;
        all_units = r.two.all_units;
        rows_are = count_of_rows form Two between.one.plan rows_two are_two;
        small = small_in_round form Two between.one.plan rows_two are_two form.sets_one root sound.order_one r.one.is_plan
            sound.small_mass (scale_within variant root small);
      }

    -- the sums have room for the plans of the round after it, too
    module _ (sound : IsSoundForm form) (some : 1 ≤ root) (small : root ≤ most_scale_of variant)
        (few : n + 1 < most_rounds_of variant) (round : ℕ) (next : round ≡ n + 1 + 1) where
      pub can_go_on_one : CanPlan form One variant root round between.one
      can_go_on_one =
          let sum : between.one.sum ≡ (rounds_of variant form root (n + 1)).sum_one =
          played_one.sums_are ∙ ap (λ (s : Standing). s.sum_one) (is_next variant form root n) in
          record {
            room = r.one.room;
            some_root = some;
            small_root = scale_within variant root small;
            sums = subst (λ k. CanGrow form.sets_one (times_of variant k * root) between.one.sum) (sym next)
                (subst (CanGrow form.sets_one (times_of variant (n + 1 + 1) * root)) (sym sum)
                (can_grow_one variant form root sound some small (n + 1) few));
          }

      pub can_go_on_two : CanPlan form Two variant root round between.two
      can_go_on_two =
          let sum : between.two.sum ≡ (rounds_of variant form root (n + 1)).sum_two =
          played_two.sums_are ∙ ap (λ (s : Standing). s.sum_two) (is_next variant form root n) in
          record {
            room = r.two.room;
            some_root = some;
            small_root = scale_within variant root small;
            sums = subst (λ k. CanGrow form.sets_two (times_of variant k * root) between.two.sum) (sym next)
                (subst (CanGrow form.sets_two (times_of variant (n + 1 + 1) * root)) (sym sum)
                (can_grow_two variant form root sound some small (n + 1) few));
          }

    module _ (rows_one rows_two : List ℤ) (are_one : rows_one ≡ player_rows form One between.two.plan)
        (are_two : rows_two ≡ player_rows form Two between.one.plan) where
      -- both have learned, and so stand as after one round more
      pub turns_lead_on : (after : Players) → HasLearnedFrom form One variant rows_one between.one after.one
          → HasLearnedFrom form Two variant rows_two between.two after.two
          → length after.rows.one ≡ sequence_count form.sets_one → length after.rows.two ≡ sequence_count form.sets_two
          → StandAfter variant form root (n + 1) after
      turns_lead_on after one two room_one room_two =
          both_learned variant form root n between after played_one played_two
          (record {
            room = one.room;
            regrets = one.regrets between.two.plan are_one;
            closed = one.closed;
            sums = one.sums;
          })
          (record {
            room = two.room;
            regrets = two.regrets between.one.plan are_two;
            closed = two.closed;
            sums = two.sums;
          })
          room_one room_two

      -- both have taken their turns, and are ready for what follows
      pub turns_make_ready : (round : ℕ) → round ≡ n + 1 + 1 → (goes_on : Bool) (after : Players)
          → let turn : Turn = record { variant = variant; scale = root; next = round; goes_on = goes_on } in
          HasTakenTurn form One turn rows_one between.one after.one → HasTakenTurn form Two turn rows_two between.two after.two
          → length after.rows.one ≡ sequence_count form.sets_one → length after.rows.two ≡ sequence_count form.sets_two
          → AreReady variant form root (n + 1) goes_on after
      turns_make_ready round next goes_on after one two room_one room_two =
          let learned : Players = record { one = one.between; two = two.between; rows = after.rows; have_plans = false } in
          record {
            before = learned;
            stand = turns_lead_on learned one.learned two.learned room_one room_two;
            one = subst (λ k. MatchBool goes_on (HasPlanned form One variant root k one.between after.one) (after.one ≡ one.between)) next one.planned;
            two = subst (λ k. MatchBool goes_on (HasPlanned form Two variant root k two.between after.two) (after.two ≡ two.between)) next two.planned;
            rows_one = room_one;
            rows_two = room_two;
          }
