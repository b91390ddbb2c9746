-- The second bracket of an accepted certificate bounds what player two gets.
use Rattle.std.proofs.Common.{◌≡◌, ℕ, ◌≤◌, List, Option, Some, Ok, refl, sym, ap, subst, ◌∙◌}
use Rattle.std.specs.Prelude.{false, pos, ◌*ℤ◌}
use Rattle.def_sums.proofs.RingLaws.{*ℤ-cancel_right, *ℤ-mono_right, ≤ℤ_trans}
use Rattle.def_tree.specs.declared.Kind.{Kind}
use Rattle.def_tree.specs.declared.Kind.TheVariants as kinds
use Rattle.def_tree.specs.declared.Player.TheVariants.{One, Two}
use Rattle.def_tree.specs.Tree.{is_leaf_kind}
use Rattle.def_fraction.specs.Fraction.{Fraction}
use Rattle.def_game_scale.specs.Tables.{game_sum}
use Rattle.def_game_scale.specs.Scale.{game_unit}
use Rattle.def_file.specs.Content.{GameFile}
use Rattle.def_game_numbers.specs.Faultless.{IsFaultless}
use Rattle.def_game_numbers.specs.Numbers.{tables_of}
use Rattle.def_game_numbers.specs.Weighed.{weighed_game}
use Rattle.def_plan.specs.Form.{AreInOrder}
use Rattle.def_plan.specs.Plan.{pure_plan}
use Rattle.def_plan.specs.Weighed.{WeighedGame}
use Rattle.def_sequence_form.specs.Form.{form_of_game, information_sets}
use Rattle.def_sequence_form.proofs.Sets.{form_is_in_order}
use Rattle.def_reply.specs.Outcome.{Head}
use Rattle.def_reply.specs.Reply.{choices_of}
use Rattle.def_reply.specs.Bounds.{IsBestAgainst, IsLeft}
use Rattle.def_constant_sum.specs.Expected.{ArePlans, expected_payoff}
use Rattle.def_fraction.specs.Order.{IsAtMost, difference_of}
use Rattle.def_constant_sum.specs.Bounds.{IsBestPayoff, IsPlanFor, IsSureOf}
use Rattle.def_constant_sum.specs.Laws.{IsConstantGame}
use Rattle.def_constant_sum.proofs.Faultless.{faultless}
use Rattle.def_constant_sum.proofs.Gains.{best_payoffs}
use Rattle.def_constant_sum.proofs.Payments.{expected_payoff-lowest, two-left, unit_some}
use Rattle.def_constant_sum.proofs.Times.{swap-last}
use Rattle.def_constant_sum.proofs.Turning.{bounds_in_weights, each_bounds_the_other}
use Rattle.def_cert_verdict.specs.Certificate.{PrintedBounds, printed_numbers}
use Rattle.def_cert_verdict.specs.Verdict.{Verdict, bracket, head_only, verdict}
use Rattle.def_cert_verdict.specs.Laws.{HoldsUp, IsHeadOf, ShowsItsBounds, with_bounds}
use Rattle.def_cert_verdict.proofs.VerdictIsExact.{exact}
use Rattle.def_cert_verdict.proofs.Shown.{accepted}
use Rattle.def_cert_text.specs.Versions.{PrintedBracket}
use Rattle.def_cert_text.specs.Laws.{with_second}
use Rattle.def_cert_versions.specs.Verdict.{second_bracket}
use Rattle.def_cert_versions.specs.PlayerTwo.{BoundsPlayerTwo, IsLeftTo, TheSecondBracketBoundsPlayerTwo}
use Rattle.def_cert_versions.proofs.VersionedVerdict.{accept_alike}

-- what an accepted certificate with bounds has
pub record IsAcceptedWith (game : WeighedGame) (head : Head) (b : PrintedBounds) : Type 0 where
  pub head_is : IsHeadOf game head
  pub holds : HoldsUp game head.scale b
  pub shows : ShowsItsBounds game b

pub accepted_with : (game : WeighedGame) (head : Head) (b : PrintedBounds) (shown : Verdict) → AreInOrder game.form.sets_one
    → AreInOrder game.form.sets_two → 1 ≤ game.unit → verdict game (with_bounds head b) ≡ Ok shown
    → IsAcceptedWith game head b
accepted_with game head b head_only one two unit e = absurd (exact.not_head_alone game head b e)
accepted_with game head b (bracket low high) one two unit e =
    let a = (exact.with_bracket game head b low high).0 e in
    record { head_is = a.0; holds = a.1; shows = (accepted game head b low high one two unit e).2 }

-- at most what is at most
pub at_most-through : (f g h : Fraction) → 1 ≤ g.den → IsAtMost f g → IsAtMost g h → IsAtMost f h
at_most-through f g h some below above =
    let left : (f.num *ℤ pos h.den) *ℤ pos g.den ≡ (f.num *ℤ pos g.den) *ℤ pos h.den = swap-last f.num (pos h.den) (pos g.den) in
    let mid : (g.num *ℤ pos f.den) *ℤ pos h.den ≡ (g.num *ℤ pos h.den) *ℤ pos f.den = swap-last g.num (pos f.den) (pos h.den) in
    let right : (h.num *ℤ pos g.den) *ℤ pos f.den ≡ (h.num *ℤ pos f.den) *ℤ pos g.den = swap-last h.num (pos g.den) (pos f.den) in
    *ℤ-cancel_right g.den (f.num *ℤ pos h.den) (h.num *ℤ pos f.den) some
    (≤ℤ_trans ((f.num *ℤ pos h.den) *ℤ pos g.den) ((g.num *ℤ pos f.den) *ℤ pos h.den) ((h.num *ℤ pos f.den) *ℤ pos g.den)
    (rw left (*ℤ-mono_right h.den (f.num *ℤ pos g.den) (g.num *ℤ pos f.den) below))
    (rw mid (rw (sym right) (*ℤ-mono_right f.den (g.num *ℤ pos h.den) (h.num *ℤ pos g.den) above))))

module _ (game : GameFile) (is : IsFaultless game) where
  pub constant : IsConstantGame (tables_of game) game.tree
  constant = faultless game is.whole is.fractions is.no_fault

  -- the game's sets are in order, and its unit isn't 0
  pub in_order : (kind : Kind) → is_leaf_kind kind ≡ false → AreInOrder (information_sets kind game.tree)
  in_order kind personal = form_is_in_order game.tree constant.complete.game_tree kind personal

  pub some_unit : 1 ≤ game_unit (tables_of game) game.tree
  some_unit = unit_some (tables_of game) game.tree constant.complete

  module _ (head : Head) (b : PrintedBounds) (with : IsAcceptedWith (weighed_game game) head b) where
    abbrev x : List ℕ
    x = printed_numbers b.plan_one

    abbrev y : List ℕ
    y = printed_numbers b.plan_two

    abbrev rest : Fraction → Fraction
    rest f = difference_of (game_sum (tables_of game) game.tree) f

    sure_of_rest : IsSureOf Two (tables_of game) game.tree y (rest b.high)
    sure_of_rest =
        (each_bounds_the_other (tables_of game) game.tree constant Two b.plan_two.root y with.shows.plan_two b.high with.shows.high.lowest.positive).keeps.0
        ((bounds_in_weights.concedes (tables_of game) game.tree constant.complete b.plan_two.root y with.shows.plan_two b.high).0 with.shows.concedes)

    best_of_one : IsBestPayoff One (tables_of game) game.tree y b.high
    best_of_one =
        let best : IsBestAgainst (form_of_game (tables_of game) game.tree) y
        b.reply_one.total = record {
          reply = pure_plan (form_of_game (tables_of game) game.tree).sets_one (choices_of b.reply_one.sets);
          ceiling = with.shows.ceiling;
          attained = with.shows.ceiling_attained;
        } in
        subst (IsBestPayoff One (tables_of game) game.tree y) (sym with.holds.reply_one.total_is.bound_is)
        (best_payoffs.one (tables_of game) game.tree constant.complete b.plan_two.root y with.shows.plan_two b.reply_one.total best)

    best_of_two : IsBestPayoff Two (tables_of game) game.tree x (rest b.low)
    best_of_two =
        let left : IsLeft (form_of_game (tables_of game) game.tree) x b.reply_two.total = record {
          reply = pure_plan
              (form_of_game (tables_of game) game.tree).sets_two (choices_of b.reply_two.sets);
          floor = with.shows.floor;
          attained = with.shows.floor_attained;
        } in
        subst (λ f. IsBestPayoff Two (tables_of game) game.tree x (rest f)) (sym with.holds.reply_two.total_is.bound_is)
        (best_payoffs.two (tables_of game) game.tree constant b.plan_one.root x with.shows.plan_one b.reply_two.total left)

    left_to_two : IsLeftTo (tables_of game) game.tree y (rest b.high)
    left_to_two =
        let best = best_of_one in
        let are : ArePlans (tables_of game) game.tree best.root b.plan_two.root best.reply y = record { one = best.is_plan; two = with.shows.plan_two } in
        record {
          root = best.root;
          reply = best.reply;
          is_plan = best.is_plan;
          attained = two-left (tables_of game) game.tree constant.complete best.root b.plan_two.root best.reply y are constant.constant_sum
              ∙ ap rest best.attained;
        }

    no_more_than : (root : ℕ) (plan : List ℕ) (bound : Fraction) → IsPlanFor Two (tables_of game) game.tree root plan
        → IsSureOf Two (tables_of game) game.tree plan bound → IsAtMost bound (rest b.low)
    no_more_than root plan bound p sure =
        let are : ArePlans (tables_of game) game.tree b.plan_one.root root x plan = record { one = with.shows.plan_one; two = p } in
        let paid : Fraction = expected_payoff Two (tables_of game) game.tree x plan in
        at_most-through bound paid (rest b.low) (expected_payoff-lowest (tables_of game) game.tree constant.complete b.plan_one.root root x plan are
        Two).positive
        (sure b.plan_one.root x with.shows.plan_one) (best_of_two.most root plan p)

    pub bounds_two : BoundsPlayerTwo (tables_of game) game.tree x y (second_bracket (game_sum (tables_of game) game.tree) b)
    bounds_two = record { sure = sure_of_rest; left = left_to_two; best = best_of_two; no_more = no_more_than }

some_same : (a c : PrintedBracket) → ◌≡◌ {A = Option PrintedBracket} (Some a) (Some c) → a ≡ c
some_same a c e = cc

-- the second bracket that is accepted bounds what player two gets in its own payoff
pub bounds_player_two : TheSecondBracketBoundsPlayerTwo
bounds_player_two game head b second shown is e =
    let a = (accept_alike (weighed_game game) (with_second head b second) shown).0 e in
    let with = accepted_with (weighed_game game) head b shown (in_order game is kinds.One refl) (in_order game is kinds.Two refl) (some_unit game is) a.0 in
    let x : List ℕ = printed_numbers b.plan_one in
    let y : List ℕ = printed_numbers b.plan_two in
    let same : second ≡ second_bracket (game_sum (tables_of game) game.tree) b = some_same second (second_bracket head.sum b) (a.1 refl)
    ∙ ap (λ k. second_bracket k b) with.head_is.sum_is in
    subst (λ s. BoundsPlayerTwo (tables_of game) game.tree x y s) (sym same) (bounds_two game is head b with)
