-- The certificate of two plans with the best replies to them holds up, and is within its ranges.
use Rattle.std.proofs.Common.{◌≡◌, ℕ, zero, suc, ◌+◌, ◌-◌, ◌*◌, ◌/◌, ◌≤◌, ◌<◌, List, [], ◌∷◌, slice_index_or, ◌^◌, All, unsigned_abs, Ok, refl, sym, ap, ◌∙◌}
use Rattle.std.proofs.Common.{subst, arith}
use Rattle.std.proofs.lemmas.Nat.{mul-le}
use Rattle.std.proofs.Math.Nat.{one-mul, add-div_right, div-eq_of_lt}
use Rattle.def_tree.specs.declared.Player.TheVariants.{One, Two}
use Rattle.def_tree.specs.Rules.{most_actions}
use Rattle.def_sums.specs.Limits.{most_root, most_rounds, most_scale}
use Rattle.def_plan.specs.Form.{AreInOrder}
use Rattle.def_plan.specs.Weighed.{WeighedGame}
use Rattle.def_reply.specs.declared.TraceLine.{TraceLine}
use Rattle.def_reply.specs.Outcome.{Head, OutcomeEnds}
use Rattle.def_run.specs.Run.{total_against}
use Rattle.def_cert_verdict.specs.Certificate.{PrintedBounds}
use Rattle.def_cert_verdict.specs.Laws.{HoldsUp}
use Rattle.def_cert_verdict.specs.Ranges.{CertificateFits, HeadFits, LineFits}
use Rattle.def_cert_verdict.specs.Verdict.{bracket, verdict}
use Rattle.def_cert_verdict.proofs.VerdictIsExact.{exact}
use Rattle.def_cert_accepted.specs.OfOutcome.{certificate_of, printed_bound, printed_bounds, printed_plan}
use Rattle.def_cert_accepted.proofs.OfRun.{own_head, own_head-is, same_head}
use Rattle.def_cert_accepted.proofs.Accepted.{numbers_back, plan_holds, reply_holds}
use Rattle.def_cert_accepted.proofs.Fits.{end_fits, plan_fits, reply_fits, small_total}
use Rattle.def_close.specs.Plans.{ArePlansOf, ends_of_plans, line_of_ends, one_line}
use Rattle.def_close.specs.Laws.{CertificatesOfPlansAreAccepted, CertificatesOfPlansFit}

-- one line is as many as rounds over as many, rounded up
one_turn : (n : ℕ) → 1 ≤ n → (n + n - 1) / n ≡ 1
one_turn n some =
    let turned : n + n - 1 ≡ (n - 1) + n = omega arith in
    ap (λ k. k / n) turned ∙ add-div_right (n - 1) some ∙ ap (λ k. k + 1) (div-eq_of_lt (omega arith))

module _ (game : WeighedGame) (one two : List ℕ) (order_one : AreInOrder game.form.sets_one)
    (order_two : AreInOrder game.form.sets_two) where
  abbrev ends : OutcomeEnds
  ends = ends_of_plans game.form one two

  abbrev bounds : ℕ → PrintedBounds
  bounds round = printed_bounds game.form game.unit (line_of_ends round ends ∷ []) ends

  module _ (round scale : ℕ) (plans : ArePlansOf game.form (round * scale) one two) where
    holds : HoldsUp game scale (bounds round)
    holds = record {
      plan_one = plan_holds game.form.sets_one (round * scale) one plans.of_one;
      plan_two = plan_holds game.form.sets_two (round * scale) two plans.of_two;
      reply_two = reply_holds game Two one (printed_plan game.form.sets_one one) (total_against game.form Two one) order_two
          (numbers_back game.form.sets_one one plans.of_one.all_sequences) refl refl;
      reply_one = reply_holds game One two (printed_plan game.form.sets_two two) (total_against game.form One two) order_one
          (numbers_back game.form.sets_two two plans.of_two.all_sequences) refl refl;
      trace = λ k line within. absurd (omega (arith, within));
    }

    own_accepted : (every : ℕ) → verdict game (certificate_of game.form (one_line (own_head game round every scale) ends))
        ≡ Ok (bracket (printed_bound game.unit ends.lower) (printed_bound game.unit ends.upper))
    own_accepted every =
        (exact.with_bracket game (own_head game round every scale) (bounds round) (printed_bound game.unit ends.lower)
        (printed_bound game.unit ends.upper)).1
        (own_head-is game round every scale, holds, refl, refl)

    own_fits : All (λ h. h.actions ≤ most_actions) game.form.sets_one
        → All (λ h. h.actions ≤ most_actions) game.form.sets_two → HeadFits (own_head game round round scale)
        → 1 ≤ round → CertificateFits (certificate_of game.form (one_line (own_head game round round scale) ends))
    own_fits small_one small_two fits some =
        let few : round * scale ≤ most_root =
        omega (arith, mul-le round scale most_rounds most_scale fits.rounds fits.scale.1) in
        let low : unsigned_abs (total_against game.form Two one) ≤ 2 ^ 98 =
        small_total game.form Two game.form.sets_one (round * scale) one order_two order_one plans.of_one fits.mass few in
        let high : unsigned_abs (total_against game.form One two) ≤ 2 ^ 98 =
        small_total game.form One game.form.sets_two (round * scale) two order_one order_two plans.of_two fits.mass few in
        let one_place : (round + round - 1) / round ≡ 1 = one_turn round some in
        let line : LineFits (own_head game round round scale) 0 (line_of_ends round ends) = record {
          round = omega (arith, one-mul round);
          low_round = (some, omega arith);
          low = omega (arith, low);
          high_round = (some, omega arith);
          high = omega (arith, high);
        } in
        record {
          head = fits;
          below = record {
            asked = some;
            trace = record { count = sym one_place; each = λ k other within. first_line k other within line };
            plan_one = plan_fits game.form.sets_one (round * scale) one order_one small_one plans.of_one few;
            reply_two = reply_fits game.form Two game.form.sets_one (round * scale) one order_two order_one plans.of_one
                small_two fits.mass few;
            plan_two = plan_fits game.form.sets_two (round * scale) two order_two small_two plans.of_two few;
            reply_one = reply_fits game.form One game.form.sets_two (round * scale) two order_one order_two plans.of_two
                small_one fits.mass few;
            low = end_fits game Two game.form.sets_one (round * scale) one order_two order_one plans.of_one fits.mass few fits.unit;
            high = end_fits game One game.form.sets_two (round * scale) two order_one order_two plans.of_two fits.mass few
                fits.unit;
          };
        }
      where
        first_line : (k : ℕ) (other : TraceLine) → k < 1
            → LineFits (own_head game round round scale) 0 (line_of_ends round ends)
            → LineFits (own_head game round round scale) k (slice_index_or (line_of_ends round ends ∷ []) k other)
        first_line zero other within line = line
        first_line (suc k) other within line = absurd (omega arith)

-- whatever plans they are, with the game's head they pass with the totals in payoff units
pub plans_accepted : CertificatesOfPlansAreAccepted
plans_accepted game head one two order_one order_two is plans =
    ap (λ (g : Head). verdict game (certificate_of game.form (one_line g (ends_of_plans game.form one two))))
    (same_head game head is)
    ∙ own_accepted game one two order_one order_two head.rounds head.scale plans head.every

-- and where the head is within its ranges, so are all numbers
pub plans_fit : CertificatesOfPlansFit
plans_fit game head one two order_one order_two small_one small_two is fits some whole plans =
    let same : head ≡ own_head game head.rounds head.rounds head.scale =
    same_head game head is ∙ ap (λ every. own_head game head.rounds every head.scale) whole in
    subst (λ (g : Head). CertificateFits (certificate_of game.form (one_line g (ends_of_plans game.form one two)))) (sym same)
    (own_fits game one two order_one order_two head.rounds head.scale plans small_one small_two (subst HeadFits same fits)
    some)
