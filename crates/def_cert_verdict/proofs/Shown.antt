-- An accepted certificate shows its bounds.
use Rattle.std.proofs.Common.{◌≡◌, ℕ, ◌*◌, ◌≤◌, List, ℤ, pos, ◌*ℤ◌, ◌≤ℤ◌, sym, ap, ◌∙◌, subst}
use Rattle.std.proofs.Math.Nat.{mul-pos}
use Rattle.def_fraction.specs.Fraction.{Fraction, IsInLowestTerms, fraction_of}
use Rattle.def_fraction.specs.Laws.{HasValue}
use Rattle.def_fraction.proofs.FractionLemmas.{fraction_of-reduced}
use Rattle.def_sums.proofs.RingLaws.{*ℤ_assoc, *ℤ_comm, *ℤ-mono_right}
use Rattle.def_plan.specs.Plan.{pure_plan}
use Rattle.def_plan.specs.Payoff.{pay}
use Rattle.def_reply.specs.Reply.{choices_of}
use Rattle.def_reply.specs.Bounds.{IsFloor, IsCeiling, AttainsFloor, AttainsCeiling}
use Rattle.def_reply.proofs.BoundLaws.{tight_bounds}
use Rattle.def_cert_verdict.specs.Certificate.{printed_numbers}
use Rattle.def_cert_verdict.specs.Laws.{IsTotalOver, BoundsThatHoldUpAreShown, AcceptedCertificatesShowTheirBounds}
use Rattle.def_cert_verdict.proofs.VerdictIsExact.{exact}

total_over : (bound : Fraction) (total : ℤ) (scale : ℕ) → 1 ≤ scale → bound ≡ fraction_of total scale
    → IsTotalOver bound total scale
total_over bound total scale some e =
    let r = fraction_of-reduced total scale some in
    record { lowest = subst IsInLowestTerms (sym e) r.lowest; value = subst (λ (f : Fraction). HasValue f total scale) (sym e) r.exact }

-- bound = total / scale, times the root of a plan of the other player
scaled : (bound : Fraction) (total : ℤ) (scale root : ℕ) → HasValue bound total scale
    → bound.num *ℤ pos (scale * root) ≡ (pos root *ℤ total) *ℤ pos bound.den
scaled bound total scale root e =
    sym (*ℤ_assoc bound.num (pos scale) (pos root))
    ∙ ap (λ (z : ℤ). z *ℤ pos root) e
    ∙ *ℤ_comm (total *ℤ pos bound.den) (pos root)
    ∙ sym (*ℤ_assoc (pos root) total (pos bound.den))

-- where plans and replies hold up, the plans get and concede the bounds
pub shown_where_they_hold : BoundsThatHoldUpAreShown
shown_where_they_hold weight game scale b order_one order_two some_unit h =
    let x : List ℕ = printed_numbers b.plan_one in
    let y : List ℕ = printed_numbers b.plan_two in
    let lower = h.reply_two in
    let upper = h.reply_one in
    let floor : IsFloor game.form x b.reply_two.total = subst (IsFloor game.form x) (sym lower.total_is.worth_is)
    (tight_bounds.floor game.form x b.reply_two.sets order_two lower.tight) in
    let ceiling : IsCeiling game.form y b.reply_one.total = subst (IsCeiling game.form y) (sym upper.total_is.worth_is)
    (tight_bounds.ceiling game.form y b.reply_one.sets order_one upper.tight) in
    let at_low = total_over b.low b.reply_two.total (game.unit * b.plan_one.root) (mul-pos some_unit h.plan_one.is_plan.some_root) lower.total_is.bound_is in
    let at_high = total_over b.high b.reply_one.total (game.unit * b.plan_two.root) (mul-pos some_unit h.plan_two.is_plan.some_root) upper.total_is.bound_is in
    record {
      plan_one = h.plan_one.is_plan;
      plan_two = h.plan_two.is_plan;
      floor = floor;
      floor_attained = subst (λ z. AttainsFloor game.form x z (pure_plan game.form.sets_two (choices_of b.reply_two.sets))) (sym lower.total_is.worth_is)
          (tight_bounds.floor_attained game.form x b.reply_two.sets order_two lower.tight);
      ceiling = ceiling;
      ceiling_attained = subst (λ z. AttainsCeiling game.form y z (pure_plan game.form.sets_one (choices_of b.reply_one.sets))) (sym upper.total_is.worth_is)
          (tight_bounds.ceiling_attained game.form y b.reply_one.sets order_one upper.tight);
      low = at_low;
      high = at_high;
      gets = λ root plan is. subst (λ (z : ℤ). z ≤ℤ (pay game.form.leaves x plan *ℤ pos b.low.den))
          (sym (scaled b.low b.reply_two.total (game.unit * b.plan_one.root) root at_low.value))
          (*ℤ-mono_right b.low.den (pos root *ℤ b.reply_two.total) (pay game.form.leaves x plan) (floor root plan is));
      concedes = λ root plan is. subst (λ (z : ℤ). (pay game.form.leaves plan y *ℤ pos b.high.den) ≤ℤ z)
          (sym (scaled b.high b.reply_one.total (game.unit * b.plan_two.root) root at_high.value))
          (*ℤ-mono_right b.high.den (pay game.form.leaves plan y) (pos root *ℤ b.reply_one.total) (ceiling root plan is));
      traced_low = lower.total_is.traced_is;
      traced_high = upper.total_is.traced_is;
      trace = h.trace;
    }

-- the bracket of the verdict is the printed one, and the printed plans get and concede its ends
pub accepted : AcceptedCertificatesShowTheirBounds
accepted game head b low high order_one order_two some_unit e =
    let a = (exact.with_bracket game head b low high).0 e in
    (a.2, a.3, shown_where_they_hold (λ round. round) game head.scale b order_one order_two some_unit a.1)
