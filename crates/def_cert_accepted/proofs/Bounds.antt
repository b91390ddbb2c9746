-- What follows of bounds that are shown: the gap, and that no plan does better.
use Rattle.std.proofs.Common.{◌≡◌, ℕ, ◌*◌, List, ℤ, pos, ◌*ℤ◌, ◌≤ℤ◌, refl, sym, ap, ◌∙◌, subst}
use Rattle.std.specs.Prelude.{◌-ℤ◌, ◌+ℤ◌, neg_ℤ}
use Rattle.std.proofs.Math.Nat.{mul_assoc, mul_comm}
use Rattle.def_sums.proofs.RingLaws.{*ℤ_assoc, *ℤ_comm, +ℤ-*ℤ, neg-*ℤ, ≤ℤ_trans, *ℤ-mono_right, *ℤ-cancel}
use Rattle.def_plan.specs.Plan.{IsPlan, pure_plan}
use Rattle.def_plan.specs.Payoff.{pay}
use Rattle.def_reply.specs.Reply.{choices_of}
use Rattle.def_reply.specs.Bounds.{IsFloor, IsCeiling}
use Rattle.def_cert_verdict.specs.Certificate.{PrintedBounds, printed_numbers}
use Rattle.def_plan.specs.Weighed.{WeighedGame}
use Rattle.def_cert_verdict.specs.Laws.{ShowsItsBoundsBy}
use Rattle.def_plus.specs.declared.Variant.{Variant}
use Rattle.def_cert_accepted.specs.Bounds.{BoundsHold, ConcedesHigh, GapIsExploitability, GetsLow, NoPlanDoesBetter}
use Rattle.def_cert_accepted.specs.Bounds.{RepliesAttain, TraceNarrows}

-- x / d is best / (unit * own); over the unit and both roots
over_both : (x best : ℤ) (d other unit own root : ℕ) → x *ℤ pos (unit * own) ≡ best *ℤ pos d
    → (x *ℤ pos other) *ℤ pos (unit * (root * own)) ≡ (pos root *ℤ best) *ℤ pos (d * other)
over_both x best d other unit own root e =
    *ℤ_assoc x (pos other) (pos (unit * (root * own)))
    ∙ ap (λ n. x *ℤ pos n) factors
    ∙ sym (*ℤ_assoc x (pos (unit * own)) (pos (root * other)))
    ∙ ap (λ (z : ℤ). z *ℤ pos (root * other)) e
    ∙ *ℤ_assoc best (pos d) (pos (root * other))
    ∙ ap (λ n. best *ℤ pos n) turned
    ∙ sym (*ℤ_assoc best (pos root) (pos (d * other)))
    ∙ ap (λ (z : ℤ). z *ℤ pos (d * other)) (*ℤ_comm best (pos root))
  where
    factors : other * (unit * (root * own)) ≡ (unit * own) * (root * other)
    factors =
        mul_comm other (unit * (root * own))
        ∙ mul_assoc unit (root * own) other
        ∙ ap (λ n. unit * n) (ap (λ n. n * other) (mul_comm root own) ∙ mul_assoc own root other)
        ∙ sym (mul_assoc unit own (root * other))

    turned : d * (root * other) ≡ root * (d * other)
    turned = sym (mul_assoc d root other) ∙ ap (λ n. n * other) (mul_comm d root) ∙ mul_assoc root d other

-- a difference times a factor
factored : (a b c : ℤ) → (a -ℤ b) *ℤ c ≡ (a *ℤ c) -ℤ (b *ℤ c)
factored a b c = +ℤ-*ℤ a (neg_ℤ b) c ∙ ap (λ (z : ℤ). (a *ℤ c) +ℤ z) (neg-*ℤ b c)

-- high less low over the unit and both roots
gap_in_units : (high low best left : ℤ) (high_den low_den unit root_one root_two : ℕ)
    → high *ℤ pos (unit * root_two) ≡ best *ℤ pos high_den → low *ℤ pos (unit * root_one) ≡ left *ℤ pos low_den
    → ((high *ℤ pos low_den) -ℤ (low *ℤ pos high_den)) *ℤ pos (unit * (root_one * root_two))
    ≡ ((pos root_one *ℤ best) -ℤ (pos root_two *ℤ left)) *ℤ pos (high_den * low_den)
gap_in_units high low best left high_den low_den unit root_one root_two is_high is_low =
    let both : ℤ = pos (unit * (root_one * root_two)) in
    let of_high : (high *ℤ pos low_den) *ℤ both ≡ (pos root_one *ℤ best) *ℤ pos (high_den * low_den) =
    over_both high best high_den low_den unit root_two root_one is_high in
    let of_low : (low *ℤ pos high_den) *ℤ both ≡ (pos root_two *ℤ left) *ℤ pos (high_den * low_den) =
    ap (λ n. (low *ℤ pos high_den) *ℤ pos (unit * n)) (mul_comm root_one root_two)
    ∙ over_both low left low_den high_den unit root_one root_two is_low
    ∙ ap (λ n. (pos root_two *ℤ left) *ℤ pos n) (mul_comm low_den high_den) in
    factored (high *ℤ pos low_den) (low *ℤ pos high_den) both
    ∙ (λ i. of_high i -ℤ of_low i)
    ∙ sym (factored (pos root_one *ℤ best) (pos root_two *ℤ left) (pos (high_den * low_den)))

module _ (weight : ℕ → ℕ) (game : WeighedGame) (b : PrintedBounds) (h : ShowsItsBoundsBy weight game b) where
  abbrev one : List ℕ
  one = printed_numbers b.plan_one

  abbrev two : List ℕ
  two = printed_numbers b.plan_two

  lower : GetsLow game b
  lower = record { is_plan = h.plan_one; gets = h.gets }

  upper : ConcedesHigh game b
  upper = record { is_plan = h.plan_two; concedes = h.concedes }

  attained : RepliesAttain game b
  attained = record {
    floor = h.floor;
    floor_attained = h.floor_attained;
    low = h.low;
    ceiling = h.ceiling;
    ceiling_attained = h.ceiling_attained;
    high = h.high;
  }

  -- the bounds are apart by the exploitability of both plans
  gap : GapIsExploitability game b
  gap = record {
    gap = (pos b.plan_one.root *ℤ b.reply_one.total) -ℤ (pos b.plan_two.root *ℤ b.reply_two.total);
    exploitability = record {
      best = b.reply_one.total;
      left = b.reply_two.total;
      is_best = record {
        reply = pure_plan game.form.sets_one (choices_of b.reply_one.sets);
        ceiling = h.ceiling;
        attained = h.ceiling_attained;
      };
      is_left = record {
        reply = pure_plan game.form.sets_two (choices_of b.reply_two.sets);
        floor = h.floor;
        attained = h.floor_attained;
      };
      is = refl;
    };
    in_units = gap_in_units b.high.num b.low.num b.reply_one.total b.reply_two.total b.high.den b.low.den game.unit
        b.plan_one.root b.plan_two.root h.high.value h.low.value;
  }

  -- a bound over the unit and a root, by another root
  by_root : (x : ℤ) (root own : ℕ) → pos own *ℤ (x *ℤ pos (game.unit * root)) ≡ x *ℤ pos (game.unit * own * root)
  by_root x root own =
      *ℤ_comm (pos own) (x *ℤ pos (game.unit * root)) ∙ *ℤ_assoc x (pos (game.unit * root)) (pos own)
      ∙ ap (λ n. x *ℤ pos n) (mul_assoc game.unit root own ∙ ap (λ n. game.unit * n) (mul_comm root own)
      ∙ sym (mul_assoc game.unit own root))

  floors_below : (root : ℕ) (plan : List ℕ) (floor : ℤ) → IsPlan game.form.sets_one root plan
      → IsFloor game.form plan floor → (floor *ℤ pos b.high.den) ≤ℤ (b.high.num *ℤ pos (game.unit * root))
  floors_below root plan floor is_plan is_floor =
      let own : ℕ = b.plan_two.root in
      let against : ℤ = pay game.form.leaves plan two in
      let high : ℤ = b.high.num *ℤ pos (game.unit * own * root) in
      let sure : ((pos own *ℤ floor) *ℤ pos b.high.den) ≤ℤ high =
      ≤ℤ_trans ((pos own *ℤ floor) *ℤ pos b.high.den) (against *ℤ pos b.high.den) high
      (*ℤ-mono_right b.high.den (pos own *ℤ floor) against (is_floor own two h.plan_two))
      (h.concedes root plan is_plan) in
      *ℤ-cancel own (floor *ℤ pos b.high.den) (b.high.num *ℤ pos (game.unit * root)) h.plan_two.some_root
      (subst (λ (z : ℤ). z ≤ℤ (pos own *ℤ (b.high.num *ℤ pos (game.unit * root))))
      (*ℤ_assoc (pos own) floor (pos b.high.den))
      (subst (λ (z : ℤ). ((pos own *ℤ floor) *ℤ pos b.high.den) ≤ℤ z) (sym (by_root b.high.num root own)) sure))

  ceilings_above : (root : ℕ) (plan : List ℕ) (ceiling : ℤ) → IsPlan game.form.sets_two root plan
      → IsCeiling game.form plan ceiling → (b.low.num *ℤ pos (game.unit * root)) ≤ℤ (ceiling *ℤ pos b.low.den)
  ceilings_above root plan ceiling is_plan is_ceiling =
      let own : ℕ = b.plan_one.root in
      let against : ℤ = pay game.form.leaves one plan in
      let low : ℤ = b.low.num *ℤ pos (game.unit * own * root) in
      let sure : low ≤ℤ ((pos own *ℤ ceiling) *ℤ pos b.low.den) =
      ≤ℤ_trans low (against *ℤ pos b.low.den) ((pos own *ℤ ceiling) *ℤ pos b.low.den) (h.gets root plan is_plan)
      (*ℤ-mono_right b.low.den against (pos own *ℤ ceiling) (is_ceiling own one h.plan_one)) in
      *ℤ-cancel own (b.low.num *ℤ pos (game.unit * root)) (ceiling *ℤ pos b.low.den) h.plan_one.some_root
      (subst (λ (z : ℤ). (pos own *ℤ (b.low.num *ℤ pos (game.unit * root))) ≤ℤ z)
      (*ℤ_assoc (pos own) ceiling (pos b.low.den))
      (subst (λ (z : ℤ). z ≤ℤ ((pos own *ℤ ceiling) *ℤ pos b.low.den)) (sym (by_root b.low.num root own)) sure))

  -- no plan is sure of more than the other player's bound
  no_better : NoPlanDoesBetter game b
  no_better = record { floors = floors_below; ceilings = ceilings_above }

  -- all of it holds, where no trace line is wider than an earlier one
  pub bounds_hold : (variant : Variant) (scale : ℕ) → TraceNarrows game variant scale b → BoundsHold game variant scale b
  bounds_hold variant scale narrows = record {
    lower = lower;
    upper = upper;
    attained = attained;
    trace = narrows;
    gap = gap;
    value = no_better;
  }
