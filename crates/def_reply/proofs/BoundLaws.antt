-- Floors and ceilings.
use Rattle.std.proofs.Common.{pos, ◌*ℤ◌, ◌≤ℤ◌, sym, ◌∙◌, subst}
use Rattle.def_tree.specs.declared.Player.TheVariants.{One, Two}
use Rattle.def_sums.proofs.RingLaws.{one-*ℤ, ≤ℤ_trans}
use Rattle.def_plan.specs.Plan.{pure_plan}
use Rattle.def_plan.specs.Payoff.{pay, leaf_sum}
use Rattle.def_plan.proofs.Sums.{gain_is_pay_one, gain_is_pay_two}
use Rattle.def_reply.specs.Reply.{choices_of, best_reply, total}
use Rattle.def_reply.specs.Laws.{TightRepliesGiveBounds, BestRepliesGiveBounds, AttainedBoundsAreBest, FloorsAreBelowCeilings, TightRepliesAreOptimal}
use Rattle.def_reply.specs.Laws.{BestRepliesAreOptimal}
use Rattle.def_reply.proofs.Optimal.{tight-bound, tight-is_plan, tight-gained, best-tight}

-- tight replies bound every plan by their total, and the plan of their choices gains just that
pub tight_optimal : TightRepliesAreOptimal
tight_optimal = record { bound = tight-bound; is_plan = tight-is_plan; gained = tight-gained }

-- the best reply bounds every plan by its total, and the plan of its choices gains just that
pub best_optimal : BestRepliesAreOptimal
best_optimal = record {
  bound = λ player sums sets root plan order p. tight-bound player sums sets (best_reply player sums sets) root plan (best-tight player sums sets order) p;
  is_plan = λ player sums sets order. tight-is_plan player sums sets (best_reply player sums sets) order (best-tight player sums sets order);
  gained = λ player sums sets order. tight-gained player sums sets (best_reply player sums sets) order (best-tight player sums sets order);
}

-- totals of tight replies are an attained floor of player one's plan and an attained ceiling of player two's
pub tight_bounds : TightRepliesGiveBounds
tight_bounds = record {
  floor = λ form x rs order t root y p.
      let e = gain_is_pay_two form.leaves form.sets_two x y p.all_sequences in
      subst (λ z. (pos root *ℤ total (leaf_sum Two form.leaves x) form.sets_two rs) ≤ℤ z) e
      (tight-bound Two (leaf_sum Two form.leaves x) form.sets_two rs root y t p);
  floor_attained = λ form x rs order t.
      let p = tight-is_plan Two (leaf_sum Two form.leaves x) form.sets_two rs order t in
      record {
        is_plan = p;
        pays = sym (gain_is_pay_two form.leaves form.sets_two x (pure_plan form.sets_two (choices_of rs)) p.all_sequences)
            ∙ tight-gained Two (leaf_sum Two form.leaves x) form.sets_two rs order t;
      };
  ceiling = λ form y rs order t root x p.
      let e = gain_is_pay_one form.leaves form.sets_one x y p.all_sequences in
      subst (λ z. z ≤ℤ (pos root *ℤ total (leaf_sum One form.leaves y) form.sets_one rs)) e
      (tight-bound One (leaf_sum One form.leaves y) form.sets_one rs root x t p);
  ceiling_attained = λ form y rs order t.
      let p = tight-is_plan One (leaf_sum One form.leaves y) form.sets_one rs order t in
      record {
        is_plan = p;
        pays = sym (gain_is_pay_one form.leaves form.sets_one (pure_plan form.sets_one (choices_of rs)) y p.all_sequences)
            ∙ tight-gained One (leaf_sum One form.leaves y) form.sets_one rs order t;
      };
}

-- the totals of the best replies to a plan are its attained floor and ceiling
pub best_bounds : BestRepliesGiveBounds
best_bounds = record {
  floor = λ form x order. tight_bounds.floor form x _ order (best-tight Two (leaf_sum Two form.leaves x) form.sets_two order);
  floor_attained = λ form x order. tight_bounds.floor_attained form x _ order (best-tight Two (leaf_sum Two form.leaves x) form.sets_two order);
  ceiling = λ form y order. tight_bounds.ceiling form y _ order (best-tight One (leaf_sum One form.leaves y) form.sets_one order);
  ceiling_attained = λ form y order. tight_bounds.ceiling_attained form y _ order (best-tight One (leaf_sum One form.leaves y) form.sets_one order);
}

-- an attained floor is the greatest one, and an attained ceiling the least
pub attained_best : AttainedBoundsAreBest
attained_best = record {
  floor = λ form x y floor attained f a.
      subst (λ z. z ≤ℤ attained) (one-*ℤ floor) (subst (λ z. (pos 1 *ℤ floor) ≤ℤ z) a.pays (f 1 y a.is_plan));
  ceiling = λ form x y ceiling attained c a.
      subst (λ z. attained ≤ℤ z) (one-*ℤ ceiling) (subst (λ z. z ≤ℤ (pos 1 *ℤ ceiling)) a.pays (c 1 x a.is_plan));
}

-- no floor of player one is above a ceiling of player two, each divided by its plan's root
pub floors_below : FloorsAreBelowCeilings
floors_below form root_one root_two x y floor ceiling p q f c =
    ≤ℤ_trans (pos root_two *ℤ floor) (pay form.leaves x y) (pos root_one *ℤ ceiling) (f root_two y q) (c root_one x p)
