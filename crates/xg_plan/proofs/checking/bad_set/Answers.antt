use Rattle.std.proofs.Common.{◌+◌, ◌∙◌, arith, length, refl, subst, sym}
use Rattle.std.proofs.lemmas.Bool.{false≢true}
use Rattle.def_plan.specs.Form.{player_sets}
use Rattle.def_plan.specs.Plan.{IsBadSet}
use Rattle.def_plan.proofs.BadSets.{bad_set-none, bad_set-some}
use Rattle.xg_plan.proofs.CheckLemmas.{AddUpTo, bad_at, no_plan_at, plan_at_last}
use Rattle.xg_plan.proofs.checking.bad_set.Goals as goal

pub returns-then-not-adds_up-clause-some : goal.returns-then-not-adds_up-clause-some
returns-then-not-adds_up-clause-some c =
    bad_at (player_sets c.args.form.now c.args.player) c.args.root c.args.weights.now c.loop-k.k
    (record {
      all_sequences = c.if-weights-sequence_count.false ∙ c.sequence_count.ensures.count;
      some_root = omega (arith, c.if-root-eq0.false);
      root_weight = c.if-weights-root.false;
    })
    c.loop-k.invariant (omega (arith, c.loop-k-test.true, c.set_count-k-end.ensures)) (λ d adds. false≢true ((c.if-not-adds_up.ensures d).1 adds))

pub returns-then-not-adds_up-clause-exact : goal.returns-then-not-adds_up-clause-exact
returns-then-not-adds_up-clause-exact c =
    let bad : IsBadSet (player_sets c.args.form.now c.args.player) c.args.root c.args.weights.now (c.loop-k.k + 1) =
    bad_at (player_sets c.args.form.now c.args.player) c.args.root c.args.weights.now c.loop-k.k
    (record {
      all_sequences = c.if-weights-sequence_count.false ∙ c.sequence_count.ensures.count;
      some_root = omega (arith, c.if-root-eq0.false);
      root_weight = c.if-weights-root.false;
    })
    c.loop-k.invariant (omega (arith, c.loop-k-test.true, c.set_count-k-end.ensures)) (λ d adds. false≢true ((c.if-not-adds_up.ensures d).1 adds)) in
    sym ((bad_set-some (player_sets c.args.form.now c.args.player) c.args.root c.args.weights.now (c.loop-k.k + 1)).1 bad)

pub returns-then-not-adds_up-clause-none : goal.returns-then-not-adds_up-clause-none
returns-then-not-adds_up-clause-none c = (
  λ none. absurd (false≢true (sym none)),
  λ plan. absurd (no_plan_at (player_sets c.args.form.now c.args.player) c.args.root c.args.weights.now c.loop-k.k
      (omega (arith, c.loop-k-test.true, c.set_count-k-end.ensures)) (λ d adds. false≢true ((c.if-not-adds_up.ensures d).1 adds)) plan),
)

pub returns-clause-exact : goal.returns-clause-exact
returns-clause-exact c =
    let all : AddUpTo (player_sets c.args.form.now c.args.player) c.args.weights.now (length (player_sets c.args.form.now c.args.player)) =
    subst (AddUpTo (player_sets c.args.form.now c.args.player) c.args.weights.now)
    (omega (arith, c.loop-k-test.false, c.loop-k.auto.k-end, c.set_count-k-end.ensures)) c.loop-k.invariant in
    sym ((bad_set-none (player_sets c.args.form.now c.args.player) c.args.root c.args.weights.now).1
    (plan_at_last (player_sets c.args.form.now c.args.player) c.args.root c.args.weights.now
    (record {
      all_sequences = c.if-weights-sequence_count.false ∙ c.sequence_count.ensures.count;
      some_root = omega (arith, c.if-root-eq0.false);
      root_weight = c.if-weights-root.false;
    }) all))

pub returns-clause-none : goal.returns-clause-none
returns-clause-none c =
    let all : AddUpTo (player_sets c.args.form.now c.args.player) c.args.weights.now (length (player_sets c.args.form.now c.args.player)) =
    subst (AddUpTo (player_sets c.args.form.now c.args.player) c.args.weights.now)
    (omega (arith, c.loop-k-test.false, c.loop-k.auto.k-end, c.set_count-k-end.ensures)) c.loop-k.invariant in (
      λ same. plan_at_last (player_sets c.args.form.now c.args.player) c.args.root c.args.weights.now
          (record {
            all_sequences = c.if-weights-sequence_count.false ∙ c.sequence_count.ensures.count;
            some_root = omega (arith, c.if-root-eq0.false);
            root_weight = c.if-weights-root.false;
          }) all,
      λ plan. refl,
    )
