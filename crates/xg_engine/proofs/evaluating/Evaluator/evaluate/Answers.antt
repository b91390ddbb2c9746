use Rattle.std.proofs.Common.{◌*◌, ◌∙◌, sym}
use Rattle.def_tree.specs.declared.Player.TheVariants.{One, Two}
use Rattle.def_plus.specs.Variants.{weight_of_rounds}
use Rattle.xg_reply.proofs.RowSizes.{count_of_rows, small_in_evaluation}
use Rattle.xg_engine.proofs.evaluating.Evaluator.evaluate.Goals as goal

pub best_reply-requires-clause-rows : goal.best_reply-requires-clause-rows
best_reply-requires-clause-rows g c =
    count_of_rows c.args.source.now.form.now Two c.args.one.now c.two.result.now (c.two.ensures ∙ c.in-Ok.ensures.sums.two)

pub best_reply-requires-clause-small : goal.best_reply-requires-clause-small
best_reply-requires-clause-small g c =
    let form = c.args.source.now.form.now in
    let plans = c.requires.plans in
    small_in_evaluation form Two c.args.one.now c.two.result.now (c.two.ensures ∙ c.in-Ok.ensures.sums.two)
    form.sets_one (weight_of_rounds c.args.self.now.board.variant c.args.round * plans.scale) c.requires.source.form.order_one plans.plan_one
    c.requires.source.form.small_mass plans.small_root

pub best_reply-requires-2-clause-rows : goal.best_reply-requires-2-clause-rows
best_reply-requires-2-clause-rows g c =
    count_of_rows c.args.source.now.form.now One c.args.two.now c.one.result.now (c.one.ensures ∙ c.in-Ok.ensures.sums.one)

pub best_reply-requires-2-clause-small : goal.best_reply-requires-2-clause-small
best_reply-requires-2-clause-small g c =
    let form = c.args.source.now.form.now in
    let plans = c.requires.plans in
    small_in_evaluation form One c.args.two.now c.one.result.now (c.one.ensures ∙ c.in-Ok.ensures.sums.one)
    form.sets_two (weight_of_rounds c.args.self.now.board.variant c.args.round * plans.scale) c.requires.source.form.order_two plans.plan_two
    c.requires.source.form.small_mass plans.small_root

pub offer-requires-clause-fair : goal.offer-requires-clause-fair
offer-requires-clause-fair g c =
    let plans = c.requires.plans in
    record {
      form = c.args.source.now.form.now;
      sizes = sym c.requires.replies.sizes;
      order_one = c.requires.source.form.order_one;
      order_two = c.requires.source.form.order_two;
      mass = c.requires.source.form.small_mass;
      fair = record {
        scale = plans.scale;
        later = c.requires.later;
        few_rounds = plans.few_rounds;
        some_divisor = plans.some_weight;
        small_divisor = plans.small_weight;
        some_scale = plans.some_scale;
        small_root = plans.small_root;
        plan_one = plans.plan_one;
        plan_two = plans.plan_two;
        against_one = c.best_reply.ensures.against c.args.one.now (c.two.ensures ∙ c.in-Ok.ensures.sums.two);
        against_two = c.best_reply-2.ensures.against c.args.two.now (c.one.ensures ∙ c.in-Ok.ensures.sums.one);
      };
    }
