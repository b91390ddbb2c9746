use Rattle.std.proofs.Common.{subst, sym, ◌∙◌}
use Rattle.def_tree.specs.declared.Player.TheVariants.{One, Two}
use Rattle.def_plan.specs.Form.{AreInOrder, SequenceForm}
use Rattle.xg_check.proofs.SecondTests.{passed-upgradable}
use Rattle.xg_check.proofs.judging.judge.Goals as goal

pub returns-in-Ok-Some-clause-order_one : goal.returns-in-Ok-Some-clause-order_one
returns-in-Ok-Some-clause-order_one c = subst (λ (f : SequenceForm). AreInOrder f.sets_one) c.form.ensures (c.facts.ensures.order One)

pub returns-in-Ok-Some-clause-order_two : goal.returns-in-Ok-Some-clause-order_two
returns-in-Ok-Some-clause-order_two c = subst (λ (f : SequenceForm). AreInOrder f.sets_two) c.form.ensures (c.facts.ensures.order Two)

pub returns-in-Ok-None-clause-order_one : goal.returns-in-Ok-None-clause-order_one
returns-in-Ok-None-clause-order_one c = subst (λ (f : SequenceForm). AreInOrder f.sets_one) c.form.ensures (c.facts.ensures.order One)

pub returns-in-Ok-None-clause-order_two : goal.returns-in-Ok-None-clause-order_two
returns-in-Ok-None-clause-order_two c = subst (λ (f : SequenceForm). AreInOrder f.sets_two) c.form.ensures (c.facts.ensures.order Two)

pub returns-in-Err-clause-order_one : goal.returns-in-Err-clause-order_one
returns-in-Err-clause-order_one c = subst (λ (f : SequenceForm). AreInOrder f.sets_one) c.form.ensures (c.facts.ensures.order One)

pub returns-in-Err-clause-order_two : goal.returns-in-Err-clause-order_two
returns-in-Err-clause-order_two c = subst (λ (f : SequenceForm). AreInOrder f.sets_two) c.form.ensures (c.facts.ensures.order Two)

pub judge_second-requires : goal.judge_second-requires
judge_second-requires c =
    passed-upgradable c.args.numbers.now c.args.cert.now
    (subst (λ (f : SequenceForm). AreInOrder f.sets_one) c.form.ensures (c.facts.ensures.order One))
    (subst (λ (f : SequenceForm). AreInOrder f.sets_two) c.form.ensures (c.facts.ensures.order Two))
    c.facts-2.ensures.positive c.facts-2.ensures.whole_sum c.facts-3.ensures.within (sym c.in-Ok-None.ensures ∙ c.in-Ok-None.field-0-is)
