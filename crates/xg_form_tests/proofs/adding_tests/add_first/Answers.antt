use Rattle.xg_form_tests.proofs.SmallSums.{one_form}
use Rattle.xg_form_tests.proofs.adding_tests.add_first.Goals as goal

pub add_to-requires-clause-one_form : goal.add_to-requires-clause-one_form
add_to-requires-clause-one_form c = one_form c.args.sum.now c.args.plan.now 0 c.requires.sum c.requires.plan
