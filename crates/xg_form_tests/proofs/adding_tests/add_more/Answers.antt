use Rattle.xg_form_tests.proofs.SmallSums.{one_form}
use Rattle.xg_form_tests.proofs.adding_tests.add_more.Goals as goal

pub add_times-requires-clause-one_form : goal.add_times-requires-clause-one_form
add_times-requires-clause-one_form c =
    one_form c.args.sum.now c.args.plan.now c.args.had c.requires.sum c.requires.plan
