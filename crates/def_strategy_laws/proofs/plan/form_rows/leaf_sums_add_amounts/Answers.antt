use Rattle.def_plan.proofs.Rows.{leaf_sums_add_amounts}
use Rattle.def_strategy_laws.proofs.plan.form_rows.leaf_sums_add_amounts.Goals as goal

pub returns : goal.returns
returns c = leaf_sums_add_amounts
