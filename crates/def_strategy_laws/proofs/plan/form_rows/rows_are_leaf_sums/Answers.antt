use Rattle.def_plan.proofs.Rows.{rows_are_leaf_sums}
use Rattle.def_strategy_laws.proofs.plan.form_rows.rows_are_leaf_sums.Goals as goal

pub returns : goal.returns
returns c = rows_are_leaf_sums
