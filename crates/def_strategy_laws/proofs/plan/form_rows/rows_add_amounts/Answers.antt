use Rattle.def_plan.proofs.Rows.{rows_add_amounts}
use Rattle.def_strategy_laws.proofs.plan.form_rows.rows_add_amounts.Goals as goal

pub returns : goal.returns
returns c = rows_add_amounts
