use Rattle.def_plan.proofs.Rows.{player_rows_are_leaf_sums}
use Rattle.def_strategy_laws.proofs.plan.form_rows.player_rows_are_leaf_sums.Goals as goal

pub returns : goal.returns
returns c = player_rows_are_leaf_sums
