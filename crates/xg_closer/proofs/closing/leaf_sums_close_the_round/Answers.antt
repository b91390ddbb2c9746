use Rattle.std.proofs.Common.{ap}
use Rattle.def_plan.specs.Form.{player_sets}
use Rattle.def_plan.specs.FormRows.{player_rows}
use Rattle.def_plan.proofs.Rows.{player_rows_are_leaf_sums}
use Rattle.def_round.specs.Round.{own_sum, utility}
use Rattle.def_round.proofs.OwnSums.{rounds_need_own_sums}
use Rattle.xg_closer.specs.Rows.{own_amount}
use Rattle.xg_closer.proofs.closing.leaf_sums_close_the_round.Goals as goal

pub returns : goal.returns
returns c form player against play before =
    rounds_need_own_sums.regrets (own_amount player (player_rows form player against)) (own_sum player form.leaves against) play (player_sets form player)
    before
    (λ s low. ap (utility player) ((player_rows_are_leaf_sums form player against).each_row s low))
