use Rattle.std.proofs.Common.{subst}
use Rattle.def_game_numbers.specs.WholeSums.{HasWholeSum}
use Rattle.xg_numbers.proofs.numbers.Numbers.facts.Goals as goal

pub returns-clause-whole_sum : goal.returns-clause-whole_sum
returns-clause-whole_sum c = subst HasWholeSum c.self.view_is c.self.invariant.whole_sum
