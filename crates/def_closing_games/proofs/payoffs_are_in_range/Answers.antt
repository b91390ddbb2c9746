use Rattle.def_closing_games.proofs.Payoffs.{payoffs_are_in_range}
use Rattle.def_closing_games.proofs.payoffs_are_in_range.Goals as goal

pub returns : goal.returns
returns c = payoffs_are_in_range
