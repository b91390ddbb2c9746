use Rattle.def_game_numbers.proofs.WholeSums.{whole_sums}
use Rattle.def_strategy_laws.proofs.game_numbers.faultless_games_have_whole_sums.Goals as goal

pub returns : goal.returns
returns c = whole_sums
