use Rattle.def_file.proofs.WholeGames.{entries_make_whole_game}
use Rattle.def_game_laws.proofs.file.entries.entries_make_whole_game.Goals as goal

pub returns : goal.returns
returns c = entries_make_whole_game
