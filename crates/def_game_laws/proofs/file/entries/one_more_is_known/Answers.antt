use Rattle.def_file.proofs.OneMore.{one_more}
use Rattle.def_game_laws.proofs.file.entries.one_more_is_known.Goals as goal

pub returns : goal.returns
returns c = one_more
