use Rattle.def_file_tokens.proofs.TokenLemmas.{next_from-end}
use Rattle.def_game_laws.proofs.file_tokens.end_stays.Goals as goal

pub returns : goal.returns
returns c = next_from-end
