use Rattle.def_file_tokens.proofs.TokenLemmas.{next_from-unclosed, unclosed-next_from}
use Rattle.def_game_laws.proofs.file_tokens.next_is_unclosed.Goals as goal

pub returns : goal.returns
returns c whole at place within = (next_from-unclosed whole at within place, unclosed-next_from whole at within place)
