use Rattle.def_file_tokens.proofs.TokenLemmas.{next_from-syntax, syntax-next_from}
use Rattle.def_game_laws.proofs.file_tokens.next_is_syntax.Goals as goal

pub returns : goal.returns
returns c whole at place within = (next_from-syntax whole at within place, syntax-next_from whole at within place)
