use Rattle.def_file_tokens.proofs.TokenLemmas.{next_from-sound, next_from-complete}
use Rattle.def_game_laws.proofs.file_tokens.next_is_lexeme.Goals as goal

pub returns : goal.returns
returns c whole at lexeme within = (next_from-sound whole at within lexeme, next_from-complete whole at within lexeme)
