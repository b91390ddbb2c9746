use Rattle.def_file_tokens.proofs.PieceLemmas.{reads_pieces}
use Rattle.def_game_laws.proofs.file_tokens.pieces_are_read.Goals as goal

pub returns : goal.returns
returns c = reads_pieces
