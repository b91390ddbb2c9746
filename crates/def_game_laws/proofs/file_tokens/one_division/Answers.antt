use Rattle.def_file_tokens.proofs.PieceLemmas.{pieces_once}
use Rattle.def_game_laws.proofs.file_tokens.one_division.Goals as goal

pub returns : goal.returns
returns c = pieces_once
