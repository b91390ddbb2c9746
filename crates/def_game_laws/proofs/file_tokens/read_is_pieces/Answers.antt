use Rattle.def_file_tokens.proofs.PieceLemmas.{pieces_read}
use Rattle.def_game_laws.proofs.file_tokens.read_is_pieces.Goals as goal

pub returns : goal.returns
returns c whole at lexemes within reads =
    let found = pieces_read whole at lexemes within reads in
    (found.pieces, found.rest, found.are, found.same, found.places)
