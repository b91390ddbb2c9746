use Rattle.def_canon.proofs.ReadBack.{canon_is_read_back}
use Rattle.def_game_laws.proofs.canon.canon_is_read_back.Goals as goal

pub returns : goal.returns
returns c = canon_is_read_back
