use Rattle.def_canon.proofs.RoundTrip.{canon_of_made}
use Rattle.def_game_laws.proofs.canon.canon_of_made.Goals as goal

pub returns : goal.returns
returns c = canon_of_made
