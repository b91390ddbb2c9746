use Rattle.def_program.proofs.Played.{played_games_have_bounds}
use Rattle.def_text_laws.proofs.program.played_games_have_their_bounds.Goals as goal

pub returns : goal.returns
returns c = played_games_have_bounds
