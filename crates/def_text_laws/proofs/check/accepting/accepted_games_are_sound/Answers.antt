use Rattle.def_check.proofs.FileAccepted.{accepted_games_sound}
use Rattle.def_text_laws.proofs.check.accepting.accepted_games_are_sound.Goals as goal

pub returns : goal.returns
returns c = accepted_games_sound
