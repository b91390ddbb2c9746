use Rattle.def_cert_versions.proofs.PlayerTwo.{bounds_player_two}
use Rattle.def_text_laws.proofs.cert_versions.the_second_bracket_bounds_player_two.Goals as goal

pub returns : goal.returns
returns c = bounds_player_two
