use Rattle.def_fraction.proofs.TextLemmas.{read_as_literal-fraction_text}
use Rattle.def_game_laws.proofs.fraction.laws.fraction_is_read_back.Goals as goal

pub returns : goal.returns
returns c = read_as_literal-fraction_text
