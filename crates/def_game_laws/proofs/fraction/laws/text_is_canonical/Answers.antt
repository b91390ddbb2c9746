use Rattle.def_fraction.proofs.TextLemmas.{int_text-canonical}
use Rattle.def_game_laws.proofs.fraction.laws.text_is_canonical.Goals as goal

pub returns : goal.returns
returns c = int_text-canonical
