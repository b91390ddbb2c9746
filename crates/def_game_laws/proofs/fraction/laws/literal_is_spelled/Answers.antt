use Rattle.def_fraction.proofs.LiteralLemmas.{literal_of-IsLiteral}
use Rattle.def_game_laws.proofs.fraction.laws.literal_is_spelled.Goals as goal

pub returns : goal.returns
returns c = literal_of-IsLiteral
