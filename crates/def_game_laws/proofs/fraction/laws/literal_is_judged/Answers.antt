use Rattle.def_fraction.proofs.JudgeLemmas.{read_as_literal-judged}
use Rattle.def_game_laws.proofs.fraction.laws.literal_is_judged.Goals as goal

pub returns : goal.returns
returns c = read_as_literal-judged
