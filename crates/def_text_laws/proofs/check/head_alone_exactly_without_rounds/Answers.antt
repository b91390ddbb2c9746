use Rattle.def_check.proofs.Accepted.{alone_without_rounds}
use Rattle.def_text_laws.proofs.check.head_alone_exactly_without_rounds.Goals as goal

pub returns : goal.returns
returns c = alone_without_rounds
