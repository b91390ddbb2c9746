use Rattle.def_command.proofs.InRange.{cards_in_range}
use Rattle.def_text_laws.proofs.command.cards_are_in_range.Goals as goal

pub returns : goal.returns
returns c = cards_in_range
