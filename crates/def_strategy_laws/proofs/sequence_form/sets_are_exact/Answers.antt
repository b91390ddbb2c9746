use Rattle.def_sequence_form.proofs.Nodes.{sets_are_exact as proved}
use Rattle.def_strategy_laws.proofs.sequence_form.sets_are_exact.Goals as goal

pub returns : goal.returns
returns c = proved
