use Rattle.def_sequence_form.proofs.Nodes.{sets_have_their_nodes as proved}
use Rattle.def_strategy_laws.proofs.sequence_form.sets_have_their_nodes.Goals as goal

pub returns : goal.returns
returns c = proved
