use Rattle.def_sequence_form.proofs.ListedNodes.{sets_list_their_nodes as proved}
use Rattle.def_strategy_laws.proofs.sequence_form.sets_list_their_nodes.Goals as goal

pub returns : goal.returns
returns c = proved
