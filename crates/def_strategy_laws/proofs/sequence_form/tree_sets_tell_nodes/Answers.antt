use Rattle.def_sequence_form.proofs.Leaves.{tree_sets_tell_nodes as proved}
use Rattle.def_strategy_laws.proofs.sequence_form.tree_sets_tell_nodes.Goals as goal

pub returns : goal.returns
returns c = proved
