use Rattle.def_sequence_form.proofs.Leaves.{form_has_the_leaf_list as proved}
use Rattle.def_strategy_laws.proofs.sequence_form.form_has_the_leaf_list.Goals as goal

pub returns : goal.returns
returns c = proved
