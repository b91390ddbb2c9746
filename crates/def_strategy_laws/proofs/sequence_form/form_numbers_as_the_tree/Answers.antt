use Rattle.def_sequence_form.proofs.Sets.{form_numbers_as_the_tree as proved}
use Rattle.def_strategy_laws.proofs.sequence_form.form_numbers_as_the_tree.Goals as goal

pub returns : goal.returns
returns c = proved
