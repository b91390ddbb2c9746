use Rattle.def_sequence_form.proofs.Sets.{form_is_in_order as proved}
use Rattle.def_strategy_laws.proofs.sequence_form.form_is_in_order.Goals as goal

pub returns : goal.returns
returns c = proved
