use Rattle.def_sequence_form.proofs.Leaves.{form_has_the_mass as proved}
use Rattle.def_strategy_laws.proofs.sequence_form.form_has_the_mass.Goals as goal

pub returns : goal.returns
returns c = proved
