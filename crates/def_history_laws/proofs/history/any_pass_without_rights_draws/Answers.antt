use Rattle.def_history.proofs.Drawing.{any_pass_without_rights_draws as proved}
use Rattle.def_history_laws.proofs.history.any_pass_without_rights_draws.Goals as goal

pub returns : goal.returns
returns c = proved
