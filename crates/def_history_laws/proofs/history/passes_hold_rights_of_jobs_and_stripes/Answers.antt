use Rattle.def_history.proofs.Holders.{only_rights}
use Rattle.def_history_laws.proofs.history.passes_hold_rights_of_jobs_and_stripes.Goals as goal

pub returns : goal.returns
returns c = only_rights
