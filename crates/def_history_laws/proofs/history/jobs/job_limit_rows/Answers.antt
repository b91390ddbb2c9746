use Rattle.std.proofs.Common.{refl}
use Rattle.def_history_laws.proofs.history.jobs.job_limit_rows.Goals as goal

pub returns : goal.returns
returns c = record { at_the_limit = refl; past_the_limit = refl }
