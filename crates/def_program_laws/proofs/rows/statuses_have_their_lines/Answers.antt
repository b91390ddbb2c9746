use Rattle.def_program_laws.proofs.Statuses.{statuses}
use Rattle.def_program_laws.proofs.rows.statuses_have_their_lines.Goals as goal

pub returns : goal.returns
returns c = statuses
