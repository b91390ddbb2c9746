use Rattle.def_program_laws.proofs.Upgraded.{upgrade_accepts}
use Rattle.def_program_laws.proofs.solve_check.what_upgrade_writes_check_accepts.Goals as goal

pub returns : goal.returns
returns c = upgrade_accepts
