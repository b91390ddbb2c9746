use Rattle.def_program_laws.proofs.Upgraded.{refused_as_checks}
use Rattle.def_program_laws.proofs.bounds.upgrades_are_refused_as_checks.Goals as goal

pub returns : goal.returns
returns c = refused_as_checks
