use Rattle.def_program_readings.proofs.Offers.{upgradables}
use Rattle.def_program_readings.proofs.upgradables_are_read.Goals as goal

pub returns : goal.returns
returns c = upgradables
