use Rattle.def_program_readings.proofs.Offers.{offers}
use Rattle.def_program_readings.proofs.offers_are_read.Goals as goal

pub returns : goal.returns
returns c = offers
