use Rattle.def_file_form.proofs.AtMostOneReading.{one_reading}
use Rattle.def_game_laws.proofs.file_form.one_reading.Goals as goal

pub returns : goal.returns
returns c = one_reading
