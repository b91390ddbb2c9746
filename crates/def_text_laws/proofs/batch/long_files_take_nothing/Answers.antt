use Rattle.def_batch.proofs.Entries.{long_nothing}
use Rattle.def_text_laws.proofs.batch.long_files_take_nothing.Goals as goal

pub returns : goal.returns
returns c = long_nothing
