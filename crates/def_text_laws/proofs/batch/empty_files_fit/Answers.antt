use Rattle.def_batch.proofs.Entries.{empty_fits}
use Rattle.def_text_laws.proofs.batch.empty_files_fit.Goals as goal

pub returns : goal.returns
returns c = empty_fits
