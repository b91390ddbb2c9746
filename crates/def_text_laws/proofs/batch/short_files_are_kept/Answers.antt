use Rattle.def_batch.proofs.Entries.{short_kept}
use Rattle.def_text_laws.proofs.batch.short_files_are_kept.Goals as goal

pub returns : goal.returns
returns c = short_kept
