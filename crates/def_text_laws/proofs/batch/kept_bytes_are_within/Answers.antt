use Rattle.def_batch.proofs.Entries.{kept_within}
use Rattle.def_text_laws.proofs.batch.kept_bytes_are_within.Goals as goal

pub returns : goal.returns
returns c = kept_within
