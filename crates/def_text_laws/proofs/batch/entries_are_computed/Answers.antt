use Rattle.def_batch.proofs.Entries.{computed}
use Rattle.def_text_laws.proofs.batch.entries_are_computed.Goals as goal

pub returns : goal.returns
returns c = computed
