use Rattle.def_batch.proofs.Judged.{refused_long}
use Rattle.def_text_laws.proofs.batch.refused_as_too_long.Goals as goal

pub returns : goal.returns
returns c = refused_long
