use Rattle.def_batch.proofs.Judged.{judged_alone}
use Rattle.def_text_laws.proofs.batch.kept_files_are_judged_alone.Goals as goal

pub returns : goal.returns
returns c = judged_alone
