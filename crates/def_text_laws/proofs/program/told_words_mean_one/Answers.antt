use Rattle.def_program.proofs.Meant.{told_means_one}
use Rattle.def_text_laws.proofs.program.told_words_mean_one.Goals as goal

pub returns : goal.returns
returns c = told_means_one
