use Rattle.def_closing_program.proofs.Kept.{written_brackets_keep_their_promises}
use Rattle.def_closing_program.proofs.written_brackets_keep_their_promises.Goals as goal

pub returns : goal.returns
returns c = written_brackets_keep_their_promises
