use Rattle.std.proofs.Common.{refl}
use Rattle.std.specs.Fmt.{digits}
use Rattle.def_progress.proofs.line_row.Goals as goal

pub returns : goal.returns
unfolding digits
returns c = record { line = refl }
