use Rattle.std.proofs.Common.{refl}
use Rattle.std.specs.Fmt.{digits}
use Rattle.def_progress.proofs.decimal_rows.Goals as goal

pub returns : goal.returns
unfolding digits
returns c = record { small = refl; large = refl; whole = refl; no_places = refl }
