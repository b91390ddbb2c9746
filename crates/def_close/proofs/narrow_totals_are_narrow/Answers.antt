use Rattle.def_close.proofs.Narrow.{narrow_totals}
use Rattle.def_close.proofs.narrow_totals_are_narrow.Goals as goal

pub returns : goal.returns
returns c = narrow_totals
