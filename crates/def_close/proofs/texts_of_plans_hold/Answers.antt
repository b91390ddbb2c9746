use Rattle.def_close.proofs.Texts.{texts_hold}
use Rattle.def_close.proofs.texts_of_plans_hold.Goals as goal

pub returns : goal.returns
returns c = texts_hold
