use Rattle.def_history.proofs.Holders.{gives_up_by_adding}
use Rattle.def_history_laws.proofs.history.a_right_is_given_up_by_adding.Goals as goal

pub returns : goal.returns
returns c = gives_up_by_adding
