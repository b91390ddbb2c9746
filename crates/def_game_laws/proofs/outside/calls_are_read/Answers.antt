use Rattle.std.proofs.Common.{arith}
use Rattle.def_outside.proofs.Fronts.{front_is_not_whole, nothing_is_front, once_may, said_is_whole, said_or_cut}
use Rattle.def_game_laws.proofs.outside.calls_are_read.Goals as goal

pub returns : goal.returns
returns c = record {
  failed = λ faults h. (omega arith, omega arith);
  failed_once = once_may;
  not_whole = front_is_not_whole;
  nothing = nothing_is_front;
  said = said_or_cut;
  said_whole = said_is_whole;
}
