use Rattle.def_command.proofs.CallsAreComputed.{computed_is_call, call_computed}
use Rattle.def_text_laws.proofs.command.calls_are_computed.Goals as goal

pub returns : goal.returns
returns c words command = (computed_is_call words command, call_computed words command)
