use Rattle.std.proofs.Common.{sym, ◌∙◌}
use Rattle.std.proofs.lemmas.Option.{same_Some}
use Rattle.def_command.proofs.CallsAreComputed.{call_computed}
use Rattle.def_text_laws.proofs.command.words_call_one.Goals as goal

pub returns : goal.returns
returns c words first second one other = same_Some first second (sym (call_computed words first one) ∙ call_computed words second other)
