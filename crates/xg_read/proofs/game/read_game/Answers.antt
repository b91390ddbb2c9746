use Rattle.def_file_form.proofs.FileReadingIsExact.{game_read, game_taken}
use Rattle.def_file_form.proofs.ReportedFaultIsFirst.{fault_first}
use Rattle.def_file_form.proofs.FirstFaultIsReported.{first_faulted}
use Rattle.xg_read.proofs.FileAnswerLaws.{answer_found, answer_only, answer_first, answer_faults, answer_any_length}
use Rattle.xg_read.proofs.game.read_game.Goals as goal

pub returns-clause-found : goal.returns-clause-found
returns-clause-found c = answer_found game_read c.args.bytes.now c.read_file.result c.read_file.ensures

pub returns-clause-only : goal.returns-clause-only
returns-clause-only c = answer_only game_taken c.args.bytes.now c.read_file.result c.read_file.ensures

pub returns-clause-first : goal.returns-clause-first
returns-clause-first c = answer_first fault_first c.args.bytes.now c.read_file.result c.read_file.ensures

pub returns-clause-faults : goal.returns-clause-faults
returns-clause-faults c = answer_faults first_faulted c.args.bytes.now c.read_file.result c.read_file.ensures

pub returns-clause-any_length : goal.returns-clause-any_length
returns-clause-any_length c = answer_any_length c.args.bytes.now c.read_file.result c.read_file.ensures
