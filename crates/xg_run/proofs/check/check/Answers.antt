use Rattle.std.proofs.Common.{ℕ, List, refl}
use Rattle.xg_io.specs.Calls.{files_call, sink_call}
use Rattle.def_cert_text.specs.CertText.{versioned_in}
use Rattle.def_cert_verdict.specs.Verdict.{Verdict}
use Rattle.xg_run.specs.ChecksEnd.{report_text}
use Rattle.xg_run.proofs.Checking.{both_checked, not_both}
use Rattle.xg_run.proofs.check.check.Goals as goal

pub returns-in-Ok-clause-concludes : goal.returns-in-Ok-clause-concludes
returns-in-Ok-clause-concludes g c =
    let text : List ℕ → Verdict → List ℕ = λ bytes. report_text c.args.report (versioned_in bytes) in
    both_checked text (g.F.Files.told c.args.files.now c.args.file.now)
    (g.F.Files.told c.args.files.now c.args.certificate.now)
    (files_call g.F.Files c.args.files.now c.read_both.new.files)
    (sink_call g.O.Sink c.args.out.now c.check_bytes.new.out)
    c.in-Ok.both c.deref.result.now c.deref-in-Ok.result.now c.deref.ensures.value c.deref-in-Ok.ensures.value
    c.in-Ok.ensures.exact c.check_bytes.result c.check_bytes.ensures

pub returns-in-Err-clause-concludes : goal.returns-in-Err-clause-concludes
returns-in-Err-clause-concludes g c =
    let text : List ℕ → Verdict → List ℕ = λ bytes. report_text c.args.report (versioned_in bytes) in
    not_both text (g.F.Files.told c.args.files.now c.args.file.now)
    (g.F.Files.told c.args.files.now c.args.certificate.now)
    (files_call g.F.Files c.args.files.now c.read_both.new.files)
    (sink_call g.O.Sink c.args.out.now c.args.out.now) (refl, refl)
    c.in-Err.ending c.in-Err.ensures.exact
