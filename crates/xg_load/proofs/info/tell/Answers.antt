use Rattle.std.proofs.Common.{◌≡◌, ◌++◌, ap, ◌∙◌}
use Rattle.xg_io.specs.Calls.{sink_call}
use Rattle.def_cert_text.specs.CertText.{head_text}
use Rattle.def_program.specs.Text.{info_front, info_text}
use Rattle.xg_outcome.specs.Outcome.{head_of}
use Rattle.xg_load.proofs.TextIsTold.{tells}
use Rattle.xg_load.proofs.info.tell.Goals as goal

pub returns-in-Ok : goal.returns-in-Ok
returns-in-Ok g c =
    let is : c.deref.result.now ++ head_text (head_of c.head-head.result) ≡ info_text c.args.accepted =
    (λ i. (c.deref.ensures.value ∙ c.in-Ok.ensures ∙ ap info_front c.game.ensures) i ++ head_text (c.head-head.ensures i)) in
    tells (sink_call g.O.Sink c.args.out.now c.write_info.new.out) (info_text c.args.accepted)
    (c.deref.result.now ++ head_text (head_of c.head-head.result)) is c.write_info.result c.of_written.result c.of_written.ensures
    c.write_info.ensures.text c.write_info.ensures.cause
