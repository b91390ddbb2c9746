use Rattle.std.proofs.Common.{refl}
use Rattle.xg_io.specs.Calls.{sink_call}
use Rattle.xg_load.proofs.TextIsTold.{tells, writes_of}
use Rattle.xg_batch.specs.Texts.{left_text}
use Rattle.xg_batch.proofs.played_text.write_outcome.Goals as goal

pub returns : goal.returns
returns g c =
    let text = left_text c.args.variant c.args.form.now c.args.outcome.now in
    tells (sink_call g.O.Sink c.args.out.now c.write_paged.new.out) text text refl c.write_paged.result c.of_written.result
    c.of_written.ensures
    (writes_of (g.O.Sink.written c.args.out.now) (g.O.Sink.written c.write_paged.new.out) text c.write_paged.result
    c.write_paged.ensures.appended c.write_paged.ensures.prefix)
    c.write_paged.ensures.cause
