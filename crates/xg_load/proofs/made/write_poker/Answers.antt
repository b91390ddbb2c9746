use Rattle.std.proofs.Common.{ap}
use Rattle.xg_io.specs.Calls.{sink_call}
use Rattle.def_canon.specs.Canon.{canon}
use Rattle.def_canon.specs.Poker.{poker}
use Rattle.xg_load.proofs.TextIsTold.{tells, writes_of}
use Rattle.xg_load.proofs.made.write_poker.Goals as goal

pub returns-in-Ok : goal.returns-in-Ok
returns-in-Ok g c =
    tells (sink_call g.O.Sink c.args.out.now c.write_paged-written.new.out) (canon (poker c.args.cards))
    (canon c.in-Ok.game) (ap canon c.in-Ok.ensures) c.write_paged-written.result c.of_written.result c.of_written.ensures
    (writes_of (g.O.Sink.written c.args.out.now) (g.O.Sink.written c.write_paged-written.new.out) (canon c.in-Ok.game)
    c.write_paged-written.result c.write_paged-written.ensures.appended c.write_paged-written.ensures.prefix)
    c.write_paged-written.ensures.cause
