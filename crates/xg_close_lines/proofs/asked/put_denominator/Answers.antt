use Rattle.std.proofs.Common.{[], ◌∷◌}
use Rattle.std.specs.Fmt.{decimal}
use Rattle.def_fraction.specs.Literal.{slash}
use Rattle.xg_io.proofs.Pieces.{then_rest}
use Rattle.xg_close_lines.proofs.asked.put_denominator.Goals as goal

pub returns-clause-text : goal.returns-clause-text
returns-clause-text g c =
    then_rest _ (g.O.Sink.written c.write_all.new.sink) _ (slash ∷ []) (decimal c.args.den) c.put_whole.result c.in_ok-write_all.ensures.appended
    c.put_whole.ensures.text
