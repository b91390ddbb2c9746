use Rattle.std.proofs.Common.{rules}
use Rattle.def_outside.specs.Sinks.{Writes}
use Rattle.def_program.specs.BatchText.{file_line}
use Rattle.xg_io.proofs.Pieces.{prefix_first, then_rest}
use Rattle.xg_batch.specs.Texts.{part_bytes}
use Rattle.xg_batch.proofs.batch_text.write_part.Goals as goal

pub returns-in_err-write_file_line-clause-text : goal.returns-in_err-write_file_line-clause-text
returns-in_err-write_file_line-clause-text g c =
    let fact = prefix_first (g.O.Sink.written c.args.out.now) (g.O.Sink.written c.write_file_line.new.out)
    (file_line c.args.number) (part_bytes c.args.part.now) c.in_err-write_file_line.ensures.text in
    search (rules, fact)

pub returns-in-Game-clause-text : goal.returns-in-Game-clause-text
returns-in-Game-clause-text g c =
    let line = g.O.Sink.written c.write_file_line.new.out in
    let now = g.O.Sink.written c.write.new.out in
    let part : Writes line now (part_bytes c.args.part.now) c.write.result = search (rules, c.write.ensures.appended, c.write.ensures.prefix) in
    then_rest (g.O.Sink.written c.args.out.now) line now (file_line c.args.number) (part_bytes c.args.part.now) c.write.result
    c.in_ok-write_file_line.ensures.text part

pub returns-in-Fault-clause-text : goal.returns-in-Fault-clause-text
returns-in-Fault-clause-text g c =
    let line = g.O.Sink.written c.write_file_line.new.out in
    let now = g.O.Sink.written c.write_all.new.sink in
    let part : Writes line now (part_bytes c.args.part.now) c.write_all.result = search (rules, c.write_all.ensures.appended, c.write_all.ensures.prefix) in
    then_rest (g.O.Sink.written c.args.out.now) line now (file_line c.args.number) (part_bytes c.args.part.now) c.write_all.result
    c.in_ok-write_file_line.ensures.text part
