use Rattle.std.proofs.Common.{◌≡◌, ◌++◌, codes, rules}
use Rattle.std.specs.Fmt.{decimal}
use Rattle.std.specs.Io.KnownBytes.{append_known}
use Rattle.def_outside.specs.Sinks.{AppendsPrefix, Writes}
use Rattle.def_program.specs.Text.{line_feed}
use Rattle.xg_io.proofs.Pieces.{prefix_first, prefix_then, then_rest}
use Rattle.xg_batch.proofs.batch_text.write_file_line.Goals as goal

pub returns-in_err-write_all-clause-text : goal.returns-in_err-write_all-clause-text
returns-in_err-write_all-clause-text g c =
    let fact = prefix_first (g.O.Sink.written c.args.out.now) (g.O.Sink.written c.write_all.new.sink) (codes "file ")
    (decimal c.args.number ++ line_feed) c.in_err-write_all.ensures.prefix in
    search (rules, fact)

pub returns-in_err-write_all-2-clause-text : goal.returns-in_err-write_all-2-clause-text
returns-in_err-write_all-2-clause-text g c =
    let word = g.O.Sink.written c.write_all.new.sink in
    let now = g.O.Sink.written c.write_all-2.new.sink in
    let number : AppendsPrefix word now (decimal c.args.number) = search
    (rules, c.in_err-write_all-2.ensures.prefix, c.format.ensures.text, c.as_bytes.ensures.value) in
    let fact = prefix_then (g.O.Sink.written c.args.out.now) word now (codes "file ") (decimal c.args.number ++ line_feed)
    c.in_ok-write_all.ensures.appended (prefix_first word now (decimal c.args.number) line_feed number) in
    search (rules, fact)

pub returns-clause-text : goal.returns-clause-text
returns-clause-text g c =
    let word = g.O.Sink.written c.write_all.new.sink in
    let middle = g.O.Sink.written c.write_all-2.new.sink in
    let now = g.O.Sink.written c.write_all-3.new.sink in
    let number : middle ≡ append_known word (decimal c.args.number) = search
    (rules, c.in_ok-write_all-2.ensures.appended, c.format.ensures.text, c.as_bytes.ensures.value) in
    let feed : Writes middle now line_feed c.write_all-3.result = search (rules, c.write_all-3.ensures.appended, c.write_all-3.ensures.prefix) in
    then_rest (g.O.Sink.written c.args.out.now) word now (codes "file ") (decimal c.args.number ++ line_feed) c.write_all-3.result
    c.in_ok-write_all.ensures.appended (then_rest word middle now (decimal c.args.number) line_feed c.write_all-3.result number feed)
