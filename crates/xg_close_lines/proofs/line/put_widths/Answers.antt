use Rattle.std.proofs.Common.{ℕ, List, codes, rules}
use Rattle.xg_io.proofs.Pieces.{prefix_first, then_rest}
use Rattle.def_progress.specs.Decimals.{decimal_text}
use Rattle.def_progress.specs.Progress.{named}
use Rattle.xg_close_lines.specs.Texts.{asked_text, decimal_of}
use Rattle.xg_close_lines.proofs.line.put_widths.Goals as goal

pub returns-in_err-put_width-clause-text : goal.returns-in_err-put_width-clause-text
returns-in_err-put_width-clause-text g c =
    let width : List ℕ = named (codes " rounds, width ") (decimal_text (decimal_of c.args.width)) in
    let asked : List ℕ = named (codes " of ") (asked_text c.args.asked) in
    let fact = prefix_first (g.O.Sink.written c.args.out.now) (g.O.Sink.written c.put_width.new.out) width asked c.in_err-put_width.ensures.text in
    search (rules, fact)

pub returns-clause-text : goal.returns-clause-text
returns-clause-text g c =
    let width : List ℕ = named (codes " rounds, width ") (decimal_text (decimal_of c.args.width)) in
    let asked : List ℕ = named (codes " of ") (asked_text c.args.asked) in
    then_rest (g.O.Sink.written c.args.out.now) (g.O.Sink.written c.put_width.new.out) (g.O.Sink.written c.put_asked_width.new.out) width asked
    c.put_asked_width.result c.in_ok-put_width.ensures.text c.put_asked_width.ensures.text
