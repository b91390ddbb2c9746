use Rattle.std.proofs.Common.{ℕ, List, ◌++◌, codes, rules}
use Rattle.std.specs.Fmt.{decimal}
use Rattle.xg_io.proofs.Pieces.{prefix_first, prefix_then, then_rest}
use Rattle.def_progress.specs.Progress.{bounds_text, named, widths_text}
use Rattle.xg_close_lines.specs.Texts.{asked_text, decimal_of}
use Rattle.xg_close_lines.proofs.line.put_line.Goals as goal

pub returns-in_err-put_rounds-clause-text : goal.returns-in_err-put_rounds-clause-text
returns-in_err-put_rounds-clause-text g c =
    let progress = c.args.progress.now in
    let rounds : List ℕ = named (codes "xg_close: ") (decimal progress.rounds) in
    let widths : List ℕ = widths_text (decimal_of progress.width) (asked_text progress.asked) in
    let bounds : List ℕ = bounds_text progress.low progress.high in
    let fact = prefix_first (g.O.Sink.written c.args.out.now) (g.O.Sink.written c.put_rounds.new.out) rounds (widths ++ bounds)
    c.in_err-put_rounds.ensures.text in
    search (rules, fact)

pub returns-in_err-put_widths-clause-text : goal.returns-in_err-put_widths-clause-text
returns-in_err-put_widths-clause-text g c =
    let progress = c.args.progress.now in
    let rounds : List ℕ = named (codes "xg_close: ") (decimal progress.rounds) in
    let widths : List ℕ = widths_text (decimal_of progress.width) (asked_text progress.asked) in
    let bounds : List ℕ = bounds_text progress.low progress.high in
    let first = g.O.Sink.written c.put_rounds.new.out in
    let second = g.O.Sink.written c.put_widths.new.out in
    let fact = prefix_then (g.O.Sink.written c.args.out.now) first second rounds (widths ++ bounds) c.in_ok-put_rounds.ensures.text
    (prefix_first first second widths bounds c.in_err-put_widths.ensures.text) in
    search (rules, fact)

pub returns-clause-text : goal.returns-clause-text
returns-clause-text g c =
    let progress = c.args.progress.now in
    let rounds : List ℕ = named (codes "xg_close: ") (decimal progress.rounds) in
    let widths : List ℕ = widths_text (decimal_of progress.width) (asked_text progress.asked) in
    let bounds : List ℕ = bounds_text progress.low progress.high in
    let first = g.O.Sink.written c.put_rounds.new.out in
    let second = g.O.Sink.written c.put_widths.new.out in
    let now = g.O.Sink.written c.put_bounds.new.out in
    then_rest (g.O.Sink.written c.args.out.now) first now rounds (widths ++ bounds) c.put_bounds.result c.in_ok-put_rounds.ensures.text
    (then_rest first second now widths bounds c.put_bounds.result c.in_ok-put_widths.ensures.text c.put_bounds.ensures.text)
