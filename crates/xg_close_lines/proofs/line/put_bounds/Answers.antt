use Rattle.std.proofs.Common.{ℕ, List, [], ◌∷◌, ◌++◌, codes, rules}
use Rattle.xg_io.proofs.Pieces.{prefix_first, prefix_then, then_rest}
use Rattle.def_fraction.specs.Text.{fraction_text}
use Rattle.def_progress.specs.Progress.{named}
use Rattle.xg_close_lines.proofs.Whole.{written}
use Rattle.xg_close_lines.proofs.line.put_bounds.Goals as goal

pub returns-in_err-put_bound-clause-text : goal.returns-in_err-put_bound-clause-text
returns-in_err-put_bound-clause-text g c =
    let low : List ℕ = named (codes ", low ") (fraction_text c.args.low) in
    let high : List ℕ = named (codes ", high ") (fraction_text c.args.high) in
    let fact = prefix_first (g.O.Sink.written c.args.out.now) (g.O.Sink.written c.put_bound.new.out) low (high ++ 10 ∷ []) c.in_err-put_bound.ensures.text in
    search (rules, fact)

pub returns-in_err-put_bound-2-clause-text : goal.returns-in_err-put_bound-2-clause-text
returns-in_err-put_bound-2-clause-text g c =
    let low : List ℕ = named (codes ", low ") (fraction_text c.args.low) in
    let high : List ℕ = named (codes ", high ") (fraction_text c.args.high) in
    let first = g.O.Sink.written c.put_bound.new.out in
    let second = g.O.Sink.written c.put_bound-2.new.out in
    let fact = prefix_then (g.O.Sink.written c.args.out.now) first second low (high ++ 10 ∷ []) c.in_ok-put_bound.ensures.text
    (prefix_first first second high (10 ∷ []) c.in_err-put_bound-2.ensures.text) in
    search (rules, fact)

pub returns-clause-text : goal.returns-clause-text
returns-clause-text g c =
    let low : List ℕ = named (codes ", low ") (fraction_text c.args.low) in
    let high : List ℕ = named (codes ", high ") (fraction_text c.args.high) in
    let first = g.O.Sink.written c.put_bound.new.out in
    let second = g.O.Sink.written c.put_bound-2.new.out in
    let now = g.O.Sink.written c.write_all.new.sink in
    then_rest (g.O.Sink.written c.args.out.now) first now low (high ++ 10 ∷ []) c.write_all.result c.in_ok-put_bound.ensures.text
    (then_rest first second now high (10 ∷ []) c.write_all.result c.in_ok-put_bound-2.ensures.text
    (written second now (10 ∷ []) c.write_all.result c.write_all.ensures.appended c.write_all.ensures.prefix))
