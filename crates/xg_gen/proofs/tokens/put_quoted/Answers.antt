use Rattle.std.proofs.Common.{[], ◌∷◌, ◌++◌, rules}
use Rattle.def_file_tokens.specs.Texts.{escaped}
use Rattle.def_outside.specs.Sinks.{Writes}
use Rattle.xg_io.proofs.Pieces.{prefix_first, prefix_then, then_rest}
use Rattle.xg_gen.proofs.tokens.put_quoted.Goals as goal

pub returns-in_err-put_escaped-clause-text : goal.returns-in_err-put_escaped-clause-text
returns-in_err-put_escaped-clause-text g c =
    let inside = escaped c.args.bytes.now in
    let fact = prefix_then (g.O.Sink.written c.args.out.now) (g.O.Sink.written c.write_all.new.sink) (g.O.Sink.written c.put_escaped.new.out) c.args.opening.now
    (inside ++ 34 ∷ []) c.in_ok-write_all.ensures.appended
    (prefix_first _ _ inside (34 ∷ []) c.in_err-put_escaped.ensures.text) in
    search (rules, fact)

pub returns-clause-text : goal.returns-clause-text
returns-clause-text g c =
    let inside = escaped c.args.bytes.now in
    let last : Writes (g.O.Sink.written c.put_escaped.new.out) (g.O.Sink.written c.write_all-2.new.sink) (34 ∷ []) c.write_all-2.result = search rules in
    then_rest (g.O.Sink.written c.args.out.now) (g.O.Sink.written c.write_all.new.sink) (g.O.Sink.written c.write_all-2.new.sink) c.args.opening.now
    (inside ++ 34 ∷ []) c.write_all-2.result c.in_ok-write_all.ensures.appended
    (then_rest (g.O.Sink.written c.write_all.new.sink) (g.O.Sink.written c.put_escaped.new.out) (g.O.Sink.written c.write_all-2.new.sink) inside (34 ∷ [])
    c.write_all-2.result c.in_ok-put_escaped.ensures.text last)
