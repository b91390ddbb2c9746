use Rattle.std.proofs.Common.{[], ◌∷◌, ◌∙◌, sym, rules}
use Rattle.std.proofs.lemmas.Bool.{eqb-true}
use Rattle.std.proofs.lemmas.List.{nil_from_length}
use Rattle.def_outside.specs.Sinks.{Writes}
use Rattle.xg_gen.proofs.Written.{empty_token, quoted_token}
use Rattle.xg_gen.proofs.tokens.put_text.Goals as goal

pub returns-clause-text : goal.returns-clause-text
returns-clause-text g c = quoted_token (g.O.Sink.written c.args.out.now) (g.O.Sink.written c.put_quoted.new.out) (32 ∷ []) c.args.bytes.now c.put_quoted.result
    c.put_quoted.ensures.text

pub returns-then-is_empty-clause-text : goal.returns-then-is_empty-clause-text
returns-then-is_empty-clause-text g c =
    let written : Writes (g.O.Sink.written c.args.out.now) (g.O.Sink.written c.write_all.new.sink) (32 ∷ 34 ∷ 34 ∷ []) c.write_all.result = search rules in
    empty_token _ _ c.args.bytes.now c.write_all.result (nil_from_length c.args.bytes.now (eqb-true _ _ (sym c.is_empty.ensures ∙ c.if-is_empty.true))) written
