use Rattle.std.proofs.Common.{[], ◌∷◌, rules}
use Rattle.def_outside.specs.Sinks.{Writes}
use Rattle.xg_gen.proofs.Written.{number_token, zero_digits, one_digits, two_digits}
use Rattle.xg_gen.proofs.tokens.put_number.Goals as goal

pub returns-in-0-clause-text : goal.returns-in-0-clause-text
returns-in-0-clause-text g c =
    let written : Writes (g.O.Sink.written c.args.out.now) (g.O.Sink.written c.write_all.new.sink) (32 ∷ 48 ∷ []) c.write_all.result = search rules in
    number_token _ _ c.args.n 0 (48 ∷ []) c.write_all.result c.in-0.is zero_digits written

pub returns-in-1-clause-text : goal.returns-in-1-clause-text
returns-in-1-clause-text g c =
    let written : Writes (g.O.Sink.written c.args.out.now) (g.O.Sink.written c.write_all-in-1.new.sink) (32 ∷ 49 ∷ []) c.write_all-in-1.result = search rules in
    number_token _ _ c.args.n 1 (49 ∷ []) c.write_all-in-1.result c.in-1.is one_digits written

pub returns-in-2-clause-text : goal.returns-in-2-clause-text
returns-in-2-clause-text g c =
    let written : Writes (g.O.Sink.written c.args.out.now) (g.O.Sink.written c.write_all-in-2.new.sink) (32 ∷ 50 ∷ []) c.write_all-in-2.result = search rules in
    number_token _ _ c.args.n 2 (50 ∷ []) c.write_all-in-2.result c.in-2.is two_digits written
