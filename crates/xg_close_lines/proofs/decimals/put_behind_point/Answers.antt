use Rattle.std.proofs.Common.{ℕ, List, [], ◌∷◌, subst, sym, arith}
use Rattle.def_outside.specs.Sinks.{Writes}
use Rattle.def_fraction.specs.Literal.{point}
use Rattle.def_progress.specs.Decimals.{last_digits}
use Rattle.xg_io.proofs.Pieces.{then_rest}
use Rattle.xg_close_lines.proofs.Digits.{with_point}
use Rattle.xg_close_lines.proofs.decimals.put_behind_point.Goals as goal

pub returns-clause-text : goal.returns-clause-text
returns-clause-text g c =
    let before = g.O.Sink.written c.args.out.now in
    let now = g.O.Sink.written c.put_last_digits.new.out in
    subst (λ (text : List ℕ). Writes before now text c.put_last_digits.result) (sym (with_point c.args.places c.args.number (omega arith)))
    (then_rest before (g.O.Sink.written c.write_all.new.sink) now (point ∷ []) (last_digits c.args.places c.args.number)
    c.put_last_digits.result c.in_ok-write_all.ensures.appended c.put_last_digits.ensures.text)
