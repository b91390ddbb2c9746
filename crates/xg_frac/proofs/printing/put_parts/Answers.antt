use Rattle.std.proofs.Common.{◌≡◌, of_z, sym, ap, ◌∙◌}
use Rattle.std.specs.Int.{w128}
use Rattle.std.proofs.lemmas.Int.{to_z-of_z}
use Rattle.def_fraction.specs.Fraction.{Fraction}
use Rattle.xg_frac.specs.Parts.{fraction_from}
use Rattle.xg_frac.specs.PartsBack.{den_back}
use Rattle.xg_frac.proofs.PrintLemmas.{num_failed, bar_failed, den_failed}
use Rattle.xg_frac.proofs.printing.put_parts.Goals as goal
use Rattle.xg_io.proofs.ResultCases.{on_err}

pub returns-in_err-put_int-clause-prefix : goal.returns-in_err-put_int-clause-prefix
returns-in_err-put_int-clause-prefix g c =
    on_err _ (num_failed _ _ (fraction_from c.args.num c.args.den) _ (to_z-of_z w128 c.args.num c.ranges.num) c.in_err-put_int.ensures.prefix)

pub returns-in_err-write_all-clause-prefix : goal.returns-in_err-write_all-clause-prefix
returns-in_err-write_all-clause-prefix g c =
    let f : Fraction = fraction_from c.args.num c.args.den in
    let many : f.den ≡ 1 → ⊥ = λ e. c.if-den-ne1.true (ap (of_z w128) (sym (den_back c.args.den c.requires)) ∙ e) in
    on_err _ (bar_failed _ (g.O.Sink.written c.put_int.new.out) _ f _ many (to_z-of_z w128 c.args.num c.ranges.num) c.in_ok-put_int.ensures.appended
    c.in_err-write_all.ensures.prefix)

pub returns-in_err-put_int-2-clause-prefix : goal.returns-in_err-put_int-2-clause-prefix
returns-in_err-put_int-2-clause-prefix g c =
    let f : Fraction = fraction_from c.args.num c.args.den in
    let many : f.den ≡ 1 → ⊥ = λ e. c.if-den-ne1.true (ap (of_z w128) (sym (den_back c.args.den c.requires)) ∙ e) in
    on_err _ (den_failed _ (g.O.Sink.written c.put_int.new.out) (g.O.Sink.written c.write_all.new.sink) _ f _ _ many (to_z-of_z w128 c.args.num c.ranges.num)
    (to_z-of_z w128 c.args.den c.ranges.den ∙ sym (den_back c.args.den c.requires)) c.in_ok-put_int.ensures.appended c.in_ok-write_all.ensures.appended
    c.in_err-put_int-2.ensures.prefix)
