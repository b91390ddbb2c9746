use Rattle.std.proofs.Common.{◌≡◌, ◌+◌, ◌++◌, ◌∙◌, ap, arith, replicate, sym, get_or, take}
use Rattle.xg_seq.specs.declared.table.SetPlace.{SetPlace}
use Rattle.xg_seq.specs.Table.{set_numbers_from}
use Rattle.xg_seq.proofs.NumberLemmas.{numbers_more}
use Rattle.xg_seq.proofs.rows.set_numbers_of.Goals as goal

pub loop-i-preserved : goal.loop-i-preserved
loop-i-preserved c =
    let none : SetPlace = record { first = 0; before = 0; actions = 0 } in
    let all : c.loop.counter ≡ (get_or c.args.rows.now c.loop-i.i none).actions = omega (arith, c.loop-test.false, c.loop.auto.counter-end) in
    c.loop.invariant ∙ ap (λ n. set_numbers_from 1 (take c.loop-i.i c.args.rows.now) ++ replicate n (c.loop-i.i + 1)) all
    ∙ sym (numbers_more c.args.rows.now c.loop-i.i none c.loop-i-test.true)
