use Rattle.std.proofs.Common.{◌≢◌, ℕ, ◌+◌, List, ℤ, ◌+ℤ◌, ◌-ℤ◌, FitsSigned, map, subst, to_z, of_z, sym, arith}
use Rattle.def_plan.specs.FormRows.{amount_of}
use mir.Syntax.{w128}
use Rattle.std.proofs.lemmas.Int.{to_z-of_z}
use Rattle.xg_closer.proofs.Growing.{GrewFirst, grew_more, grew_none}
use Rattle.xg_closer.proofs.closing.add_regrets.Goals as goal

pub add_regret-requires-then-place-eq2-clause-room : goal.add_regret-requires-then-place-eq2-clause-room
add_regret-requires-then-place-eq2-clause-room g c =
    let next : ℕ = c.args.place.first + 1 in
    let value_is = to_z-of_z w128 c.args.value c.ranges.value in
    let more : ℤ = amount_of (map g.W.Worth.amount c.args.worths.now) next -ℤ c.args.value in
    let apart : next ≢ c.args.place.first = omega arith in
    rw value_is (subst (λ r. FitsSigned g.R.Worth.width (r +ℤ more)) (sym (c.add_regret.ensures.others next apart))
    (c.requires.room next (omega arith) (omega arith)))

pub add_regret-requires-in-loop-i-clause-room : goal.add_regret-requires-in-loop-i-clause-room
add_regret-requires-in-loop-i-clause-room g c =
    let next : ℕ = c.args.place.first + c.loop-i.i in
    let value_is = to_z-of_z w128 c.args.value c.ranges.value in
    let more : ℤ = amount_of (map g.W.Worth.amount c.args.worths.now) next -ℤ c.args.value in
    rw value_is (subst (λ r. FitsSigned g.R.Worth.width (r +ℤ more)) (sym (c.loop-i.invariant.later next (omega arith)))
    (c.requires.room next (omega arith) (omega arith)))

pub returns-then-place-eq2 : goal.returns-then-place-eq2
returns-then-place-eq2 g c =
    let first = c.args.place.first in
    let worths : List ℤ = map g.W.Worth.amount c.args.worths.now in
    let before : List ℤ = map g.R.Worth.amount c.args.regrets.now in
    let middle : List ℤ = map g.R.Worth.amount c.add_regret.new.regrets in
    let after : List ℤ = map g.R.Worth.amount c.add_regret-then-place-eq2.new.regrets in
    let value_is = to_z-of_z w128 c.args.value c.ranges.value in
    let here = rw value_is at c.add_regret.ensures.here in
    let here_too = rw value_is at c.add_regret-then-place-eq2.ensures.here in
    let one : GrewFirst first 1 worths c.args.value before middle =
    grew_more first 0 first worths c.args.value before before middle (omega arith) (grew_none first worths c.args.value before) here
    c.add_regret.ensures.others in
    let two : GrewFirst first 2 worths c.args.value before after =
    grew_more first 1 (first + 1) worths c.args.value before middle after (omega arith) one here_too c.add_regret-then-place-eq2.ensures.others in
    record {
      count = omega (arith, c.add_regret.ensures.count, c.add_regret-then-place-eq2.ensures.count);
      of_set = λ s from to. two.grown s from (omega arith);
      before_set = two.earlier;
      after_set = λ s above. two.later s (omega arith);
    }

pub loop-i-init : goal.loop-i-init
loop-i-init g c =
    grew_none c.args.place.first (map g.W.Worth.amount c.args.worths.now) (to_z w128 (of_z w128 c.args.value)) (map g.R.Worth.amount c.args.regrets.now)

pub loop-i-preserved : goal.loop-i-preserved
loop-i-preserved g c =
    let first = c.args.place.first in
    grew_more first c.loop-i.i (first + c.loop-i.i) (map g.W.Worth.amount c.args.worths.now) (to_z w128 (of_z w128 c.args.value))
    (map g.R.Worth.amount c.args.regrets.now) (map g.R.Worth.amount c.loop-i.regrets) (map g.R.Worth.amount c.add_regret-in-loop-i.new.regrets)
    (omega arith) c.loop-i.invariant c.add_regret-in-loop-i.ensures.here c.add_regret-in-loop-i.ensures.others

pub returns : goal.returns
returns g c =
    let value_is = to_z-of_z w128 c.args.value c.ranges.value in
    let all = rw value_is at c.loop-i.invariant in
    record {
      count = omega (arith, c.loop-i.auto.regrets);
      of_set = λ s from to. all.grown s from (omega arith);
      before_set = all.earlier;
      after_set = λ s above. all.later s (omega arith);
    }
