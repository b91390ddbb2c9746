use Rattle.std.proofs.Common.{◌≡◌, ◌+ℤ◌, FitsSigned, map, subst, arith, ap, rules, sym, ◌∙◌}
use Rattle.def_plan.specs.FormRows.{amount_of}
use Rattle.std.specs.Int.{int_wrap}
use Rattle.def_plan.specs.Form.{PlacedSet}
use Rattle.def_round.specs.Play.{regret_of}
use Rattle.xg_closer.specs.Closing.{value_by}
use Rattle.xg_seq.specs.Table.{placed_of_row}
use Rattle.xg_closer.proofs.Growing.{read_back}
use Rattle.xg_closer.proofs.OneAction.{nothing_grows, only_value}
use Rattle.xg_closer.proofs.closing.close_set.Goals as goal

pub returns-then-place-eq1-clause-worth_before : goal.returns-then-place-eq1-clause-worth_before
returns-then-place-eq1-clause-worth_before g c =
    let h : PlacedSet = placed_of_row c.args.place in
    let worth_is = read_back c.worth_at-worth.result _ (search rules) c.worth_at-worth.ensures
    ∙ sym (only_value c.args.play.now (map g.W.Worth.amount c.args.worths.now) h (omega arith) c.requires.all_units) in
    c.add_worth.ensures.here ∙ ap (λ v. int_wrap g.W.Worth.width (amount_of (map g.W.Worth.amount c.args.worths.now) h.before +ℤ v)) worth_is

pub returns-then-place-eq1-clause-of_set : goal.returns-then-place-eq1-clause-of_set
returns-then-place-eq1-clause-of_set g c = λ s from to.
    let h : PlacedSet = placed_of_row c.args.place in
    let first : s ≡ h.first = omega arith in
    nothing_grows (regret_of (map g.R.Worth.amount c.args.regrets.now) s) (amount_of (map g.W.Worth.amount c.args.worths.now) s)
    (value_by c.args.play.now (map g.W.Worth.amount c.args.worths.now) h)
    (only_value c.args.play.now (map g.W.Worth.amount c.args.worths.now) h (omega arith) c.requires.all_units
    ∙ ap (amount_of (map g.W.Worth.amount c.args.worths.now)) (sym first))

pub add_worth-requires-clause-fits : goal.add_worth-requires-clause-fits
add_worth-requires-clause-fits g c =
    let h : PlacedSet = placed_of_row c.args.place in
    let worth_is = read_back c.worth_at-worth.result _ (search rules) c.worth_at-worth.ensures
    ∙ sym (only_value c.args.play.now (map g.W.Worth.amount c.args.worths.now) h (omega arith) c.requires.all_units) in
    subst (FitsSigned g.W.Worth.width) (sym worth_is) c.requires.fits

pub add_regrets-requires : goal.add_regrets-requires
add_regrets-requires g c =
    let value_is = read_back c.value_of_set-value.result _ (search rules) c.value_of_set-value.ensures in
    record {
      inside = c.requires.inside;
      as_many = c.requires.as_regrets;
      growth = rw value_is c.requires.growth;
      growth_fits = rw value_is c.requires.growth_fits;
      room = rw value_is c.requires.room;
    }

pub returns-clause-of_set : goal.returns-clause-of_set
returns-clause-of_set g c = λ s from to.
    let value_is = read_back c.value_of_set-value.result _ (search rules) c.value_of_set-value.ensures in
    rw value_is at (c.add_regrets.ensures.of_set s from to)

pub returns-clause-worth_before : goal.returns-clause-worth_before
returns-clause-worth_before g c =
    let value_is = read_back c.value_of_set-value.result _ (search rules) c.value_of_set-value.ensures in
    rw value_is at c.add_worth-2.ensures.here
