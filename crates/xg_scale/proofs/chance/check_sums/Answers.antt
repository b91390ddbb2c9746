use Rattle.std.proofs.Common.{◌≡◌, ℕ, ◌+◌, ◌-◌, ◌<◌, ◌∙◌, List, Some, ap, arith, drop, length, refl, slice_get, sym}
use Rattle.std.proofs.lemmas.Bool.{false_from_ne_true}
use Rattle.def_fraction.specs.Fraction.{Fraction, fits, sum_of}
use Rattle.def_game_scale.specs.Faults.{Scale, adding_fault}
use Rattle.def_game_scale.proofs.Walks.{not_passed, passed}
use Rattle.def_game_numbers.specs.Numbers.{as_file_fault, tables_of}
use Rattle.def_game_scale.specs.Tables.{probabilities}
use Rattle.xg_scale.proofs.GameLemmas.{probabilities_count, probability_read}
use Rattle.xg_scale.proofs.SetLemmas.{sum_more}
use Rattle.xg_scale.proofs.chance.check_sums.Goals as goal

pub returns-in_default-clause-err : goal.returns-in_default-clause-err
returns-in_default-clause-err c =
    let game = c.args.game.now in
    let ps : List Fraction = probabilities (tables_of game) c.args.set in
    let n : ℕ = c.args.node in
    let i : ℕ = c.loop-action.action in
    let sum : Fraction = sum_of c.loop-action.sum c.chance.result in
    let there : i < length ps = omega (
      arith,
      c.loop-action-test.true,
      c.action_count-action-end.ensures,
      probabilities_count game c.args.set c.requires.from_one c.requires.there,
    ) in
    let read : slice_get ps (i + 1 - 1) ≡ Some c.chance.result = probability_read game c.args.set (i + 1 - 1) c.chance.result c.requires.from_one
    c.requires.there c.chance.ensures in
    ap as_file_fault
    (c.loop-action.invariant ∙ sum_more n c.loop-action.sum ps i c.chance.result read there
    ∙ not_passed (fits sum) (Scale n) (adding_fault n sum (drop (i + 1) ps)) (Scale n) (false_from_ne_true (fits sum) c.in_default.ensures) refl)

pub loop-action-preserved : goal.loop-action-preserved
loop-action-preserved c =
    let game = c.args.game.now in
    let ps : List Fraction = probabilities (tables_of game) c.args.set in
    let n : ℕ = c.args.node in
    let i : ℕ = c.loop-action.action in
    let sum : Fraction = sum_of c.loop-action.sum c.chance.result in
    let there : i < length ps = omega (
      arith,
      c.loop-action-test.true,
      c.action_count-action-end.ensures,
      probabilities_count game c.args.set c.requires.from_one c.requires.there,
    ) in
    let read : slice_get ps (i + 1 - 1) ≡ Some c.chance.result = probability_read game c.args.set (i + 1 - 1) c.chance.result c.requires.from_one
    c.requires.there c.chance.ensures in
    c.loop-action.invariant ∙ sum_more n c.loop-action.sum ps i c.chance.result read there
    ∙ passed (fits sum) (Scale n) (adding_fault n sum (drop (i + 1) ps)) c.in-Ok.ensures.0
    ∙ ap (λ s. adding_fault n s (drop (i + 1) ps)) (sym c.in-Ok.ensures.1)
