use Rattle.std.proofs.Common.{◌≡◌, ◌+◌, ◌-◌, ◌<◌, ◌∙◌, List, Some, None, true, false, not, ap, arith, length, slice_get, sym}
use Rattle.def_fraction.specs.Fraction.{Fraction}
use Rattle.def_game_scale.specs.Faults.{ChanceNegative, passing}
use Rattle.def_game_numbers.specs.Numbers.{as_file_fault, tables_of}
use Rattle.def_game_scale.specs.Tables.{probabilities}
use Rattle.xg_scale.proofs.GameLemmas.{probabilities_count, probability_read}
use Rattle.xg_scale.proofs.SetLemmas.{sign_more}
use Rattle.xg_scale.proofs.chance.check_signs.Goals as goal

pub returns-then-is_negative-clause-err : goal.returns-then-is_negative-clause-err
returns-then-is_negative-clause-err c =
    let game = c.args.game.now in
    let ps : List Fraction = probabilities (tables_of game) c.args.set in
    let there : c.loop-action.action < length ps =
    omega (arith, c.loop-action-test.true, c.action_count-action-end.ensures, probabilities_count game c.args.set c.requires.from_one c.requires.there) in
    let read : slice_get ps (c.loop-action.action + 1 - 1) ≡ Some c.chance.result = probability_read game c.args.set (c.loop-action.action + 1 - 1)
    c.chance.result c.requires.from_one c.requires.there c.chance.ensures in
    ap (λ b. as_file_fault (passing (not b) (ChanceNegative c.args.node) None))
    (c.loop-action.invariant ∙ sign_more ps c.loop-action.action c.chance.result true read there (sym c.is_negative.ensures ∙ c.if-is_negative.true))

pub loop-action-preserved : goal.loop-action-preserved
loop-action-preserved c =
    let game = c.args.game.now in
    let ps : List Fraction = probabilities (tables_of game) c.args.set in
    let there : c.loop-action.action < length ps =
    omega (arith, c.loop-action-test.true, c.action_count-action-end.ensures, probabilities_count game c.args.set c.requires.from_one c.requires.there) in
    let read : slice_get ps (c.loop-action.action + 1 - 1) ≡ Some c.chance.result = probability_read game c.args.set (c.loop-action.action + 1 - 1)
    c.chance.result c.requires.from_one c.requires.there c.chance.ensures in
    c.loop-action.invariant ∙ sign_more ps c.loop-action.action c.chance.result false read there (sym c.is_negative.ensures ∙ c.if-is_negative.false)
