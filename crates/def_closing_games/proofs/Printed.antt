-- The ends of a bracket in payoff units.
use Rattle.std.proofs.Common.{◌≡◌, ℕ, ◌*◌, ◌≤◌, refl, ap, ◌∙◌, arith}
use Rattle.std.specs.Prelude.{ℤ, pos, ◌+ℤ◌, ◌-ℤ◌, ◌*ℤ◌, ◌≤ℤ◌, neg_ℤ}
use Rattle.std.proofs.lemmas.Int.{ints}
use Rattle.std.proofs.Math.Nat.{one-le-mul}
use Rattle.def_sums.proofs.RingLaws.{*ℤ_assoc, *ℤ_comm, *ℤ-+ℤ, neg-*ℤ}
use Rattle.def_fraction.specs.Fraction.{Fraction, fraction_of}
use Rattle.def_fraction.proofs.FractionLemmas.{fraction_of-reduced}
use Rattle.def_game_scale.specs.Scale.{game_unit}
use Rattle.def_plan.specs.Form.{SequenceForm}
use Rattle.def_sequence_form.specs.Form.{form_of_game}
use Rattle.def_tree.specs.declared.Player.TheVariants.{One, Two}
use Rattle.def_run.specs.Run.{plain_run}
use Rattle.def_run.proofs.WeighedEnds.{weighed_ends_are_the_earliest_best}
use Rattle.def_plus.specs.Weights.{total_weight}
use Rattle.def_plus_run.specs.PlusRun.{plus_run}
use Rattle.def_plus_run.proofs.PlusRuns.{plus_runs_sum_plans}
use Rattle.def_game_numbers.specs.Numbers.{tables_of}
use Rattle.def_fraction.specs.Order.{IsAtMost, difference_of}
use Rattle.def_constant_sum.proofs.Faultless.{faultless}
use Rattle.def_constant_sum.proofs.Payments.{unit_some}
use Rattle.def_constant_sum.proofs.Times.{IsTimes, difference-lowest, times-difference, times-order, times-reduced}
use Rattle.def_closing.specs.Width.{width_bound, plus_width_bound, closing_width}
use Rattle.def_closing.proofs.Widths.{closes}
use Rattle.def_closing_games.specs.Range.{game_spread}
use Rattle.def_closing_games.specs.Laws.{PrintedBracketsClose, PrintedPlusBracketsClose, EveryBracketCloses}
use Rattle.def_closing_games.proofs.Files.{files_close, plus_files_close, in_order}

-- a fraction times a multiple of its denominator
times_more : (n : ℤ) (d k whole : ℕ) → 1 ≤ d → k * d ≡ whole → IsTimes (pos whole) (fraction_of n d) (n *ℤ pos k)
times_more n d k whole some e = times-reduced n d (pos whole) (n *ℤ pos k) some (*ℤ_assoc n (pos k) (pos d) ∙ ap (λ z. n *ℤ pos z) e)

turned : (t a b width : ℕ) (upper lower : ℤ) → (pos t *ℤ ((pos a *ℤ upper) -ℤ (pos b *ℤ lower))) ≤ℤ pos (a * b * width)
    → ((upper *ℤ pos (a * t)) -ℤ (lower *ℤ pos (b * t))) ≤ℤ (pos width *ℤ pos (a * b))
turned t a b width upper lower le =
    let spread : pos t *ℤ ((pos a *ℤ upper) -ℤ (pos b *ℤ lower)) ≡ pos t *ℤ (pos a *ℤ upper) +ℤ pos t *ℤ neg_ℤ (pos b *ℤ lower) =
    *ℤ-+ℤ (pos t) (pos a *ℤ upper) (neg_ℤ (pos b *ℤ lower)) in
    let one : pos t *ℤ (pos a *ℤ upper) ≡ upper *ℤ pos (a * t) =
    *ℤ_comm (pos t) (pos a *ℤ upper) ∙ ap (λ z. z *ℤ pos t) (*ℤ_comm (pos a) upper) ∙ *ℤ_assoc upper (pos a) (pos t) in
    let two : pos t *ℤ (pos b *ℤ lower) ≡ lower *ℤ pos (b * t) =
    *ℤ_comm (pos t) (pos b *ℤ lower) ∙ ap (λ z. z *ℤ pos t) (*ℤ_comm (pos b) lower) ∙ *ℤ_assoc lower (pos b) (pos t) in
    let minus : pos t *ℤ neg_ℤ (pos b *ℤ lower) ≡ neg_ℤ (pos t *ℤ (pos b *ℤ lower)) =
    *ℤ_comm (pos t) (neg_ℤ (pos b *ℤ lower)) ∙ neg-*ℤ (pos b *ℤ lower) (pos t) ∙ ap neg_ℤ (*ℤ_comm (pos b *ℤ lower) (pos t)) in
    let product : a * b * width ≡ width * (a * b) = omega arith in
    omega (arith, ints, le, spread, one, two, minus, product)

-- what the crossed products say of the fractions
printed_apart : (m root t a b width : ℕ) (upper lower : ℤ) → 1 ≤ m → 1 ≤ root → 1 ≤ t → 1 ≤ a → 1 ≤ b
    → (pos t *ℤ ((pos a *ℤ upper) -ℤ (pos b *ℤ lower))) ≤ℤ pos (a * b * width)
    → IsAtMost (difference_of (fraction_of upper (m * (b * root))) (fraction_of lower (m * (a * root)))) (fraction_of (pos width) (m * (t * root)))
printed_apart m root t a b width upper lower some_m some_root some_t some_a some_b le =
    let whole : ℕ = (a * t) * (m * (b * root)) in
    let some_high : 1 ≤ m * (b * root) = one-le-mul some_m (one-le-mul some_b some_root) in
    let some_low : 1 ≤ m * (a * root) = one-le-mul some_m (one-le-mul some_a some_root) in
    let some_width : 1 ≤ m * (t * root) = one-le-mul some_m (one-le-mul some_t some_root) in
    let some_whole : 1 ≤ whole = one-le-mul (one-le-mul some_a some_t) some_high in
    let high : Fraction = fraction_of upper (m * (b * root)) in
    let low : Fraction = fraction_of lower (m * (a * root)) in
    let den_high : 1 ≤ high.den = (fraction_of-reduced upper (m * (b * root)) some_high).lowest.positive in
    let den_low : 1 ≤ low.den = (fraction_of-reduced lower (m * (a * root)) some_low).lowest.positive in
    let den_width : 1 ≤ (fraction_of (pos width) (m * (t * root))).den = (fraction_of-reduced (pos width) (m * (t * root)) some_width).lowest.positive in
    let times_high : IsTimes (pos whole) high (upper *ℤ pos (a * t)) = times_more upper (m * (b * root)) (a * t) whole some_high refl in
    let times_low : IsTimes (pos whole) low (lower *ℤ pos (b * t)) = times_more lower (m * (a * root)) (b * t) whole some_low (omega arith) in
    let times_width : IsTimes (pos whole) (fraction_of (pos width) (m * (t * root))) (pos width *ℤ pos (a * b)) =
    times_more (pos width) (m * (t * root)) (a * b) whole some_width (omega arith) in
    let times_apart : IsTimes (pos whole) (difference_of high low) ((upper *ℤ pos (a * t)) -ℤ (lower *ℤ pos (b * t))) =
    times-difference (pos whole) high low (upper *ℤ pos (a * t)) (lower *ℤ pos (b * t)) den_high den_low times_high times_low in
    (times-order whole (difference_of high low) (fraction_of (pos width) (m * (t * root))) ((upper *ℤ pos (a * t)) -ℤ (lower *ℤ pos (b * t)))
    (pos width *ℤ pos (a * b)) some_whole
    (difference-lowest high low den_high den_low).positive den_width times_apart times_width).1 (turned t a b width upper lower le)

pub printed_brackets_close : PrintedBracketsClose
printed_brackets_close game low high range root every last ends whole fractions none within is_high some some_round are =
    let form : SequenceForm = form_of_game (tables_of game) game.tree in
    let best = weighed_ends_are_the_earliest_best form (plain_run form root) every last ends (λ round one. one) are in
    printed_apart (game_unit (tables_of game) game.tree) root last ends.lower.round ends.upper.round
    (width_bound form root (game_spread range One form) (game_spread range Two form) last) ends.upper.high ends.lower.low
    (unit_some (tables_of game) game.tree (faultless game whole fractions none).complete) some some_round best.of_lower.some best.of_upper.some
    (files_close game low high range root every last ends whole fractions none within is_high some some_round are)

pub printed_plus_brackets_close : PrintedPlusBracketsClose
printed_plus_brackets_close game low high range root every last ends whole fractions none within is_high some some_round are =
    let form : SequenceForm = form_of_game (tables_of game) game.tree in
    let order = in_order game whole fractions none in
    let weights = (plus_runs_sum_plans form root (order One) (order Two) some).some_weight in
    let best = weighed_ends_are_the_earliest_best form (plus_run form root) every last ends weights are in
    printed_apart (game_unit (tables_of game) game.tree) root (total_weight last) (total_weight ends.lower.round) (total_weight ends.upper.round)
    (plus_width_bound form root (game_spread range One form) (game_spread range Two form) last) ends.upper.high ends.lower.low
    (unit_some (tables_of game) game.tree (faultless game whole fractions none).complete) some (weights last some_round)
    (weights ends.lower.round best.of_lower.some) (weights ends.upper.round best.of_upper.some)
    (plus_files_close game low high range root every last ends whole fractions none within is_high some some_round are)

-- by the form alone
pub every_bracket_closes : EveryBracketCloses
every_bracket_closes game root every last ends whole fractions none some some_round are =
    let form : SequenceForm = form_of_game (tables_of game) game.tree in
    let best = weighed_ends_are_the_earliest_best form (plain_run form root) every last ends (λ round one. one) are in
    printed_apart (game_unit (tables_of game) game.tree) root last ends.lower.round ends.upper.round (closing_width form root last) ends.upper.high
    ends.lower.low
    (unit_some (tables_of game) game.tree (faultless game whole fractions none).complete) some some_round best.of_lower.some best.of_upper.some
    (closes form root every last ends (in_order game whole fractions none) some some_round are)
