use Rattle.std.proofs.Common.{◌≡◌, true, ◌∙◌, ap, subst, sym}
use Rattle.std.specs.Prelude.{IsTrue, OkIff}
use Rattle.def_fraction.specs.Fraction.{Fraction, fits, sum_of, is_zero}
use Rattle.def_game_numbers.specs.Numbers.{tables_of}
use Rattle.def_game_scale.specs.Tables.{payoffs_of}
use Rattle.xg_scale.specs.Walked.{paid_to}
use Rattle.xg_scale.proofs.FractionParts.{nothing_more, sum_nothing}
use Rattle.xg_scale.proofs.GameLemmas.{paid_is, paid_null}
use Rattle.xg_scale.proofs.nodes.paid.Goals as goal

pub returns-then-outcome-eq0 : goal.returns-then-outcome-eq0
returns-then-outcome-eq0 c =
    let so_far = c.known-so_far.ensures in
    let none = ap (λ n. paid_to c.args.player (payoffs_of (tables_of c.args.game.now) n)) c.if-outcome-eq0.true ∙ paid_null c.args.game.now c.args.player in
    let same : sum_of c.args.so_far (paid_to c.args.player (payoffs_of (tables_of c.args.game.now) c.args.outcome))
    ≡ c.args.so_far = ap (sum_of c.args.so_far) none ∙ sum_nothing c.args.so_far so_far.lowest in
    (subst (λ (f : Fraction). IsTrue (fits f)) (sym same) so_far.small, so_far.same ∙ sym same)

pub returns-then-is_zero : goal.returns-then-is_zero
returns-then-is_zero c =
    let so_far = c.known-so_far.ensures in
    let payoff = c.known.ensures in
    let pay = c.payoff-payoff.ensures ∙ paid_is c.args.game.now c.args.player c.args.outcome c.requires in
    let zero : is_zero c.args.so_far ≡ true = ap is_zero (sym so_far.same) ∙ sym c.is_zero.ensures ∙ c.if-is_zero.true in
    let same : sum_of c.args.so_far (paid_to c.args.player (payoffs_of (tables_of c.args.game.now) c.args.outcome))
    ≡ c.payoff-payoff.result = ap (sum_of c.args.so_far) (sym pay) ∙ nothing_more c.args.so_far c.payoff-payoff.result so_far.lowest payoff.lowest zero in
    (subst (λ (f : Fraction). IsTrue (fits f)) (sym same) payoff.small, payoff.same ∙ sym same)

pub returns : goal.returns
returns c =
    let pay = c.payoff-payoff.ensures ∙ paid_is c.args.game.now c.args.player c.args.outcome c.requires in
    let sums : sum_of c.known-so_far.result c.payoff-payoff.result ≡ sum_of c.args.so_far
    (paid_to c.args.player (payoffs_of (tables_of c.args.game.now) c.args.outcome)) = λ i. sum_of (c.known-so_far.ensures.same i) (pay i) in
    subst (λ (f : Fraction). OkIff c.add.result (IsTrue (fits f)) f) sums c.add.ensures
