-- The sum of a game that is weighed and whose sets are built.
use Rattle.std.proofs.Common.{◌≡◌, ℕ, Ok, sym, subst}
use Rattle.def_fraction.specs.Fraction.{Fraction}
use Rattle.def_file.specs.Content.{GameFile}
use Rattle.def_file.specs.Game.{HasFractions, IsWholeGame}
use Rattle.def_sequence_form.specs.Sets.{TreeSets, sets_or_break}
use Rattle.def_game_numbers.specs.Numbers.{GameWeights, tables_of, weigh, weights_of_game}
use Rattle.def_game_numbers.specs.WholeSums.{IsWholeIn}
use Rattle.def_game_numbers.proofs.Refusals.{accepted, refused_first}
use Rattle.def_game_numbers.proofs.WholeSums.{whole_sums}

-- it is whole in the unit
pub accepted_sum : (game : GameFile) (answer : GameWeights) (sets : TreeSets) (unit : ℕ) (sum : Fraction) → IsWholeGame game
    → HasFractions game.sets game.outcomes → weigh game ≡ Ok answer → sets_or_break game.tree ≡ Ok sets
    → unit ≡ answer.unit → sum ≡ answer.sum → IsWholeIn unit sum
accepted_sum game answer sets unit sum whole fractions weighed built unit_is sum_is =
    let given : weights_of_game (tables_of game) game.tree ≡ answer = (accepted _ (weights_of_game (tables_of game) game.tree) answer weighed).1 in
    let no_fault = (refused_first game).accepted answer sets weighed built in
    subst (λ (n : ℕ). IsWholeIn n sum) (sym unit_is)
    (subst (IsWholeIn answer.unit) (sym sum_is)
    (subst (λ (w : GameWeights). IsWholeIn w.unit w.sum) given
    (whole_sums game (record { whole = whole; fractions = fractions; no_fault = no_fault }))))
