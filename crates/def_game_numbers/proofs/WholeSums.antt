-- A file's game without a fault has a whole sum.
use Rattle.std.proofs.Common.{◌≡◌, ℕ, ◌*◌, pos, unsigned_abs, Option, Some, None, refl, sym, ap, ◌∙◌, arith}
use Rattle.std.specs.Int.{◌∣◌}
use Rattle.std.proofs.Math.Nat.{mul-le-mul_right}
use Rattle.std.proofs.lemmas.Int.{unsigned_abs-mul}
use Rattle.std.proofs.lemmas.List.Elements.{All-head}
use Rattle.def_fraction.specs.Fraction.{Fraction}
use Rattle.def_game_scale.specs.Tables.{game_sum}
use Rattle.def_game_scale.specs.Scale.{all_expected, all_fractions, game_unit, weight_of}
use Rattle.def_game_scale.specs.Faults.{GameFault, game_fault}
use Rattle.def_game_scale.proofs.Expected.{fractions-lowest}
use Rattle.def_game_scale.proofs.Sound.{sound}
use Rattle.def_game_scale.proofs.Units.{den-divides, whole-weight}
use Rattle.def_game_numbers.specs.Numbers.{as_file_fault, tables_of}
use Rattle.def_game_numbers.specs.WholeSums.{FaultlessGamesHaveWholeSums}
use Rattle.def_game_numbers.proofs.Fractions.{tables_lowest}

pub none_found : (o : Option GameFault) → as_file_fault o ≡ None → o ≡ None
none_found None e = refl
none_found (Some fault) e = cc

pub whole_sums : FaultlessGamesHaveWholeSums
whole_sums game is =
    let tables = tables_of game in
    let lowest = tables_lowest game is.fractions in
    let numbers = (sound tables game.tree lowest (none_found (game_fault tables game.tree) is.no_fault)).numbers in
    let unit : ℕ = game_unit tables game.tree in
    let sum : Fraction = game_sum tables game.tree in
    let divides : sum.den ∣ unit = All-head (λ (f : Fraction). f.den ∣ unit) sum (all_expected tables game.tree)
    (den-divides (all_fractions tables game.tree) (fractions-lowest tables game.tree lowest)) in
    let size : unsigned_abs (weight_of unit sum) * sum.den ≡ unsigned_abs sum.num * unit =
    sym (unsigned_abs-mul (weight_of unit sum) (pos sum.den)) ∙ ap unsigned_abs (whole-weight unit sum divides) ∙ unsigned_abs-mul sum.num (pos unit) in
    record { whole = divides; small = omega (arith, size, mul-le-mul_right sum.den numbers.whole_sum_within) }
