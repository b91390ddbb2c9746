-- The range of the payoffs of the worked game.
use Rattle.std.proofs.Common.{[], ◌∷◌, List, pos, refl, arith}
use Rattle.std.specs.Prelude.{negsuc}
use Rattle.std.proofs.lemmas.Int.{ints}
use Rattle.std.proofs.lemmas.List.Elements.{All-from_recursion}
use Rattle.def_fraction.specs.Fraction.{Fraction, over}
use Rattle.def_fraction.specs.Order.{IsAtMost}
use Rattle.def_payoffs.specs.Range.{IsGreatest, IsLeast}

abbrev pub low : Fraction
low = over (negsuc 0) 2

abbrev pub high : Fraction
high = over (pos 5) 2

abbrev pub some : List Fraction
some = high ∷ low ∷ over (pos 3) 2 ∷ low ∷ low ∷ []

pub low_is_least : IsLeast some low
low_is_least = record {
  one_of_them = (1, omega arith, refl);
  above = All-from_recursion (λ g. IsAtMost low g) some
      (omega (arith, ints), (omega (arith, ints), (omega (arith, ints), (omega (arith, ints), (omega (arith, ints), tt)))));
}

pub high_is_greatest : IsGreatest some high
high_is_greatest = record {
  one_of_them = (0, omega arith, refl);
  below = All-from_recursion (λ g. IsAtMost g high) some
      (omega (arith, ints), (omega (arith, ints), (omega (arith, ints), (omega (arith, ints), (omega (arith, ints), tt)))));
}
