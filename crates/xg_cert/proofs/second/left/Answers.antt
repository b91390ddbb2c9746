use Rattle.std.proofs.Common.{◌≡◌, ◌+◌, ◌^◌, ◌≤◌, ℤ, FitsSigned, to_z, of_z, unsigned_abs, ap, ◌∙◌, arith, rules}
use Rattle.std.specs.Prelude.{◌-ℤ◌}
use Rattle.std.specs.Int.{w128}
use Rattle.std.proofs.lemmas.Int.{fits_signed_from_abs, ints, to_z-of_z}
use Rattle.def_sums.specs.Limits.{most_row}
use Rattle.xg_cert.proofs.second.left.Goals as goal

-- the difference in 128 bits of two numbers of a total's size
record Differs (x y a b : ℤ) : Type 0 where
  fits : FitsSigned w128 (to_z w128 (of_z w128 x) -ℤ to_z w128 (of_z w128 y))
  value : to_z w128 (of_z w128 (to_z w128 (of_z w128 x) -ℤ to_z w128 (of_z w128 y))) ≡ a -ℤ b
  small : unsigned_abs (to_z w128 (of_z w128 (to_z w128 (of_z w128 x) -ℤ to_z w128 (of_z w128 y)))) ≤ 2 ^ 99

difference_size : (a b : ℤ) → unsigned_abs (a -ℤ b) ≤ unsigned_abs a + unsigned_abs b
difference_size a b = omega (arith, ints)

differs : (x y a b : ℤ) → x ≡ a → y ≡ b → FitsSigned w128 x → FitsSigned w128 y → unsigned_abs a ≤ most_row
    → unsigned_abs b ≤ most_row → Differs x y a b
differs x y a b x_is y_is fits_x fits_y small_a small_b =
    let rest : ℤ = to_z w128 (of_z w128 x) -ℤ to_z w128 (of_z w128 y) in
    let rest_is : rest ≡ a -ℤ b = λ i. (to_z-of_z w128 x fits_x ∙ x_is) i -ℤ (to_z-of_z w128 y fits_y ∙ y_is) i in
    let size : unsigned_abs (a -ℤ b) ≤ 2 ^ 99 = omega (arith, difference_size a b, small_a, small_b) in
    let fits : FitsSigned w128 rest = fits_signed_from_abs w128 rest (omega (arith, ap unsigned_abs rest_is, size)) in
    let value : to_z w128 (of_z w128 rest) ≡ a -ℤ b = to_z-of_z w128 rest fits ∙ rest_is in
    record { fits = fits; value = value; small = omega (arith, ap unsigned_abs value, size) }

pub overflow_sub-result : goal.overflow_sub-result
overflow_sub-result c =
    (differs c.times.result c.times-2.result _ _ c.times.ensures c.times-2.ensures (search rules) (search rules) c.requires.first c.requires.second).fits

pub returns-clause-value : goal.returns-clause-value
returns-clause-value c =
    (differs c.times.result c.times-2.result _ _ c.times.ensures c.times-2.ensures (search rules) (search rules) c.requires.first c.requires.second).value

pub returns-clause-small : goal.returns-clause-small
returns-clause-small c =
    (differs c.times.result c.times-2.result _ _ c.times.ensures c.times-2.ensures (search rules) (search rules) c.requires.first c.requires.second).small
