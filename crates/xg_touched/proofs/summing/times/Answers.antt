use Rattle.std.proofs.Common.{◌≡◌, ◌^◌, ◌<◌, ◌≤◌, ℕ, ℤ, ◌*ℤ◌, pos, unsigned_abs, FitsSigned, to_z, of_z, w64, arith}
use mir.Syntax.{w128}
use Rattle.std.proofs.lemmas.Int.{ints, to_z-of_z, fits_signed_mul, fits_signed_from_abs}
use Rattle.def_sums.specs.Limits.{past_number}
use Rattle.xg_touched.proofs.summing.times.Goals as goal

product_fits : (x y : ℤ) → unsigned_abs x ≤ 2 ^ 63 → unsigned_abs y ≤ 2 ^ 62 → FitsSigned w128 (x *ℤ y)
product_fits x y p q = fits_signed_mul w128 x y (2 ^ 63) (2 ^ 62) p q (omega arith)

-- what is read back of the word, and of the number
word : (x : ℤ) → FitsSigned w64 x → to_z w128 (of_z w128 (to_z w64 (of_z w64 x))) ≡ x
word x f = omega (arith, ints, f)

number : (n : ℕ) → n < past_number → to_z w128 (of_z w128 (to_z w64 n)) ≡ pos n
number n p = omega (arith, ints, p)

size : (x : ℤ) → FitsSigned w64 x → unsigned_abs x ≤ 2 ^ 63
size x f = omega (arith, ints, f)

pub overflow_cast-result : goal.overflow_cast-result
overflow_cast-result c = fits_signed_from_abs w128 _ (omega (arith, ints, c.ranges.w))

pub overflow_cast-result-2 : goal.overflow_cast-result-2
overflow_cast-result-2 c = fits_signed_from_abs w64 _ (omega (arith, c.requires))

pub overflow_cast-result-3 : goal.overflow_cast-result-3
overflow_cast-result-3 c = fits_signed_from_abs w128 _ (omega (arith, ints, c.requires))

pub overflow_mul-result : goal.overflow_mul-result
overflow_mul-result c = rw (word c.args.w c.ranges.w, number c.args.n c.requires)
    (product_fits c.args.w (pos c.args.n) (size c.args.w c.ranges.w) (omega (arith, c.requires)))

pub returns : goal.returns
returns c = rw (word c.args.w c.ranges.w, number c.args.n c.requires)
    (to_z-of_z w128 (c.args.w *ℤ pos c.args.n) (product_fits c.args.w (pos c.args.n) (size c.args.w c.ranges.w) (omega (arith, c.requires))))
