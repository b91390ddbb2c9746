use Rattle.std.proofs.Common.{◌≡◌, ◌^◌, ◌≤◌, ℕ, ℤ, ◌*ℤ◌, pos, unsigned_abs, FitsSigned, to_z, of_z, w64, arith}
use mir.Syntax.{w128}
use Rattle.std.proofs.Math.Nat.{mul-le-mul}
use Rattle.std.proofs.lemmas.Int.{ints, to_z-of_z, fits_signed_mul, unsigned_abs-mul}
use Rattle.def_sums.specs.Limits.{most_root}
use Rattle.xg_check.proofs.adding.times.Goals as goal

product_fits : (x y : ℤ) → unsigned_abs x ≤ 2 ^ 63 → unsigned_abs y ≤ most_root → FitsSigned w128 (x *ℤ y)
product_fits x y p q = fits_signed_mul w128 x y (2 ^ 63) most_root p q (omega arith)

product_size : (x y : ℤ) → unsigned_abs x ≤ 2 ^ 63 → unsigned_abs y ≤ most_root → unsigned_abs (x *ℤ y) ≤ 2 ^ 99
product_size x y p q = omega (arith, unsigned_abs-mul x y, mul-le-mul p q)

-- what is read back of the word, and of the number
word : (x : ℤ) → FitsSigned w64 x → to_z w128 (of_z w128 (to_z w64 (of_z w64 x))) ≡ x
word x f = omega (arith, ints, f)

number : (n : ℕ) → n ≤ most_root → to_z w128 n ≡ pos n
number n p = omega (arith, ints, p)

size : (x : ℤ) → FitsSigned w64 x → unsigned_abs x ≤ 2 ^ 63
size x f = omega (arith, ints, f)

read : (x : ℤ) (n : ℕ) → FitsSigned w64 x → n ≤ most_root
    → to_z w128 (of_z w128 (to_z w128 (of_z w128 (to_z w64 (of_z w64 x))) *ℤ to_z w128 n)) ≡ x *ℤ pos n
read x n f p = rw (word x f, number n p) (to_z-of_z w128 (x *ℤ pos n) (product_fits x (pos n) (size x f) p))

pub overflow_mul-result : goal.overflow_mul-result
overflow_mul-result c = rw (word c.args.w c.ranges.w, number c.args.n c.requires)
    (product_fits c.args.w (pos c.args.n) (size c.args.w c.ranges.w) c.requires)

pub returns : goal.returns
returns c = record {
  value = read c.args.w c.args.n c.ranges.w c.requires;
  size = rw (read c.args.w c.args.n c.ranges.w c.requires) (product_size c.args.w (pos c.args.n) (size c.args.w c.ranges.w) c.requires);
}
