-- The parts of a fraction are had again from its value.
use Rattle.std.specs.Prelude.{◌≡◌, ◌≤ℤ◌, ℤ, pos, negsuc, unsigned_abs, refl}
use Rattle.std.proofs.Common.{ap, arith}
use Rattle.std.proofs.lemmas.Int.{ints}
use Rattle.xg_frac.specs.declared.fraction.Frac.TheInside.{Inside}
use Rattle.xg_frac.specs.Parts.{AreParts}

pub den_back : (den : ℤ) → pos 1 ≤ℤ den → pos (unsigned_abs den) ≡ den
den_back (pos n) h = refl
den_back (negsuc n) h = absurd (omega (arith, ints))

pub parts_back : (f : Inside) → AreParts f.num f.den → record { num = f.num; den = pos (unsigned_abs f.den) } ≡ f
parts_back f h = let make : ℤ → Inside = λ d. record { num = f.num; den = d } in ap make (den_back f.den h.positive)
