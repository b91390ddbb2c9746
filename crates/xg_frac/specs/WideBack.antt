-- The large parts of a fraction are had again from its value.
use Rattle.std.specs.Prelude.{◌≡◌, ℤ, pos, unsigned_abs}
use Rattle.std.proofs.Common.{ap}
use Rattle.xg_frac.specs.declared.wide.Ratio.TheInside.{Inside}
use Rattle.xg_frac.specs.PartsBack.{den_back}
use Rattle.xg_frac.specs.Wide.{AreWideParts}

pub wide_parts_back : (r : Inside) → AreWideParts r.num r.den
    → record { num = r.num; den = pos (unsigned_abs r.den) } ≡ r
wide_parts_back r h = let make : ℤ → Inside = λ d. record { num = r.num; den = d } in ap make
    (den_back r.den h.positive)
