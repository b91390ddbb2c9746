-- Weights of zero have no mass.
use Rattle.std.proofs.Common.{◌≡◌, ℕ, ◌*◌, map, replicate, ◌∙◌, arith}
use Rattle.std.specs.Prelude.{pos, unsigned_abs, sum}
use Rattle.std.proofs.lemmas.List.Sums.{sum-map}
use Rattle.std.proofs.lemmas.List.Folds.{sum_by-replicate}

no_times : (n : ℕ) → n * 0 ≡ 0
no_times n = omega arith

pub zeros_have_no_mass : (n : ℕ) → sum (map unsigned_abs (replicate n (pos 0))) ≡ 0
zeros_have_no_mass n = sum-map unsigned_abs (replicate n (pos 0)) ∙ sum_by-replicate unsigned_abs n (pos 0) ∙ no_times n
