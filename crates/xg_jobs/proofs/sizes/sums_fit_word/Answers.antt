use Rattle.std.proofs.Common.{ℕ, ◌*◌, ◌≤◌, max, arith}
use Rattle.std.proofs.Math.Nat.{mul-le-mul_left}
use Rattle.def_sums.specs.Limits.{most_root}
use Rattle.xg_jobs.specs.Groups.{greatest_of}
use Rattle.xg_jobs.proofs.Greatest.{both_within}
use Rattle.xg_jobs.proofs.sizes.sums_fit_word.Goals as goal

pub returns-then-fits_word : goal.returns-then-fits_word
returns-then-fits_word c =
    let most : ℕ = max (greatest_of c.args.one.now) (greatest_of c.args.two.now) in
    let within : most ≤ most_root = both_within c.args.one.now c.args.two.now most_root c.requires.small_one c.requires.small_two in
    let lighter : c.args.mass * most ≤ c.args.mass * most_root = mul-le-mul_left c.args.mass within in
    (λ _. omega (arith, lighter, c.fits_word.ensures.0 c.if-fits_word.true), λ _. c.if-fits_word.true)
