use Rattle.std.proofs.Common.{◌≡◌, take}
use Rattle.xg_jobs.specs.Groups.{greatest_of}
use Rattle.xg_jobs.proofs.sizes.greatest.Given as goal

abbrev pub invariant-loop-n : goal.invariant-loop-n
invariant-loop-n l = l.greatest ≡ greatest_of (take l.n-index l.numbers)
