use Rattle.std.proofs.Common.{ℕ, ◌<◌, length, get_or, arith}
use Rattle.std.proofs.lemmas.List.{get_or_default}
use Rattle.xg_jobs.proofs.Greatest.{greatest_more}
use Rattle.xg_jobs.proofs.sizes.greatest.Goals as goal
use Rattle.xg_jobs.proofs.sizes.greatest.Goals.{then-n-greatest, else-n-greatest}

pub loop-n-preserved : goal.loop-n-preserved
loop-n-preserved c =
    let numbers = c.args.numbers.now in
    let i : ℕ = c.loop-n.n-index in
    let low : i < length numbers = c.loop-n-test.true in
    let more = greatest_more numbers i (get_or numbers i 0) low (get_or_default numbers i (get_or numbers i 0) 0 low) in
    elim c.if-n-greatest.branch [ then-n-greatest w ↦ grind arith | else-n-greatest w ↦ grind arith ]
