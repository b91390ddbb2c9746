use Rattle.std.proofs.Common.{◌≡◌, ◌*◌, ◌+◌, ◌/◌, ap, arith, length, map, replicate, rules, unsigned_abs}
use Rattle.xg_shares.proofs.SizeShares.{even_is_shares, length-sizes, no_shares}
use Rattle.xg_shares.proofs.shares.shares_into.Goals as goal

pub returns-then-n-eq0 : goal.returns-then-n-eq0
returns-then-n-eq0 c =
    let zeros : c.fill.new.self ≡ replicate (length c.args.out.now) 0 = search rules in
    no_shares c.args.n (length c.args.out.now) (map unsigned_abs c.args.weights.now) c.fill.new.self (omega (arith, c.if-n-eq0.true)) zeros
    (omega (arith, c.requires.as_many, length-sizes c.args.weights.now))

pub returns-then-sum-eq0 : goal.returns-then-sum-eq0
returns-then-sum-eq0 c =
    let many : length c.args.out.now ≡ length (map unsigned_abs c.args.weights.now) = omega (arith, c.requires.as_many, length-sizes c.args.weights.now) in
    even_is_shares c.args.n (map unsigned_abs c.args.weights.now) c.deal_evenly.new.out (omega (arith, c.deal_evenly.ensures.count, many))
    (omega (arith, c.total-sum.ensures, c.if-sum-eq0.true))
    (λ k below.
    omega (arith, c.deal_evenly.ensures.each k (omega (arith, many)), ap (λ m. c.args.n * k / m) many, ap (λ m. c.args.n * (k + 1) / m) many))
