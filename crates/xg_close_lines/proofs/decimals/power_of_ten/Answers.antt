use Rattle.std.proofs.Common.{◌≡◌, ◌^◌, arith, rules}
use Rattle.std.proofs.Math.Nat.{one-le-pow}
use Rattle.xg_close_lines.proofs.decimals.power_of_ten.Goals as goal

pub returns-clause-positive : goal.returns-clause-positive
returns-clause-positive c =
    let value : c.pow.result ≡ 10 ^ c.args.exponent = search rules in
    omega (arith, one-le-pow c.args.exponent 10 (omega arith))
