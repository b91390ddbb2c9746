use Rattle.std.proofs.Common.{◌*◌, ◌≤◌, ◌^◌, arith}
use Rattle.std.proofs.lemmas.Nat.{mul-le}
use Rattle.xg_cert.proofs.scales.product.Goals as goal

pub returns-clause-from_one : goal.returns-clause-from_one
returns-clause-from_one c =
    let least : 1 * 1 ≤ c.args.unit * c.args.root = mul-le 1 1 c.args.unit c.args.root c.requires.unit_from_one c.requires.root_from_one in omega arith

pub returns-clause-small : goal.returns-clause-small
returns-clause-small c =
    let most : c.args.unit * c.args.root ≤ 2 ^ 62 * 2 ^ 36 = mul-le c.args.unit c.args.root (2 ^ 62) (2 ^ 36) c.requires.unit c.requires.root in omega arith
