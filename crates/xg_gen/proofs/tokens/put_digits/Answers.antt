use Rattle.std.proofs.Common.{arith}
use Rattle.xg_gen.proofs.Written.{first_token, then_token}
use Rattle.xg_gen.proofs.tokens.put_digits.Goals as goal

pub returns-in_err-write_all-clause-text : goal.returns-in_err-write_all-clause-text
returns-in_err-write_all-clause-text g c = grind (arith, first_token, then_token)

pub returns-clause-text : goal.returns-clause-text
returns-clause-text g c = grind (arith, first_token, then_token)
