use Rattle.std.proofs.Common.{◌≤◌, ◌^◌, ℤ, ◌≤ℤ◌, pos, unsigned_abs, sym, subst}
use Rattle.xg_frac.proofs.PartLemmas.{product-value, product-size, product-positive}
use Rattle.xg_close_run.proofs.width.product.Goals as goal

pub returns-clause-value : goal.returns-clause-value
returns-clause-value c = product-value c.args.x c.args.y c.requires.0 c.requires.1 c.ranges.x c.ranges.y

pub returns-clause-size : goal.returns-clause-size
returns-clause-size c = subst (λ (z : ℤ). unsigned_abs z ≤ 2 ^ 124) (sym (returns-clause-value c)) (product-size c.args.x c.args.y c.requires.0 c.requires.1)

pub returns-clause-positive : goal.returns-clause-positive
returns-clause-positive c = λ p q. subst (λ (z : ℤ). pos 1 ≤ℤ z) (sym (returns-clause-value c)) (product-positive c.args.x c.args.y p q)
