use Rattle.std.proofs.Common.{ℤ, pos, sym, subst, arith}
use Rattle.std.specs.Int.{w64}
use Rattle.std.proofs.lemmas.Int.{to_z_pos}
use Rattle.xg_frac.specs.Parts.{AreParts}
use Rattle.xg_frac.proofs.PartLemmas.{AreParts-one_over}
use Rattle.xg_frac.proofs.fraction.one_over.Goals as goal

pub invariant_of-result : goal.invariant_of-result
invariant_of-result c =
    let n = c.args.n in
    subst (λ (d : ℤ). AreParts (pos 1) d) (sym (to_z_pos w64 n (omega arith))) (AreParts-one_over n c.requires (omega arith))
