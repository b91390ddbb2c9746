use Rattle.std.proofs.Common.{◌≡◌, ◌+◌, ◌∙◌, ap, sym, ◌++◌, ◌∷◌, [], arith, rules}
use Rattle.std.specs.List.{range_with_len}
use Rattle.def_sums.proofs.Ranges.{range-append}
use Rattle.xg_locked.proofs.bag.numbers_of.Goals as goal

pub loop-job-preserved : goal.loop-job-preserved
loop-job-preserved c =
    let e : c.push.new.self.items ≡ c.loop-job.numbers.items ++ c.loop-job.job ∷ [] = search rules in
    let z : 0 + c.loop-job.job ≡ c.loop-job.job = omega arith in
    e ∙ ap (λ xs. xs ++ c.loop-job.job ∷ []) c.loop-job.invariant
    ∙ sym (range-append 0 c.loop-job.job 1 ∙ ap (λ k. range_with_len 0 c.loop-job.job ++ k ∷ []) z)
