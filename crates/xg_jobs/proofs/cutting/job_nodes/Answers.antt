use Rattle.std.proofs.Common.{◌≡◌, ℕ, [], ◌∷◌, List, length, sym, ap, subst, ◌∙◌, arith, rules}
use Rattle.std.proofs.lemmas.Bool.{not-true}
use Rattle.def_history.specs.Jobs.{jobs_within, most_jobs, most_passes}
use Rattle.def_tree.specs.Tree.{Forest}
use Rattle.xg_jobs.specs.Cutting.{AreJobs}
use Rattle.xg_jobs.proofs.JobsAfterPasses.{whole_job, within_end, within_more}
use Rattle.xg_jobs.proofs.cutting.job_nodes.Goals as goal
use Rattle.xg_jobs.proofs.cutting.job_nodes.Goals.{else-loop-test, then-loop-test+in_ok-after+then-not-after}

pub loop-init : goal.loop-init
loop-init c =
    let tree : Forest = c.args.tree.now in
    let one : c.in_ok-jobs.jobs.items ≡ 1 ∷ [] = search rules in (
      omega (arith, ap length one),
      subst (λ ks. AreJobs tree ks (tree ∷ [])) (sym one) (whole_job tree c.facts.ensures.rules.tree),
    )

pub make_pass-requires-clause-few : goal.make_pass-requires-clause-few
make_pass-requires-clause-few c = omega (arith, ap length c.deref.ensures.value, c.loop.invariant.0)

pub make_pass-requires-clause-jobs : goal.make_pass-requires-clause-jobs
make_pass-requires-clause-jobs c =
    let tree : Forest = c.args.tree.now in
    let now : List Forest = jobs_within most_jobs c.loop.counter tree in
    (now, subst (λ ks. AreJobs tree ks now) (sym c.deref.ensures.value) c.loop.invariant.1)

pub loop-preserved : goal.loop-preserved
loop-preserved c =
    let tree : Forest = c.args.tree.now in
    let now : List Forest = jobs_within most_jobs c.loop.counter tree in (
      c.in_ok-after.ensures.few,
      subst (λ js. AreJobs tree c.in_ok-after.after.jobs.items js) (sym (within_more most_jobs c.loop.counter tree))
          (c.in_ok-after.ensures.jobs now
          (subst (λ ks. AreJobs tree ks now) (sym c.deref.ensures.value) c.loop.invariant.1)),
    )

pub returns : goal.returns
returns c =
    let tree : Forest = c.args.tree.now in
    let n : ℕ = c.loop.counter in
    let now : List Forest = jobs_within most_jobs n tree in
    elim c.loop-test.branch [
      | else-loop-test w ↦
          let end : n ≡ most_passes = omega (arith, w.loop-test.false) in
          subst (λ ks. AreJobs tree ks (jobs_within most_jobs most_passes tree)) (sym (ap (λ v. v.items) w.jobs-is))
          (subst (λ m. AreJobs tree c.loop.jobs.items (jobs_within most_jobs m tree)) end c.loop.invariant.1)
      | then-loop-test+in_ok-after+then-not-after w ↦
          let had = subst (λ ks. AreJobs tree ks now) (sym w.deref.ensures.value) c.loop.invariant.1 in
          let same = w.in_ok-after.ensures.same (not-true w.in_ok-after.after.cut w.if-not-after.true) now had in
          subst (λ ks. AreJobs tree ks (jobs_within most_jobs most_passes tree)) (sym (ap (λ v. v.items) w.jobs-is))
          (subst (λ js. AreJobs tree w.in_ok-after.after.jobs.items js)
          (same ∙ within_end most_jobs n most_passes tree (omega arith) same)
          (w.in_ok-after.ensures.jobs now had))
    ]
