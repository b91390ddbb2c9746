use Rattle.std.proofs.Common.{◌≡◌, ◌<◌, ◌≤◌, ℕ, ◌+◌, ◌-◌, ◌++◌, [], ◌∷◌, ◌&&◌, Bool, List, nat_le, length, length-append, get_or, false, true, sym, ap, subst}
use Rattle.std.proofs.Common.{◌∙◌, arith}
use Rattle.std.proofs.lemmas.Bool.{and_parts}
use Rattle.std.proofs.lemmas.List.{drop_all, drop_more}
use Rattle.def_history.specs.Jobs.{most_jobs}
use Rattle.def_tree.specs.declared.Kind.TheVariants.{Chance}
use Rattle.def_tree.specs.declared.Node.{Node}
use Rattle.def_tree.specs.Links.{children_of}
use Rattle.def_tree.specs.Rules.{is_same_kind}
use Rattle.def_tree.specs.Tree.{Forest, node_count}
use Rattle.xg_jobs.proofs.OnePassOverJobs.{PassSome, all_passed, fits_in, jobs_counted, next_job, none_passed, pass_cut, pass_kept, tells_job, top_inside}
use Rattle.xg_jobs.proofs.cutting.make_pass.Goals as goal
use Rattle.xg_jobs.proofs.cutting.make_pass.Goals.{then-is_cut+in_ok-push_children, else-is_cut+in_ok-push}

-- the next job's top node is one of the tree's
record NextInside (tree : Forest) (node : ℕ) : Type 0 where
  from_one : 1 ≤ node
  there : node ≤ node_count tree

next_inside : (tree : Forest) (nodes : List ℕ) (jobs : List Forest) (after : List ℕ) (count : ℕ) (cut : Bool) (k : ℕ)
    → PassSome tree nodes jobs after count cut k → k < length nodes → NextInside tree (get_or nodes k 0)
next_inside tree nodes jobs after count cut k some low =
    let first = next_job tree nodes jobs after count cut k (get_or nodes k 0) some (drop_more nodes k 0 low) in
    record {
      from_one = first.is.there.from_one;
      there = top_inside tree some.next (get_or nodes k 0) first.job first.is;
    }

pub loop-job-init : goal.loop-job-init
loop-job-init c =
    let tree : Forest = c.args.tree.now in
    let jobs = c.args.jobs.now in
    let end : ℕ = node_count tree + 1 in (
      omega (arith, ap length c.new-after.ensures.items),
      c.requires.few,
      λ now are.
          subst (λ a. PassSome tree jobs now a (length jobs) false 0) (sym c.new-after.ensures.items)
          (subst (λ n. PassSome tree jobs now [] n false 0) (sym (jobs_counted tree 1 end jobs now are))
          (none_passed tree jobs now are)),
    )

pub node-top-requires : goal.node-top-requires
node-top-requires c =
    let here = next_inside c.args.tree.now c.args.jobs.now c.requires.jobs.0 c.loop-job.after.items c.loop-job.count
    c.loop-job.cut c.loop-job.job-index (c.loop-job.invariant.2 c.requires.jobs.0 c.requires.jobs.1)
    c.loop-job-test.true in
    record { from_one = here.from_one; there = here.there }

pub push_children-requires : goal.push_children-requires
push_children-requires c =
    let here = next_inside c.args.tree.now c.args.jobs.now c.requires.jobs.0 c.loop-job.after.items c.loop-job.count
    c.loop-job.cut c.loop-job.job-index (c.loop-job.invariant.2 c.requires.jobs.0 c.requires.jobs.1)
    c.loop-job-test.true in
    record { from_one = here.from_one; there = here.there }

pub loop-job-preserved : goal.loop-job-preserved
loop-job-preserved c =
    let tree : Forest = c.args.tree.now in
    let jobs = c.args.jobs.now in
    let k : ℕ = c.loop-job.job-index in
    let after : List ℕ = c.loop-job.after.items in
    let count : ℕ = c.loop-job.count in
    let j : ℕ = get_or jobs k 0 in
    let top : Node = c.node-top.result in
    let then : ℕ = count - 1 + top.children in
    let chance : Bool = is_same_kind Chance top.kind in
    let next = drop_more jobs k 0 c.loop-job-test.true in
    let some = c.loop-job.invariant.2 c.requires.jobs.0 c.requires.jobs.1 in
    let first = next_job tree jobs c.requires.jobs.0 after count c.loop-job.cut k j some next in
    let tells = tells_job tree some.next j first.job top first.is c.node-top.ensures in
    elim c.if-is_cut.branch [
      | then-is_cut+in_ok-push_children w ↦
          let test : (chance && nat_le then most_jobs) ≡ true = sym c.is_cut.ensures ∙ w.if-is_cut.true in
          let cut = (and_parts chance (nat_le then most_jobs) test).0 in
          let few = fits_in chance then most_jobs test in
          let items = ap (λ v. v.items) w.after-is ∙ w.in_ok-push_children.ensures in (
            omega (arith, ap length items, length-append after (children_of tree j), tells.count, w.count-is),
            omega (arith, few, w.count-is),
            λ now are.
                subst (λ a. PassSome tree jobs now a c.if-is_cut.count c.if-is_cut.cut (k + 1)) (sym items)
                (subst (λ n. PassSome tree jobs now (after ++ children_of tree j) n c.if-is_cut.cut (k + 1)) (sym w.count-is)
                (subst (λ b. PassSome tree jobs now (after ++ children_of tree j) then b (k + 1)) (sym w.cut-is)
                (pass_cut tree jobs now after count c.loop-job.cut k j top (c.loop-job.invariant.2 now are) next
                c.node-top.ensures test cut))),
          )
      | else-is_cut+in_ok-push w ↦
          let test : (chance && nat_le then most_jobs) ≡ false = sym c.is_cut.ensures ∙ w.if-is_cut.false in
          let items = ap (λ v. v.items) w.after-is ∙ w.in_ok-push.ensures.items in (
            omega (arith, ap length items, length-append after (j ∷ []), w.count-is),
            omega (arith, w.count-is, c.loop-job.invariant.1),
            λ now are.
                subst (λ a. PassSome tree jobs now a c.if-is_cut.count c.if-is_cut.cut (k + 1)) (sym items)
                (subst (λ n. PassSome tree jobs now (after ++ j ∷ []) n c.if-is_cut.cut (k + 1)) (sym w.count-is)
                (subst (λ b. PassSome tree jobs now (after ++ j ∷ []) count b (k + 1)) (sym w.cut-is)
                (pass_kept tree jobs now after count c.loop-job.cut k j top (c.loop-job.invariant.2 now are) next
                c.node-top.ensures test))),
          )
    ]

pub returns-clause-jobs : goal.returns-clause-jobs
returns-clause-jobs c = λ now are.
    (all_passed c.args.tree.now c.args.jobs.now now c.loop-job.after.items c.loop-job.count c.loop-job.cut
    c.loop-job.job-index (c.loop-job.invariant.2 now are)
    (drop_all c.loop-job.job-index c.args.jobs.now c.loop-job-test.false)).0

pub returns-clause-same : goal.returns-clause-same
returns-clause-same c = λ kept now are.
    (all_passed c.args.tree.now c.args.jobs.now now c.loop-job.after.items c.loop-job.count c.loop-job.cut
    c.loop-job.job-index (c.loop-job.invariant.2 now are)
    (drop_all c.loop-job.job-index c.args.jobs.now c.loop-job-test.false)).1 kept
