use Rattle.std.proofs.Common.{ℕ, ◌<◌, All, List, length, map, ap, subst, sym, arith}
use Rattle.def_plan.specs.Form.{leaf_sequence}
use Rattle.def_tree.specs.declared.Player.TheVariants.{One, Two}
use Rattle.xg_seq.specs.declared.leaf.Leaf.{Leaf}
use Rattle.xg_seq.specs.Leaves.{leaf_of}
use Rattle.xg_seq.specs.Threads.{KeepsThreads}
use Rattle.xg_seq.proofs.ThreadLemmas.{leaves_in_limit, sequences_below}
use Rattle.xg_seq.proofs.form.SeqForm.with_threads.Goals as goal

pub threads_of-requires-clause-there : goal.threads_of-requires-clause-there
threads_of-requires-clause-there c =
    subst (λ (zs : List Leaf). All (λ (z : Leaf). leaf_sequence One (leaf_of z) < c.sequence_count.result) zs) (sym c.deref.ensures.value)
    (sequences_below c.args.parts.one c.args.parts.two c.args.parts.leaves.items One c.sequence_count.result c.requires c.sequence_count.ensures.count)

pub threads_of-requires-clause-few : goal.threads_of-requires-clause-few
threads_of-requires-clause-few c =
    omega (arith, leaves_in_limit c.args.parts.one c.args.parts.two c.args.parts.leaves.items c.requires, ap (length {A = Leaf}) c.deref.ensures.value)

pub threads_of-requires-2-clause-there : goal.threads_of-requires-2-clause-there
threads_of-requires-2-clause-there c =
    subst (λ (zs : List Leaf). All (λ (z : Leaf). leaf_sequence Two (leaf_of z) < c.sequence_count-2.result) zs) (sym c.deref-2.ensures.value)
    (sequences_below c.args.parts.one c.args.parts.two c.args.parts.leaves.items Two c.sequence_count-2.result c.requires c.sequence_count-2.ensures.count)

pub threads_of-requires-2-clause-few : goal.threads_of-requires-2-clause-few
threads_of-requires-2-clause-few c =
    omega (arith, leaves_in_limit c.args.parts.one c.args.parts.two c.args.parts.leaves.items c.requires, ap (length {A = Leaf}) c.deref-2.ensures.value)

pub invariant_of-result : goal.invariant_of-result
invariant_of-result c = record {
  leaves = c.requires;
  one =
      subst (λ (n : ℕ). KeepsThreads One n (map leaf_of c.args.parts.leaves.items) c.in_ok-threads_one.threads_one.first.items
      c.in_ok-threads_one.threads_one.next.items) c.sequence_count.ensures.count
      (subst (λ (zs : List Leaf). KeepsThreads One c.sequence_count.result (map leaf_of zs) c.in_ok-threads_one.threads_one.first.items
      c.in_ok-threads_one.threads_one.next.items) c.deref.ensures.value c.in_ok-threads_one.ensures);
  two =
      subst (λ (n : ℕ). KeepsThreads Two n (map leaf_of c.args.parts.leaves.items) c.in_ok-threads_two.threads_two.first.items
      c.in_ok-threads_two.threads_two.next.items) c.sequence_count-2.ensures.count
      (subst (λ (zs : List Leaf). KeepsThreads Two c.sequence_count-2.result (map leaf_of zs) c.in_ok-threads_two.threads_two.first.items
      c.in_ok-threads_two.threads_two.next.items) c.deref-2.ensures.value c.in_ok-threads_two.ensures);
}
