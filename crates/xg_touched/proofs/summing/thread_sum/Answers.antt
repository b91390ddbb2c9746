use Rattle.std.proofs.Common.{◌≡◌, ℕ, ◌+◌, ◌^◌, ◌<◌, ℤ, ◌+ℤ◌, unsigned_abs, FitsSigned, to_z, of_z, pos, None, ap, sym, ◌∙◌, arith, rules}
use mir.Syntax.{w128}
use Rattle.std.proofs.lemmas.Int.{to_z-of_z}
use Rattle.def_sums.proofs.RingLaws.{+ℤ-zero}
use Rattle.def_plan.specs.Payoff.{leaf_sum}
use Rattle.def_plan.specs.Threads.{first_leaf_from, sequence_of_leaf}
use Rattle.xg_touched.specs.Threads.{leaves_after}
use Rattle.xg_touched.proofs.Following.{next_goes_on, none_left}
use Rattle.xg_touched.proofs.Sizes.{next_added}
use Rattle.xg_touched.proofs.summing.thread_sum.Goals as goal

pub leaf_product-sum-requires-in-Some-clause-from_one : goal.leaf_product-sum-requires-in-Some-clause-from_one
leaf_product-sum-requires-in-Some-clause-from_one c =
    let at = c.thread.invariant in
    let step = next_goes_on _ _ c.args.against.now _ _ _ _ _ at.within c.requires.there at.own c.next_within.ensures c.in-Some.is in
    omega (arith, step.after)

pub leaf_product-sum-requires-in-Some-clause-there : goal.leaf_product-sum-requires-in-Some-clause-there
leaf_product-sum-requires-in-Some-clause-there c =
    let at = c.thread.invariant in
    let step = next_goes_on _ _ c.args.against.now _ _ _ _ _ at.within c.requires.there at.own c.next_within.ensures c.in-Some.is in
    omega (arith, step.within, c.requires.there)

pub overflow_add-sum : goal.overflow_add-sum
overflow_add-sum c =
    let at = c.thread.invariant in
    let step = next_goes_on _ _ c.args.against.now _ _ _ _ _ at.within c.requires.there at.own c.next_within.ensures c.in-Some.is in
    let fits : FitsSigned w128 c.leaf_product-sum-in-Some.result = search rules in
    let product = to_z-of_z w128 c.leaf_product-sum-in-Some.result fits ∙ c.leaf_product-sum-in-Some.ensures in
    let added = next_added _ _ _ _ _ _ _ _ _ step c.requires.small c.facts.ensures.mass product at.sum in
    let part : ℤ = to_z w128 c.thread.sum-bits +ℤ to_z w128 (of_z w128 c.leaf_product-sum-in-Some.result) in
    let small : unsigned_abs part < 2 ^ 127 = added.0 in
    search rules

pub thread-smaller : goal.thread-smaller
thread-smaller c =
    let at = c.thread.invariant in
    let step = next_goes_on _ _ c.args.against.now _ _ _ _ _ at.within c.requires.there at.own c.next_within.ensures c.in-Some.is in
    omega (arith, step.after, step.within)

pub thread-preserved : goal.thread-preserved
thread-preserved c =
    let at = c.thread.invariant in
    let step = next_goes_on _ _ c.args.against.now _ _ _ _ _ at.within c.requires.there at.own c.next_within.ensures c.in-Some.is in
    let fits : FitsSigned w128 c.leaf_product-sum-in-Some.result = search rules in
    let product = to_z-of_z w128 c.leaf_product-sum-in-Some.result fits ∙ c.leaf_product-sum-in-Some.ensures in
    let added = next_added _ _ _ _ _ _ _ _ _ step c.requires.small c.facts.ensures.mass product at.sum in
    let part : ℤ = to_z w128 c.thread.sum-bits +ℤ to_z w128 (of_z w128 c.leaf_product-sum-in-Some.result) in
    let small : unsigned_abs part < 2 ^ 127 = added.0 in
    let fits_part : FitsSigned w128 part = search rules in
    let s : ℕ = sequence_of_leaf c.args.player c.args.leaf c.args.form.now.leaves in
    let rest = leaf_sum c.args.player (leaves_after c.args.form.now.leaves c.in-Some.next c.args.last) c.args.against.now s in
    record {
      from_one = omega (arith, at.from_one, step.after);
      within = step.within;
      own = step.own;
      sum = ap (λ (a : ℤ). a +ℤ rest) (to_z-of_z w128 part fits_part) ∙ added.1;
    }

pub returns : goal.returns
returns c =
    let player = c.args.player in
    let leaves = c.args.form.now.leaves in
    let z : ℕ = c.thread.z in
    let s : ℕ = sequence_of_leaf player c.args.leaf leaves in
    let rest = leaves_after leaves z c.args.last in
    let none : first_leaf_from player s (z + 1) rest ≡ None =
    ap (λ k. first_leaf_from player k (z + 1) rest) (sym c.thread.invariant.own) ∙ sym c.next_within.ensures ∙ c.in_default.is in
    let nothing : leaf_sum player rest c.args.against.now s ≡ pos 0 = none_left player s (z + 1) rest c.args.against.now none in
    sym (+ℤ-zero (to_z w128 c.thread.sum-bits)) ∙ ap (λ (a : ℤ). to_z w128 c.thread.sum-bits +ℤ a) (sym nothing) ∙ c.thread.invariant.sum
