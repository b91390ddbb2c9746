use Rattle.std.proofs.Common.{◌≡◌, ◌-◌, ◌*◌, ◌^◌, ◌≤◌, ℤ, ◌+ℤ◌, unsigned_abs, length, FitsSigned, to_z, of_z, ap, arith, rules, subst, sym, ◌∙◌}
use mir.Syntax.{w128}
use Rattle.std.proofs.lemmas.Int.{to_z-of_z}
use Rattle.def_tree.specs.Opponent.{opponent}
use Rattle.def_sums.proofs.RingLaws.{unsigned_abs-+ℤ}
use Rattle.def_plan.specs.Threads.{next_leaf, paid_at_leaf, sequence_of_leaf}
use Rattle.xg_seq.specs.Leaves.{leaf_of}
use Rattle.xg_check.specs.ThreadSums.{IsNumberWithin, sum_on}
use Rattle.xg_check.proofs.ThreadSums.{leaf_there, next_behind_own, small_behind, sum_here, there_behind}
use Rattle.xg_check.proofs.adding.sum_from.Goals as goal

pub paid_at_leaf-paid-requires-clause-there : goal.paid_at_leaf-paid-requires-clause-there
paid_at_leaf-paid-requires-clause-there c =
    omega (
      arith,
      leaf_there c.args.form.now (opponent c.args.player) c.args.z (leaf_of c.leaf.result) c.leaf_count.ensures.sequences c.requires.from_one
          c.requires.there c.leaf.ensures,
      c.requires.against,
    )

pub sum_on-requires : goal.sum_on-requires
sum_on-requires c =
    let leaves = c.args.form.now.leaves in
    let player = c.args.player in
    subst (IsNumberWithin (length c.args.sums.now)) (sym c.next_leaf.ensures)
    (there_behind player (sequence_of_leaf player c.args.z leaves) c.args.z leaves c.args.against.now c.args.sums.now (next_leaf player c.args.z leaves)
    c.requires.sums (next_behind_own player leaves c.args.against.now c.args.z c.requires.there))

pub plus-requires : goal.plus-requires
plus-requires c =
    let leaves = c.args.form.now.leaves in
    let player = c.args.player in
    let against = c.args.against.now in
    let sums = c.args.sums.now in
    let z = c.args.z in
    let paid : ℤ = to_z w128 (of_z w128 c.paid_at_leaf-paid.result) in
    let on : ℤ = to_z w128 (of_z w128 c.sum_on.result) in
    let fits_paid : FitsSigned w128 c.paid_at_leaf-paid.result = search rules in
    let fits_on : FitsSigned w128 c.sum_on.result = search rules in
    let paid_is : paid ≡ c.paid_at_leaf-paid.result = to_z-of_z w128 c.paid_at_leaf-paid.result fits_paid in
    let on_is : on ≡ sum_on sums (next_leaf player z leaves) = to_z-of_z w128 c.sum_on.result fits_on ∙ c.sum_on.ensures
    ∙ ap (sum_on sums) c.next_leaf.ensures in
    let small : unsigned_abs (sum_on sums (next_leaf player z leaves)) ≤ (length leaves - z) * 2 ^ 99 =
    small_behind player (sequence_of_leaf player z leaves) z leaves against sums (next_leaf player z leaves) c.requires.behind
    (next_behind_own player leaves against z c.requires.there) in
    omega (
      arith,
      unsigned_abs-+ℤ paid on,
      ap unsigned_abs paid_is,
      ap unsigned_abs on_is,
      small,
      c.paid_at_leaf-paid.ensures.small,
      c.leaf_count.ensures.count,
      c.leaf_count.ensures.limit,
    )

pub returns-clause-sum : goal.returns-clause-sum
returns-clause-sum c =
    let leaves = c.args.form.now.leaves in
    let player = c.args.player in
    let against = c.args.against.now in
    let sums = c.args.sums.now in
    let z = c.args.z in
    let fits_paid : FitsSigned w128 c.paid_at_leaf-paid.result = search rules in
    let fits_on : FitsSigned w128 c.sum_on.result = search rules in
    let paid_is : to_z w128 (of_z w128 c.paid_at_leaf-paid.result) ≡ c.paid_at_leaf-paid.result = to_z-of_z w128 c.paid_at_leaf-paid.result fits_paid in
    let on_is : to_z w128 (of_z w128 c.sum_on.result) ≡ c.sum_on.result = to_z-of_z w128 c.sum_on.result fits_on in
    let on : c.sum_on.result ≡ sum_on sums (next_leaf player z leaves) = c.sum_on.ensures ∙ ap (sum_on sums) c.next_leaf.ensures in
    let more : c.plus.result ≡ paid_at_leaf player against (leaf_of c.leaf.result) +ℤ sum_on sums (next_leaf player z leaves) =
    cc (paid_is, on_is, on, c.plus.ensures, c.paid_at_leaf-paid.ensures.value) in
    let fits : FitsSigned w128 c.plus.result = search rules in
    to_z-of_z w128 c.plus.result fits ∙ more ∙ sum_here player leaves against sums z (leaf_of c.leaf.result) c.requires.from_one c.requires.there c.leaf.ensures
    c.requires.behind

pub returns-clause-small : goal.returns-clause-small
returns-clause-small c =
    let leaves = c.args.form.now.leaves in
    let player = c.args.player in
    let against = c.args.against.now in
    let sums = c.args.sums.now in
    let z = c.args.z in
    let paid : ℤ = to_z w128 (of_z w128 c.paid_at_leaf-paid.result) in
    let on : ℤ = to_z w128 (of_z w128 c.sum_on.result) in
    let fits_paid : FitsSigned w128 c.paid_at_leaf-paid.result = search rules in
    let fits_on : FitsSigned w128 c.sum_on.result = search rules in
    let paid_is : paid ≡ c.paid_at_leaf-paid.result = to_z-of_z w128 c.paid_at_leaf-paid.result fits_paid in
    let on_is : on ≡ sum_on sums (next_leaf player z leaves) = to_z-of_z w128 c.sum_on.result fits_on ∙ c.sum_on.ensures
    ∙ ap (sum_on sums) c.next_leaf.ensures in
    let small : unsigned_abs (sum_on sums (next_leaf player z leaves)) ≤ (length leaves - z) * 2 ^ 99 =
    small_behind player (sequence_of_leaf player z leaves) z leaves against sums (next_leaf player z leaves) c.requires.behind
    (next_behind_own player leaves against z c.requires.there) in
    let fits : FitsSigned w128 c.plus.result = search rules in
    omega (
      arith,
      ap unsigned_abs (to_z-of_z w128 c.plus.result fits),
      ap unsigned_abs c.plus.ensures,
      unsigned_abs-+ℤ paid on,
      ap unsigned_abs paid_is,
      ap unsigned_abs on_is,
      small,
      c.paid_at_leaf-paid.ensures.small,
      c.requires.from_one,
      c.requires.there,
    )
