-- The sums over the groups, and what they add to the rows of player two, are the rows of the form.
use Rattle.std.proofs.Common.{◌≡◌, ℕ, ◌+◌, ◌-◌, ◌*◌, ◌^◌, ◌<◌, ◌≤◌, max, List, [], length, get_or, ℤ, pos, unsigned_abs, ◌+ℤ◌, ◌*ℤ◌, All}
use Rattle.std.proofs.Common.{sym, ap, subst, ◌∙◌, arith}
use Rattle.std.proofs.lemmas.List.{ext_get_or}
use Rattle.std.proofs.lemmas.List.FromFn.{get_or-map-range_with_len, length-map-range_with_len}
use Rattle.std.proofs.Math.Nat.{mul-le-mul, mul-le-mul_right}
use Rattle.def_sums.specs.Limits.{most_mass, most_root}
use Rattle.def_sums.proofs.RingLaws.{zero-+ℤ}
use Rattle.def_sums.proofs.SumLaws.{sum_over-map}
use Rattle.def_tree.specs.declared.Player.TheVariants.{One, Two}
use Rattle.def_plan.specs.Form.{SequenceForm, sequence_count}
use Rattle.def_plan.specs.FormRows.{amount_of, player_rows}
use Rattle.def_plan.proofs.Rows.{player_rows_are_leaf_sums}
use Rattle.xg_seq.specs.Leaves.{HasSequences}
use Rattle.xg_jobs.specs.Entries.{KeepsGroups}
use Rattle.xg_jobs.specs.Groups.{GroupLeaf, group_at, group_sum, groups_mass, greatest_of, parts_sum, weights_of}
use Rattle.xg_jobs.specs.Grouping.{GroupedWeights, entries_with, entry_of, leaves_of_sequence, pair_weights, weights_in}
use Rattle.xg_jobs.specs.Writing.{CanWrite}
use Rattle.xg_jobs.proofs.Building.{entries_within}
use Rattle.xg_jobs.proofs.Columns.{parts_are_leaf_sum}
use Rattle.xg_jobs.proofs.PairWeights.{same_sum, weights_count}

-- as many groups as player one has sequences
group_count : (form : SequenceForm) (starts : List ℕ) (entries : List GroupLeaf) (others : ℕ)
    → weights_in starts entries others ≡ pair_weights form One
    → length starts - 1 ≡ sequence_count form.sets_one
group_count form starts entries others is =
    sym (length-map-range_with_len (λ s. weights_of others (group_at starts entries s)) 0 (length starts - 1)) ∙ ap length is
    ∙ length-map-range_with_len (λ s. weights_of (sequence_count form.sets_two) (entries_with One s form.leaves)) 0 (sequence_count form.sets_one)

-- each group has the weights of its sequence's leaves
group_weights : (form : SequenceForm) (starts : List ℕ) (entries : List GroupLeaf) (others s : ℕ)
    → weights_in starts entries others ≡ pair_weights form One → s < sequence_count form.sets_one
    → weights_of others (group_at starts entries s)
    ≡ weights_of (sequence_count form.sets_two) (entries_with One s form.leaves)
group_weights form starts entries others s is low =
    let count = group_count form starts entries others is in
    sym (get_or-map-range_with_len (λ t. weights_of others (group_at starts entries t)) 0 (length starts - 1) s s [] (omega arith) (omega arith))
    ∙ ap (λ xs. get_or xs s []) is
    ∙ get_or-map-range_with_len (λ t. weights_of (sequence_count form.sets_two) (entries_with One t form.leaves)) 0 (sequence_count form.sets_one) s s [] low
    (omega arith)

-- groups that a table keeps can be written, where there is room
pub can_write : {bound : ℕ} {starts there : List ℕ} {entries leaves : List GroupLeaf} {form : SequenceForm} {x y : List ℕ}
    {others mass : ℕ} {told : GroupedWeights} → KeepsGroups starts entries others mass
    → record { weights = weights_in starts entries others; mass = mass } ≡ told → told.weights ≡ pair_weights form One
    → All (HasSequences form) form.leaves → there ≡ starts → leaves ≡ entries
    → (told.mass ≤ most_mass → told.mass * max (greatest_of x) (greatest_of y) < bound)
    → CanWrite bound there leaves form x y
can_write {bound} {starts} {there} {entries} {leaves} {form} {x} {y} {others} {mass} {told} kept view told_is known starts_are entries_are room =
    subst (λ a. CanWrite bound a leaves form x y) (sym starts_are) (
    subst (λ b. CanWrite bound starts b form x y) (sym entries_are) (
    let is : weights_in starts entries others ≡ pair_weights form One = ap (λ (g : GroupedWeights). g.weights) view ∙ told_is in
    let others_is : others ≡ sequence_count form.sets_two =
    sym (weights_count others (group_at starts entries 0)) ∙ ap length (group_weights form starts entries others 0 is (omega arith))
    ∙ weights_count (sequence_count form.sets_two) (entries_with One 0 form.leaves) in
    record {
      mass = mass;
      kept = subst (λ n. KeepsGroups starts entries n mass) others_is kept;
      weights = subst (λ n. weights_in starts entries n ≡ pair_weights form One) others_is is;
      known = known;
      room = subst (λ (g : GroupedWeights). (g.mass ≤ most_mass → g.mass * max (greatest_of x) (greatest_of y) < bound)) (sym view) room kept.light;
    }
    ))

-- there always is in 128 bits
pub wide_room : (mass most : ℕ) → most ≤ most_root → mass ≤ most_mass → mass * most < 2 ^ 127
wide_room mass most low light =
    let both = mul-le-mul light low in
    omega (arith, both)

module _ (bound : ℕ) (starts : List ℕ) (entries : List GroupLeaf) (form : SequenceForm) (x y : List ℕ)
    (can : CanWrite bound starts entries form x y) where
  pub all_groups : length starts ≡ sequence_count form.sets_one + 1
  all_groups = let some = can.kept.some in omega (arith, group_count form starts entries (sequence_count form.sets_two) can.weights)

  -- a row of 0 has room for the parts of all groups
  pub room_for : (row : ℤ) (n : ℕ) → row ≡ pos 0 → n + 1 ≡ length starts
      → unsigned_abs row + groups_mass starts entries n * max (greatest_of x) (greatest_of y) < bound
  room_for row n zero all =
      let most : ℕ = max (greatest_of x) (greatest_of y) in
      let n_is : n ≡ length starts - 1 = omega (arith, all) in
      let light : groups_mass starts entries n ≤ can.mass = omega (arith, ap (groups_mass starts entries) n_is, can.kept.total) in
      let scaled : groups_mass starts entries n * most ≤ can.mass * most = mul-le-mul_right most light in
      omega (arith, ap unsigned_abs zero, scaled, can.room)

  -- the sums are player one's rows
  pub own_rows : (sums : List ℤ) → length sums ≡ sequence_count form.sets_one
      → ((s : ℕ) → s < sequence_count form.sets_one → amount_of sums s ≡ group_sum y (group_at starts entries s))
      → sums ≡ player_rows form One y
  own_rows sums size each =
      let n : ℕ = sequence_count form.sets_two in
      let rows = player_rows_are_leaf_sums form One y in
      ext_get_or (pos 0) sums (player_rows form One y) (size ∙ sym rows.count)
      (λ s low.
      let inside : s < sequence_count form.sets_one = omega arith in
      each s inside
      ∙ same_sum y n (group_at starts entries s) (entries_with One s form.leaves) (can.kept.within s (omega (arith, all_groups)))
      (entries_within form One s can.known) (group_weights form starts entries n s can.weights inside)
      ∙ sum_over-map (λ e. e.weight *ℤ pos (get_or y e.other 0)) (entry_of One) (leaves_of_sequence One s form.leaves)
      ∙ sym (rows.each_row s inside))

  -- what the groups add to rows of 0 are player two's rows
  pub other_rows : (sums : List ℤ) → length sums ≡ sequence_count form.sets_two
      → ((b : ℕ) → amount_of sums b ≡ parts_sum starts entries x (sequence_count form.sets_one) b)
      → sums ≡ player_rows form Two x
  other_rows sums size each =
      let n : ℕ = sequence_count form.sets_two in
      let rows = player_rows_are_leaf_sums form Two x in
      ext_get_or (pos 0) sums (player_rows form Two x) (size ∙ sym rows.count)
      (λ b low.
      each b
      ∙ parts_are_leaf_sum starts entries x (sequence_count form.sets_one) n b form.leaves
      (λ s below. group_weights form starts entries n s can.weights (omega arith))
      (λ k d below. (can.known k d below).one) (omega arith)
      ∙ sym (rows.each_row b (omega arith)))

-- from a row of 0 on
pub from_zero : (after before part : ℤ) → before ≡ pos 0 → after ≡ before +ℤ part → after ≡ part
from_zero after before part zero adds = adds ∙ ap (λ v. v +ℤ part) zero ∙ zero-+ℤ part
