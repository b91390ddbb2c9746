-- One player's pass over the groups: when they can be written, and what it needs of them.
use Rattle.std.proofs.Common.{◌≡◌, ℕ, ◌+◌, ◌*◌, ◌<◌, ◌≤◌, max, List, length, slice_index, map, ℤ, pos, unsigned_abs, All}
use Rattle.std.proofs.Common.{sym, ap, subst, arith}
use Rattle.std.proofs.lemmas.List.{length-map}
use Rattle.def_sums.specs.Limits.{most_mass, most_root, past_number}
use Rattle.def_tree.specs.declared.Player.TheVariants.{One}
use Rattle.def_plan.specs.Form.{SequenceForm, sequence_count}
use Rattle.xg_seq.specs.Leaves.{HasSequences}
use Rattle.xg_jobs.specs.Entries.{KeepsGroups}
use Rattle.xg_jobs.specs.Groups.{GroupLeaf, group_at, groups_mass, greatest_of}
use Rattle.xg_jobs.specs.Grouping.{GroupedWeights, pair_weights, weights_in}
use Rattle.xg_jobs.specs.Writing.{CanWrite}
use Rattle.xg_jobs.proofs.FormRows.{all_groups, can_write, room_for}
use Rattle.xg_jobs.proofs.Greatest.{at_most_greatest, greatest_within}

-- groups that a table keeps can be written by one player's numbers alone, where there is room
pub can_write_alone : {bound : ℕ} {starts there : List ℕ} {entries leaves : List GroupLeaf} {form : SequenceForm} {x : List ℕ}
    {others mass : ℕ} {told : GroupedWeights} → KeepsGroups starts entries others mass
    → record { weights = weights_in starts entries others; mass = mass } ≡ told → told.weights ≡ pair_weights form One
    → All (HasSequences form) form.leaves → there ≡ starts → leaves ≡ entries
    → (told.mass ≤ most_mass → told.mass * greatest_of x < bound)
    → CanWrite bound there leaves form x x
can_write_alone {x} {told} kept view told_is known starts_are entries_are room =
    let same : max (greatest_of x) (greatest_of x) ≡ greatest_of x = grind arith in
    can_write kept view told_is known starts_are entries_are (λ light. omega (arith, ap (λ k. told.mass * k) same, room light))

-- what one player's pass over the groups needs of them, and that a row of 0 has room
module _ {X : Type 0} (leaf : X → GroupLeaf) {bound : ℕ} {starts : List ℕ} (items : List X) {form : SequenceForm} {x : List ℕ}
    (can : CanWrite bound starts (map leaf items) form x x) {n : ℕ} (own : n ≡ sequence_count form.sets_one) where
  every_start : n + 1 ≡ length starts
  every_start = omega (arith, own, all_groups bound starts (map leaf items) form x x can)

  pub can_pass : {Room : Type 0} {others : ℕ} → others ≡ sequence_count form.sets_two → All (λ k. k ≤ most_root) x → Room
      → ((s : ℕ) → s < n → slice_index starts s ≤ slice_index starts (s + 1))
      × (((s : ℕ) → s < n → slice_index starts (s + 1) ≤ length items)
      × ((n + 1 ≡ length starts)
      × (((s : ℕ) → s < n → All (λ e. e.other < others) (group_at starts (map leaf items) s))
      × (((b : ℕ) → slice_index x b ≤ greatest_of x) × ((greatest_of x < past_number) × Room)))))
  can_pass others_are small room =
      let low_most : greatest_of x ≤ most_root = greatest_within x most_root small in (
        λ s low. can.kept.ordered s (omega (arith, every_start)),
        (
          λ s low. omega (arith, can.kept.inside (s + 1) (omega (arith, every_start)), length-map items leaf),
          (
            every_start,
            (
              λ s low.
                  subst (λ m. All (λ e. e.other < m) (group_at starts (map leaf items) s)) (sym others_are) (can.kept.within s (omega (arith, every_start))),
              (at_most_greatest x, (omega (arith, low_most), room)),
            ),
          ),
        ),
      )

  pub pass_room : (row : ℤ) → row ≡ pos 0
      → unsigned_abs row + groups_mass starts (map leaf items) n * greatest_of x < bound
  pass_room row zero =
      let same : max (greatest_of x) (greatest_of x) ≡ greatest_of x = grind arith in
      omega (arith, ap (λ k. groups_mass starts (map leaf items) n * k) same, room_for bound starts (map leaf items) form x x can row n zero every_start)
