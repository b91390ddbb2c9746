-- The leaves that a table's entries are, and what the table keeps of them.
use Rattle.std.specs.Prelude.{◌≡◌, ℕ, ◌+◌, ◌-◌, ◌<◌, ◌≤◌, List, length, map, All, slice_index}
use Rattle.def_sums.specs.Limits.{most_mass}
use Rattle.def_tree.specs.declared.Player.TheVariants.{One}
use Rattle.def_plan.specs.Form.{SequenceForm, sequence_count}
use Rattle.def_plan.specs.Payoff.{mass_of}
use Rattle.xg_jobs.specs.declared.entry.SmallEntry.{SmallEntry}
use Rattle.xg_jobs.specs.declared.entry.TinyEntry.{TinyEntry}
use Rattle.xg_jobs.specs.declared.entry.WideEntry.{WideEntry}
use Rattle.xg_jobs.specs.declared.entry.GroupEntries.{GroupEntries}
use Rattle.xg_jobs.specs.declared.entry.GroupEntries.TheVariants.{Small, Tiny, Wide}
use Rattle.xg_jobs.specs.Groups.{GroupLeaf, HaveOwnSequences, IsSmall, IsTiny, group_at, groups_mass}
use Rattle.xg_jobs.specs.Grouping.{pair_weights, weights_in}

abbrev pub tiny_leaf : TinyEntry → GroupLeaf
tiny_leaf e = record { other = e.other; weight = e.weight }

abbrev pub small_leaf : SmallEntry → GroupLeaf
small_leaf e = record { other = e.other; weight = e.weight }

abbrev pub wide_leaf : WideEntry → GroupLeaf
wide_leaf e = record { other = e.other; weight = e.weight }

abbrev pub leaves_of_group : GroupEntries → List GroupLeaf
leaves_of_group (Tiny entries) = map tiny_leaf entries.items
leaves_of_group (Small entries) = map small_leaf entries.items
leaves_of_group (Wide entries) = map wide_leaf entries.items

-- no smaller entries have room for all of them
abbrev pub AreSmallest : GroupEntries → Type 0
AreSmallest (Tiny _) = Unit {0}
AreSmallest (Small entries) = All (λ e. IsTiny (small_leaf e)) entries.items → ⊥
AreSmallest (Wide entries) = (All (λ e. IsSmall (wide_leaf e)) entries.items → ⊥)
    × (All (λ e. IsTiny (wide_leaf e)) entries.items → ⊥)

-- each group begins where the one before it ends, none goes on behind the last entry; its leaves have sequences of the
-- other player, who has so many, and the sizes of all weights together are no more than the mass
pub record KeepsGroups (starts : List ℕ) (entries : List GroupLeaf) (others mass : ℕ) : Type 0 where
  pub some : 2 ≤ length starts
  pub ordered : (s : ℕ) → s + 1 < length starts → slice_index starts s ≤ slice_index starts (s + 1)
  pub inside : (s : ℕ) → s < length starts → slice_index starts s ≤ length entries
  pub within : (s : ℕ) → s + 1 < length starts → All (λ e. e.other < others) (group_at starts entries s)
  pub total : groups_mass starts entries (length starts - 1) ≤ mass
  pub light : mass ≤ most_mass

-- no group has two entries with the same sequence of the other player
abbrev pub AreMergedGroups : List ℕ → List GroupLeaf → Type 0
AreMergedGroups starts entries = (s : ℕ) → s + 1 < length starts → HaveOwnSequences (group_at starts entries s)

-- the leaves of each of player one's sequences, and nothing but them
pub record AreGroupsOf (form : SequenceForm) (starts : List ℕ) (entries : List GroupLeaf) : Type 0 where
  pub keeps : KeepsGroups starts entries (sequence_count form.sets_two) (mass_of form.leaves)
  pub weights : weights_in starts entries (sequence_count form.sets_two) ≡ pair_weights form One
  pub merged : AreMergedGroups starts entries
