-- Groups in which all leaves with the same pair of sequences are one entry.
use Rattle.std.specs.Prelude.{◌≡◌, ℕ, ◌+◌, ◌-◌, ◌^◌, ◌<◌, ◌≤◌, ◌==◌, if◌then◌else◌, List, length, All, slice_index, map}
use Rattle.std.specs.Prelude.{take, drop, pos, ◌+ℤ◌, unsigned_abs}
use Rattle.def_tree.specs.Rules.{most_nodes}
use Rattle.xg_jobs.specs.Groups.{GroupLeaf, HaveOwnSequences, group_at, group_mass, weight_with}

-- a group whose leaves may stand for those of another one: the same weights for each sequence of the other player, no
-- more mass, no other sequences, and none of them twice
pub record MayReplace (group leaves : List GroupLeaf) : Type 0 where
  pub weights : (b : ℕ) → weight_with b group ≡ weight_with b leaves
  pub mass : group_mass group ≤ group_mass leaves
  pub within : (others : ℕ) → All (λ e. e.other < others) leaves → All (λ e. e.other < others) group
  pub once : HaveOwnSequences group

-- groups one behind the other, of leaves that have sequences of the other player, who has so many; the sizes of each
-- group's weights together are within 63 bits
pub record CanMerge (starts : List ℕ) (entries : List GroupLeaf) (others : ℕ) : Type 0 where
  pub some : 1 ≤ length starts
  pub ordered : (s : ℕ) → s + 1 < length starts → slice_index starts s ≤ slice_index starts (s + 1)
  pub inside : (s : ℕ) → s < length starts → slice_index starts s ≤ length entries
  pub within : (s : ℕ) → s + 1 < length starts → All (λ e. e.other < others) (group_at starts entries s)
  pub light : (s : ℕ) → s + 1 < length starts → group_mass (group_at starts entries s) < 2 ^ 63
  pub limit : length entries ≤ most_nodes

-- there is room for a leaf with any sequence and a weight of at most this size
abbrev pub HasRoomUpTo : (GroupLeaf → Type 0) → ℕ → Type 0
HasRoomUpTo HasRoom mass = (e : GroupLeaf) → unsigned_abs e.weight ≤ mass → HasRoom e

-- the places tell of each entry from one on where that of its sequence is
abbrev pub TellPlaces : ℕ → List ℕ → List GroupLeaf → Type 0
TellPlaces begin places entries = (i : ℕ) → begin ≤ i → i < length entries
    → slice_index places (slice_index (map (λ e. e.other) entries) i) ≡ i

-- a leaf more in the group from a place on
pub record TakesLeaf (begin : ℕ) (e : GroupLeaf) (old new : List GroupLeaf) : Type 0 where
  pub front : take begin new ≡ take begin old
  pub longer : length old ≤ length new
  pub shorter : length new ≤ length old + 1
  pub weights : (b : ℕ)
      → weight_with b (drop begin new) ≡ weight_with b (drop begin old) +ℤ (if e.other == b then e.weight else pos 0)
  pub mass : group_mass (drop begin new) ≤ group_mass (drop begin old) + unsigned_abs e.weight
  pub within : (others : ℕ) → All (λ e. e.other < others) (drop begin old) → e.other < others
      → All (λ e. e.other < others) (drop begin new)

-- a group more, which stands for these leaves
pub record TakesGroup (leaves old new : List GroupLeaf) : Type 0 where
  pub front : take (length old) new ≡ old
  pub longer : length old ≤ length new
  pub shorter : length new ≤ length old + length leaves
  pub stands : MayReplace (drop (length old) new) leaves

-- each of the first n groups stands for the same one of others, and there are no other entries
pub record MergedUpto (n : ℕ) (starts : List ℕ) (entries : List GroupLeaf) (old_starts : List ℕ)
    (old_entries : List GroupLeaf) : Type 0 where
  pub count : length starts ≡ length old_starts
  pub last : slice_index starts n ≡ length entries
  pub ordered : (s : ℕ) → s < n → slice_index starts s ≤ slice_index starts (s + 1)
  pub inside : (s : ℕ) → s ≤ n → slice_index starts s ≤ length entries
  pub each : (s : ℕ) → s < n → MayReplace (group_at starts entries s) (group_at old_starts old_entries s)
  pub few : length entries ≤ slice_index old_starts n

abbrev pub AreMerged : List ℕ → List GroupLeaf → List ℕ → List GroupLeaf → Type 0
AreMerged starts entries old_starts old_entries = MergedUpto (length old_starts - 1) starts entries old_starts
    old_entries
