-- What adding up groups needs, and what it leaves.
use Rattle.std.specs.Prelude.{◌≡◌, ℕ, ◌+◌, ◌*◌, ◌<◌, ◌≤◌, max, List, All, length, slice_index, ℤ, ◌+ℤ◌, unsigned_abs}
use Rattle.def_sums.specs.Limits.{past_number}
use Rattle.def_plan.specs.FormRows.{amount_of}
use Rattle.xg_jobs.specs.Groups.{GroupLeaf, greatest_of, group_at, group_sum, groups_mass, parts_sum}

-- so many groups have room in rows below a limit, where their own sequences and those of the other player have numbers
pub record CanAddGroups (limit : ℕ) (starts : List ℕ) (entries : List GroupLeaf) (one two : List ℕ) (count : ℕ)
    (rows : List ℤ) : Type 0 where
  pub ordered : (s : ℕ) → s < count → slice_index starts s ≤ slice_index starts (s + 1)
  pub inside : (s : ℕ) → s < count → slice_index starts (s + 1) ≤ length entries
  pub all_starts : count + 1 ≡ length starts
  pub ones : count ≡ length one
  pub twos : length rows ≡ length two
  pub within : (s : ℕ) → s < count → All (λ e. e.other < length two) (group_at starts entries s)
  pub small : max (greatest_of one) (greatest_of two) < past_number
  pub room : (b : ℕ) → unsigned_abs (amount_of rows b) + groups_mass starts entries count
      * max (greatest_of one) (greatest_of two) < limit

-- each group's sum against the other player's numbers, and the other player's rows with what the groups bring to them
pub record AddsGroups (starts : List ℕ) (entries : List GroupLeaf) (one two : List ℕ) (own before after : List ℤ) : Type
    0 where
  pub sums : (s : ℕ) → s < length own → amount_of own s ≡ group_sum two (group_at starts entries s)
  pub parts : (b : ℕ) → amount_of after b ≡ amount_of before b +ℤ parts_sum starts entries one (length own) b
