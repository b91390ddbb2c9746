-- How a set's shares are written into a play.
use Rattle.std.specs.Prelude.{◌≡◌, ℕ, ◌+◌, ◌<◌, ◌≤◌, ℤ, List, length, map, slice_index}
use Rattle.def_plan.specs.Form.{PlacedSet, sequences_of}
use Rattle.def_round.specs.Play.{positive_part, regret_of}

-- the positive parts of a set's regrets
abbrev pub positive_parts : List ℤ → PlacedSet → List ℕ
positive_parts regrets h = map (λ s. positive_part (regret_of regrets s)) (sequences_of h)

-- the n sequences from `first` on have the first n of these shares, and all others have what they had
pub record PlaysFirst (first n : ℕ) (shares before after : List ℕ) : Type 0 where
  pub count : length after ≡ length before
  pub given : (i : ℕ) → i < n → slice_index after (first + i) ≡ slice_index shares i
  pub earlier : (s : ℕ) → s < first → slice_index after s ≡ slice_index before s
  pub later : (s : ℕ) → first + n ≤ s → slice_index after s ≡ slice_index before s

-- a set's sequences have the shares, and all others have what they had
abbrev pub PlaysSet : PlacedSet → List ℕ → List ℕ → List ℕ → Type 0
PlaysSet h shares before after = PlaysFirst h.first h.actions shares before after
