-- A player's regrets between rounds.
use Rattle.std.specs.Prelude.{◌≡◌, ℕ, ◌+◌, ◌*◌, ◌≤◌, ℤ, pos, unsigned_abs, List, length, replicate, Option, Some, None}
use Rattle.std.specs.Prelude.{IfSome}
use Rattle.def_sums.specs.Limits.{most_rounds, most_round_row, most_small_rows}
use Rattle.def_plan.specs.Form.{InformationSet, sequence_count}
use Rattle.def_round.specs.Play.{regret_of}

-- the regrets of all sequences, and how many rounds were closed
pub record RegretsSoFar : Type 0 where
  pub of_sequences : List ℤ
  pub closed : ℕ

-- before the first round
abbrev pub none_so_far : List InformationSet → RegretsSoFar
none_so_far sets = record { of_sequences = replicate (sequence_count sets) (pos 0); closed = 0 }

-- the regrets as they are kept: the small ones, as long as it is known how large they can be
abbrev pub kept_regrets : Option ℕ → List ℤ → List ℤ → List ℤ
kept_regrets (Some _) small wide = small
kept_regrets None small wide = wide

-- where it is known how large small regrets can be, none is larger, and all have room in 64 bits
abbrev pub AreWithin : Option ℕ → List ℤ → Type 0
AreWithin most small = IfSome most (λ most. (most ≤ most_small_rows)
    × ((s : ℕ) → unsigned_abs (regret_of small s) ≤ most))

-- how large small regrets can be after a round whose rows have these sizes together
pub record IsMostAfter (most sizes : Option ℕ) (more : ℕ) : Type 0 where
  pub before : ℕ
  pub grown : ℕ
  pub before_is : most ≡ Some before
  pub grown_is : sizes ≡ Some grown
  pub sum : more ≡ before + grown
  pub small : more ≤ most_small_rows

-- there is room for as many worths, the empty sequence has no regret,
-- no regret is larger than 2 ^ 82 for each round, and small ones are within what is known of them
pub record KeepsRegrets (most : Option ℕ) (small wide worths small_worths : List ℤ) (rounds : ℕ) : Type 0 where
  pub room : length worths ≡ length wide
  pub small_room : length small_worths ≡ length wide
  pub small_count : length small ≡ length wide
  pub none_of_empty : regret_of (kept_regrets most small wide) 0 ≡ pos 0
  pub few_rounds : rounds ≤ most_rounds
  pub sizes : (s : ℕ) → unsigned_abs (regret_of (kept_regrets most small wide) s) ≤ rounds * most_round_row
  pub within : AreWithin most small
