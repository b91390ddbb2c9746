-- How large the numbers of a round can be: everything stays within the sum of the sizes of a player's leaf sums.
use Rattle.std.specs.Prelude.{ℕ, ◌*◌, ◌≤◌, ℤ, pos, ◌-ℤ◌, ◌*ℤ◌, unsigned_abs, List, All, slice_index}
use Rattle.def_sums.specs.Sum.{nat_sum_over}
use Rattle.def_sums.specs.Limits.{most_mass, most_scale, most_rounds}
use Rattle.def_plan.specs.Form.{InformationSet, PlacedSet, placed, sequences_of, sequences, SequenceForm}
use Rattle.def_plan.specs.Payoff.{worth, mass_of}
use Rattle.def_round.specs.Play.{units, regret_of, regret_sum}
use Rattle.def_round.specs.Rounds.{Standing}

-- the sum of the sizes of a player's leaf sums
abbrev pub size_of_sums : (ℕ → ℤ) → List InformationSet → ℕ
size_of_sums sums sets = nat_sum_over (λ s. unsigned_abs (sums s)) (sequences sets)

-- at a set: its value, what it adds to a regret, the worths of its sequences together,
-- and the products of play and worth together
pub record IsWithin (bound : ℕ) (sums : ℕ → ℤ) (play : List ℕ) (sets : List InformationSet) (values : List ℤ)
    (h : PlacedSet) (value : ℤ) : Type 0 where
  pub its_value : unsigned_abs value ≤ bound
  pub worths : nat_sum_over (λ s. unsigned_abs (worth sums (placed sets) values s)) (sequences_of h) ≤ bound
  pub each_growth : All (λ s. unsigned_abs (worth sums (placed sets) values s -ℤ value) ≤ bound) (sequences_of h)
  pub products : nat_sum_over (λ s. unsigned_abs (pos (slice_index play s) *ℤ worth sums (placed sets) values s))
      (sequences_of h) ≤ units * bound

-- no regret of either player is larger
pub record RegretsAreWithin (bound : ℕ) (standing : Standing) : Type 0 where
  pub of_one : (s : ℕ) → unsigned_abs (regret_of standing.regrets_one s) ≤ bound
  pub of_two : (s : ℕ) → unsigned_abs (regret_of standing.regrets_two s) ≤ bound

-- the limits of a game and of a run: the mass of the weights, the root of each plan, and the number of rounds
pub record IsWithinRunLimits (form : SequenceForm) (root n : ℕ) : Type 0 where
  pub small_mass : mass_of form.leaves ≤ most_mass
  pub small_root : root ≤ most_scale
  pub few_rounds : n ≤ most_rounds

-- all units times the sum of the weights by which a set is played
abbrev pub dealt_product : List ℤ → PlacedSet → ℕ
dealt_product regrets h = units * regret_sum regrets h
