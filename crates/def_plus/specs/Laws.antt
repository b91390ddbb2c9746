-- What holds of cut regrets, of plans that count several times, and of the weights of rounds. Each is the contract of a
-- function of this crate.
use Rattle.std.specs.Prelude.{◌≡◌, ℕ, ◌+◌, ◌*◌, ◌≤◌, List, length, slice_index, ℤ, pos, ◌≤ℤ◌, unsigned_abs}
use Rattle.std.specs.Int.{int_max}
use Rattle.std.specs.List.{range_with_len}
use Rattle.def_sums.specs.Sum.{nat_sum_over}
use Rattle.def_sums.specs.Limits.{most_root}
use Rattle.def_plan.specs.Form.{InformationSet, sequence_count}
use Rattle.def_plan.specs.Plan.{IsPlan, cleared, IsPlanOrCleared, added}
use Rattle.def_round.specs.Play.{regret_of, play_of}
use Rattle.def_plus.specs.Cut.{cut}
use Rattle.def_plus.specs.Multiple.{multiple, added_times}
use Rattle.def_plus.specs.Weights.{total_weight}
use Rattle.def_plus.specs.Limits.{most_plus_rounds, most_plus_scale}

-- a cut regret is the greater of 0 and the regret: a negative one is 0, and the others stay.
-- So a cut neither adds to a size nor changes what is played next
pub record CutRegretsAreExact : Type 0 where
  pub all_sequences : (regrets : List ℤ) → length (cut regrets) ≡ length regrets
  pub greater : (regrets : List ℤ) (s : ℕ) → regret_of (cut regrets) s ≡ int_max (pos 0) (regret_of regrets s)
  pub negative : (regrets : List ℤ) (s : ℕ) → regret_of regrets s ≤ℤ pos 0 → regret_of (cut regrets) s ≡ pos 0
  pub others : (regrets : List ℤ) (s : ℕ) → pos 0 ≤ℤ regret_of regrets s → regret_of (cut regrets) s
      ≡ regret_of regrets s
  pub sizes : (regrets : List ℤ) (s : ℕ) → unsigned_abs (regret_of (cut regrets) s) ≤ unsigned_abs (regret_of regrets s)
  pub same_play : (sets : List InformationSet) (regrets : List ℤ) → play_of sets (cut regrets) ≡ play_of sets regrets

-- a plan that is added several times adds so many times its numbers, and is the sum of so many additions
pub record PlansAreAddedTimes : Type 0 where
  pub each_number : (sum plan : List ℕ) (times s : ℕ) → length sum ≡ length plan
      → slice_index (added_times sum plan times) s ≡ slice_index sum s + times * slice_index plan s
  pub all_sequences : (sum plan : List ℕ) (times : ℕ) → length sum ≡ length plan
      → length (added_times sum plan times) ≡ length sum
  pub none : (sum plan : List ℕ) → length sum ≡ length plan → added_times sum plan 0 ≡ sum
  pub once : (sum plan : List ℕ) → added_times sum plan 1 ≡ added sum plan
  pub once_more : (sum plan : List ℕ) (times : ℕ) → length sum ≡ length plan
      → added_times sum plan (times + 1) ≡ added (added_times sum plan times) plan

-- what plans and cleared ones make with such additions is a plan or cleared, and the roots are added likewise
pub record SumsOfMultiplesArePlans : Type 0 where
  pub is_plan : (sets : List InformationSet) (root other_root : ℕ) (sum plan : List ℕ) (times : ℕ)
      → IsPlan sets root sum → IsPlan sets other_root plan
      → IsPlan sets (root + times * other_root) (added_times sum plan times)
  pub multiples : (sets : List InformationSet) (root : ℕ) (plan : List ℕ) (times : ℕ) → 1 ≤ times
      → IsPlan sets root plan
      → IsPlan sets (times * root) (multiple times plan)
  pub cleared_plan : (sets : List InformationSet) (sum : List ℕ) (times : ℕ) → length sum ≡ sequence_count sets
      → added_times sum (cleared sets) times ≡ sum
  pub sums : (sets : List InformationSet) (root other_root : ℕ) (sum plan : List ℕ) (times : ℕ)
      → IsPlanOrCleared sets root sum → IsPlanOrCleared sets other_root plan
      → IsPlanOrCleared sets (root + times * other_root) (added_times sum plan times)

-- round k weighs k, so the rounds up to n weigh 1 + 2 + .. + n
pub record RoundsWeighTheirNumbers : Type 0 where
  pub sum : (n : ℕ) → total_weight n ≡ nat_sum_over (λ k. k) (range_with_len 1 n)
  pub begins : total_weight 0 ≡ 0
  pub goes_on : (n : ℕ) → total_weight (n + 1) ≡ total_weight n + (n + 1)
  pub in_order : (m n : ℕ) → m ≤ n → total_weight m ≤ total_weight n
  pub some : (n : ℕ) → 1 ≤ n → 1 ≤ total_weight n
  pub within_limits : (root n : ℕ) → root ≤ most_plus_scale → n ≤ most_plus_rounds → total_weight n * root ≤ most_root
