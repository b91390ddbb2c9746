-- The players between rounds, and what a round needs of them.
use Rattle.std.specs.Prelude.{◌≡◌, ℕ, ◌+◌, ◌≤◌, ℤ, List, length}
use Rattle.def_sums.specs.Limits.{most_mass, most_root}
use Rattle.def_plan.specs.Form.{AreInOrder, InformationSet, SequenceForm, sequence_count}
use Rattle.def_plan.specs.Plan.{IsPlan, IsPlanOrCleared, added}
use Rattle.def_plan.specs.Payoff.{mass_of}
use Rattle.def_plus.specs.declared.Variant.{Variant}
use Rattle.def_plus.specs.declared.Variant.TheVariants.{Plain, Plus}
use Rattle.def_plus.specs.Cut.{cut}
use Rattle.def_plus.specs.Multiple.{added_times}
use Rattle.def_plus.specs.Variants.{rounds_of}
use Rattle.xg_engine.specs.declared.players.Learner.{Learner}
use Rattle.xg_engine.specs.declared.players.Players.{Players}

-- the sets of both players are in order, and the mass is within its limit
pub record IsSoundForm (form : SequenceForm) : Type 0 where
  pub order_one : AreInOrder form.sets_one
  pub order_two : AreInOrder form.sets_two
  pub small_mass : mass_of form.leaves ≤ most_mass

-- there is room for the numbers of all of the player's sequences
pub record HasRoomForSequences (sets : List InformationSet) (learner : Learner) : Type 0 where
  pub regrets : length learner.regrets.of_sequences ≡ sequence_count sets
  pub play : length learner.play ≡ sequence_count sets
  pub plan : length learner.plan ≡ sequence_count sets
  pub sums : length learner.sum ≡ sequence_count sets

-- a sum of plans that one more of this root can be added to
pub record CanGrow (sets : List InformationSet) (more : ℕ) (plan : List ℕ) : Type 0 where
  pub root : ℕ
  pub order : AreInOrder sets
  pub is_sum : IsPlanOrCleared sets root plan
  pub limit : root + more ≤ most_root

-- the player has these regrets, after so many rounds, and this sum of plans
pub record StandsWith (sets : List InformationSet) (closed : ℕ) (regrets : List ℤ) (sums : List ℕ)
    (learner : Learner) : Type 0 where
  pub room : HasRoomForSequences sets learner
  pub regrets_are : learner.regrets.of_sequences ≡ regrets
  pub closed_are : learner.regrets.closed ≡ closed
  pub sums_are : learner.sum ≡ sums

-- both players stand as after so many rounds of the variant with plans of this root, with room for the rows of the next
pub record StandAfter (variant : Variant) (form : SequenceForm) (root n : ℕ) (players : Players) : Type 0 where
  pub one : StandsWith form.sets_one n (rounds_of variant form root n).regrets_one
      (rounds_of variant form root n).sum_one players.one
  pub two : StandsWith form.sets_two n (rounds_of variant form root n).regrets_two
      (rounds_of variant form root n).sum_two players.two
  pub rows_one : length players.rows.one ≡ sequence_count form.sets_one
  pub rows_two : length players.rows.two ≡ sequence_count form.sets_two

-- how many times the plan of a round counts in the sum
abbrev pub times_of : Variant → ℕ → ℕ
times_of Plain round = 1
times_of Plus round = round

-- a sum with the plan of a round
abbrev pub sum_with : Variant → ℕ → List ℕ → List ℕ → List ℕ
sum_with Plain round sum plan = added sum plan
sum_with Plus round sum plan = added_times sum plan round

-- what is kept of regrets after a round
abbrev pub regrets_kept : Variant → List ℤ → List ℤ
regrets_kept Plain regrets = regrets
regrets_kept Plus regrets = cut regrets

-- a plan with numbers within the limit of a sum of plans
pub record IsSmallPlan (sets : List InformationSet) (plan : List ℕ) : Type 0 where
  pub root : ℕ
  pub order : AreInOrder sets
  pub is_plan : IsPlan sets root plan
  pub limit : root ≤ most_root
