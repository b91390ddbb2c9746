-- What holds of best replies and bounds. Each is the contract of a function of this crate.
use Rattle.std.specs.Prelude.{◌≡◌, ℕ, ◌+◌, ◌≤◌, ◌<◌, ◌==◌, List, drop, filter, zip, ℤ, pos, ◌*ℤ◌, ◌≤ℤ◌, unsigned_abs}
use Rattle.std.specs.Prelude.{All}
use Rattle.def_tree.specs.declared.Player.{Player}
use Rattle.def_tree.specs.declared.Player.TheVariants.{One, Two}
use Rattle.def_sums.specs.Sum.{nat_sum_over}
use Rattle.def_sums.specs.Limits.{most_mass, most_root, most_row}
use Rattle.def_plan.specs.Form.{InformationSet, placed, sequence_count, sequences, AreInOrder, SequenceForm}
use Rattle.def_plan.specs.Plan.{IsPlan, pure_plan}
use Rattle.def_plan.specs.Payoff.{AgreeOn, gain, leaf_sum, mass_of, IsNoBetter}
use Rattle.def_reply.specs.Reply.{SetReply, values_of, choices_of, replies_at, best_reply, total, AreTight}
use Rattle.def_reply.specs.Reply.{AreFirstTight}
use Rattle.def_reply.specs.Bounds.{IsFloor, IsCeiling, AttainsFloor, AttainsCeiling}

-- the best reply is the one solution of its equations, and its part from a set on is the reply at those sets alone
pub record RepliesSolveTheirEquations : Type 0 where
  pub solves : (player : Player) (sums : ℕ → ℤ) (sets : List InformationSet) → AreInOrder sets
      → AreFirstTight player sums sets (best_reply player sums sets)
  pub only : (player : Player) (sums : ℕ → ℤ) (sets : List InformationSet) (replies : List SetReply)
      → AreInOrder sets → AreFirstTight player sums sets replies → replies ≡ best_reply player sums sets
  pub from_set : (player : Player) (sums : ℕ → ℤ) (sets : List InformationSet) (k : ℕ)
      → drop k (best_reply player sums sets) ≡ replies_at player sums (drop k (placed sets))

-- a reply needs the sums at its player's own sequences alone
pub record RepliesNeedOwnSums : Type 0 where
  pub replies : (player : Player) (sums other : ℕ → ℤ) (sets : List InformationSet) → AgreeOn sets sums other
      → best_reply player sums sets ≡ best_reply player other sets
  pub totals : (sums other : ℕ → ℤ) (sets : List InformationSet) (replies : List SetReply) → AgreeOn sets sums other
      → total sums sets replies ≡ total other sets replies
  pub tight : (player : Player) (sums other : ℕ → ℤ) (sets : List InformationSet) (replies : List SetReply)
      → AgreeOn sets sums other
      → AreTight player sums sets replies → AreTight player other sets replies

-- values and choices that are tight bound every plan of every root by their total, and the plan of the choices gains
-- just that, whoever wrote them
pub record TightRepliesAreOptimal : Type 0 where
  pub bound : (player : Player) (sums : ℕ → ℤ) (sets : List InformationSet) (replies : List SetReply) (root : ℕ)
      (plan : List ℕ)
      → AreTight player sums sets replies → IsPlan sets root plan
      → IsNoBetter player (gain sums sets plan) (pos root *ℤ total sums sets replies)
  pub is_plan : (player : Player) (sums : ℕ → ℤ) (sets : List InformationSet) (replies : List SetReply)
      → AreInOrder sets → AreTight player sums sets replies → IsPlan sets 1 (pure_plan sets (choices_of replies))
  pub gained : (player : Player) (sums : ℕ → ℤ) (sets : List InformationSet) (replies : List SetReply)
      → AreInOrder sets → AreTight player sums sets replies
      → gain sums sets (pure_plan sets (choices_of replies)) ≡ total sums sets replies

-- the same of the best reply
pub record BestRepliesAreOptimal : Type 0 where
  pub bound : (player : Player) (sums : ℕ → ℤ) (sets : List InformationSet) (root : ℕ) (plan : List ℕ)
      → AreInOrder sets → IsPlan sets root plan
      → IsNoBetter player (gain sums sets plan) (pos root *ℤ total sums sets (best_reply player sums sets))
  pub is_plan : (player : Player) (sums : ℕ → ℤ) (sets : List InformationSet)
      → AreInOrder sets → IsPlan sets 1 (pure_plan sets (choices_of (best_reply player sums sets)))
  pub gained : (player : Player) (sums : ℕ → ℤ) (sets : List InformationSet)
      → AreInOrder sets
      → gain sums sets (pure_plan sets (choices_of (best_reply player sums sets)))
      ≡ total sums sets (best_reply player sums sets)

-- tight replies to a plan's leaf sums show an attained floor of player one's plan,
-- and an attained ceiling of player two's
pub record TightRepliesGiveBounds : Type 0 where
  pub floor : (form : SequenceForm) (plan_one : List ℕ) (replies : List SetReply)
      → AreInOrder form.sets_two → AreTight Two (leaf_sum Two form.leaves plan_one) form.sets_two replies
      → IsFloor form plan_one (total (leaf_sum Two form.leaves plan_one) form.sets_two replies)
  pub floor_attained : (form : SequenceForm) (plan_one : List ℕ) (replies : List SetReply)
      → AreInOrder form.sets_two → AreTight Two (leaf_sum Two form.leaves plan_one) form.sets_two replies
      → AttainsFloor form plan_one (total (leaf_sum Two form.leaves plan_one) form.sets_two replies)
      (pure_plan form.sets_two (choices_of replies))
  pub ceiling : (form : SequenceForm) (plan_two : List ℕ) (replies : List SetReply)
      → AreInOrder form.sets_one → AreTight One (leaf_sum One form.leaves plan_two) form.sets_one replies
      → IsCeiling form plan_two (total (leaf_sum One form.leaves plan_two) form.sets_one replies)
  pub ceiling_attained : (form : SequenceForm) (plan_two : List ℕ) (replies : List SetReply)
      → AreInOrder form.sets_one → AreTight One (leaf_sum One form.leaves plan_two) form.sets_one replies
      → AttainsCeiling form plan_two (total (leaf_sum One form.leaves plan_two) form.sets_one replies)
      (pure_plan form.sets_one (choices_of replies))

-- the totals of the best replies to a plan are its attained floor and ceiling
pub record BestRepliesGiveBounds : Type 0 where
  pub floor : (form : SequenceForm) (plan_one : List ℕ) → AreInOrder form.sets_two
      → let sums = leaf_sum Two form.leaves plan_one in IsFloor form plan_one
      (total sums form.sets_two (best_reply Two sums form.sets_two))
  pub floor_attained : (form : SequenceForm) (plan_one : List ℕ) → AreInOrder form.sets_two
      → let sums = leaf_sum Two form.leaves plan_one in
      AttainsFloor form plan_one (total sums form.sets_two (best_reply Two sums form.sets_two))
      (pure_plan form.sets_two (choices_of (best_reply Two sums form.sets_two)))
  pub ceiling : (form : SequenceForm) (plan_two : List ℕ) → AreInOrder form.sets_one
      → let sums = leaf_sum One form.leaves plan_two in IsCeiling form plan_two
      (total sums form.sets_one (best_reply One sums form.sets_one))
  pub ceiling_attained : (form : SequenceForm) (plan_two : List ℕ) → AreInOrder form.sets_one
      → let sums = leaf_sum One form.leaves plan_two in
      AttainsCeiling form plan_two (total sums form.sets_one (best_reply One sums form.sets_one))
      (pure_plan form.sets_one (choices_of (best_reply One sums form.sets_one)))

-- no floor is above an attained number, and no ceiling below:
-- an attained floor is the greatest one, an attained ceiling the least
pub record AttainedBoundsAreBest : Type 0 where
  pub floor : (form : SequenceForm) (plan_one plan_two : List ℕ) (floor attained : ℤ)
      → IsFloor form plan_one floor → AttainsFloor form plan_one attained plan_two → floor ≤ℤ attained
  pub ceiling : (form : SequenceForm) (plan_one plan_two : List ℕ) (ceiling attained : ℤ)
      → IsCeiling form plan_two ceiling → AttainsCeiling form plan_two attained plan_one → attained ≤ℤ ceiling

-- no floor of a plan of player one is above a ceiling of a plan of player two, each divided by its plan's root
abbrev pub FloorsAreBelowCeilings : Type 0
FloorsAreBelowCeilings =
    (form : SequenceForm) (root_one root_two : ℕ) (plan_one plan_two : List ℕ) (floor ceiling : ℤ)
    → IsPlan form.sets_one root_one plan_one → IsPlan form.sets_two root_two plan_two → IsFloor form plan_one floor
    → IsCeiling form plan_two ceiling
    → (pos root_two *ℤ floor) ≤ℤ (pos root_one *ℤ ceiling)

-- no value, no worth and no total of a best reply is larger than the leaf sums together,
-- nor is any part of the sum that a worth is
pub record RepliesAreSmall : Type 0 where
  pub values : (player : Player) (sums : ℕ → ℤ) (sets : List InformationSet) → AreInOrder sets
      → All (λ r. unsigned_abs r.value ≤ nat_sum_over (λ s. unsigned_abs (sums s)) (sequences sets))
      (best_reply player sums sets)
  pub worths : (player : Player) (sums : ℕ → ℤ) (sets : List InformationSet) (s : ℕ) → AreInOrder sets
      → s < sequence_count sets
      → unsigned_abs (sums s) + nat_sum_over (λ p. unsigned_abs p.1)
      (filter (λ p. p.0.before == s) (zip (placed sets) (values_of (best_reply player sums sets))))
      ≤ nat_sum_over (λ s. unsigned_abs (sums s)) (sequences sets)
  pub totals : (player : Player) (sums : ℕ → ℤ) (sets : List InformationSet) → AreInOrder sets
      → unsigned_abs (total sums sets (best_reply player sums sets))
      ≤ nat_sum_over (λ s. unsigned_abs (sums s)) (sequences sets)

-- under the limits of mass and root every floor and ceiling of best replies is at most 2 ^ 98
pub record BoundsAreSmall : Type 0 where
  pub floor : (form : SequenceForm) (root : ℕ) (plan_one : List ℕ) → AreInOrder form.sets_one → AreInOrder form.sets_two
      → IsPlan form.sets_one root plan_one → mass_of form.leaves ≤ most_mass → root ≤ most_root
      → let sums = leaf_sum Two form.leaves plan_one in unsigned_abs
      (total sums form.sets_two (best_reply Two sums form.sets_two)) ≤ most_row
  pub ceiling : (form : SequenceForm) (root : ℕ) (plan_two : List ℕ) → AreInOrder form.sets_one
      → AreInOrder form.sets_two
      → IsPlan form.sets_two root plan_two → mass_of form.leaves ≤ most_mass → root ≤ most_root
      → let sums = leaf_sum One form.leaves plan_two in unsigned_abs
      (total sums form.sets_one (best_reply One sums form.sets_one)) ≤ most_row
