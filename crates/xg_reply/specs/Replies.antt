-- Best replies to rows of numbers, and what they are to the plan that they answer.
use Rattle.std.specs.Prelude.{ℕ, ◌-◌, List, map, slice_index_or, ℤ}
use Rattle.def_tree.specs.declared.Player.{Player}
use Rattle.def_tree.specs.declared.Player.TheVariants.{One, Two}
use Rattle.def_plan.specs.Form.{InformationSet, PlacedSet, SequenceForm, placed, player_sets, sequences_of}
use Rattle.def_plan.specs.Plan.{pure_plan}
use Rattle.def_reply.specs.Bounds.{AttainsCeiling, AttainsFloor, IsCeiling, IsFloor}
use Rattle.def_reply.specs.Reply.{Reply, SetReply, best_of, best_reply, choices_of, first_with, total}

-- the whole best reply to leaf sums
abbrev pub reply_to_sums : Player → (ℕ → ℤ) → List InformationSet → Reply
reply_to_sums player sums sets = record {
  total = total sums sets (best_reply player sums sets);
  sets = best_reply player sums sets;
}

-- the reply at a set whose sequences are worth so much
abbrev pub reply_by : Player → (ℕ → ℤ) → PlacedSet → SetReply
reply_by player worth_of h =
    let value = best_of player (map worth_of (sequences_of h)) in
    record { value = value; choice = first_with value (map worth_of (sequences_of h)) }

-- the set of a number from 1 on, in its place; a set with no sequences where there is none
abbrev pub placed_set : List InformationSet → ℕ → PlacedSet
placed_set sets number = slice_index_or (placed sets) (number - 1) (record { first = 0; before = 0; actions = 0 })

-- what a plan is sure of against a player: player one's best payoff is a ceiling of player two's plan, and what player
-- two leaves is a floor of player one's
abbrev pub IsBound : Player → SequenceForm → List ℕ → ℤ → Type 0
IsBound One form plan bound = IsCeiling form plan bound
IsBound Two form plan bound = IsFloor form plan bound

abbrev pub AttainsBound : Player → SequenceForm → List ℕ → ℤ → List ℕ → Type 0
AttainsBound One form plan bound reply = AttainsCeiling form plan bound reply
AttainsBound Two form plan bound reply = AttainsFloor form plan bound reply

-- the total of a player's reply bounds the plan that it answers, and the plan of its choices attains this bound
pub record IsAttainedBound (player : Player) (form : SequenceForm) (plan : List ℕ) (reply : Reply) : Type 0 where
  pub bound : IsBound player form plan reply.total
  pub attained : AttainsBound player form plan reply.total (pure_plan (player_sets form player) (choices_of reply.sets))
