-- Best replies by sequences (von Stengel 1996). All worths and values are in player one's payoff.
use Rattle.std.specs.Prelude.{◌≡◌, ◌≢◌, ℕ, ◌+◌, ◌≤◌, ◌<◌, List, [], ◌∷◌, map, ℤ, pos, All, if◌then◌else◌}
use Rattle.std.specs.Int.{int_max, int_min}
use Rattle.std.specs.Ordering.{int_eq}
use Rattle.std.specs.List.{AllZip}
use Rattle.def_tree.specs.declared.Player.{Player}
use Rattle.def_tree.specs.declared.Player.TheVariants.{One, Two}
use Rattle.def_plan.specs.Form.{InformationSet, PlacedSet, SequenceForm, placed, sequences_of, player_sets}
use Rattle.def_plan.specs.Plan.{chosen}
use Rattle.def_plan.specs.Payoff.{leaf_sum, worth, IsNoBetter}

-- a reply at one set: the set's value, and the action that is chosen there, counted from 1
pub record SetReply : Type 0 where
  pub value : ℤ
  pub choice : ℕ

abbrev pub values_of : List SetReply → List ℤ
values_of replies = map (λ r. r.value) replies

abbrev pub choices_of : List SetReply → List ℕ
choices_of replies = map (λ r. r.choice) replies

-- player one takes the greater of two worths, player two the smaller
abbrev pub better : Player → ℤ → ℤ → ℤ
better One a b = int_max a b
better Two a b = int_min a b

abbrev pub best_of : Player → List ℤ → ℤ
best_of player [] = pos 0
best_of player (w ∷ []) = w
best_of player (w ∷ v ∷ ws) = better player w (best_of player (v ∷ ws))

-- the place of the first worth that is the value, counted from 1
abbrev pub first_with : ℤ → List ℤ → ℕ
first_with value [] = 1
first_with value (w ∷ ws) = if int_eq w value then 1 else first_with value ws + 1

-- the best reply to leaf sums at sets, where each set's sequences have only later sets after them
abbrev pub replies_at : Player → (ℕ → ℤ) → List PlacedSet → List SetReply
replies_at player sums [] = []
replies_at player sums (h ∷ hs) =
    let later = replies_at player sums hs in
    let worths = map (worth sums hs (values_of later)) (sequences_of h) in
    let value = best_of player worths in
    record { value = value; choice = first_with value worths } ∷ later

abbrev pub best_reply : Player → (ℕ → ℤ) → List InformationSet → List SetReply
best_reply player sums sets = replies_at player sums (placed sets)

-- the total of a reply: the worth of the empty sequence
abbrev pub total : (ℕ → ℤ) → List InformationSet → List SetReply → ℤ
total sums sets replies = worth sums (placed sets) (values_of replies) 0

-- a whole reply: its total, and the reply at each set
pub record Reply : Type 0 where
  pub total : ℤ
  pub sets : List SetReply

-- a player's best reply to a plan of the other player
abbrev pub best_reply_to : SequenceForm → Player → List ℕ → Reply
best_reply_to form player plan =
    let sums : ℕ → ℤ = leaf_sum player form.leaves plan in
    record {
      total = total sums (player_sets form player) (best_reply player sums (player_sets form player));
      sets = best_reply player sums (player_sets form player);
    }

-- at a set no action is worth more to the player than the value, and the chosen one is worth just that
pub record IsTight (player : Player) (worth_of : ℕ → ℤ) (h : PlacedSet) (reply : SetReply) : Type 0 where
  pub no_better : All (λ s. IsNoBetter player (worth_of s) reply.value) (sequences_of h)
  pub an_action : (1 ≤ reply.choice) × (reply.choice ≤ h.actions)
  pub reached : worth_of (chosen h reply.choice) ≡ reply.value

-- and no earlier action is
pub record IsFirstTight (player : Player) (worth_of : ℕ → ℤ) (h : PlacedSet) (reply : SetReply) : Type 0 where
  pub tight : IsTight player worth_of h reply
  pub first : (choice : ℕ) → 1 ≤ choice → choice < reply.choice → worth_of (chosen h choice) ≢ reply.value

-- values and choices that hold up against all leaf sums and each other, as a certificate shows them
abbrev pub AreTight : Player → (ℕ → ℤ) → List InformationSet → List SetReply → Type 0
AreTight player sums sets replies = AllZip (IsTight player (worth sums (placed sets) (values_of replies))) (placed sets)
    replies

-- the equations of the best reply
abbrev pub AreFirstTight : Player → (ℕ → ℤ) → List InformationSet → List SetReply → Type 0
AreFirstTight player sums sets replies = AllZip (IsFirstTight player (worth sums (placed sets) (values_of replies)))
    (placed sets) replies
