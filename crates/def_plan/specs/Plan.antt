-- Realisation plans in whole numbers (von Stengel 1996).
use Rattle.std.specs.Prelude.{◌≡◌, ℕ, zero, suc, ◌+◌, ◌-◌, ◌≤◌, ◌<◌, nat_le, List, [], ◌∷◌, ◌++◌, map, length, take}
use Rattle.std.specs.Prelude.{replicate, slice_index, slice_index_or, All, zip, ◌==◌, ◌&&◌, if◌then◌else◌, Option, Some}
use Rattle.std.specs.Prelude.{None}
use Rattle.std.specs.List.{range_with_len, AllZip}
use Rattle.def_sums.specs.Sum.{nat_sum_over}
use Rattle.def_plan.specs.Form.{InformationSet, PlacedSet, placed, sequences_of, sequence_count}

-- the numbers of a set's sequences add up to the number of the sequence before it
abbrev pub AddsUp : List ℕ → PlacedSet → Type 0
AddsUp plan h = nat_sum_over (λ s. slice_index plan s) (sequences_of h) ≡ slice_index plan h.before

-- a plan of a root weight: a number for each sequence, the root for the empty one; at each set the numbers of its
-- sequences add up to the number of the sequence before it
pub record IsPlan (sets : List InformationSet) (root : ℕ) (plan : List ℕ) : Type 0 where
  pub all_sequences : length plan ≡ sequence_count sets
  pub some_root : 1 ≤ root
  pub root_weight : slice_index plan 0 ≡ root
  pub each_set : All (AddsUp plan) (placed sets)

-- nothing is dealt yet: the root is 0, and so is each number
abbrev pub cleared : List InformationSet → List ℕ
cleared sets = replicate (sequence_count sets) 0

-- a plan, or a cleared one, whose root is 0
abbrev pub IsPlanOrCleared : List InformationSet → ℕ → List ℕ → Type 0
IsPlanOrCleared sets zero plan = plan ≡ cleared sets
IsPlanOrCleared sets (suc root) plan = IsPlan sets (suc root) plan

-- deals the sets in turn: at each one its rule makes of the number of the sequence before it the numbers of its
-- sequences
abbrev pub dealt_onto : List ℕ → List InformationSet → List (ℕ → List ℕ) → List ℕ
dealt_onto plan [] rules = plan
dealt_onto plan (h ∷ hs) [] = plan
dealt_onto plan (h ∷ hs) (rule ∷ rules) = dealt_onto (plan ++ rule (slice_index plan h.before)) hs rules

abbrev pub dealt : ℕ → List InformationSet → List (ℕ → List ℕ) → List ℕ
dealt root sets rules = dealt_onto (root ∷ []) sets rules

-- a rule that deals each number whole to a set's actions
pub record DealsWhole (h : InformationSet) (rule : ℕ → List ℕ) : Type 0 where
  pub each_action : (n : ℕ) → length (rule n) ≡ h.actions
  pub adds_up : (n : ℕ) → nat_sum_over (λ x. x) (rule n) ≡ n

-- at each set the sequences have the numbers that its rule makes of the number of the sequence before it
abbrev pub FollowsRules : List InformationSet → List (ℕ → List ℕ) → List ℕ → Type 0
FollowsRules sets rules plan =
    AllZip (λ h rule. map (λ s. slice_index plan s) (sequences_of h) ≡ rule (slice_index plan h.before)) (placed sets)
    rules

-- the rule that gives all to one action, counted from 1
abbrev pub all_to : ℕ → ℕ → ℕ → List ℕ
all_to actions choice n = map (λ a. if a == choice then n else 0) (range_with_len 1 actions)

-- each choice is one of its set's actions
abbrev pub AreActions : List InformationSet → List ℕ → Type 0
AreActions sets choices = AllZip (λ h choice. (1 ≤ choice) × (choice ≤ h.actions)) sets choices

-- the sequence that a choice at a set leads to
abbrev pub chosen : PlacedSet → ℕ → ℕ
chosen h choice = h.first + (choice - 1)

-- at each set the chosen sequence has the whole number of the sequence before the set, and the others have none of it
abbrev pub FollowsChoices : List InformationSet → List ℕ → List ℕ → Type 0
FollowsChoices sets choices plan =
    AllZip (λ h choice. All (λ s. slice_index plan s ≡ (if s == chosen h choice then slice_index plan h.before else 0))
    (sequences_of h)) (placed sets) choices

-- the plan of root 1 that follows one choice at each set
abbrev pub pure_plan : List InformationSet → List ℕ → List ℕ
pure_plan sets choices = dealt 1 sets (map (λ p. all_to p.0.actions p.1) (zip sets choices))

-- the sum of two plans, sequence by sequence
abbrev pub added : List ℕ → List ℕ → List ℕ
added plan other = map (λ p. p.0 + p.1) (zip plan other)

-- the numbers of all sequences are there, and that of the empty one is the root, which isn't 0
pub record HasRoot (sets : List InformationSet) (root : ℕ) (plan : List ℕ) : Type 0 where
  pub all_sequences : length plan ≡ sequence_count sets
  pub some_root : 1 ≤ root
  pub root_weight : slice_index plan 0 ≡ root

-- the first set, counted from k, whose sequences' numbers don't add up to the one before it
abbrev pub first_not_adding : List ℕ → ℕ → List PlacedSet → Option ℕ
first_not_adding plan k [] = None
first_not_adding plan k (h ∷ hs) =
    (if nat_sum_over (λ s. slice_index plan s) (sequences_of h) == slice_index plan h.before then first_not_adding plan
    (k + 1) hs else Some k)

-- what keeps a list from being a plan: 0 where it has no such root,
-- else the first set at which its numbers don't add up, counted from 1
abbrev pub bad_set : List InformationSet → ℕ → List ℕ → Option ℕ
bad_set sets root plan =
    (if length plan == sequence_count sets && (nat_le 1 root && slice_index plan 0 == root) then first_not_adding plan 1
    (placed sets) else Some 0)

-- the same in words
abbrev pub IsBadSet : List InformationSet → ℕ → List ℕ → ℕ → Type 0
IsBadSet sets root plan zero = ¬ (HasRoot sets root plan)
IsBadSet sets root plan (suc k) =
    HasRoot sets root plan × (k < length sets) × All (AddsUp plan) (take k (placed sets))
    × ((h : PlacedSet) → ¬ (AddsUp plan (slice_index_or (placed sets) k h)))
