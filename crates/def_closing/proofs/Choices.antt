-- Plans that follow a choice at each set, whether it is a best one or not: what they gain by the values of their choices.
use Rattle.std.proofs.Common.{◌≡◌, ℕ, ◌+◌, ◌≤◌, ◌<◌, cond, eqb, List, [], ◌∷◌, slice_index, get_or, All, arith, sym, ◌∙◌}
use Rattle.std.specs.Prelude.{ℤ}
use Rattle.std.specs.List.{AllZip}
use Rattle.std.proofs.lemmas.List.Elements.{All-head, All-tail}
use Rattle.def_sums.proofs.RingLaws.{one-*ℤ}
use Rattle.def_plan.specs.Form.{InformationSet, PlacedSet, placed_from, placed, sequences_of, IsInOrder, AreInOrder}
use Rattle.def_plan.specs.Plan.{IsPlan, AreActions, chosen, pure_plan}
use Rattle.def_plan.specs.Payoff.{gain, worth}
use Rattle.def_plan.proofs.Duality.{complementary_slackness_lem}
use Rattle.def_plan.proofs.Choices.{pure_plan-is_plan, pure_plan-follows}
use Rattle.def_reply.specs.Reply.{SetReply, values_of, choices_of}
use Rattle.def_reply.proofs.Equations.{worth-later}
use Rattle.def_reply.proofs.Optimal.{only_chosen}

-- a choice is an action, and the value is what that action is worth
pub record IsFollowed (w : ℕ → ℤ) (h : PlacedSet) (r : SetReply) : Type 0 where
  pub some : 1 ≤ r.choice
  pub within : r.choice ≤ h.actions
  pub reached : w (chosen h r.choice) ≡ r.value

-- so it is at each set, with the worths that the later choices give
abbrev pub FollowsFrom : (ℕ → ℤ) → List PlacedSet → List SetReply → Type 0
FollowsFrom sums [] [] = Unit
FollowsFrom sums [] (r ∷ rs) = ⊥
FollowsFrom sums (h ∷ hs) [] = ⊥
FollowsFrom sums (h ∷ hs) (r ∷ rs) = IsFollowed (worth sums hs (values_of rs)) h r × FollowsFrom sums hs rs

-- the same with the worths that all choices give
followed-same : (w w' : ℕ → ℤ) (from : ℕ) → ((s : ℕ) → from ≤ s → w s ≡ w' s) → (h : PlacedSet) (r : SetReply)
    → from ≤ h.first → IsFollowed w h r → IsFollowed w' h r
followed-same w w' from same h r le f = record { some = f.some; within = f.within; reached = sym (same (chosen h r.choice) (omega arith)) ∙ f.reached }

all_same : (w w' : ℕ → ℤ) (from : ℕ) → ((s : ℕ) → from ≤ s → w s ≡ w' s) → (first : ℕ) (hs : List InformationSet) (rs : List SetReply)
    → from ≤ first → AllZip (IsFollowed w) (placed_from first hs) rs → AllZip (IsFollowed w') (placed_from first hs) rs
all_same w w' from same first [] [] le f = f
all_same w w' from same first [] (r ∷ rs) le f = f
all_same w w' from same first (h ∷ hs) [] le f = f
all_same w w' from same first (h ∷ hs) (r ∷ rs) le f = (
  followed-same w w' from same (record { first = first; before = h.before; actions = h.actions }) r le f.0,
  all_same w w' from same (first + h.actions) hs
      rs (omega arith) f.1,
)

all_followed : (sums : ℕ → ℤ) (first : ℕ) (hs : List InformationSet) (rs : List SetReply)
    → All IsInOrder (placed_from first hs) → FollowsFrom sums (placed_from first hs) rs
    → AllZip (IsFollowed (worth sums (placed_from first hs) (values_of rs))) (placed_from first hs) rs
all_followed sums first [] [] order f = tt
all_followed sums first [] (r ∷ rs) order f = elim f [ ]
all_followed sums first (h ∷ hs) [] order f = elim f [ ]
all_followed sums first (h ∷ hs) (r ∷ rs) order f =
    let here : PlacedSet = record { first = first; before = h.before; actions = h.actions } in
    let rest : List PlacedSet = placed_from (first + h.actions) hs in
    let ordered = All-head IsInOrder here rest order in
    let same : (s : ℕ) → first ≤ s → worth sums rest (values_of rs) s ≡ worth sums (here ∷ rest) (r.value ∷ values_of rs) s =
    λ s le. sym (worth-later sums here rest r.value (values_of rs) s (omega arith)) in (
      followed-same (worth sums rest (values_of rs)) (worth sums (here ∷ rest) (r.value ∷ values_of rs)) first same here r (omega arith) f.0,
      all_same (worth sums rest (values_of rs)) (worth sums (here ∷ rest) (r.value ∷ values_of rs)) first same (first + h.actions) hs rs (omega arith)
          (all_followed sums (first + h.actions) hs rs (All-tail IsInOrder here rest order) f.1),
    )

actions : (w : ℕ → ℤ) (first : ℕ) (hs : List InformationSet) (rs : List SetReply)
    → AllZip (IsFollowed w) (placed_from first hs) rs → AreActions hs (choices_of rs)
actions w first [] [] f = f
actions w first [] (r ∷ rs) f = f
actions w first (h ∷ hs) [] f = f
actions w first (h ∷ hs) (r ∷ rs) f = ((f.0.some, f.0.within), actions w (first + h.actions) hs rs f.1)

only_tight : (w : ℕ → ℤ) (plan : List ℕ) (hs : List PlacedSet) (rs : List SetReply)
    → AllZip (IsFollowed w) hs rs
    → AllZip (λ h choice. All (λ s. slice_index plan s ≡ cond (eqb s (chosen h choice)) (slice_index plan h.before) 0) (sequences_of h)) hs (choices_of rs)
    → AllZip (λ h value. All (λ s. 0 < slice_index plan s → w s ≡ value) (sequences_of h)) hs (values_of rs)
only_tight w plan [] [] t f = t
only_tight w plan [] (r ∷ rs) t f = t
only_tight w plan (h ∷ hs) [] t f = t
only_tight w plan (h ∷ hs) (r ∷ rs) t f = (
  λ k d low. only_chosen w r.value (slice_index plan h.before) (get_or (sequences_of h) k d) (chosen h r.choice)
      (slice_index plan (get_or (sequences_of h) k d)) t.0.reached (f.0 k d low),
  only_tight w plan hs rs t.1 f.1,
)

-- a plan of root 1 gains the total of its choices' values
pub record IsGained (sums : ℕ → ℤ) (sets : List InformationSet) (total : ℤ) : Type 0 where
  pub plan : List ℕ
  pub is_plan : IsPlan sets 1 plan
  pub gained : gain sums sets plan ≡ total

pub followed_gains : (sums : ℕ → ℤ) (sets : List InformationSet) (rs : List SetReply) → AreInOrder sets
    → FollowsFrom sums (placed sets) rs → IsGained sums sets (worth sums (placed sets) (values_of rs) 0)
followed_gains sums sets rs order follows =
    let w : ℕ → ℤ = worth sums (placed sets) (values_of rs) in
    let all = all_followed sums 1 sets rs order follows in
    let are : AreActions sets (choices_of rs) = actions w 1 sets rs all in
    record {
      plan = pure_plan sets (choices_of rs);
      is_plan = pure_plan-is_plan sets (choices_of rs) order are;
      gained = complementary_slackness_lem sums sets (values_of rs) 1 (pure_plan sets (choices_of rs))
          (only_tight w (pure_plan sets (choices_of rs)) (placed sets) rs all (pure_plan-follows sets (choices_of rs) order are))
          (pure_plan-is_plan sets (choices_of rs) order are)
          ∙ one-*ℤ (worth sums (placed sets) (values_of rs) 0);
    }
