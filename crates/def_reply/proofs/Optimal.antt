-- Tight replies are optimal over all plans.
use Rattle.std.proofs.Common.{◌≡◌, ℕ, ◌+◌, ◌<◌, cond, eqb, List, [], ◌∷◌, slice_index, get_or, ℤ, pos, ◌*ℤ◌, All, arith, ap, ◌∙◌, ⊎_elim}
use Rattle.std.specs.List.{AllZip}
use Rattle.std.proofs.lemmas.Bool.Decides.{eqb_tells}
use Rattle.def_tree.specs.declared.Player.{Player}
use Rattle.def_sums.proofs.RingLaws.{one-*ℤ}
use Rattle.def_plan.specs.Form.{InformationSet, PlacedSet, placed_from, placed, sequences_of, AreInOrder}
use Rattle.def_plan.specs.Plan.{IsPlan, AreActions, chosen, pure_plan}
use Rattle.def_plan.specs.Payoff.{gain, worth, IsNoBetter}
use Rattle.def_plan.proofs.Duality.{weak_duality_lem, complementary_slackness_lem}
use Rattle.def_plan.proofs.Choices.{pure_plan-is_plan, pure_plan-follows}
use Rattle.def_reply.specs.Reply.{SetReply, values_of, choices_of, best_reply, total, IsTight, IsFirstTight, AreTight}
use Rattle.def_reply.proofs.Equations.{solves_from}

no_action : (player : Player) (w : ℕ → ℤ) (hs : List PlacedSet) (rs : List SetReply) → AllZip (IsTight player w) hs rs
    → AllZip (λ h value. All (λ s. IsNoBetter player (w s) value) (sequences_of h)) hs (values_of rs)
no_action player w [] [] t = t
no_action player w [] (r ∷ rs) t = t
no_action player w (h ∷ hs) [] t = t
no_action player w (h ∷ hs) (r ∷ rs) t = (t.0.no_better, no_action player w hs rs t.1)

actions : (player : Player) (w : ℕ → ℤ) (first : ℕ) (hs : List InformationSet) (rs : List SetReply)
    → AllZip (IsTight player w) (placed_from first hs) rs → AreActions hs (choices_of rs)
actions player w first [] [] t = t
actions player w first [] (r ∷ rs) t = t
actions player w first (h ∷ hs) [] t = t
actions player w first (h ∷ hs) (r ∷ rs) t = (t.0.an_action, actions player w (first + h.actions) hs rs t.1)

-- what a sequence has is nothing but where it is chosen
pub only_chosen : (w : ℕ → ℤ) (value : ℤ) (n s c : ℕ) (x : ℕ) → w c ≡ value → x ≡ cond (eqb s c) n 0 → 0 < x → w s ≡ value
only_chosen w value n s c x reached e some =
    ⊎_elim (λ yes. ap w yes.1 ∙ reached) (λ no. absurd (omega (arith, e ∙ ap (λ b. cond b n 0) no.0))) (eqb_tells s c)

only_tight : (player : Player) (w : ℕ → ℤ) (plan : List ℕ) (hs : List PlacedSet) (rs : List SetReply)
    → AllZip (IsTight player w) hs rs
    → AllZip (λ h choice. All (λ s. slice_index plan s ≡ cond (eqb s (chosen h choice)) (slice_index plan h.before) 0) (sequences_of h)) hs (choices_of rs)
    → AllZip (λ h value. All (λ s. 0 < slice_index plan s → w s ≡ value) (sequences_of h)) hs (values_of rs)
only_tight player w plan [] [] t f = t
only_tight player w plan [] (r ∷ rs) t f = t
only_tight player w plan (h ∷ hs) [] t f = t
only_tight player w plan (h ∷ hs) (r ∷ rs) t f = (
  λ k d low. only_chosen w r.value (slice_index plan h.before) (get_or (sequences_of h) k d) (chosen h r.choice)
      (slice_index plan (get_or (sequences_of h) k d)) t.0.reached (f.0 k d low),
  only_tight player w plan hs rs t.1 f.1,
)

-- what a plan gains is no better for the player than the total of tight replies times its root
pub tight-bound : (player : Player) (sums : ℕ → ℤ) (sets : List InformationSet) (replies : List SetReply) (root : ℕ)
    (plan : List ℕ)
    → AreTight player sums sets replies → IsPlan sets root plan
    → IsNoBetter player (gain sums sets plan) (pos root *ℤ total sums sets replies)
tight-bound player sums sets replies root plan t p =
    weak_duality_lem player sums sets (values_of replies) root plan (no_action player (worth sums (placed sets) (values_of replies)) (placed sets) replies t) p

-- the choices of tight replies make a plan of root 1
pub tight-is_plan : (player : Player) (sums : ℕ → ℤ) (sets : List InformationSet) (replies : List SetReply)
    → AreInOrder sets → AreTight player sums sets replies → IsPlan sets 1 (pure_plan sets (choices_of replies))
tight-is_plan player sums sets replies order t =
    pure_plan-is_plan sets (choices_of replies) order (actions player (worth sums (placed sets) (values_of replies)) 1 sets replies t)

-- the plan that tight replies choose gains exactly their total
pub tight-gained : (player : Player) (sums : ℕ → ℤ) (sets : List InformationSet) (replies : List SetReply)
    → AreInOrder sets → AreTight player sums sets replies
    → gain sums sets (pure_plan sets (choices_of replies)) ≡ total sums sets replies
tight-gained player sums sets replies order t =
    let w : ℕ → ℤ = worth sums (placed sets) (values_of replies) in
    let are : AreActions sets (choices_of replies) = actions player w 1 sets replies t in
    complementary_slackness_lem sums sets (values_of replies) 1 (pure_plan sets (choices_of replies))
    (only_tight player w (pure_plan sets (choices_of replies)) (placed sets) replies t (pure_plan-follows sets (choices_of replies) order are))
    (pure_plan-is_plan sets (choices_of replies) order are)
    ∙ one-*ℤ (total sums sets replies)

tight_of_first : (player : Player) (w : ℕ → ℤ) (hs : List PlacedSet) (rs : List SetReply)
    → AllZip (IsFirstTight player w) hs rs → AllZip (IsTight player w) hs rs
tight_of_first player w [] [] f = f
tight_of_first player w [] (r ∷ rs) f = f
tight_of_first player w (h ∷ hs) [] f = f
tight_of_first player w (h ∷ hs) (r ∷ rs) f = (f.0.tight, tight_of_first player w hs rs f.1)

-- the best reply is tight
pub best-tight : (player : Player) (sums : ℕ → ℤ) (sets : List InformationSet) → AreInOrder sets
    → AreTight player sums sets (best_reply player sums sets)
best-tight player sums sets order =
    tight_of_first player (worth sums (placed sets) (values_of (best_reply player sums sets))) (placed sets) (best_reply player sums sets)
    (solves_from player sums 1 sets order)
