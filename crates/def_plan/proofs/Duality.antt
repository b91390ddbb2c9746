-- Weak duality and complementary slackness. There is no induction over sets: both sums are exchanged.
use Rattle.std.proofs.Common.{◌≡◌, ℕ, zero, suc, ◌<◌, List, [], ◌∷◌, slice_index, zip, ℤ, pos, ◌+ℤ◌, ◌*ℤ◌, All, arith, ap, sym, ◌∙◌, refl, subst}
use Rattle.std.specs.List.{AllZip}
use Rattle.std.proofs.lemmas.Int.{ints}
use Rattle.std.proofs.lemmas.List.Elements.{All-head, All-tail, All-weaker}
use Rattle.def_tree.specs.declared.Player.{Player}
use Rattle.def_tree.specs.declared.Player.TheVariants.{One, Two}
use Rattle.def_sums.specs.Sum.{sum_over, nat_sum_over}
use Rattle.def_sums.proofs.RingLaws.{+ℤ-*ℤ, *ℤ-zero, *ℤ_comm, *ℤ-mono_right, +ℤ-mono, ≤ℤ_refl}
use Rattle.def_sums.proofs.SumLaws.{sum_over-ext, sum_over-+ℤ, sum_over-factor, sum_over-pos, sum_over-related}
use Rattle.def_plan.specs.Form.{InformationSet, PlacedSet, placed, sequences_of, sequence_count, sequences}
use Rattle.def_plan.specs.Plan.{AddsUp, IsPlan}
use Rattle.def_plan.specs.Payoff.{gain, values_after, worth, IsNoBetter, NoActionIsBetter, PlaysOnlyTight}
use Rattle.def_plan.proofs.Regroup.{regroup, over_sequences}

-- the worth of a plan's sequences at the sets, and what the sets' values make of it
abbrev pub at_sets : (ℕ → ℤ) → List ℕ → List PlacedSet → ℤ
at_sets w x hs = sum_over (λ h. sum_over (λ s. w s *ℤ pos (slice_index x s)) (sequences_of h)) hs

abbrev pub of_values : List ℕ → List PlacedSet → List ℤ → ℤ
of_values x hs values = sum_over (λ (p : PlacedSet × ℤ). p.1 *ℤ pos (slice_index x p.0.before)) (zip hs values)

-- gain + of_values and root * worth 0 + at_sets are one sum in two orders
pub two_orders : (sums : ℕ → ℤ) (sets : List InformationSet) (values : List ℤ) (root : ℕ) (x : List ℕ) → IsPlan sets root x
    → gain sums sets x +ℤ of_values x (placed sets) values
    ≡ pos root *ℤ worth sums (placed sets) values 0 +ℤ at_sets (worth sums (placed sets) values) x (placed sets)
two_orders sums sets values root x plan =
    let w : ℕ → ℤ = worth sums (placed sets) values in
    let after : ℕ → ℤ = values_after (placed sets) values in
    let num : ℕ → ℤ = λ s. pos (slice_index x s) in
    let by_gain : sum_over (λ s. w s *ℤ num s) (sequences sets) ≡ gain sums sets x +ℤ of_values x (placed sets) values =
    sum_over-ext _ _ (sequences sets) (λ s. +ℤ-*ℤ (sums s) (after s) (num s))
    ∙ sum_over-+ℤ (λ s. sums s *ℤ num s) (λ s. after s *ℤ num s) (sequences sets)
    ∙ ap (λ z. gain sums sets x +ℤ z) (regroup (zip (placed sets) values) (λ p. p.0.before) (λ p. p.1) x (sequence_count sets) plan.all_sequences)
    in
    let by_sets : sum_over (λ s. w s *ℤ num s) (sequences sets) ≡ pos root *ℤ w 0 +ℤ at_sets w x (placed sets) =
    over_sequences (λ s. w s *ℤ num s) sets
    ∙ ap (λ z. z +ℤ at_sets w x (placed sets)) (*ℤ_comm (w 0) (num 0) ∙ ap (λ n. pos n *ℤ w 0) plan.root_weight)
    in
    sym by_gain ∙ by_sets

-- at one set
at_set : (R : ℤ → ℤ → Type 0) → R (pos 0) (pos 0) → ((a b c d : ℤ) → R a b → R c d → R (a +ℤ c) (b +ℤ d))
    → (w : ℕ → ℤ) (value : ℤ) (x : List ℕ) (n : ℕ) (xs : List ℕ)
    → All (λ s. R (w s *ℤ pos (slice_index x s)) (value *ℤ pos (slice_index x s))) xs
    → nat_sum_over (λ s. slice_index x s) xs ≡ n
    → R (sum_over (λ s. w s *ℤ pos (slice_index x s)) xs) (value *ℤ pos n)
at_set R none add w value x n xs h e =
    subst (R (sum_over (λ s. w s *ℤ pos (slice_index x s)) xs))
    (sum_over-factor value (λ s. pos (slice_index x s)) xs ∙ ap (λ z. value *ℤ z) (sum_over-pos (λ s. slice_index x s) xs ∙ ap pos e))
    (sum_over-related R none add (λ s. w s *ℤ pos (slice_index x s)) (λ s. value *ℤ pos (slice_index x s)) xs h)

-- at all sets

at_each : (R : ℤ → ℤ → Type 0) → R (pos 0) (pos 0) → ((a b c d : ℤ) → R a b → R c d → R (a +ℤ c) (b +ℤ d))
    → (w : ℕ → ℤ) (x : List ℕ) (hs : List PlacedSet) (values : List ℤ)
    → AllZip (λ h value. All (λ s. R (w s *ℤ pos (slice_index x s)) (value *ℤ pos (slice_index x s))) (sequences_of h)) hs values
    → All (AddsUp x) hs → R (at_sets w x hs) (of_values x hs values)
at_each R none add w x [] [] h sums = none
at_each R none add w x [] (v ∷ vs) h sums = elim h [ ]
at_each R none add w x (g ∷ gs) [] h sums = elim h [ ]
at_each R none add w x (g ∷ gs) (v ∷ vs) h sums =
    add _ _ (at_sets w x gs) (of_values x gs vs)
    (at_set R none add w v x (slice_index x g.before) (sequences_of g) h.0 (All-head (AddsUp x) g gs sums))
    (at_each R none add w x gs vs h.1 (All-tail (AddsUp x) g gs sums))

-- what follows place by place follows of two lists
pub AllZip-weaker : {A B : Type 0} (P Q : A → B → Type 0) → ((a : A) (b : B) → P a b → Q a b)
    → (xs : List A) (ys : List B)
    → AllZip P xs ys → AllZip Q xs ys
AllZip-weaker P Q f [] [] h = h
AllZip-weaker P Q f [] (y ∷ ys) h = h
AllZip-weaker P Q f (x ∷ xs) [] h = h
AllZip-weaker P Q f (x ∷ xs) (y ∷ ys) h = (f x y h.0, AllZip-weaker P Q f xs ys h.1)

no_better-zero : (player : Player) → IsNoBetter player (pos 0) (pos 0)
no_better-zero One = ≤ℤ_refl (pos 0)
no_better-zero Two = ≤ℤ_refl (pos 0)

no_better-add : (player : Player) (a b c d : ℤ) → IsNoBetter player a b → IsNoBetter player c d
    → IsNoBetter player (a +ℤ c) (b +ℤ d)
no_better-add One a b c d h k = +ℤ-mono a b c d h k
no_better-add Two a b c d h k = +ℤ-mono b a d c h k

no_better-times : (player : Player) (n : ℕ) (a b : ℤ) → IsNoBetter player a b
    → IsNoBetter player (a *ℤ pos n) (b *ℤ pos n)
no_better-times One n a b h = *ℤ-mono_right n a b h
no_better-times Two n a b h = *ℤ-mono_right n b a h

no_better-cancel : (player : Player) (g v t s : ℤ) → g +ℤ v ≡ t +ℤ s → IsNoBetter player s v → IsNoBetter player g t
no_better-cancel One g v t s e h = omega (arith, ints)
no_better-cancel Two g v t s e h = omega (arith, ints)

-- values of which no action is better bound what every plan of every root gains
pub weak_duality_lem : (player : Player) (sums : ℕ → ℤ) (sets : List InformationSet) (values : List ℤ) (root : ℕ)
    (x : List ℕ)
    → NoActionIsBetter player sums sets values → IsPlan sets root x
    → IsNoBetter player (gain sums sets x) (pos root *ℤ worth sums (placed sets) values 0)
weak_duality_lem player sums sets values root x h plan =
    let w : ℕ → ℤ = worth sums (placed sets) values in
    no_better-cancel player _ _ _ _ (two_orders sums sets values root x plan)
    (at_each (IsNoBetter player) (no_better-zero player) (no_better-add player) w x (placed sets) values
    (AllZip-weaker _ _ (λ g v all. All-weaker (λ s. IsNoBetter player (w s) v)
    (λ s. IsNoBetter player (w s *ℤ pos (slice_index x s)) (v *ℤ pos (slice_index x s))) (λ s. no_better-times player (slice_index x s) (w s) v)
    (sequences_of g) all) (placed sets) values h)
    plan.each_set)

same_times : (n : ℕ) (a b : ℤ) → (0 < n → a ≡ b) → a *ℤ pos n ≡ b *ℤ pos n
same_times zero a b h = *ℤ-zero a ∙ sym (*ℤ-zero b)
same_times (suc n) a b h = ap (λ z. z *ℤ pos (suc n)) (h (omega arith))

-- a plan that plays only where the worth is the set's value gains exactly the bound of weak duality
pub complementary_slackness_lem : (sums : ℕ → ℤ) (sets : List InformationSet) (values : List ℤ) (root : ℕ) (x : List ℕ)
    → PlaysOnlyTight sums sets values x → IsPlan sets root x
    → gain sums sets x ≡ pos root *ℤ worth sums (placed sets) values 0
complementary_slackness_lem sums sets values root x h plan =
    let w : ℕ → ℤ = worth sums (placed sets) values in
    let sides : at_sets w x (placed sets) ≡ of_values x (placed sets) values =
    at_each (λ a b. a ≡ b) refl (λ a b c d e f. ap (λ z. z +ℤ c) e ∙ ap (λ z. b +ℤ z) f) w x (placed sets) values
    (AllZip-weaker _ _ (λ g v all. All-weaker (λ s. 0 < slice_index x s → w s ≡ v) (λ s. w s *ℤ pos (slice_index x s) ≡ v *ℤ pos (slice_index x s))
    (λ s. same_times (slice_index x s) (w s) v) (sequences_of g) all) (placed sets) values h)
    plan.each_set
    in
    let orders = two_orders sums sets values root x plan in
    omega (arith, ints)
