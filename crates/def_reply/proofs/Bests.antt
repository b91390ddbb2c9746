-- The best of some worths, and the first place that has it.
use Rattle.std.proofs.Common.{◌≡◌, ◌≢◌, ℕ, zero, suc, ◌+◌, ◌-◌, ◌≤◌, ◌<◌, ◌⊎◌, inl, inr, Bool, true, false, cond, List, [], ◌∷◌, length, get_or, ℤ, pos, All}
use Rattle.std.proofs.Common.{arith, ap, sym, ◌∙◌, refl, subst, ⊎_elim, int_lt}
use Rattle.std.specs.Ordering.{int_eq}
use Rattle.std.proofs.lemmas.Int.{ints, clamps}
use Rattle.std.proofs.lemmas.Bool.{cases_Bool, cases_lt, false≢true}
use Rattle.std.proofs.lemmas.Bool.Decides.{Decides-int_eq}
use Rattle.std.proofs.lemmas.List.Elements.{All-cons, All-nil, All-weaker}
use Rattle.def_tree.specs.declared.Player.{Player}
use Rattle.def_tree.specs.declared.Player.TheVariants.{One, Two}
use Rattle.def_sums.proofs.RingLaws.{≤ℤ_refl, ≤ℤ_trans, ≤ℤ_antisym}
use Rattle.def_plan.specs.Payoff.{IsNoBetter}
use Rattle.def_reply.specs.Reply.{better, best_of, first_with}

-- a payoff is no better for the player than itself
pub no_better-refl : (player : Player) (a : ℤ) → IsNoBetter player a a
no_better-refl One a = ≤ℤ_refl a
no_better-refl Two a = ≤ℤ_refl a

-- a payoff no better for the player than one that is no better than a third is no better than the third
pub no_better-trans : (player : Player) (a b c : ℤ) → IsNoBetter player a b → IsNoBetter player b c
    → IsNoBetter player a c
no_better-trans One a b c h k = ≤ℤ_trans a b c h k
no_better-trans Two a b c h k = ≤ℤ_trans c b a k h

-- two payoffs of which neither is better for the player are the same
pub no_better-antisym : (player : Player) (a b : ℤ) → IsNoBetter player a b → IsNoBetter player b a → a ≡ b
no_better-antisym One a b h k = ≤ℤ_antisym a b h k
no_better-antisym Two a b h k = ≤ℤ_antisym a b k h

better-left : (player : Player) (a b : ℤ) → IsNoBetter player a (better player a b)
better-left One a b = omega (arith, ints, clamps)
better-left Two a b = omega (arith, ints, clamps)

better-right : (player : Player) (a b : ℤ) → IsNoBetter player b (better player a b)
better-right One a b = omega (arith, ints, clamps)
better-right Two a b = omega (arith, ints, clamps)

picked : (t : Bool) (a b : ℤ) → (cond t a b ≡ a) ⊎ (cond t a b ≡ b)
picked true a b = inl refl
picked false a b = inr refl

better-one_of : (player : Player) (a b : ℤ) → (better player a b ≡ a) ⊎ (better player a b ≡ b)
better-one_of One a b = picked (int_lt b a) a b
better-one_of Two a b = ⊎_elim (λ e. inr e) (λ e. inl e) (picked (int_lt b a) b a)

-- no worth is better than the best of all
pub none-better : (player : Player) (ws : List ℤ) → All (λ w. IsNoBetter player w (best_of player ws)) ws
none-better player [] = All-nil (λ w. IsNoBetter player w (pos 0))
none-better player (w ∷ []) = All-cons (λ v. IsNoBetter player v w) w [] (no_better-refl player w) (All-nil (λ v. IsNoBetter player v w))
none-better player (w ∷ v ∷ ws) =
    let rest : ℤ = best_of player (v ∷ ws) in
    All-cons (λ u. IsNoBetter player u (better player w rest)) w (v ∷ ws) (better-left player w rest)
    (All-weaker (λ u. IsNoBetter player u rest) (λ u. IsNoBetter player u (better player w rest))
    (λ u h. no_better-trans player u rest (better player w rest) h (better-right player w rest)) (v ∷ ws) (none-better player (v ∷ ws)))

-- some worth is the best
at_either : (w rest best : ℤ) (ws : List ℤ) (i : ℕ) → i < length ws → ((d : ℤ) → get_or ws i d ≡ rest)
    → (best ≡ w) ⊎ (best ≡ rest) → (k : ℕ) × (k < suc (length ws)) × ((d : ℤ) → get_or (w ∷ ws) k d ≡ best)
at_either w rest best ws i low is (inl e) = (0, omega arith, λ d. sym e)
at_either w rest best ws i low is (inr e) = (suc i, omega arith, λ d. is d ∙ sym e)

-- of some worths, if there are any, one is the best of all
pub best-reached : (player : Player) (ws : List ℤ) → 1 ≤ length ws
    → (i : ℕ) × (i < length ws) × ((d : ℤ) → get_or ws i d ≡ best_of player ws)
best-reached player [] h = absurd (omega arith)
best-reached player (w ∷ []) h = (0, omega arith, λ d. refl)
best-reached player (w ∷ v ∷ ws) h =
    let rest : ℤ = best_of player (v ∷ ws) in
    let later = best-reached player (v ∷ ws) (omega arith) in
    at_either w rest (better player w rest) (v ∷ ws) later.0 later.1 later.2 (better-one_of player w rest)

int_eq_tells : (x y : ℤ) → ((int_eq x y ≡ true) × (x ≡ y)) ⊎ ((int_eq x y ≡ false) × (x ≢ y))
int_eq_tells x y =
    ⊎_elim (λ e. inl (e, (Decides-int_eq x y).0 e)) (λ e. inr (e, λ q. false≢true (sym e ∙ (Decides-int_eq x y).1 q))) (cases_Bool (int_eq x y))

-- where `choice`, counted from 1, is the first place with the value
pub record IsFirstPlaceOf (value : ℤ) (ws : List ℤ) (choice : ℕ) : Type 0 where
  pub some : 1 ≤ choice
  pub within : choice ≤ length ws
  pub at : (d : ℤ) → get_or ws (choice - 1) d ≡ value
  pub earlier : (c : ℕ) → 1 ≤ c → c < choice → (d : ℤ) → get_or ws (c - 1) d ≢ value

at_first : (value w : ℤ) (ws : List ℤ) → w ≡ value → IsFirstPlaceOf value (w ∷ ws) 1
at_first value w ws e = record { some = omega arith; within = omega arith; at = λ d. e; earlier = λ c low high. absurd (omega arith) }

at_later : (value w : ℤ) (ws : List ℤ) (c : ℕ) → w ≢ value → IsFirstPlaceOf value ws c
    → IsFirstPlaceOf value (w ∷ ws) (c + 1)
at_later value w ws c differs h = record {
  some = omega arith;
  within = omega (arith, h.within);
  at = λ d. let next : c + 1 - 1 ≡ suc (c - 1) = omega (arith, h.some) in ap (λ k. get_or (w ∷ ws) k d) next ∙ h.at d;
  earlier = λ k low high d.
      ⊎_elim
      (λ is. λ e. differs (ap (λ j. get_or (w ∷ ws) (j - 1) d) (sym is) ∙ e))
      (λ more. let next : k - 1 ≡ suc (k - 1 - 1) = omega arith in λ e. h.earlier (k - 1) (omega arith) (omega arith) d
      (sym (ap (λ j. get_or (w ∷ ws) j d) next) ∙ e))
      (one_or_more k low);
}
  where
    one_or_more : (k : ℕ) → 1 ≤ k → (k ≡ 1) ⊎ (2 ≤ k)
    one_or_more k h = ⊎_elim (λ less. inl (omega arith)) (λ le. inr le) (cases_lt k 2)

first_with-one : (value w : ℤ) (ws : List ℤ) → (w ≢ value → IsFirstPlaceOf value ws (first_with value ws))
    → IsFirstPlaceOf value (w ∷ ws) (first_with value (w ∷ ws))
first_with-one value w ws rest =
    ⊎_elim
    (λ yes. subst (λ b. IsFirstPlaceOf value (w ∷ ws) (cond b 1 (first_with value ws + 1))) (sym yes.0) (at_first value w ws yes.1))
    (λ no. subst (λ b. IsFirstPlaceOf value (w ∷ ws) (cond b 1 (first_with value ws + 1))) (sym no.0)
    (at_later value w ws (first_with value ws) no.1 (rest no.1)))
    (int_eq_tells w value)

-- where some worth is the value, the place that is found is the first such one
pub first_with-is_first : (value : ℤ) (ws : List ℤ) (i : ℕ) → i < length ws → ((d : ℤ) → get_or ws i d ≡ value)
    → IsFirstPlaceOf value ws (first_with value ws)
first_with-is_first value [] i low e = absurd (omega arith)
first_with-is_first value (w ∷ ws) zero low e = first_with-one value w ws (λ no. absurd (no (e w)))
first_with-is_first value (w ∷ ws) (suc i) low e = first_with-one value w ws (λ no. first_with-is_first value ws i (omega arith) e)
