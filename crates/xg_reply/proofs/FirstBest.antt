-- The first of a set's sequences that no other is better than is the reply at the set.
use Rattle.std.proofs.Common.{◌≡◌, ◌≢◌, ℕ, ◌+◌, ◌-◌, ◌<◌, ◌≤◌, ℤ, All, ap, sym, subst, ◌∙◌, arith, ⊎_elim}
use Rattle.std.specs.List.{range_with_len}
use Rattle.std.proofs.lemmas.Bool.{cases_lt}
use Rattle.std.proofs.lemmas.Int.{ints}
use Rattle.def_tree.specs.declared.Player.{Player}
use Rattle.def_tree.specs.declared.Player.TheVariants.{One, Two}
use Rattle.def_sums.proofs.Ranges.{range-All}
use Rattle.def_plan.specs.Form.{PlacedSet}
use Rattle.def_plan.specs.Plan.{chosen}
use Rattle.def_plan.specs.Payoff.{IsNoBetter}
use Rattle.def_reply.specs.Reply.{SetReply, IsFirstTight}
use Rattle.def_reply.proofs.Bests.{no_better-antisym, no_better-refl, no_better-trans}
use Rattle.def_reply.proofs.Equations.{chosen-at, head-first_tight}
use Rattle.xg_reply.specs.Replies.{reply_by}

-- best is the first of n sequences from first on that no other is better than
pub record IsFirstBest (player : Player) (w : ℕ → ℤ) (first n best : ℕ) : Type 0 where
  pub from : first ≤ best
  pub until : best < first + n
  pub no_better : (s : ℕ) → first ≤ s → s < first + n → IsNoBetter player (w s) (w best)
  pub earliest : (s : ℕ) → first ≤ s → s < best → w s ≢ w best

at : (player : Player) (w : ℕ → ℤ) (s t : ℕ) (b : ℤ) → s ≡ t → IsNoBetter player (w t) b → IsNoBetter player (w s) b
at player w s t b same h = subst (λ k. IsNoBetter player (w k) b) (sym same) h

pub first_best-one : (player : Player) (w : ℕ → ℤ) (first : ℕ) → IsFirstBest player w first 1 first
first_best-one player w first = record {
  from = omega arith;
  until = omega arith;
  no_better = λ s low high. at player w s first (w first) (omega arith) (no_better-refl player (w first));
  earliest = λ s low high. absurd (omega arith);
}

-- one more sequence that isn't better
pub first_best-kept : (player : Player) (w : ℕ → ℤ) (first n best : ℕ) → IsFirstBest player w first n best
    → IsNoBetter player (w (first + n)) (w best) → IsFirstBest player w first (n + 1) best
first_best-kept player w first n best b worse = record {
  from = b.from;
  until = omega (arith, b.until);
  no_better = λ s low high.
      ⊎_elim
      (λ less. b.no_better s low less)
      (λ le. at player w s (first + n) (w best) (omega arith) worse)
      (cases_lt s (first + n));
  earliest = b.earliest;
}

not_worse : (player : Player) (a b : ℤ) → ¬ (IsNoBetter player a b) → IsNoBetter player b a
not_worse One a b h = grind (arith, ints)
not_worse Two a b h = grind (arith, ints)

-- one more sequence that is better
pub first_best-next : (player : Player) (w : ℕ → ℤ) (first n best : ℕ) → IsFirstBest player w first n best
    → ¬ (IsNoBetter player (w (first + n)) (w best)) → IsFirstBest player w first (n + 1) (first + n)
first_best-next player w first n best b better =
    let next : ℕ = first + n in
    let up : IsNoBetter player (w best) (w next) = not_worse player (w next) (w best) better in
    record {
      from = omega arith;
      until = omega arith;
      no_better = λ s low high.
          ⊎_elim
          (λ less. no_better-trans player (w s) (w best) (w next) (b.no_better s low less) up)
          (λ le. at player w s next (w next) (omega arith) (no_better-refl player (w next)))
          (cases_lt s next);
      earliest = λ s low high e. better (subst (λ z. IsNoBetter player z (w best)) e (b.no_better s low high));
    }

module _ (player : Player) (w : ℕ → ℤ) (h : PlacedSet) (best : ℕ)
    (b : IsFirstBest player w h.first h.actions best) where
  abbrev r : SetReply
  r = reply_by player w h

  tight : IsFirstTight player w h r
  tight = head-first_tight player w h (omega (arith, b.from, b.until))

  abbrev choice : 1 ≤ r.choice
  choice = tight.tight.an_action.0

  place : (h.first ≤ chosen h r.choice) × (chosen h r.choice < h.first + h.actions)
  place = chosen-at h r.choice tight.tight.an_action.0 tight.tight.an_action.1

  -- its worth is the set's value
  pub value_is : w best ≡ r.value
  value_is =
      no_better-antisym player (w best) r.value
      (range-All (λ s. IsNoBetter player (w s) r.value) h.first h.actions tight.tight.no_better best b.from b.until)
      (subst (λ z. IsNoBetter player z (w best)) tight.tight.reached
      (b.no_better (chosen h r.choice) place.0 place.1))

  -- and its place the set's choice
  pub choice_is : best - h.first + 1 ≡ r.choice
  choice_is =
      let mine : ℕ = best - h.first + 1 in
      let there : chosen h mine ≡ best = omega (arith, b.from) in
      ⊎_elim
      (λ less. absurd (tight.first mine (omega arith) less (ap w there ∙ value_is)))
      (λ le.
      ⊎_elim
      (λ less.
      let same : w (chosen h r.choice) ≡ w best = tight.tight.reached ∙ sym value_is in
      absurd (b.earliest (chosen h r.choice) place.0 (omega (arith, b.from, choice)) same))
      (λ ge. omega arith)
      (cases_lt r.choice mine))
      (cases_lt mine r.choice)

-- so is what is found among the sequences that a form tells
pub reply_of_set : (player : Player) (w : ℕ → ℤ) (h : PlacedSet) (first n best : ℕ) → first ≡ h.first → n ≡ h.actions
    → first ≤ best → best < first + n → All (λ s. IsNoBetter player (w s) (w best)) (range_with_len first n)
    → ((s : ℕ) → first ≤ s → s < best → w s ≢ w best)
    → record { value = w best; choice = best - first + 1 } ≡ reply_by player w h
reply_of_set player w h first n best first_is n_is from until no_better earliest =
    let there : IsFirstBest player w first n best =
    record {
      from = from;
      until = until;
      no_better = range-All (λ s. IsNoBetter player (w s) (w best)) first n no_better;
      earliest = earliest;
    } in
    let found : IsFirstBest player w h.first h.actions best =
    subst (λ k. IsFirstBest player w h.first k best) n_is
    (subst (λ f. IsFirstBest player w f n best) first_is there) in
    let value : w best ≡ (reply_by player w h).value = value_is player w h best found in
    let choice : best - first + 1 ≡ (reply_by player w h).choice =
    ap (λ f. best - f + 1) first_is ∙ choice_is player w h best found in
    λ i. record { value = value i; choice = choice i }
