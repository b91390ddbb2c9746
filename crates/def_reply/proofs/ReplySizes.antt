-- How large the values of a best reply are. The sizes of the values that come directly after the sequences so far are
-- at most the sizes of the leaf sums from there on.
use Rattle.std.proofs.Common.{◌≡◌, ℕ, ◌+◌, ◌≤◌, ◌<◌, eqb, List, [], ◌∷◌, zip, filter, ℤ, unsigned_abs, All, arith, ap, ◌∙◌, subst, ⊎_elim}
use Rattle.std.specs.List.{range_with_len}
use Rattle.std.proofs.lemmas.Bool.{cases_lt}
use Rattle.std.proofs.lemmas.List.Elements.{All-head, All-tail, All-nil, All-cons, All-weaker}
use Rattle.def_tree.specs.declared.Player.{Player}
use Rattle.def_tree.specs.declared.Player.TheVariants.{One, Two}
use Rattle.def_sums.specs.Sum.{nat_sum_over}
use Rattle.def_sums.proofs.RingLaws.{unsigned_abs-+ℤ}
use Rattle.def_sums.proofs.SumLaws.{unsigned_abs-sum_over}
use Rattle.def_sums.proofs.Ranges.{at_most_sum}
use Rattle.def_plan.proofs.Hanging.{hanging, hanging_size, kept, after-hanging, after-first, not_here, from, from-cons, all_sums}
use Rattle.def_plan.proofs.SizeLaws.{leaf_sums-below, of_an_evaluation}
use Rattle.def_plan.specs.Form.{InformationSet, PlacedSet, placed_from, placed, sequence_count, sequences, IsInOrder, AreInOrder}
use Rattle.def_plan.specs.Plan.{chosen}
use Rattle.def_plan.specs.Payoff.{worth, values_after, leaf_sum}
use Rattle.def_reply.specs.Reply.{SetReply, values_of, replies_at, best_reply, total}
use Rattle.def_reply.specs.Laws.{BoundsAreSmall}
use Rattle.def_reply.proofs.Equations.{reply_at_set, head-first_tight, chosen-at}

worth-size : (sums : ℕ → ℤ) (hs : List PlacedSet) (vs : List ℤ) (s : ℕ)
    → unsigned_abs (worth sums hs vs s) ≤ unsigned_abs (sums s) + hanging_size s (zip hs vs)
worth-size sums hs vs s =
    omega (
      arith,
      unsigned_abs-+ℤ (sums s) (values_after hs vs s),
      unsigned_abs-sum_over (λ (p : PlacedSet × ℤ). p.1)
          (filter (λ p. eqb p.0.before s) (zip hs vs)),
    )

pub record Bounded (player : Player) (sums : ℕ → ℤ) (first : ℕ) (hs : List InformationSet) : Type 0 where
  pub hangs : hanging first (zip (placed_from first hs) (values_of (replies_at player sums (placed_from first hs)))) ≤ from sums first hs
  pub values : All (λ r. unsigned_abs r.value ≤ from sums first hs) (replies_at player sums (placed_from first hs))

bounded : (player : Player) (sums : ℕ → ℤ) (first : ℕ) (hs : List InformationSet) → All IsInOrder (placed_from first hs)
    → Bounded player sums first hs
bounded player sums first [] order = record { hangs = omega arith; values = All-nil (λ r. unsigned_abs r.value ≤ from sums first []) }
bounded player sums first (h ∷ hs) order =
    let here : PlacedSet = record { first = first; before = h.before; actions = h.actions } in
    let rest : List PlacedSet = placed_from (first + h.actions) hs in
    let ordered = All-head IsInOrder here rest order in
    let ih = bounded player sums (first + h.actions) hs (All-tail IsInOrder here rest order) in
    let rs : List SetReply = replies_at player sums rest in
    let w : ℕ → ℤ = worth sums rest (values_of rs) in
    let r : SetReply = reply_at_set player w here in
    let tight = (head-first_tight player w here ordered.0).tight in
    let best : ℕ = chosen here r.choice in
    let place = chosen-at here r.choice tight.an_action.0 tight.an_action.1 in
    let of_value : unsigned_abs r.value ≤ unsigned_abs (sums best) + hanging_size best (zip rest (values_of rs)) =
    subst (λ z. unsigned_abs z ≤ unsigned_abs (sums best) + hanging_size best (zip rest (values_of rs))) tight.reached
    (worth-size sums rest (values_of rs) best)
    in
    let of_sum : unsigned_abs (sums best) ≤ nat_sum_over (λ s. unsigned_abs (sums s)) (range_with_len first h.actions) = at_most_sum
    (λ s. unsigned_abs (sums s)) first h.actions best place.0 place.1 in
    let joined : hanging_size best (zip rest (values_of rs)) + hanging first (zip rest (values_of rs))
    ≤ hanging (first + h.actions) (zip rest (values_of rs)) = after-hanging best first (first + h.actions) (zip rest (values_of rs)) place.0 place.1 in
    let all : unsigned_abs r.value + hanging first (zip rest (values_of rs)) ≤ from sums first (h ∷ hs) = omega (arith, from-cons sums first h hs, ih.hangs) in
    record {
      hangs = omega (arith, after-first h.before first (unsigned_abs r.value) ordered.1);
      values = All-cons (λ q. unsigned_abs q.value ≤ from sums first (h ∷ hs)) r rs (omega arith)
          (All-weaker (λ q. unsigned_abs q.value ≤ from sums (first + h.actions) hs) (λ q. unsigned_abs q.value ≤ from sums first (h ∷ hs))
          (λ q le. omega (arith, from-cons sums first h hs)) rs ih.values);
    }

-- no value of a best reply is larger than the leaf sums together
pub values-below : (player : Player) (sums : ℕ → ℤ) (sets : List InformationSet) → AreInOrder sets
    → All (λ r. unsigned_abs r.value ≤ nat_sum_over (λ s. unsigned_abs (sums s)) (sequences sets)) (best_reply player sums sets)
values-below player sums sets order =
    All-weaker (λ r. unsigned_abs r.value ≤ from sums 1 sets) (λ r. unsigned_abs r.value ≤ nat_sum_over (λ s. unsigned_abs (sums s)) (sequences sets))
    (λ r le. omega (arith, all_sums sums sets)) (best_reply player sums sets) (bounded player sums 1 sets order).values

-- at a sequence of a set, or at an earlier one
worth_at : (player : Player) (sums : ℕ → ℤ) (first : ℕ) (hs : List InformationSet) (s : ℕ)
    → All IsInOrder (placed_from first hs) → first ≤ s → s < first + nat_sum_over (λ h. h.actions) hs
    → unsigned_abs (sums s) + hanging_size s (zip (placed_from first hs) (values_of (replies_at player sums (placed_from first hs)))) ≤ from sums first hs
worth_at player sums first [] s order low high = absurd (omega arith)
worth_at player sums first (h ∷ hs) s order low high =
    let here : PlacedSet = record { first = first; before = h.before; actions = h.actions } in
    let rest : List PlacedSet = placed_from (first + h.actions) hs in
    let ordered = All-head IsInOrder here rest order in
    let later = All-tail IsInOrder here rest order in
    let rs : List SetReply = replies_at player sums rest in
    let r : SetReply = reply_at_set player (worth sums rest (values_of rs)) here in
    let skips : hanging_size s (zip (here ∷ rest) (r.value ∷ values_of rs)) ≡ hanging_size s (zip rest (values_of rs)) =
    kept (eqb h.before s) (here, r.value) (filter (λ p. eqb p.0.before s) (zip rest (values_of rs)))
    ∙ not_here h.before s (unsigned_abs r.value) (hanging_size s (zip rest (values_of rs))) (omega arith)
    in
    ⊎_elim
    (λ inside.
    omega (
      arith,
      skips,
      from-cons sums first h hs,
      (bounded player sums (first + h.actions) hs later).hangs,
      after-hanging s first (first + h.actions) (zip rest (values_of rs)) low inside,
      at_most_sum (λ t. unsigned_abs (sums t)) first h.actions s low inside,
    ))
    (λ beyond. omega (arith, skips, from-cons sums first h hs, worth_at player sums (first + h.actions) hs s later beyond (omega arith)))
    (cases_lt s (first + h.actions))

-- the parts of a sequence's worth are together no larger than the leaf sums
pub worths-below : (player : Player) (sums : ℕ → ℤ) (sets : List InformationSet) (s : ℕ) → AreInOrder sets
    → s < sequence_count sets
    → unsigned_abs (sums s) + nat_sum_over (λ p. unsigned_abs p.1) (filter (λ p. eqb p.0.before s)
    (zip (placed sets) (values_of (best_reply player sums sets))))
    ≤ nat_sum_over (λ s. unsigned_abs (sums s)) (sequences sets)
worths-below player sums sets s order low =
    ⊎_elim
    (λ empty.
    let none : s ≡ 0 = omega arith in
    let same : unsigned_abs (sums s) ≡ unsigned_abs (sums 0) = ap (λ t. unsigned_abs (sums t)) none in
    omega (
      arith,
      same,
      all_sums sums sets,
      (bounded player sums 1 sets order).hangs,
      after-hanging s 0 1 (zip (placed sets) (values_of (best_reply player sums sets))) (omega arith) empty,
    ))
    (λ some. omega (arith, all_sums sums sets, worth_at player sums 1 sets s order some low))
    (cases_lt s 1)

-- the total of a best reply is no larger than the leaf sums together
pub total-below : (player : Player) (sums : ℕ → ℤ) (sets : List InformationSet) → AreInOrder sets
    → unsigned_abs (total sums sets (best_reply player sums sets)) ≤ nat_sum_over (λ s. unsigned_abs (sums s)) (sequences sets)
total-below player sums sets order =
    omega (arith, worth-size sums (placed sets) (values_of (best_reply player sums sets)) 0, worths-below player sums sets 0 order (omega arith))

-- under the limits of mass and root every floor and ceiling of best replies is at most 2 ^ 98
pub bounds_small : BoundsAreSmall
bounds_small = record {
  floor = λ form root x order order' p small_mass small_root.
      let sums : ℕ → ℤ = leaf_sum Two form.leaves x in
      omega (
        arith,
        total-below Two sums form.sets_two order',
        leaf_sums-below Two form.leaves form.sets_two form.sets_one root x order p,
        of_an_evaluation form.leaves root small_mass small_root,
      );
  ceiling = λ form root y order order' p small_mass small_root.
      let sums : ℕ → ℤ = leaf_sum One form.leaves y in
      omega (
        arith,
        total-below One sums form.sets_one order,
        leaf_sums-below One form.leaves form.sets_one form.sets_two root y order' p,
        of_an_evaluation form.leaves root small_mass small_root,
      );
}
