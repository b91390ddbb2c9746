-- The ends never worsen, so a line lies within each earlier one.
use Rattle.std.proofs.Common.{◌≡◌, ℕ, zero, suc, ◌+◌, ◌^◌, ◌<◌, ◌≤◌, Bool, true, false, cond, List, [], ◌∷◌, ◌++◌, All, length, get_or, ℤ, pos, ◌*ℤ◌, ◌≤ℤ◌}
use Rattle.std.proofs.Common.{unsigned_abs, int_lt, refl, ap, sym, subst, ◌∙◌, arith, length-append, ⊎_elim}
use Rattle.std.proofs.lemmas.List.{get_or_at}
use Rattle.std.proofs.lemmas.List.Elements.{All-push}
use Rattle.def_sums.proofs.RingLaws.{≤ℤ_refl}
use Rattle.def_reply.specs.Bracket.{LiesWithinBy}
use Rattle.def_reply.specs.declared.TraceLine.{TraceLine}
use Rattle.def_reply.specs.Offers.{KeptEnd, keep_lower, keep_upper, most_divisor}
use Rattle.def_plus.specs.declared.Variant.{Variant}
use Rattle.def_plus.specs.Variants.{weight_of_rounds}
use Rattle.def_reply.proofs.Compares.{at_most-trans, int_lt_tells, less_at_most}
use Rattle.xg_bracket.specs.Board.{KeepsBoard}
use Rattle.xg_bracket.specs.Ends.{IsDividedByWeight, end_after, kept_of, line_with}
use Rattle.xg_bracket.specs.declared.end.BestEnd.{BestEnd}

picked : {A : Type 0} (P : A → Type 0) (b : Bool) (x y : A) → P x → P y → P (cond b x y)
picked P true x y of_x of_y = of_x
picked P false x y of_x of_y = of_y

-- the second floor is no lower than the first, each by its divisor; the second ceiling is no higher
abbrev Rises : KeptEnd → KeptEnd → Type 0
Rises a b = (a.reply.total *ℤ pos b.divisor) ≤ℤ (b.reply.total *ℤ pos a.divisor)

abbrev Falls : KeptEnd → KeptEnd → Type 0
Falls a b = (b.reply.total *ℤ pos a.divisor) ≤ℤ (a.reply.total *ℤ pos b.divisor)

module _ (P : KeptEnd → Type 0) (kept next : KeptEnd) where
  -- what holds of both ends holds of the one that is kept
  lower_has : (offers : ℕ) → (1 ≤ offers → P kept) → P next → P (keep_lower (end_after offers kept) next)
  lower_has zero of_kept of_next = of_next
  lower_has (suc n) of_kept of_next =
      let less : Bool = int_lt (kept.reply.total *ℤ pos next.divisor) (next.reply.total *ℤ pos kept.divisor) in
      picked P less next kept of_next (of_kept (omega arith))

  upper_has : (offers : ℕ) → (1 ≤ offers → P kept) → P next → P (keep_upper (end_after offers kept) next)
  upper_has zero of_kept of_next = of_next
  upper_has (suc n) of_kept of_next =
      let less : Bool = int_lt (next.reply.total *ℤ pos kept.divisor) (kept.reply.total *ℤ pos next.divisor) in
      picked P less next kept of_next (of_kept (omega arith))

-- a floor is kept or replaced by a greater one
lower_rises : (offers : ℕ) (kept next : KeptEnd) → 1 ≤ offers → Rises kept (keep_lower (end_after offers kept) next)
lower_rises zero kept next some = absurd (omega arith)
lower_rises (suc n) kept next some =
    let a : ℤ = kept.reply.total *ℤ pos next.divisor in
    let b : ℤ = next.reply.total *ℤ pos kept.divisor in
    let P : Bool → Type 0 = λ t. Rises kept (cond t next kept) in
    ⊎_elim
    (λ yes. subst P (sym yes.0) (less_at_most a b yes.1))
    (λ no. subst P (sym no.0) (≤ℤ_refl (kept.reply.total *ℤ pos kept.divisor)))
    (int_lt_tells a b)

-- a ceiling is kept or replaced by a lower one
upper_falls : (offers : ℕ) (kept next : KeptEnd) → 1 ≤ offers → Falls kept (keep_upper (end_after offers kept) next)
upper_falls zero kept next some = absurd (omega arith)
upper_falls (suc n) kept next some =
    let a : ℤ = next.reply.total *ℤ pos kept.divisor in
    let b : ℤ = kept.reply.total *ℤ pos next.divisor in
    let P : Bool → Type 0 = λ t. Falls kept (cond t next kept) in
    ⊎_elim
    (λ yes. subst P (sym yes.0) (less_at_most a b yes.1))
    (λ no. subst P (sym no.0) (≤ℤ_refl (kept.reply.total *ℤ pos kept.divisor)))
    (int_lt_tells a b)

-- ends that are no worse lie within the same lines
narrower : (variant : Variant) (line : TraceLine) (lower upper lower' upper' : BestEnd) (round : ℕ)
    → IsDividedByWeight variant lower → IsDividedByWeight variant upper → IsDividedByWeight variant lower' → IsDividedByWeight variant upper'
    → Rises (kept_of lower) (kept_of lower') → Falls (kept_of upper) (kept_of upper')
    → LiesWithinBy (weight_of_rounds variant) (line_with 0 lower upper) line
    → LiesWithinBy (weight_of_rounds variant) (line_with round lower' upper') line
narrower variant line lower upper lower' upper' round of_lower of_upper of_lower' of_upper' rises falls w =
    let low : ℤ = lower.reply.reply.total in
    let low' : ℤ = lower'.reply.reply.total in
    let high : ℤ = upper.reply.reply.total in
    let high' : ℤ = upper'.reply.reply.total in
    let m : ℕ = weight_of_rounds variant line.low_round in
    let n : ℕ = weight_of_rounds variant line.high_round in
    let not_lower = subst (λ k. (line.low *ℤ pos k) ≤ℤ (low *ℤ pos m)) (sym of_lower.divisor) w.not_lower in
    let not_higher = subst (λ k. (high *ℤ pos n) ≤ℤ (line.high *ℤ pos k)) (sym of_upper.divisor) w.not_higher in
    record {
      not_lower =
          subst (λ k. (line.low *ℤ pos k) ≤ℤ (low' *ℤ pos m)) of_lower'.divisor
          (at_most-trans line.low low low' m lower.divisor lower'.divisor of_lower.some not_lower rises);
      not_higher =
          subst (λ k. (high' *ℤ pos n) ≤ℤ (line.high *ℤ pos k)) of_upper'.divisor
          (at_most-trans high' high line.high upper'.divisor upper.divisor n of_upper.some falls not_higher);
    }

-- the line that is appended
pub last_is : (lines all : List TraceLine) (line last : TraceLine) → all ≡ lines ++ line ∷ [] → all ≡ lines ++ last ∷ []
    → last ≡ line
last_is lines all line last first second =
    let n : ℕ = length lines in
    sym (get_or_at lines last [] line n refl) ∙ ap (λ xs. get_or xs n line) (sym second ∙ first)
    ∙ get_or_at lines line [] line n refl

-- a divisor, which is what the rounds up to the end's weigh, and a bound, within the limits
pub record IsBounded (variant : Variant) (end : KeptEnd) : Type 0 where
  pub some : 1 ≤ end.divisor
  pub weighed : end.divisor ≡ weight_of_rounds variant end.round
  pub divisor : end.divisor ≤ most_divisor
  pub small : unsigned_abs end.reply.total ≤ 2 ^ 98

-- one offer more
module _ (variant : Variant) (lines : List TraceLine) (room capacity : ℕ) (lower upper lower' upper' : BestEnd)
    (next_lower next_upper : KeptEnd) (b : KeepsBoard variant lines room capacity lower upper)
    (offers : ℕ) (count : offers ≡ length lines)
    (low : kept_of lower' ≡ keep_lower (end_after offers (kept_of lower)) next_lower)
    (high : kept_of upper' ≡ keep_upper (end_after offers (kept_of upper)) next_upper)
    (of_lower : IsBounded variant next_lower) (of_upper : IsBounded variant next_upper) where
  old_lower : 1 ≤ offers → IsBounded variant (kept_of lower)
  old_lower some =
      let weighed : IsDividedByWeight variant lower = b.lower_weighed (omega arith) in
      record {
        some = weighed.some;
        weighed = weighed.divisor;
        divisor = b.lower_end.divisor;
        small = b.lower_end.small;
      }

  old_upper : 1 ≤ offers → IsBounded variant (kept_of upper)
  old_upper some =
      let weighed : IsDividedByWeight variant upper = b.upper_weighed (omega arith) in
      record {
        some = weighed.some;
        weighed = weighed.divisor;
        divisor = b.upper_end.divisor;
        small = b.upper_end.small;
      }

  new_lower : IsBounded variant (kept_of lower')
  new_lower =
      subst (IsBounded variant) (sym low)
      (lower_has (IsBounded variant) (kept_of lower) next_lower offers old_lower of_lower)

  new_upper : IsBounded variant (kept_of upper')
  new_upper =
      subst (IsBounded variant) (sym high)
      (upper_has (IsBounded variant) (kept_of upper) next_upper offers old_upper of_upper)

  lower_weighed : IsDividedByWeight variant lower'
  lower_weighed = record { some = new_lower.some; divisor = new_lower.weighed }

  upper_weighed : IsDividedByWeight variant upper'
  upper_weighed = record { some = new_upper.some; divisor = new_upper.weighed }

  -- the new ends lie within each line
  pub narrowed : (round : ℕ) → All (λ line. LiesWithinBy (weight_of_rounds variant) (line_with round lower' upper') line) lines
  narrowed round k d there =
      let some : 1 ≤ length lines = omega arith in
      let rises : Rises (kept_of lower) (kept_of lower') =
      subst (Rises (kept_of lower)) (sym low) (lower_rises offers (kept_of lower) next_lower (omega arith)) in
      let falls : Falls (kept_of upper) (kept_of upper') =
      subst (Falls (kept_of upper)) (sym high) (upper_falls offers (kept_of upper) next_upper (omega arith)) in
      narrower variant (get_or lines k d) lower upper lower' upper' round (b.lower_weighed some)
      (b.upper_weighed some) lower_weighed upper_weighed rises falls (b.narrows k d there)

  -- and the board is kept
  module _ (round room' : ℕ) (lines' : List TraceLine) (fewer : length lines < capacity) (as_much : room ≤ room')
      (appended : lines' ≡ lines ++ line_with round lower' upper' ∷ []) where
    one_more : length lines' ≡ length lines + 1
    one_more =
        let line : TraceLine = line_with round lower' upper' in
        omega (arith, ap length appended, length-append lines (line ∷ []))

    itself : LiesWithinBy (weight_of_rounds variant) (line_with 0 lower' upper') (line_with round lower' upper')
    itself = record {
      not_lower = ≤ℤ_refl (lower'.reply.reply.total *ℤ pos (weight_of_rounds variant lower'.round));
      not_higher = ≤ℤ_refl (upper'.reply.reply.total *ℤ pos (weight_of_rounds variant upper'.round));
    }

    -- with the new line and ends the board is kept, where each end's reply has as many sets as the end
    pub keeps_more : length lower'.reply.reply.sets ≡ lower'.sets → length upper'.reply.reply.sets ≡ upper'.sets
        → KeepsBoard variant lines' room' capacity lower' upper'
    keeps_more lower_sets upper_sets =
        let W : TraceLine → Type 0 = λ line. LiesWithinBy (weight_of_rounds variant) (line_with 0 lower' upper') line in
        record {
          within = omega (arith, one_more);
          reserved = omega (arith, b.reserved);
          lower_end = record { sets = lower_sets; divisor = new_lower.divisor; small = new_lower.small };
          upper_end = record { sets = upper_sets; divisor = new_upper.divisor; small = new_upper.small };
          lower_weighed = λ some. lower_weighed;
          upper_weighed = λ some. upper_weighed;
          narrows =
              subst (All W) (sym appended)
              (All-push W lines (line_with round lower' upper') (narrowed 0) itself);
        }
