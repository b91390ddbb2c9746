-- The ends are the earliest best evaluations.
use Rattle.std.proofs.Common.{◌≡◌, ℕ, ◌≤◌, ◌<◌, ◌⊎◌, inl, inr, cond, List, [], ◌∷◌, ◌++◌, length, get_or, take, fold, pos, ◌*ℤ◌, All, arith, ap, sym, ◌∙◌, refl}
use Rattle.std.proofs.Common.{subst, ⊎_elim, Option, Some, None, append_assoc, length-append}
use Rattle.std.proofs.lemmas.Bool.{cases_lt}
use Rattle.std.proofs.lemmas.Option.{none-some}
use Rattle.std.proofs.lemmas.List.{append-nil, get_or_append_left, get_or_at, take-append-le, take_at, get_or-take, length-take-le}
use Rattle.std.proofs.lemmas.List.Elements.{All-push, All-weaker, All-head, All-tail, All-cons, All-nil}
use Rattle.def_sums.proofs.RingLaws.{≤ℤ_refl}
use Rattle.def_reply.specs.Bracket.{Evaluation, BracketEnds, HasLowerFloor, HasFloorAtMost, HasLowerCeiling, HasCeilingAtMost, higher_floor, lower_ceiling}
use Rattle.def_reply.specs.Bracket.{next_ends, first_ends, ends_of, IsLowerEnd, IsUpperEnd}
use Rattle.def_reply.specs.BracketLaws.{HaveDivisors, EndsAreTheEarliestBest}
use Rattle.def_reply.proofs.Compares.{int_lt_tells, less_at_most, not_less, at_most-less, less-at_most}

-- e is the first of the greatest by an order
record IsFirstGreatest (Below AtMost : Evaluation → Evaluation → Type 0) (es : List Evaluation)
    (e : Evaluation) : Type 0 where
  place : ℕ
  within : place < length es
  stands : (d : Evaluation) → get_or es place d ≡ e
  greatest : All (λ a. AtMost a e) es
  earliest : All (λ a. Below a e) (take place es)

-- what the order is to be between evaluations after some rounds, and how an end is replaced
record Orders (Below AtMost : Evaluation → Evaluation → Type 0)
    (keep : Evaluation → Evaluation → Evaluation) : Type 0 where
  same : (a : Evaluation) → AtMost a a
  weaker : (a b : Evaluation) → Below a b → AtMost a b
  apart : (a b : Evaluation) → Below a b → AtMost b a → ⊥
  chain : (a b c : Evaluation) → 1 ≤ a.divisor → AtMost a b → Below b c → Below a c
  keeps : (kept next : Evaluation)
      → ((keep kept next ≡ next) × Below kept next) ⊎ ((keep kept next ≡ kept) × AtMost next kept)

module _ {Below AtMost : Evaluation → Evaluation → Type 0} {keep : Evaluation → Evaluation → Evaluation}
    (orders : Orders Below AtMost keep) where
  abbrev IsFirstOfGreatest : List Evaluation → Evaluation → Type 0
  IsFirstOfGreatest = IsFirstGreatest Below AtMost

  replaced : (es : List Evaluation) (kept next : Evaluation) → HaveDivisors es → IsFirstOfGreatest es kept
      → Below kept next
      → IsFirstOfGreatest (es ++ next ∷ []) next
  replaced es kept next rounds f less =
      let below : All (λ a. Below a next) es = λ k d low. orders.chain (get_or es k d) kept next (rounds k d low) (f.greatest k d low) less in
      record {
        place = length es;
        within = omega (arith, length-append es (next ∷ []));
        stands = λ d. get_or_at es next [] d (length es) refl;
        greatest = All-push (λ a. AtMost a next) es next (All-weaker (λ a. Below a next) (λ a. AtMost a next) (λ a. orders.weaker a next) es below)
            (orders.same next);
        earliest = subst (All (λ a. Below a next)) (sym (take_at es (next ∷ []) (length es) refl)) below;
      }

  kept_on : (es : List Evaluation) (kept next : Evaluation) → IsFirstOfGreatest es kept → AtMost next kept
      → IsFirstOfGreatest (es ++ next ∷ []) kept
  kept_on es kept next f le = record {
    place = f.place;
    within = omega (arith, length-append es (next ∷ []), f.within);
    stands = λ d. get_or_append_left es (next ∷ []) d f.place f.within ∙ f.stands d;
    greatest = All-push (λ a. AtMost a kept) es next f.greatest le;
    earliest = subst (All (λ a. Below a kept)) (sym (take-append-le f.place es (next ∷ []) (omega (arith, f.within)))) f.earliest;
  }

  one_more : (es : List Evaluation) (kept next : Evaluation) → HaveDivisors es → IsFirstOfGreatest es kept
      → IsFirstOfGreatest (es ++ next ∷ []) (keep kept next)
  one_more es kept next rounds f =
      ⊎_elim
      (λ changed. subst (IsFirstOfGreatest (es ++ next ∷ [])) (sym changed.0) (replaced es kept next rounds f changed.1))
      (λ stayed. subst (IsFirstOfGreatest (es ++ next ∷ [])) (sym stayed.0) (kept_on es kept next f stayed.1))
      (orders.keeps kept next)

  all_more : (es : List Evaluation) (kept : Evaluation) (later : List Evaluation) → HaveDivisors es → HaveDivisors later
      → IsFirstOfGreatest es kept → IsFirstOfGreatest (es ++ later) (fold keep kept later)
  all_more es kept [] rounds more f = subst (λ xs. IsFirstOfGreatest xs kept) (sym (append-nil es)) f
  all_more es kept (e ∷ later) rounds more f =
      let r : HaveDivisors (es ++ e ∷ []) = All-push (λ a. 1 ≤ a.divisor) es e rounds (All-head (λ a. 1 ≤ a.divisor) e later more) in
      subst (λ xs. IsFirstOfGreatest xs (fold keep (keep kept e) later)) (append_assoc es (e ∷ []) later)
      (all_more (es ++ e ∷ []) (keep kept e) later r (All-tail (λ a. 1 ≤ a.divisor) e later more) (one_more es kept e rounds f))

  from_first : (e : Evaluation) (later : List Evaluation) → HaveDivisors (e ∷ later)
      → IsFirstOfGreatest (e ∷ later) (fold keep e later)
  from_first e later rounds =
      let alone : IsFirstOfGreatest (e ∷ []) e = record {
        place = 0;
        within = omega arith;
        stands = λ d. refl;
        greatest = All-cons (λ a. AtMost a e) e [] (orders.same e) (All-nil (λ a. AtMost a e));
        earliest = All-nil (λ a. Below a e);
      } in
      all_more (e ∷ []) e later (All-cons (λ a. 1 ≤ a.divisor) e [] (All-head (λ a. 1 ≤ a.divisor) e later rounds) (All-nil (λ a. 1 ≤ a.divisor)))
      (All-tail (λ a. 1 ≤ a.divisor) e later rounds) alone

  -- of two such evaluations neither comes first
  not_earlier : (es : List Evaluation) (e f : Evaluation) (a : IsFirstOfGreatest es e) (b : IsFirstOfGreatest es f)
      → a.place < b.place → ⊥
  not_earlier es e f a b less =
      let shown : Below e f = subst (λ x. Below x f) (get_or-take b.place es a.place e less ∙ a.stands e)
      (b.earliest a.place e (omega (arith, b.within, length-take-le b.place es (omega (arith, b.within))))) in
      let back : AtMost f e = subst (λ x. AtMost x e) (b.stands e) (a.greatest b.place e b.within) in
      orders.apart e f shown back

  one_only : (es : List Evaluation) (e f : Evaluation) → IsFirstOfGreatest es e → IsFirstOfGreatest es f → e ≡ f
  one_only es e f a b =
      let same_place : a.place ≡ b.place =
      ⊎_elim (λ less. absurd (not_earlier es e f a b less)) (λ le. ⊎_elim (λ less. absurd (not_earlier es f e b a less)) (λ ge. omega arith)
      (cases_lt b.place a.place)) (cases_lt a.place b.place)
      in
      sym (a.stands e) ∙ ap (λ k. get_or es k e) same_place ∙ b.stands e

-- ---- floors and ceilings
floors : Orders HasLowerFloor HasFloorAtMost higher_floor
floors = record {
  same = λ a. ≤ℤ_refl (a.low *ℤ pos a.divisor);
  weaker = λ a b. less_at_most (a.low *ℤ pos b.divisor) (b.low *ℤ pos a.divisor);
  apart = λ a b. not_less (a.low *ℤ pos b.divisor) (b.low *ℤ pos a.divisor);
  chain = λ a b c some h k. at_most-less a.low b.low c.low a.divisor b.divisor c.divisor some h k;
  keeps = λ kept next.
      ⊎_elim (λ yes. inl (ap (λ t. cond t next kept) yes.0, yes.1)) (λ not. inr (ap (λ t. cond t next kept) not.0, not.1))
      (int_lt_tells (kept.low *ℤ pos next.divisor) (next.low *ℤ pos kept.divisor));
}

ceilings : Orders (λ a e. HasLowerCeiling e a) (λ a e. HasCeilingAtMost e a) lower_ceiling
ceilings = record {
  same = λ a. ≤ℤ_refl (a.high *ℤ pos a.divisor);
  weaker = λ a b. less_at_most (b.high *ℤ pos a.divisor) (a.high *ℤ pos b.divisor);
  apart = λ a b. not_less (b.high *ℤ pos a.divisor) (a.high *ℤ pos b.divisor);
  chain = λ a b c some h k. less-at_most c.high b.high a.high c.divisor b.divisor a.divisor some k h;
  keeps = λ kept next.
      ⊎_elim (λ yes. inl (ap (λ t. cond t next kept) yes.0, yes.1)) (λ not. inr (ap (λ t. cond t next kept) not.0, not.1))
      (int_lt_tells (next.high *ℤ pos kept.divisor) (kept.high *ℤ pos next.divisor));
}

pub fold-lower : (ends : BracketEnds) (es : List Evaluation)
    → (fold next_ends ends es).lower ≡ fold higher_floor ends.lower es
fold-lower ends [] = refl
fold-lower ends (e ∷ es) = fold-lower (next_ends ends e) es

pub fold-upper : (ends : BracketEnds) (es : List Evaluation)
    → (fold next_ends ends es).upper ≡ fold lower_ceiling ends.upper es
fold-upper ends [] = refl
fold-upper ends (e ∷ es) = fold-upper (next_ends ends e) es

value : Option BracketEnds → BracketEnds → BracketEnds
value None d = d
value (Some e) d = e

-- two brackets' ends are the same where the options that hold them are
pub ends-are : (a b : BracketEnds) → Some a ≡ Some b → a ≡ b
unfolding value
ends-are a b e = ap (λ o. value o a) e

lower_end : (es : List Evaluation) (ends : BracketEnds) → HaveDivisors es → ends_of es ≡ Some ends
    → IsLowerEnd es ends.lower
lower_end [] ends rounds e = absurd (none-some ends e)
lower_end (a ∷ rest) ends rounds e =
    let f = from_first floors a rest rounds in
    let is : fold higher_floor a rest ≡ ends.lower = sym (fold-lower (first_ends a) rest)
    ∙ ap (λ x. x.lower) (ends-are (fold next_ends (first_ends a) rest) ends e) in
    subst (IsLowerEnd (a ∷ rest)) is (record { place = f.place; within = f.within; stands = f.stands; greatest = f.greatest; earliest = f.earliest })

upper_end : (es : List Evaluation) (ends : BracketEnds) → HaveDivisors es → ends_of es ≡ Some ends
    → IsUpperEnd es ends.upper
upper_end [] ends rounds e = absurd (none-some ends e)
upper_end (a ∷ rest) ends rounds e =
    let f = from_first ceilings a rest rounds in
    let is : fold lower_ceiling a rest ≡ ends.upper = sym (fold-upper (first_ends a) rest)
    ∙ ap (λ x. x.upper) (ends-are (fold next_ends (first_ends a) rest) ends e) in
    subst (IsUpperEnd (a ∷ rest)) is (record { place = f.place; within = f.within; stands = f.stands; least = f.greatest; earliest = f.earliest })

as_lower : {es : List Evaluation} {e : Evaluation} → IsLowerEnd es e → IsFirstGreatest HasLowerFloor HasFloorAtMost es e
as_lower f = record { place = f.place; within = f.within; stands = f.stands; greatest = f.greatest; earliest = f.earliest }

as_upper : {es : List Evaluation} {e : Evaluation} → IsUpperEnd es e
    → IsFirstGreatest (λ a e. HasLowerCeiling e a) (λ a e. HasCeilingAtMost e a) es e
as_upper f = record { place = f.place; within = f.within; stands = f.stands; greatest = f.least; earliest = f.earliest }

-- each end is the first evaluation with the best bound on its side, and only that one
pub best_ends : EndsAreTheEarliestBest
best_ends = record {
  lower = lower_end;
  upper = upper_end;
  lower_only = λ es e f a b. one_only floors es e f (as_lower a) (as_lower b);
  upper_only = λ es e f a b. one_only ceilings es e f (as_upper a) (as_upper b);
}
