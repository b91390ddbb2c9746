-- The board that offers leave has the trace and the ends of their evaluations.
use Rattle.std.proofs.Common.{◌≡◌, ℕ, suc, Bool, true, false, cond, map, pos, ◌*ℤ◌, List, [], ◌∷◌, ◌++◌, length, get_or, fold, arith, ap, sym, ◌∙◌, refl, subst}
use Rattle.std.proofs.Common.{Option, Some, None, append_assoc, length-append}
use Rattle.std.specs.Prelude.{int_lt, ◌↔◌}
use Rattle.std.proofs.lemmas.Option.{none-some}
use Rattle.std.proofs.lemmas.List.{append-nil, get_or_append_left, get_or_at}
use Rattle.def_plan.specs.Plan.{pure_plan}
use Rattle.def_reply.specs.Reply.{Reply, choices_of}
use Rattle.def_reply.specs.Bounds.{IsFloor, IsCeiling, AttainsFloor, AttainsCeiling}
use Rattle.def_reply.proofs.BoundLaws.{best_bounds}
use Rattle.def_reply.specs.Bracket.{Evaluation, BracketEnds, next_ends, first_ends, trace_line, trace_after, trace}
use Rattle.def_reply.specs.declared.TraceLine.{TraceLine}
use Rattle.def_reply.specs.Offers.{Offer, evaluation_of_offer, KeptEnd, lower_of, upper_of, Board, board_with, new_board, offered, board_after}
use Rattle.def_reply.specs.OfferLaws.{OffersAreTraced, ComesFrom, OffersKeepTheEnds, FirstOfferMakesEnds, FairOffersHaveBounds, KeptEndsAreBounds}
use Rattle.def_reply.proofs.BestEnds.{ends-are}

-- after these offers, whose evaluations have these ends, the board has these lines and what comes from these offers
record IsBoardOf (offers : List Offer) (ends : BracketEnds) (lines : List TraceLine) (board : Board) : Type 0 where
  lower : KeptEnd
  upper : KeptEnd
  is : board ≡ record { trace = lines; lower = Some lower; upper = Some upper }
  lower_from : ComesFrom lower_of offers ends.lower lower
  upper_from : ComesFrom upper_of offers ends.upper upper

-- a place among offers stays when one more comes
still : (kept_of : Offer → KeptEnd) (offers : List Offer) (next : Offer) (e : Evaluation) (kept : KeptEnd)
    → ComesFrom kept_of offers e kept → ComesFrom kept_of (offers ++ next ∷ []) e kept
still kept_of offers next e kept from = record {
  place = from.place;
  within = omega (arith, length-append offers (next ∷ []), from.within);
  is_kept = λ d. ap kept_of (get_or_append_left offers (next ∷ []) d from.place from.within) ∙ from.is_kept d;
  is_evaluated = λ d. ap evaluation_of_offer (get_or_append_left offers (next ∷ []) d from.place from.within) ∙ from.is_evaluated d;
}

newest : (kept_of : Offer → KeptEnd) (offers : List Offer) (next : Offer)
    → ComesFrom kept_of (offers ++ next ∷ []) (evaluation_of_offer next) (kept_of next)
newest kept_of offers next = record {
  place = length offers;
  within = omega (arith, length-append offers (next ∷ []));
  is_kept = λ d. ap kept_of (get_or_at offers next [] d (length offers) refl);
  is_evaluated = λ d. ap evaluation_of_offer (get_or_at offers next [] d (length offers) refl);
}

chosen_by : (kept_of : Offer → KeptEnd) (offers : List Offer) (next : Offer) (e : Evaluation) (kept : KeptEnd)
    (changes : Bool)
    → ComesFrom kept_of offers e kept
    → ComesFrom kept_of (offers ++ next ∷ []) (cond changes (evaluation_of_offer next) e) (cond changes (kept_of next) kept)
chosen_by kept_of offers next e kept true from = newest kept_of offers next
chosen_by kept_of offers next e kept false from = still kept_of offers next e kept from

-- what an end shows of its evaluation
lower_shows : (offers : List Offer) (d : Offer) (e : Evaluation) (kept : KeptEnd) → ComesFrom lower_of offers e kept
    → (kept.round ≡ e.round) × (kept.divisor ≡ e.divisor) × (kept.reply.total ≡ e.low)
lower_shows offers d e kept from = (
  sym (ap (λ (k : KeptEnd). k.round) (from.is_kept d)) ∙ ap (λ (v : Evaluation). v.round) (from.is_evaluated d),
  sym (ap (λ (k : KeptEnd). k.divisor) (from.is_kept d)) ∙ ap (λ (v : Evaluation). v.divisor) (from.is_evaluated d),
  sym (ap (λ (k : KeptEnd). k.reply.total) (from.is_kept d)) ∙ ap (λ (v : Evaluation). v.low) (from.is_evaluated d),
)

upper_shows : (offers : List Offer) (d : Offer) (e : Evaluation) (kept : KeptEnd) → ComesFrom upper_of offers e kept
    → (kept.round ≡ e.round) × (kept.divisor ≡ e.divisor) × (kept.reply.total ≡ e.high)
upper_shows offers d e kept from = (
  sym (ap (λ (k : KeptEnd). k.round) (from.is_kept d)) ∙ ap (λ (v : Evaluation). v.round) (from.is_evaluated d),
  sym (ap (λ (k : KeptEnd). k.divisor) (from.is_kept d)) ∙ ap (λ (v : Evaluation). v.divisor) (from.is_evaluated d),
  sym (ap (λ (k : KeptEnd). k.reply.total) (from.is_kept d)) ∙ ap (λ (v : Evaluation). v.high) (from.is_evaluated d),
)

line_of : ℕ → KeptEnd → KeptEnd → TraceLine
line_of round lower upper = record { round = round; low_round = lower.round; low = lower.reply.total; high_round = upper.round; high = upper.reply.total }

same_line : (offers : List Offer) (d : Offer) (round : ℕ) (ends : BracketEnds) (lower upper : KeptEnd)
    → ComesFrom lower_of offers ends.lower lower → ComesFrom upper_of offers ends.upper upper
    → line_of round lower upper ≡ trace_line round ends
unfolding line_of
same_line offers d round ends lower upper from_lower from_upper =
    let l = lower_shows offers d ends.lower lower from_lower in
    let u = upper_shows offers d ends.upper upper from_upper in
    ap (λ r. record { round = round; low_round = r; low = lower.reply.total; high_round = upper.round; high = upper.reply.total }) l.0
    ∙ ap (λ t. record { round = round; low_round = ends.lower.round; low = t; high_round = upper.round; high = upper.reply.total }) l.2
    ∙ ap (λ r. record { round = round; low_round = ends.lower.round; low = ends.lower.low; high_round = r; high = upper.reply.total }) u.0
    ∙ ap (λ t. record { round = round; low_round = ends.lower.round; low = ends.lower.low; high_round = ends.upper.round; high = t }) u.2

-- one more offer
one_more : (offers : List Offer) (next : Offer) (ends : BracketEnds) (lines : List TraceLine) (board : Board)
    → IsBoardOf offers ends lines board
    → IsBoardOf (offers ++ next ∷ []) (next_ends ends (evaluation_of_offer next))
    (lines ++ trace_line next.round (next_ends ends (evaluation_of_offer next)) ∷ []) (offered board next)
unfolding line_of
one_more offers next ends lines board b =
    let e : Evaluation = evaluation_of_offer next in
    let l = lower_shows offers next ends.lower b.lower b.lower_from in
    let u = upper_shows offers next ends.upper b.upper b.upper_from in
    let lower_changes : Bool = int_lt (ends.lower.low *ℤ pos e.divisor) (e.low *ℤ pos ends.lower.divisor) in
    let upper_changes : Bool = int_lt (e.high *ℤ pos ends.upper.divisor) (ends.upper.high *ℤ pos e.divisor) in
    let lower : KeptEnd = cond lower_changes (lower_of next) b.lower in
    let upper : KeptEnd = cond upper_changes (upper_of next) b.upper in
    let same_lower : int_lt (b.lower.reply.total *ℤ pos e.divisor) (e.low *ℤ pos b.lower.divisor) ≡ lower_changes =
    ap (λ t. int_lt (t *ℤ pos e.divisor) (e.low *ℤ pos b.lower.divisor)) l.2 ∙ ap (λ d. int_lt (ends.lower.low *ℤ pos e.divisor) (e.low *ℤ pos d)) l.1 in
    let same_upper : int_lt (e.high *ℤ pos b.upper.divisor) (b.upper.reply.total *ℤ pos e.divisor) ≡ upper_changes =
    ap (λ t. int_lt (e.high *ℤ pos b.upper.divisor) (t *ℤ pos e.divisor)) u.2 ∙ ap (λ d. int_lt (e.high *ℤ pos d) (ends.upper.high *ℤ pos e.divisor)) u.1 in
    let from_lower = chosen_by lower_of offers next ends.lower b.lower lower_changes b.lower_from in
    let from_upper = chosen_by upper_of offers next ends.upper b.upper upper_changes b.upper_from in
    let line = same_line (offers ++ next ∷ []) next next.round (next_ends ends e) lower upper from_lower from_upper in
    record {
      lower = lower;
      upper = upper;
      is =
          ap (λ k. offered k next) b.is
          ∙ ap (λ t. board_with lines next.round (cond t (lower_of next) b.lower)
          (cond (int_lt (e.high *ℤ pos b.upper.divisor) (b.upper.reply.total *ℤ pos e.divisor)) (upper_of next) b.upper)) same_lower
          ∙ ap (λ t. board_with lines next.round lower (cond t (upper_of next) b.upper)) same_upper
          ∙ ap (λ x. record { trace = lines ++ x ∷ []; lower = Some lower; upper = Some upper }) line;
      lower_from = from_lower;
      upper_from = from_upper;
    }

all_more : (offers : List Offer) (later : List Offer) (ends : BracketEnds) (lines : List TraceLine) (board : Board)
    → IsBoardOf offers ends lines board
    → IsBoardOf (offers ++ later) (fold next_ends ends (map evaluation_of_offer later)) (lines ++ trace_after ends (map evaluation_of_offer later))
    (fold offered board later)
all_more offers [] ends lines board b =
    subst (λ xs. IsBoardOf xs ends (lines ++ []) board) (sym (append-nil offers)) (subst (λ ls. IsBoardOf offers ends ls board) (sym (append-nil lines)) b)
all_more offers (next ∷ later) ends lines board b =
    let e : Evaluation = evaluation_of_offer next in
    let ends' : BracketEnds = next_ends ends e in
    let line : TraceLine = trace_line next.round ends' in
    let rest = all_more (offers ++ next ∷ []) later ends' (lines ++ line ∷ []) (offered board next) (one_more offers next ends lines board b) in
    subst (λ xs. IsBoardOf xs (fold next_ends ends' (map evaluation_of_offer later)) (lines ++ (line ∷ trace_after ends' (map evaluation_of_offer later)))
    (fold offered (offered board next) later))
    (append_assoc offers (next ∷ []) later)
    (subst (λ ls. IsBoardOf ((offers ++ next ∷ []) ++ later) (fold next_ends ends' (map evaluation_of_offer later)) ls
    (fold offered (offered board next) later))
    (append_assoc lines (line ∷ []) (trace_after ends' (map evaluation_of_offer later))) rest)

after_some : (o : Offer) (later : List Offer)
    → IsBoardOf (o ∷ later) (fold next_ends (first_ends (evaluation_of_offer o)) (map evaluation_of_offer later)) (trace (map evaluation_of_offer (o ∷ later)))
    (board_after (o ∷ later))
after_some o later =
    all_more (o ∷ []) later (first_ends (evaluation_of_offer o)) (trace_line o.round (first_ends (evaluation_of_offer o)) ∷ []) (offered new_board o) (record {
      lower = lower_of o;
      upper = upper_of o;
      is = refl;
      lower_from = newest lower_of [] o;
      upper_from = newest upper_of [] o;
    })

-- what a board traces is the trace of its offers' evaluations
pub offers_are_traced : OffersAreTraced
offers_are_traced [] = refl
offers_are_traced (o ∷ later) = ap (λ (b : Board). b.trace) (after_some o later).is

-- both kept ends are those of the offers' evaluations, each with the plan and reply of its offer
pub offers_keep_the_ends : OffersKeepTheEnds
offers_keep_the_ends [] ends is = absurd (none-some ends is)
offers_keep_the_ends (o ∷ later) ends is =
    let b = after_some o later in
    let same : fold next_ends (first_ends (evaluation_of_offer o)) (map evaluation_of_offer later)
    ≡ ends = ends-are (fold next_ends (first_ends (evaluation_of_offer o)) (map evaluation_of_offer later)) ends is in
    record {
      lower = b.lower;
      upper = b.upper;
      lower_is = ap (λ (k : Board). k.lower) b.is;
      upper_is = ap (λ (k : Board). k.upper) b.is;
      lower_from = subst (λ (e : BracketEnds). ComesFrom lower_of (o ∷ later) e.lower b.lower) same b.lower_from;
      upper_from = subst (λ (e : BracketEnds). ComesFrom upper_of (o ∷ later) e.upper b.upper) same b.upper_from;
    }

not_empty : (o : Offer) (later : List Offer) → o ∷ later ≡ [] → ⊥
not_empty o later e = let long : suc (length later) ≡ 0 = ap length e in omega arith

-- a board lacks an end exactly where nothing was offered
pub first_offer_makes_ends : FirstOfferMakesEnds
first_offer_makes_ends = record { lower = lower; upper = upper }
  where
    lower : (offers : List Offer) → ((board_after offers).lower ≡ None) ↔ (offers ≡ [])
    lower [] = (λ e. refl, λ e. refl)
    lower (o ∷ later) =
        let b = after_some o later in
        (λ none. absurd (none-some b.lower (sym none ∙ ap (λ (k : Board). k.lower) b.is)), λ e. absurd (not_empty o later e))

    upper : (offers : List Offer) → ((board_after offers).upper ≡ None) ↔ (offers ≡ [])
    upper [] = (λ e. refl, λ e. refl)
    upper (o ∷ later) =
        let b = after_some o later in
        (λ none. absurd (none-some b.upper (sym none ∙ ap (λ (k : Board). k.upper) b.is)), λ e. absurd (not_empty o later e))

-- in a fair offer the replies' totals are the attained floor and ceiling of the two plans
pub fair_offers_have_bounds : FairOffersHaveBounds
fair_offers_have_bounds form last offer order_one order_two fair = record {
  floor = subst (λ (r : Reply). IsFloor form offer.plan_one r.total) (sym fair.against_one) (best_bounds.floor form offer.plan_one order_two);
  floor_attained = subst (λ (r : Reply). AttainsFloor form offer.plan_one r.total (pure_plan form.sets_two (choices_of r.sets))) (sym fair.against_one)
      (best_bounds.floor_attained form offer.plan_one order_two);
  ceiling = subst (λ (r : Reply). IsCeiling form offer.plan_two r.total) (sym fair.against_two) (best_bounds.ceiling form offer.plan_two order_one);
  ceiling_attained = subst (λ (r : Reply). AttainsCeiling form offer.plan_two r.total (pure_plan form.sets_one (choices_of r.sets))) (sym fair.against_two)
      (best_bounds.ceiling_attained form offer.plan_two order_one);
}

or : Option KeptEnd → KeptEnd → KeptEnd
or None d = d
or (Some x) d = x

is_some : (a b : KeptEnd) → Some a ≡ Some b → a ≡ b
unfolding or
is_some a b e = ap (λ o. or o a) e

-- of fair offers, each kept plan has its reply's total as its floor or ceiling, and attains it
pub kept_ends_are_bounds : KeptEndsAreBounds
kept_ends_are_bounds form [] lower upper order_one order_two fair at_lower at_upper = absurd (none-some lower at_lower)
kept_ends_are_bounds form (o ∷ later) lower upper order_one order_two fair at_lower at_upper =
    let b = after_some o later in
    let low = fair_offers_have_bounds form 0 (get_or (o ∷ later) b.lower_from.place o) order_one order_two (fair b.lower_from.place o b.lower_from.within) in
    let high = fair_offers_have_bounds form 0 (get_or (o ∷ later) b.upper_from.place o) order_one order_two (fair b.upper_from.place o b.upper_from.within) in
    let is_lower : lower_of (get_or (o ∷ later) b.lower_from.place o) ≡ lower = b.lower_from.is_kept o
    ∙ is_some b.lower lower (sym (ap (λ (k : Board). k.lower) b.is) ∙ at_lower) in
    let is_upper : upper_of (get_or (o ∷ later) b.upper_from.place o) ≡ upper = b.upper_from.is_kept o
    ∙ is_some b.upper upper (sym (ap (λ (k : Board). k.upper) b.is) ∙ at_upper) in
    record {
      floor = subst (λ (k : KeptEnd). IsFloor form k.plan k.reply.total) is_lower low.floor;
      floor_attained = subst (λ (k : KeptEnd). AttainsFloor form k.plan k.reply.total (pure_plan form.sets_two (choices_of k.reply.sets))) is_lower
          low.floor_attained;
      ceiling = subst (λ (k : KeptEnd). IsCeiling form k.plan k.reply.total) is_upper high.ceiling;
      ceiling_attained = subst (λ (k : KeptEnd). AttainsCeiling form k.plan k.reply.total (pure_plan form.sets_one (choices_of k.reply.sets))) is_upper
          high.ceiling_attained;
    }
