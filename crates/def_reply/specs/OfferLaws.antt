-- What holds of the boards that offers leave. Each is the contract of a function of this crate.
use Rattle.std.specs.Prelude.{◌≡◌, ℕ, ◌<◌, ◌↔◌, List, [], length, map, slice_index_or, All, Some, None}
use Rattle.def_plan.specs.Form.{SequenceForm, AreInOrder}
use Rattle.def_plan.specs.Plan.{pure_plan}
use Rattle.def_reply.specs.Reply.{choices_of}
use Rattle.def_reply.specs.Bounds.{IsFloor, IsCeiling, AttainsFloor, AttainsCeiling}
use Rattle.def_reply.specs.Bracket.{Evaluation, BracketEnds, ends_of, trace}
use Rattle.def_reply.specs.Offers.{Offer, evaluation_of_offer, KeptEnd, lower_of, upper_of, board_after, IsFair}

-- the trace is that of the offers' evaluations
abbrev pub OffersAreTraced : Type 0
OffersAreTraced = (offers : List Offer) → (board_after offers).trace ≡ trace (map evaluation_of_offer offers)

-- what is kept comes from one of the offers: the one whose evaluation this is
pub record ComesFrom (kept_of : Offer → KeptEnd) (offers : List Offer) (evaluation : Evaluation)
    (kept : KeptEnd) : Type 0 where
  pub place : ℕ
  pub within : place < length offers
  pub is_kept : (d : Offer) → kept_of (slice_index_or offers place d) ≡ kept
  pub is_evaluated : (d : Offer) → evaluation_of_offer (slice_index_or offers place d) ≡ evaluation

-- the ends that are kept are those of the offers' evaluations, each with its own plan and reply
pub record KeepsTheEnds (offers : List Offer) (ends : BracketEnds) : Type 0 where
  pub lower : KeptEnd
  pub upper : KeptEnd
  pub lower_is : (board_after offers).lower ≡ Some lower
  pub upper_is : (board_after offers).upper ≡ Some upper
  pub lower_from : ComesFrom lower_of offers ends.lower lower
  pub upper_from : ComesFrom upper_of offers ends.upper upper

abbrev pub OffersKeepTheEnds : Type 0
OffersKeepTheEnds = (offers : List Offer) (ends : BracketEnds) → ends_of (map evaluation_of_offer offers) ≡ Some ends
    → KeepsTheEnds offers ends

-- before the first offer there is no end, and after it there are both
pub record FirstOfferMakesEnds : Type 0 where
  pub lower : (offers : List Offer) → ((board_after offers).lower ≡ None) ↔ (offers ≡ [])
  pub upper : (offers : List Offer) → ((board_after offers).upper ≡ None) ↔ (offers ≡ [])

-- the total of the reply in a fair offer is the attained floor of player one's plan,
-- and the attained ceiling of player two's
pub record HasBounds (form : SequenceForm) (offer : Offer) : Type 0 where
  pub floor : IsFloor form offer.plan_one offer.against_one.total
  pub floor_attained : AttainsFloor form offer.plan_one offer.against_one.total
      (pure_plan form.sets_two (choices_of offer.against_one.sets))
  pub ceiling : IsCeiling form offer.plan_two offer.against_two.total
  pub ceiling_attained : AttainsCeiling form offer.plan_two offer.against_two.total
      (pure_plan form.sets_one (choices_of offer.against_two.sets))

abbrev pub FairOffersHaveBounds : Type 0
FairOffersHaveBounds = (form : SequenceForm) (last : ℕ) (offer : Offer) → AreInOrder form.sets_one
    → AreInOrder form.sets_two
    → IsFair form last offer → HasBounds form offer

-- and so have the ends that are kept of fair offers
pub record AreBoundsOf (form : SequenceForm) (lower upper : KeptEnd) : Type 0 where
  pub floor : IsFloor form lower.plan lower.reply.total
  pub floor_attained : AttainsFloor form lower.plan lower.reply.total
      (pure_plan form.sets_two (choices_of lower.reply.sets))
  pub ceiling : IsCeiling form upper.plan upper.reply.total
  pub ceiling_attained : AttainsCeiling form upper.plan upper.reply.total
      (pure_plan form.sets_one (choices_of upper.reply.sets))

abbrev pub KeptEndsAreBounds : Type 0
KeptEndsAreBounds = (form : SequenceForm) (offers : List Offer) (lower upper : KeptEnd) → AreInOrder form.sets_one
    → AreInOrder form.sets_two
    → All (IsFair form 0) offers → (board_after offers).lower ≡ Some lower → (board_after offers).upper ≡ Some upper
    → AreBoundsOf form lower upper
