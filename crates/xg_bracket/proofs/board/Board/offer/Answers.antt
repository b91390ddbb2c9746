use Rattle.std.proofs.Common.{◌≡◌, ◌<◌, ◌≤◌, ◌++◌, [], ◌∷◌, All, List, length, vec_capacity, arith, ap, sym, subst, ◌∙◌}
use Rattle.def_plus.specs.declared.Variant.{Variant}
use Rattle.def_plus.specs.Variants.{weight_of_rounds}
use Rattle.def_reply.specs.Bracket.{LiesWithinBy}
use Rattle.def_reply.specs.declared.TraceLine.{TraceLine}
use Rattle.def_reply.specs.Offers.{KeptEnd, Offer, most_divisor}
use Rattle.xg_bracket.specs.Board.{SizedBoard, offer_of}
use Rattle.xg_bracket.specs.Ends.{kept_end, line_with}
use Rattle.xg_bracket.proofs.Offered.{bounded_lower, bounded_upper, can_keep_lower, can_keep_upper}
use Rattle.xg_bracket.proofs.Narrowing.{keeps_more, last_is, narrowed}
use Rattle.xg_bracket.proofs.board.Board.offer.Goals as goal

pub weight-divisor-requires : goal.weight-divisor-requires
weight-divisor-requires c =
    let same : c.self.inside.variant ≡ c.args.self.now.variant = ap (λ (b : SizedBoard). b.variant) c.self.view_is in
    record {
      small = subst (λ v. weight_of_rounds v c.args.round ≤ most_divisor) (sym same) c.requires.fair.fair.small_divisor;
    }

pub offer_lower-requires : goal.offer_lower-requires
offer_lower-requires c =
    let to_one = c.args.against_one.now.reply in
    let to_two = c.args.against_two.now.reply in
    let old = c.self.inside in
    let offer : Offer = offer_of c.args.self.now.variant c.args.round c.args.one.now c.args.two.now to_one to_two in
    let same : old.variant ≡ c.args.self.now.variant = ap (λ (b : SizedBoard). b.variant) c.self.view_is in
    let is : c.weight-divisor.result ≡ offer.divisor =
    c.weight-divisor.ensures ∙ ap (λ v. weight_of_rounds v c.args.round) same in
    record {
      next = can_keep_lower old.variant c.args.self.now offer c.weight-divisor.result is c.weight-divisor.ensures
          c.requires.fair old.lower c.self.invariant.lower_end
          (ap (λ (b : SizedBoard). b.sizes.sequences_one) c.self.view_is)
          (ap (λ (b : SizedBoard). b.sizes.sets_two) c.self.view_is);
    }

pub offer_upper-requires : goal.offer_upper-requires
offer_upper-requires c =
    let to_one = c.args.against_one.now.reply in
    let to_two = c.args.against_two.now.reply in
    let old = c.self.inside in
    let offer : Offer = offer_of c.args.self.now.variant c.args.round c.args.one.now c.args.two.now to_one to_two in
    let same : old.variant ≡ c.args.self.now.variant = ap (λ (b : SizedBoard). b.variant) c.self.view_is in
    let is : c.weight-divisor.result ≡ offer.divisor =
    c.weight-divisor.ensures ∙ ap (λ v. weight_of_rounds v c.args.round) same in
    record {
      next = can_keep_upper old.variant c.args.self.now offer c.weight-divisor.result is c.weight-divisor.ensures
          c.requires.fair old.upper c.self.invariant.upper_end
          (ap (λ (b : SizedBoard). b.sizes.sequences_two) c.self.view_is)
          (ap (λ (b : SizedBoard). b.sizes.sets_one) c.self.view_is);
    }

pub invariant_of-self : goal.invariant_of-self
invariant_of-self c =
    let to_one = c.args.against_one.now.reply in
    let to_two = c.args.against_two.now.reply in
    let old = c.self.inside in
    let offer : Offer = offer_of c.args.self.now.variant c.args.round c.args.one.now c.args.two.now to_one to_two in
    let same : old.variant ≡ c.args.self.now.variant = ap (λ (b : SizedBoard). b.variant) c.self.view_is in
    let divisor = c.weight-divisor.result in
    let weighed = c.weight-divisor.ensures in
    let is : divisor ≡ offer.divisor = weighed ∙ ap (λ v. weight_of_rounds v c.args.round) same in
    let next_lower : KeptEnd = kept_end c.args.round divisor c.args.one.now to_one in
    let next_upper : KeptEnd = kept_end c.args.round divisor c.args.two.now to_two in
    let lower = c.offer_lower.ensures in
    let upper = c.offer_upper.ensures in
    let trace = c.push_line.new.trace in
    let fewer : length old.trace.items < old.capacity =
    omega (
      arith,
      c.requires.room,
      ap (λ (b : SizedBoard). length b.board.trace) c.self.view_is,
      ap (λ (b : SizedBoard). b.capacity) c.self.view_is,
    ) in
    keeps_more old.variant old.trace.items (vec_capacity old.trace) old.capacity old.lower old.upper c.offer_lower.new.end
    c.offer_upper.new.end next_lower next_upper c.self.invariant c.len-offers.result
    (omega (arith, c.len-offers.ensures)) lower.end upper.end
    (bounded_lower old.variant c.args.self.now offer divisor is weighed c.requires.fair)
    (bounded_upper old.variant c.args.self.now offer divisor is weighed c.requires.fair)
    c.args.round (vec_capacity trace) trace.items fewer c.push_line.ensures.capacity c.push_line.ensures.lines
    (lower.replies ∙ c.self.invariant.lower_end.sets ∙ sym lower.sets)
    (upper.replies ∙ c.self.invariant.upper_end.sets ∙ sym upper.sets)

pub returns-clause-within : goal.returns-clause-within
returns-clause-within c line is_line =
    let to_one = c.args.against_one.now.reply in
    let to_two = c.args.against_two.now.reply in
    let old = c.self.inside in
    let variant : Variant = c.args.self.now.variant in
    let offer : Offer = offer_of variant c.args.round c.args.one.now c.args.two.now to_one to_two in
    let same : old.variant ≡ variant = ap (λ (b : SizedBoard). b.variant) c.self.view_is in
    let divisor = c.weight-divisor.result in
    let weighed = c.weight-divisor.ensures in
    let is : divisor ≡ offer.divisor = weighed ∙ ap (λ v. weight_of_rounds v c.args.round) same in
    let next_lower : KeptEnd = kept_end c.args.round divisor c.args.one.now to_one in
    let next_upper : KeptEnd = kept_end c.args.round divisor c.args.two.now to_two in
    let all : List TraceLine = c.push_line.new.trace.items in
    let lines : List TraceLine = c.args.self.now.board.trace in
    let same_lines : old.trace.items ≡ lines = ap (λ (b : SizedBoard). b.board.trace) c.self.view_is in
    let last : TraceLine = line_with c.args.round c.offer_lower.new.end c.offer_upper.new.end in
    let last_is_line : last ≡ line =
    last_is lines all line last is_line (c.push_line.ensures.lines ∙ ap (λ xs. xs ++ last ∷ []) same_lines) in
    let W : Variant → TraceLine → List TraceLine → Type 0 = λ v l xs. All (λ earlier. LiesWithinBy (weight_of_rounds v) l earlier) xs in
    let of_last =
    narrowed old.variant old.trace.items (vec_capacity old.trace) old.capacity old.lower old.upper c.offer_lower.new.end
    c.offer_upper.new.end next_lower next_upper c.self.invariant c.len-offers.result
    (omega (arith, c.len-offers.ensures)) c.offer_lower.ensures.end c.offer_upper.ensures.end
    (bounded_lower old.variant c.args.self.now offer divisor is weighed c.requires.fair)
    (bounded_upper old.variant c.args.self.now offer divisor is weighed c.requires.fair) c.args.round in
    let of_variant = subst (λ v. W v last old.trace.items) same of_last in
    subst (λ l. W variant l lines) last_is_line (subst (W variant last) same_lines of_variant)
