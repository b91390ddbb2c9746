-- What a fair offer brings: plans and replies that the ends have room for, and bounds within the limits.
use Rattle.std.proofs.Common.{◌≡◌, ℕ, suc, ◌*◌, ◌^◌, ◌≤◌, List, [], ◌∷◌, length, ℤ, unsigned_abs, refl, ap, sym, subst, ◌∙◌}
use Rattle.def_tree.specs.declared.Player.{Player}
use Rattle.def_tree.specs.declared.Player.TheVariants.{One, Two}
use Rattle.def_plan.specs.Form.{PlacedSet, SequenceForm, placed, player_sets}
use Rattle.def_plan.specs.Payoff.{leaf_sum}
use Rattle.def_plan.proofs.BadSets.{length-placed}
use Rattle.def_reply.specs.Reply.{Reply, best_reply_to, replies_at}
use Rattle.def_reply.proofs.ReplySizes.{bounds_small}
use Rattle.def_reply.specs.Offers.{Offer, most_divisor}
use Rattle.def_plus.specs.declared.Variant.{Variant}
use Rattle.def_plus.specs.Variants.{weight_of_rounds}
use Rattle.xg_bracket.specs.Board.{FormSizes, MayBeOffered, SizedBoard}
use Rattle.xg_bracket.specs.Ends.{CanKeep, IsEnd, kept_end}
use Rattle.xg_bracket.proofs.Narrowing.{IsBounded}
use Rattle.xg_bracket.specs.declared.end.BestEnd.{BestEnd}

length-replies : (player : Player) (sums : ℕ → ℤ) (hs : List PlacedSet)
    → length (replies_at player sums hs) ≡ length hs
length-replies player sums [] = refl
length-replies player sums (h ∷ hs) = ap suc (length-replies player sums hs)

-- a best reply has one for each set
pub length-best : (form : SequenceForm) (player : Player) (plan : List ℕ)
    → length (best_reply_to form player plan).sets ≡ length (player_sets form player)
length-best form player plan =
    let hs : List PlacedSet = placed (player_sets form player) in
    length-replies player (leaf_sum player form.leaves plan) hs ∙ length-placed 1 (player_sets form player)

module _ (variant : Variant) (board : SizedBoard) (offer : Offer) (divisor : ℕ) (is : divisor ≡ offer.divisor)
    (weighed : divisor ≡ weight_of_rounds variant offer.round) (m : MayBeOffered board offer) where
  abbrev root : ℕ
  root = offer.divisor * m.fair.scale

  low_small : unsigned_abs offer.against_one.total ≤ 2 ^ 98
  low_small =
      subst (λ (r : Reply). unsigned_abs r.total ≤ 2 ^ 98) (sym m.fair.against_one)
      (bounds_small.floor m.form root offer.plan_one m.order_one m.order_two m.fair.plan_one m.mass m.fair.small_root)

  high_small : unsigned_abs offer.against_two.total ≤ 2 ^ 98
  high_small =
      subst (λ (r : Reply). unsigned_abs r.total ≤ 2 ^ 98) (sym m.fair.against_two)
      (bounds_small.ceiling m.form root offer.plan_two m.order_one m.order_two m.fair.plan_two m.mass m.fair.small_root)

  divisor_some : 1 ≤ divisor
  divisor_some = subst (λ d. 1 ≤ d) (sym is) m.fair.some_divisor

  divisor_small : divisor ≤ most_divisor
  divisor_small = subst (λ d. d ≤ most_divisor) (sym is) m.fair.small_divisor

  -- both ends have divisors and bounds within the limits
  pub bounded_lower : IsBounded variant (kept_end offer.round divisor offer.plan_one offer.against_one)
  bounded_lower = record {
    some = divisor_some;
    weighed = weighed;
    divisor = divisor_small;
    small = low_small;
  }

  pub bounded_upper : IsBounded variant (kept_end offer.round divisor offer.plan_two offer.against_two)
  bounded_upper = record {
    some = divisor_some;
    weighed = weighed;
    divisor = divisor_small;
    small = high_small;
  }

  -- an end of the sizes of the board has room for player one's plan and the reply to it
  pub can_keep_lower : (lower : BestEnd) → IsEnd lower → length lower.plan ≡ board.sizes.sequences_one
      → length lower.reply.reply.sets ≡ board.sizes.sets_two
      → CanKeep lower divisor offer.plan_one offer.against_one
  can_keep_lower lower is_end sequences sets = record {
    is_end = is_end;
    sequences = m.fair.plan_one.all_sequences ∙ ap (λ (s : FormSizes). s.sequences_one) m.sizes ∙ sym sequences;
    sets =
        ap (λ (r : Reply). length r.sets) m.fair.against_one ∙ length-best m.form Two offer.plan_one
        ∙ ap (λ (s : FormSizes). s.sets_two) m.sizes ∙ sym sets ∙ is_end.sets;
    small_divisor = divisor_small;
    small = low_small;
  }

  -- and for player two's
  pub can_keep_upper : (upper : BestEnd) → IsEnd upper → length upper.plan ≡ board.sizes.sequences_two
      → length upper.reply.reply.sets ≡ board.sizes.sets_one
      → CanKeep upper divisor offer.plan_two offer.against_two
  can_keep_upper upper is_end sequences sets = record {
    is_end = is_end;
    sequences = m.fair.plan_two.all_sequences ∙ ap (λ (s : FormSizes). s.sequences_two) m.sizes ∙ sym sequences;
    sets =
        ap (λ (r : Reply). length r.sets) m.fair.against_two ∙ length-best m.form One offer.plan_two
        ∙ ap (λ (s : FormSizes). s.sets_one) m.sizes ∙ sym sets ∙ is_end.sets;
    small_divisor = divisor_small;
    small = high_small;
  }
