-- A board of offers, with the sizes of the form and the variant of rounds that it is made for, and with its room.
use Rattle.std.specs.Prelude.{◌≡◌, ℕ, ◌≤◌, List, [], ◌∷◌, length, All}
use Rattle.def_sums.specs.Limits.{most_mass}
use Rattle.def_plan.specs.Form.{AreInOrder, SequenceForm, sequence_count}
use Rattle.def_plan.specs.Payoff.{mass_of}
use Rattle.def_reply.specs.Reply.{Reply}
use Rattle.def_reply.specs.Bracket.{LiesWithinBy}
use Rattle.def_reply.specs.declared.TraceLine.{TraceLine}
use Rattle.def_reply.specs.Offers.{Board, IsFair, Offer}
use Rattle.def_plus.specs.declared.Variant.{Variant}
use Rattle.def_plus.specs.Variants.{weight_of_rounds}
use Rattle.xg_bracket.specs.declared.end.BestEnd.{BestEnd}
use Rattle.xg_bracket.specs.Ends.{IsEnd, IsDividedByWeight, end_after, kept_of, line_with}

-- how many sequences and sets each player has
pub record FormSizes : Type 0 where
  pub sequences_one : ℕ
  pub sequences_two : ℕ
  pub sets_one : ℕ
  pub sets_two : ℕ

abbrev pub sizes_of : SequenceForm → FormSizes
sizes_of form = record {
  sequences_one = sequence_count form.sets_one;
  sequences_two = sequence_count form.sets_two;
  sets_one = length form.sets_one;
  sets_two = length form.sets_two;
}

-- a board for plans of these sizes and rounds of this variant, and for so many offers
pub record SizedBoard : Type 0 where
  pub board : Board
  pub capacity : ℕ
  pub sizes : FormSizes
  pub variant : Variant

-- the round of the last line, 0 before the first
abbrev pub last_round : List TraceLine → ℕ
last_round [] = 0
last_round (line ∷ []) = line.round
last_round (line ∷ next ∷ lines) = last_round (next ∷ lines)

-- both players' plans after a round, whose bounds are divided by what the rounds weigh, with the reply to each
abbrev pub offer_of : Variant → ℕ → List ℕ → List ℕ → Reply → Reply → Offer
offer_of variant round one two against_one against_two = record {
  round = round;
  divisor = weight_of_rounds variant round;
  plan_one = one;
  plan_two = two;
  against_one = against_one;
  against_two = against_two;
}

-- what may be offered next: a fair offer in a form of the board's sizes that is in order and within the limit of mass
pub record MayBeOffered (board : SizedBoard) (offer : Offer) : Type 0 where
  pub form : SequenceForm
  pub sizes : sizes_of form ≡ board.sizes
  pub order_one : AreInOrder form.sets_one
  pub order_two : AreInOrder form.sets_two
  pub mass : mass_of form.leaves ≤ most_mass
  pub fair : IsFair form (last_round board.board.trace) offer

-- the board that these lines and ends are
abbrev pub sized_board : Variant → List TraceLine → ℕ → BestEnd → BestEnd → SizedBoard
sized_board variant lines capacity lower upper = record {
  board = record {
    trace = lines;
    lower = end_after (length lines) (kept_of lower);
    upper = end_after (length lines) (kept_of upper);
  };
  capacity = capacity;
  sizes = record {
    sequences_one = length lower.plan;
    sequences_two = length upper.plan;
    sets_one = length upper.reply.reply.sets;
    sets_two = length lower.reply.reply.sets;
  };
  variant = variant;
}

-- there is room for all lines, and what is kept lies within each of them
pub record KeepsBoard (variant : Variant) (lines : List TraceLine) (room capacity : ℕ) (lower upper : BestEnd) : Type
    0 where
  pub within : length lines ≤ capacity
  pub reserved : capacity ≤ room
  pub lower_end : IsEnd lower
  pub upper_end : IsEnd upper
  pub lower_weighed : 1 ≤ length lines → IsDividedByWeight variant lower
  pub upper_weighed : 1 ≤ length lines → IsDividedByWeight variant upper
  pub narrows : All (λ line. LiesWithinBy (weight_of_rounds variant) (line_with 0 lower upper) line) lines
