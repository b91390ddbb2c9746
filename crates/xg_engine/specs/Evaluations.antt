-- What is evaluated, and the room for it.
use Rattle.std.specs.Prelude.{◌≡◌, ℕ, ◌*◌, ◌%◌, ◌≤◌, ◌==◌, ◌||◌, List, length, map, filter}
use Rattle.std.specs.List.{range_with_len}
use Rattle.def_sums.specs.Limits.{most_root, most_rounds}
use Rattle.def_tree.specs.declared.Player.TheVariants.{One, Two}
use Rattle.def_plan.specs.Form.{SequenceForm, sequence_count}
use Rattle.def_plan.specs.Plan.{IsPlan}
use Rattle.def_reply.specs.Reply.{best_reply_to}
use Rattle.def_reply.specs.Offers.{Offer, most_divisor}
use Rattle.def_run.specs.Run.{offer_in}
use Rattle.def_plus.specs.declared.Variant.{Variant}
use Rattle.def_plus.specs.Variants.{weight_of_rounds}
use Rattle.def_plus_run.specs.VariantRun.{run_of}
use Rattle.xg_bracket.specs.Board.{offer_of, sizes_of}
use Rattle.xg_engine.specs.declared.evaluating.Evaluator.{Evaluator}
use Rattle.xg_engine.specs.declared.evaluating.RowRoom.{RowRoom}
use Rattle.def_command.specs.declared.Settings.{Settings}

-- there is room for all sequences, in either width
pub record HasRoomForRows (form : SequenceForm) (room : RowRoom) : Type 0 where
  pub one : length room.rows.one ≡ sequence_count form.sets_one
  pub two : length room.rows.two ≡ sequence_count form.sets_two
  pub small_one : length room.small_rows.one ≡ sequence_count form.sets_one
  pub small_two : length room.small_rows.two ≡ sequence_count form.sets_two

-- the board is made for plans in the form after rounds of the variant and for so many offers, and rows and replies have
-- room for all sets and sequences
pub record CanEvaluate (variant : Variant) (form : SequenceForm) (evaluations : ℕ)
    (evaluator : Evaluator) : Type 0 where
  pub capacity : evaluator.board.capacity ≡ evaluations
  pub sizes : evaluator.board.sizes ≡ sizes_of form
  pub variant_is : evaluator.board.variant ≡ variant
  pub rows : HasRoomForRows form evaluator.room
  pub sets_one : length evaluator.reply_one.reply.sets ≡ length form.sets_one
  pub worths_one : length evaluator.reply_one.worths ≡ sequence_count form.sets_one
  pub sets_two : length evaluator.reply_two.reply.sets ≡ length form.sets_two
  pub worths_two : length evaluator.reply_two.worths ≡ sequence_count form.sets_two

-- both are sums of plans of one scale over so many rounds, each plan as many times as its round weighs
pub record AreSumsAfter (variant : Variant) (form : SequenceForm) (round : ℕ) (one two : List ℕ) : Type 0 where
  pub scale : ℕ
  pub few_rounds : round ≤ most_rounds
  pub some_weight : 1 ≤ weight_of_rounds variant round
  pub small_weight : weight_of_rounds variant round ≤ most_divisor
  pub some_scale : 1 ≤ scale
  pub small_root : weight_of_rounds variant round * scale ≤ most_root
  pub plan_one : IsPlan form.sets_one (weight_of_rounds variant round * scale) one
  pub plan_two : IsPlan form.sets_two (weight_of_rounds variant round * scale) two

-- what is offered of two sums: each with the best reply to it
abbrev pub best_offer : Variant → SequenceForm → ℕ → List ℕ → List ℕ → Offer
best_offer variant form round one two =
    offer_of variant round one two (best_reply_to form Two one) (best_reply_to form One two)

-- the offers of the evaluated ones of the first rounds
abbrev pub offers_upto : Variant → SequenceForm → Settings → ℕ → List Offer
offers_upto variant form settings k =
    map (offer_in form (run_of variant form settings.scale))
    (filter (λ j. (j % settings.every == 0) || (j == settings.rounds)) (range_with_len 1 k))
