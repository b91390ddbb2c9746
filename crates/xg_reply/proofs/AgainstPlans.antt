-- Replies to rows that are the leaf sums against a plan.
use Rattle.std.proofs.Common.{◌≡◌, ℕ, List, ℤ, ap, sym, subst, ◌∙◌}
use Rattle.def_tree.specs.declared.Player.{Player}
use Rattle.def_tree.specs.declared.Player.TheVariants.{One, Two}
use Rattle.def_plan.specs.Form.{AreInOrder, InformationSet, SequenceForm, player_sets}
use Rattle.def_plan.specs.Payoff.{AgreeOn, leaf_sum}
use Rattle.def_plan.specs.FormRows.{player_rows, amount_of}
use Rattle.def_plan.proofs.Rows.{player_rows_are_leaf_sums}
use Rattle.def_reply.specs.Reply.{Reply, SetReply, best_reply, best_reply_to, total}
use Rattle.def_reply.proofs.BoundLaws.{best_bounds}
use Rattle.def_reply.proofs.OwnSums.{replies_need_own_sums}
use Rattle.xg_reply.specs.Replies.{IsAttainedBound, reply_to_sums}

-- the reply to these rows is the best reply to the plan
pub against_plan : (form : SequenceForm) (player : Player) (plan : List ℕ) (rows : List ℤ)
    → rows ≡ player_rows form player plan
    → reply_to_sums player (amount_of rows) (player_sets form player) ≡ best_reply_to form player plan
against_plan form player plan rows are =
    let sets : List InformationSet = player_sets form player in
    let sums : ℕ → ℤ = leaf_sum player form.leaves plan in
    let own = player_rows_are_leaf_sums form player plan in
    let agree : AgreeOn sets (amount_of rows) sums = λ s low. ap (λ xs. amount_of xs s) are ∙ own.each_row s low in
    let replies = replies_need_own_sums.replies player (amount_of rows) sums sets agree in
    let best : List SetReply = best_reply player sums sets in
    let totals =
    ap (total (amount_of rows) sets) replies
    ∙ replies_need_own_sums.totals (amount_of rows) sums sets best agree in
    λ i. record { total = totals i; sets = replies i }

-- the total of the best reply to a plan is its attained floor or ceiling
best_bound : (form : SequenceForm) (player : Player) (plan : List ℕ) → AreInOrder (player_sets form player)
    → IsAttainedBound player form plan (best_reply_to form player plan)
best_bound form One plan order =
    record { bound = best_bounds.ceiling form plan order; attained = best_bounds.ceiling_attained form plan order }
best_bound form Two plan order =
    record { bound = best_bounds.floor form plan order; attained = best_bounds.floor_attained form plan order }

-- so it is of the reply to rows that are those against the plan
pub is_attained_bound : (form : SequenceForm) (player : Player) (plan : List ℕ) (rows : List ℤ) (reply : Reply)
    → AreInOrder (player_sets form player) → reply ≡ reply_to_sums player (amount_of rows) (player_sets form player)
    → rows ≡ player_rows form player plan → IsAttainedBound player form plan reply
is_attained_bound form player plan rows reply order is are =
    subst (IsAttainedBound player form plan) (sym (is ∙ against_plan form player plan rows are))
    (best_bound form player plan order)
