-- Rows as leaf sums.
use Rattle.std.proofs.Common.{◌≡◌, ℕ, ◌+◌, ◌-◌, ◌<◌, true, false, cond, eqb, ltb, List, length, get_or, slice_index, arith, ap, sym, ◌∙◌, length-append, ⊎_elim}
use Rattle.std.specs.Prelude.{pos, ◌*ℤ◌}
use Rattle.std.proofs.lemmas.Bool.{cases_lt, le-ltb}
use Rattle.std.proofs.lemmas.Bool.Decides.{nat_tests}
use Rattle.std.proofs.lemmas.List.{get_or_append_left, get_or-append-add}
use Rattle.std.proofs.lemmas.List.FromFn.{get_or-map-range_with_len, length-map-range_with_len}
use Rattle.def_sums.specs.Sum.{sum_over}
use Rattle.def_sums.proofs.SumLaws.{sum_over-filter}
use Rattle.def_tree.specs.declared.Player.{Player}
use Rattle.def_tree.specs.declared.Player.TheVariants.{One, Two}
use Rattle.def_tree.specs.Opponent.{opponent}
use Rattle.def_plan.specs.Form.{SequenceForm, Leaf, sequence_count, leaf_sequence, player_sets}
use Rattle.def_plan.specs.Payoff.{leaf_sum}
use Rattle.def_plan.specs.FormRows.{player_rows, rows, amount_at, amount_in_row}
use Rattle.def_plan.specs.RowLaws.{RowsAreLeafSums, PlayerRowsAreLeafSums, RowsAddAmounts}

-- a leaf sum as a sum over all leaves of a list
pub leaf_sums_add_amounts : (player : Player) (leaves : List Leaf) (against : List ℕ) (s : ℕ)
    → sum_over (λ z. amount_at player against z s) leaves ≡ leaf_sum player leaves against s
leaf_sums_add_amounts player leaves against s =
    sym (sum_over-filter (λ z. z.weight *ℤ pos (slice_index against (leaf_sequence (opponent player) z))) (λ z. eqb (leaf_sequence player z) s) leaves)

-- a row of player one by what its leaves add
pub in_row_of_one : (form : SequenceForm) (numbers_one numbers_two : List ℕ) (leaves : List Leaf) (s : ℕ)
    → s < sequence_count form.sets_one
    → sum_over (λ z. amount_in_row form numbers_one numbers_two z s) leaves ≡ leaf_sum One leaves numbers_two s
in_row_of_one form numbers_one numbers_two leaves s below =
    let inside : ltb s (sequence_count form.sets_one) ≡ true = grind (arith, nat_tests) in
    ap (λ b. sum_over (λ z. cond b (amount_at One numbers_two z s) (amount_at Two numbers_one z (s - sequence_count form.sets_one))) leaves) inside
    ∙ leaf_sums_add_amounts One leaves numbers_two s

-- a row of player two by what its leaves add
pub in_row_of_two : (form : SequenceForm) (numbers_one numbers_two : List ℕ) (leaves : List Leaf) (s : ℕ)
    → sum_over (λ z. amount_in_row form numbers_one numbers_two z (sequence_count form.sets_one + s)) leaves
    ≡ leaf_sum Two leaves numbers_one s
in_row_of_two form numbers_one numbers_two leaves s =
    let count : ℕ = sequence_count form.sets_one in
    let past : ltb (count + s) count ≡ false = le-ltb (count + s) count (omega arith) in
    let row : count + s - count ≡ s = omega arith in
    ap (λ b. sum_over (λ z. cond b (amount_at One numbers_two z (count + s)) (amount_at Two numbers_one z (count + s - count))) leaves) past
    ∙ ap (λ k. sum_over (λ z. amount_at Two numbers_one z k) leaves) row
    ∙ leaf_sums_add_amounts Two leaves numbers_one s

-- a player has a row for each sequence, and in it the leaf sum against the other's numbers
pub player_rows_are_leaf_sums : PlayerRowsAreLeafSums
player_rows_are_leaf_sums form player against = record {
  count = length-map-range_with_len (leaf_sum player form.leaves against) 0 (sequence_count (player_sets form player));
  each_row = λ s below. get_or-map-range_with_len (leaf_sum player form.leaves against) 0 (sequence_count (player_sets form player)) s s (pos 0) below
      (omega arith);
}

-- first player one's sequences, then player two's, each row with the leaf sum of its sequence
pub rows_are_leaf_sums : RowsAreLeafSums
rows_are_leaf_sums form numbers_one numbers_two =
    let of_one = player_rows_are_leaf_sums form One numbers_two in
    let of_two = player_rows_are_leaf_sums form Two numbers_one in
    let ones = player_rows form One numbers_two in
    let twos = player_rows form Two numbers_one in
    record {
      count = omega (arith, length-append ones twos, of_one.count, of_two.count);
      rows_of_one = λ s below.
          let inside : s < length ones = omega (arith, of_one.count) in
          get_or_append_left ones twos (pos 0) s inside ∙ of_one.each_row s below;
      rows_of_two = λ s below.
          let place : sequence_count form.sets_one + s ≡ length ones + s = omega (arith, of_one.count) in
          ap (λ row. get_or (rows form numbers_one numbers_two) row (pos 0)) place ∙ get_or-append-add ones twos s (pos 0) ∙ of_two.each_row s below;
    }

-- what stands in a row is the sum of what each leaf adds to it
pub rows_add_amounts : RowsAddAmounts
rows_add_amounts form numbers_one numbers_two row below =
    let are = rows_are_leaf_sums form numbers_one numbers_two in
    ⊎_elim
    (λ of_one. in_row_of_one form numbers_one numbers_two form.leaves row of_one ∙ sym (are.rows_of_one row of_one))
    (λ of_two.
    let s : ℕ = row - sequence_count form.sets_one in
    let is : row ≡ sequence_count form.sets_one + s = omega arith in
    let inside : s < sequence_count form.sets_two = omega arith in
    ap (λ r. sum_over (λ z. amount_in_row form numbers_one numbers_two z r) form.leaves) is
    ∙ in_row_of_two form numbers_one numbers_two form.leaves s ∙ sym (are.rows_of_two s inside)
    ∙ ap (λ r. get_or (rows form numbers_one numbers_two) r (pos 0)) (sym is))
    (cases_lt row (sequence_count form.sets_one))
