-- The sums of all jobs' amounts are the plain sums over all leaves.
use Rattle.std.proofs.Common.{◌≡◌, ℕ, ◌+◌, ◌<◌, List, length, get_or, sym, ap, ◌∙◌, subst, arith, ℤ, pos}
use Rattle.std.proofs.lemmas.List.{ext_get_or, get_or_append_left, get_or-append-add, length-append}
use Rattle.def_tree.specs.declared.Player.TheVariants.{One, Two}
use Rattle.def_tree.specs.Tree.{leaf_count, prefix}
use Rattle.def_history.specs.Ranges.{LeafRange, Partitions}
use Rattle.def_history.proofs.Ranges.{partition}
use Rattle.def_plan.specs.Form.{SequenceForm, sequence_count}
use Rattle.def_history.specs.History.{sum_over_jobs}
use Rattle.def_history.specs.Leaves.{sum_over_leaves}
use Rattle.def_history.proofs.Leaves.{jobs_add_up}
use Rattle.def_history.specs.JobRows.{leaf_amount}
use Rattle.def_history.proofs.JobRows.{rows_sum_over_leaves}
use Rattle.def_plan.specs.FormRows.{player_rows, row_count}
use Rattle.def_plan.specs.RowLaws.{ArePlayerLeafSums}
use Rattle.def_plan.proofs.Rows.{player_rows_are_leaf_sums}
use Rattle.xg_jobs.specs.Rows.{Amounts, all_rows, ArePlainSums}
use Rattle.xg_jobs.specs.Table.{IsTableOf, TableOfJobs}
use Rattle.xg_jobs.specs.declared.input.RowInput.{RowInput}
use Rattle.xg_jobs.specs.JobAmounts.{IsRoundOf}
use Rattle.xg_jobs.proofs.TouchedJobs.{form_leaves}

-- the jobs of a form's table have its leaves, each once
pub ranges_partition : (form : SequenceForm) (table : TableOfJobs) → IsTableOf form table
    → Partitions table.ranges (length form.leaves)
ranges_partition form table is =
    let leaves = is.leaves in
    let parts = partition leaves.tree leaves.rules.tree.one in
    subst (Partitions table.ranges) (sym (form_leaves form leaves.tree leaves.form_is))
    (subst (λ (ranges : List LeafRange). Partitions ranges (leaf_count (prefix leaves.tree))) (sym leaves.ranges_are) parts)

-- rows with the sums of all jobs' amounts of a round are the plain sums
pub plain_sums : {jobs rows : ℕ} {amount : ℕ → ℕ → ℤ} (input : RowInput) (table : TableOfJobs) (made : Amounts)
    → IsRoundOf jobs rows amount input table
    → length made.one ≡ sequence_count input.form.now.sets_one → length (all_rows made) ≡ rows
    → ((row : ℕ) → row < rows → get_or (all_rows made) row (pos 0) ≡ sum_over_jobs amount jobs row)
    → ArePlainSums input.form.now input.one.now input.two.now made
plain_sums {jobs} {rows} {amount} input table made round count_one count sums = record {
  one = ext_get_or (pos 0) made.one (player_rows form One two) (count_one ∙ sym of_one.count) (λ s below.
      let inside : s < sequence_count form.sets_one = omega (arith, below, count_one) in
      sym (get_or_append_left made.one made.two (pos 0) s below) ∙ at s (omega arith)
      ∙ (rows_sum_over_leaves form one two).rows_of_one s inside ∙ sym (of_one.each_row s inside));
  two = ext_get_or (pos 0) made.two (player_rows form Two one) (count_two ∙ sym of_two.count) (λ s below.
      let inside : s < sequence_count form.sets_two = omega (arith, below, count_two) in
      let row : sequence_count form.sets_one + s ≡ length made.one + s = ap (λ n. n + s) (sym count_one) in
      sym (get_or-append-add made.one made.two s (pos 0)) ∙ ap (λ r. get_or (all_rows made) r (pos 0)) (sym row)
      ∙ at (sequence_count form.sets_one + s) (omega arith) ∙ (rows_sum_over_leaves form one two).rows_of_two s
      ∙ sym (of_two.each_row s inside));
}
  where
    form : SequenceForm
    form = input.form.now

    one : List ℕ
    one = input.one.now

    two : List ℕ
    two = input.two.now

    of_one : ArePlayerLeafSums form One two
    of_one = player_rows_are_leaf_sums form One two

    of_two : ArePlayerLeafSums form Two one
    of_two = player_rows_are_leaf_sums form Two one

    count_two : length made.two ≡ sequence_count form.sets_two
    count_two = omega (arith, count, round.rows_are, count_one, length-append made.one made.two)

    at : (row : ℕ) → row < row_count form
        → get_or (all_rows made) row (pos 0) ≡ sum_over_leaves (leaf_amount form one two) (length form.leaves) row
    at row below =
        sums row (subst (λ n. row < n) round.rows_are below)
        ∙ (λ i. sum_over_jobs (sym round.amount_is i) (sym round.jobs_are i) row)
        ∙ jobs_add_up (leaf_amount form one two) table.ranges (length form.leaves) (ranges_partition form table round.table_is) row
