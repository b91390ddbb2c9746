use Rattle.std.proofs.Common.{◌≡◌, ◌<◌, ℕ, List, ℤ, length, pos, sym, ap, ◌∙◌, subst, inl, inr, arith}
use Rattle.std.specs.Prelude.{slice_index_or, slice_set}
use Rattle.std.specs.Mem.Slots.{slots_items}
use Rattle.std.proofs.lemmas.Bool.{cases_eq}
use Rattle.std.proofs.lemmas.Int.{ints, to_z-of_z}
use Rattle.std.proofs.lemmas.List.{length-set, get_or-set_same, get_or-set_other}
use mir.Syntax.{w128}
use mir.Val.{SFits, to_z, of_z}
use Rattle.def_history.specs.History.{sum_over_jobs}
use Rattle.xg_jobs.specs.Rows.{all_rows}
use Rattle.xg_words.proofs.board.WordBoard.close.Goals as goal

pub loop-row-preserved : goal.loop-row-preserved
loop-row-preserved g c =
    let row : ℕ = c.loop-row.row in
    let before : List ℤ = all_rows c.loop-row.rows in
    let words : List ℕ = slots_items c.close-closed.result.words in
    let fits : SFits w128 c.total.result = record { sfits = c.total.type_inv } in
    let same : to_z w128 (of_z w128 c.total.result) ≡ c.total.result = to_z-of_z w128 _ fits in
    let below : row < g.N.RowName.rows = omega (arith, c.loop-row-test.true, c.args.self.counts.rows_are) in
    let sum : c.total.result ≡ sum_over_jobs g.N.RowName.amount g.N.RowName.jobs row =
    (let t = c.total.ensures in let s = c.close-closed.ensures.sums row below in omega (arith, ints, t, s)) in
    let put : all_rows c.put.new.self ≡ slice_set before row (sum_over_jobs g.N.RowName.amount g.N.RowName.jobs row) =
    c.put.ensures.rows ∙ ap (slice_set before row) (same ∙ sum) in
    record {
      one = c.put.ensures.count ∙ c.loop-row.invariant.one;
      count = ap length put ∙ length-set before row _ ∙ c.loop-row.invariant.count;
      sums = λ r r_below.
          ap (λ xs. slice_index_or xs r (pos 0)) put
          ∙ elim (cases_eq r row) [
            | inl here ↦
                (subst (λ k. slice_index_or (slice_set before row (sum_over_jobs g.N.RowName.amount g.N.RowName.jobs row)) k (pos 0)
                ≡ sum_over_jobs g.N.RowName.amount g.N.RowName.jobs k) (sym here)
                (get_or-set_same before row _ (pos 0) (omega (arith, below, c.loop-row.invariant.count))))
            | inr other ↦ (get_or-set_other before row r _ (pos 0) other ∙ c.loop-row.invariant.sums r (omega (arith, r_below, other)))
          ];
    }
