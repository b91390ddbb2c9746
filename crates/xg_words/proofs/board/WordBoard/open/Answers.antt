use Rattle.std.proofs.Common.{◌≡◌, ◌+◌, ◌*◌, length, arith, ap, sym, ◌∙◌}
use Rattle.std.proofs.lemmas.List.{length-replicate}
use Rattle.xg_jobs.proofs.NewRowsAreZero.{fresh_count}
use Rattle.xg_words.proofs.board.WordBoard.open.Goals as goal

pub of-requires-clause-small : goal.of-requires-clause-small
of-requires-clause-small g c = record { few = omega (arith, c.count.ensures.count, c.count.ensures.limit, c.requires.jobs); sizes = c.requires.room }

pub invariant_of-board : goal.invariant_of-board
invariant_of-board g c =
    let counted : c.of.result.rows ≡ c.sequence_count-one.result + c.sequence_count-two.result = c.of.ensures.1 in
    let rows : c.sequence_count-one.result + c.sequence_count-two.result ≡ g.N.RowName.rows =
    (λ i. c.sequence_count-one.ensures.count i + c.sequence_count-two.ensures.count i) ∙ c.requires.rows in
    record {
      slots_are = c.in_ok-table.ensures.table.1;
      words_are = c.in_ok-table.ensures.table.0 ∙ (λ i. 2 * sym (counted ∙ rows) i + 1);
      rows_are = fresh_count _ _ _ c.in_ok-rows.ensures.one c.in_ok-rows.ensures.two ∙ c.requires.rows ∙ sym (counted ∙ rows);
    }

pub returns-clause-one : goal.returns-clause-one
returns-clause-one g c = ap length c.in_ok-rows.ensures.one ∙ length-replicate _ _

pub returns-clause-owner : goal.returns-clause-owner
returns-clause-owner g c = c.in_ok-table.ensures.owner
