-- What is seen of a packet's entries, and the rows and amounts behind it.
use Rattle.std.proofs.Common.{◌≡◌, ℕ, ◌<◌, List, length, sym, ap, ◌∙◌}
use Rattle.std.specs.Prelude.{ℤ, pos, slice_index, slice_index_or}
use Rattle.def_history.specs.Packets.{RowAmount}
use Rattle.xg_rowcore.specs.Chains.{rows_of_entries}
use Rattle.xg_rowcore.specs.Packets.{Listed, entries_of_rows, entry_in}
use Rattle.xg_rowcore.proofs.Rising.{length-entries_from, entry_at-entries_from}
use Rattle.xg_rowcore.proofs.Chaining.{row_of_entry, rows_of-entries_from}

module _ (rows : List ℕ) (amounts : List ℤ) {room chained : ℕ} {seen : Listed} (same : length rows ≡ length amounts)
    (view_is : record { list = entries_of_rows rows amounts; room = room; chained = chained } ≡ seen) where
  -- as many rows as entries
  pub counted : length rows ≡ length seen.list
  counted = sym (length-entries_from rows amounts same) ∙ ap (λ (l : Listed). length l.list) view_is

  -- the rows are those of the entries
  pub rows_seen : rows ≡ rows_of_entries seen.list
  rows_seen = sym (rows_of-entries_from rows amounts same) ∙ ap (λ (l : Listed). rows_of_entries l.list) view_is

  pub row_seen : (i : ℕ) → slice_index rows i ≡ (entry_in seen.list i).row
  row_seen i = ap (λ rs. slice_index rs i) rows_seen ∙ row_of_entry seen.list i

  -- and so are the amounts
  pub amount_seen : (i : ℕ) → i < length rows → slice_index_or amounts i (pos 0) ≡ (entry_in seen.list i).amount
  amount_seen i below =
      sym (ap (λ (e : RowAmount). e.amount) (entry_at-entries_from rows amounts i same below))
      ∙ ap (λ (l : Listed). (entry_in l.list i).amount) view_is
