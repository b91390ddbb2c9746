-- What the entries of a packet bring to the totals of a stripe, one after the other.
use Rattle.std.proofs.Common.{◌≡◌, ◌≢◌, ℕ, zero, suc, ◌+◌, ◌*◌, ◌/◌, ◌%◌, ◌<◌, ◌≤◌, eqb, Bool, true, false, if◌then◌else◌, List, [], ◌∷◌, ◌++◌}
use Rattle.std.proofs.Common.{length, set, take, refl, sym, ap, ◌∙◌, subst, arith, ℤ, pos, ◌+ℤ◌, get_or-set_other, get_or-set_same}
use Rattle.std.specs.Prelude.{slice_index_or, unsigned_abs}
use Rattle.std.proofs.lemmas.Bool.Decides.{nat_tests}
use Rattle.std.proofs.lemmas.List.{take_more, length-set, take_all}
use Rattle.std.proofs.lemmas.Nat.{div-add-mod', div-mul-add, mod-mul-add}
use Rattle.def_sums.proofs.SumLaws.{sum_over-append}
use Rattle.def_sums.proofs.RingLaws.{zero-+ℤ, +ℤ-zero, +ℤ_assoc}
use Rattle.def_history.specs.History.{stripe_of, place_of, replay}
use Rattle.def_history.specs.Packets.{RowAmount, AreRising, IsPacketOf, brought, place_count}
use Rattle.def_history.proofs.Packets.{packets_bring_amounts, stripes_hold_their_rows}
use Rattle.xg_rowcore.specs.Packets.{entry_in}
use Rattle.xg_rowcore.specs.Stripes.{AreTotals, HasGrown}

brings : ℕ → RowAmount → ℤ
brings row entry = if eqb entry.row row then entry.amount else pos 0

-- an entry more brings what it has
brought-push : (entries : List RowAmount) (i row : ℕ) → i < length entries
    → brought (take (i + 1) entries) row ≡ brought (take i entries) row +ℤ brought (entry_in entries i ∷ []) row
brought-push entries i row below = ap (λ es. brought es row) (take_more entries i (record { row = 0; amount = pos 0 }) below)
    ∙ sum_over-append (λ (entry : RowAmount). if eqb entry.row row then entry.amount else pos 0) (take i entries) (entry_in entries i ∷ [])

-- what stands before an entry brings nothing to its row
pub before_bring_nothing : (entries : List RowAmount) (i : ℕ) → AreRising entries → i < length entries
    → brought (take i entries) (entry_in entries i).row ≡ pos 0
before_bring_nothing [] i rising below = absurd (omega arith)
before_bring_nothing (entry ∷ entries) zero rising below = refl
before_bring_nothing (entry ∷ entries) (suc i) (above, rising) below =
    let at : RowAmount = entry_in entries i in
    let lower : entry.row < at.row = above i (record { row = 0; amount = pos 0 }) (omega arith) in
    let other : eqb entry.row at.row ≡ false = grind (arith, nat_tests) in
    rw other (zero-+ℤ (brought (take i entries) at.row) ∙ before_bring_nothing entries i rising (omega arith))

-- no entry, no growth
pub grown_by_none : (index stripes : ℕ) (totals : List ℤ) → HasGrown [] index stripes totals totals
grown_by_none index stripes totals = record { length_kept = refl; grown = λ place under. sym (+ℤ-zero (slice_index_or totals place (pos 0))) }

-- one entry more
pub grown_more : (entries : List RowAmount) (i index stripes : ℕ) (old middle new : List ℤ) → i < length entries
    → HasGrown (take i entries) index stripes old middle
    → HasGrown (entry_in entries i ∷ []) index stripes middle new
    → HasGrown (take (i + 1) entries) index stripes old new
grown_more entries i index stripes old middle new below first second = record {
  length_kept = second.length_kept ∙ first.length_kept;
  grown = λ place under.
      let row : ℕ = place * stripes + index in
      second.grown place (omega (arith, first.length_kept))
      ∙ ap (λ v. v +ℤ brought (entry_in entries i ∷ []) row) (first.grown place under)
      ∙ +ℤ_assoc (slice_index_or old place (pos 0)) (brought (take i entries) row) (brought (entry_in entries i ∷ []) row)
      ∙ ap (λ v. slice_index_or old place (pos 0) +ℤ v) (sym (brought-push entries i row below));
}

-- with all entries added
pub grown_all : (entries : List RowAmount) (i index stripes : ℕ) (old new : List ℤ) → length entries ≤ i
    → HasGrown (take i entries) index stripes old new → HasGrown entries index stripes old new
grown_all entries i index stripes old new all grown = rw (sym (take_all i entries all)) grown

-- a total before the packet's entry of its row is added
pub total_before : (entries : List RowAmount) (i index stripes : ℕ) (old middle : List ℤ) → AreRising entries
    → i < length entries → stripe_of stripes (entry_in entries i).row ≡ index
    → place_of stripes (entry_in entries i).row < length old → HasGrown (take i entries) index stripes old middle
    → slice_index_or middle (place_of stripes (entry_in entries i).row) (pos 0)
    ≡ slice_index_or old (place_of stripes (entry_in entries i).row) (pos 0)
total_before entries i index stripes old middle rising below here under grown =
    let row : ℕ = (entry_in entries i).row in
    let place : ℕ = row / stripes in
    let is : place * stripes + index ≡ row = ap (λ r. place * stripes + r) (sym here) ∙ div-add-mod' row stripes in
    grown.grown place under ∙ ap (λ r. slice_index_or old place (pos 0) +ℤ brought (take i entries) r) is
    ∙ ap (λ v. slice_index_or old place (pos 0) +ℤ v) (before_bring_nothing entries i rising below) ∙ +ℤ-zero (slice_index_or old place (pos 0))

one_brings : (row at : ℕ) (amount : ℤ) → row ≡ at → brought (record { row = row; amount = amount } ∷ []) at ≡ amount
one_brings row at amount is = let same : eqb row at ≡ true = grind (arith, nat_tests) in rw same (+ℤ-zero amount)

other_brings : (row at : ℕ) (amount : ℤ) → row ≢ at → brought (record { row = row; amount = amount } ∷ []) at ≡ pos 0
other_brings row at amount apart = let other : eqb row at ≡ false = grind (arith, nat_tests) in rw other refl

-- a row of another stripe changes nothing here
pub grown_by_other : (index stripes row : ℕ) (amount : ℤ) (totals : List ℤ) → index < stripes
    → stripe_of stripes row ≢ index → HasGrown (record { row = row; amount = amount } ∷ []) index stripes totals totals
grown_by_other index stripes row amount totals is_stripe other = record {
  length_kept = refl;
  grown = λ place under.
      let apart : row ≢ place * stripes + index = (λ same. other (ap (λ r. r % stripes) same ∙ mod-mul-add place stripes index is_stripe)) in
      let was : ℤ = slice_index_or totals place (pos 0) in
      sym (ap (λ v. was +ℤ v) (other_brings row (place * stripes + index) amount apart) ∙ +ℤ-zero was);
}

-- a row of this stripe changes its own total
pub grown_by_own : (index stripes row : ℕ) (amount : ℤ) (totals : List ℤ) → index < stripes
    → stripe_of stripes row ≡ index → place_of stripes row < length totals
    → HasGrown (record { row = row; amount = amount } ∷ []) index stripes totals
    (set totals (place_of stripes row) (slice_index_or totals (place_of stripes row) (pos 0) +ℤ amount))
grown_by_own index stripes row amount totals is_stripe here under = record {
  length_kept = length-set totals (row / stripes) (slice_index_or totals (row / stripes) (pos 0) +ℤ amount);
  grown = λ place in_range. by_place place in_range (eqb place (row / stripes)) refl;
}
  where
    by_place : (place : ℕ) → place < length totals → (same : Bool) → eqb place (row / stripes) ≡ same
        → slice_index_or (set totals (row / stripes) (slice_index_or totals (row / stripes) (pos 0) +ℤ amount)) place (pos 0)
        ≡ slice_index_or totals place (pos 0) +ℤ brought (record { row = row; amount = amount } ∷ []) (place * stripes + index)
    by_place place in_range true e =
        let at : ℕ = row / stripes in
        let same : place ≡ at = grind (arith, nat_tests) in
        let is : row ≡ place * stripes + index = sym (ap (λ p. p * stripes + index) same ∙ ap (λ r. at * stripes + r) (sym here) ∙ div-add-mod' row stripes) in
        ap (λ p. slice_index_or (set totals at (slice_index_or totals at (pos 0) +ℤ amount)) p (pos 0)) same
        ∙ get_or-set_same totals at (slice_index_or totals at (pos 0) +ℤ amount) (pos 0) under
        ∙ ap (λ p. slice_index_or totals p (pos 0) +ℤ amount) (sym same)
        ∙ ap (λ v. slice_index_or totals place (pos 0) +ℤ v) (sym (one_brings row (place * stripes + index) amount is))
    by_place place in_range false e =
        let at : ℕ = row / stripes in
        let apart : place ≢ at = grind (arith, nat_tests) in
        let other : row ≢ place * stripes + index = (λ same. apart (sym (ap (λ r. r / stripes) same ∙ div-mul-add place stripes index is_stripe))) in
        get_or-set_other totals at place (slice_index_or totals at (pos 0) +ℤ amount) (pos 0) apart
        ∙ sym (ap (λ v. slice_index_or totals place (pos 0) +ℤ v) (other_brings row (place * stripes + index) amount other)
        ∙ +ℤ-zero (slice_index_or totals place (pos 0)))

-- a row of the stripe has a place there
pub place_there : (stripes rows index row : ℕ) → index < stripes → row < rows → stripe_of stripes row ≡ index
    → place_of stripes row < place_count stripes rows index
place_there stripes rows index row is_stripe is_row here =
    let is : row / stripes * stripes + index ≡ row = ap (λ r. row / stripes * stripes + r) (sym here) ∙ div-add-mod' row stripes in
    (stripes_hold_their_rows stripes rows index (row / stripes) is_stripe).1 (omega arith)

-- and a place there has a row
pub row_there : (stripes rows index place : ℕ) → index < stripes → place < place_count stripes rows index
    → place * stripes + index < rows
row_there stripes rows index place is_stripe under = (stripes_hold_their_rows stripes rows index place is_stripe).0 under

replay-push : (amount : ℕ → ℕ → ℤ) (order : List ℕ) (job row : ℕ)
    → replay amount (order ++ job ∷ []) row ≡ replay amount order row +ℤ amount job row
replay-push amount order job row = sum_over-append (λ j. amount j row) order (job ∷ []) ∙ ap (λ v. replay amount order row +ℤ v) (+ℤ-zero (amount job row))

-- with a job's packet added, the totals are the replay of the history with that job
pub totals_with_job : (rows : ℕ) (amount : ℕ → ℕ → ℤ) (index stripes : ℕ) (order : List ℕ) (old new : List ℤ) (job : ℕ)
    (entries : List RowAmount) → index < stripes
    → AreTotals rows amount index stripes order old → IsPacketOf amount rows job entries
    → HasGrown entries index stripes old new
    → AreTotals rows amount index stripes (order ++ job ∷ []) new
totals_with_job rows amount index stripes order old new job entries is_stripe totals packet grown = record {
  length_is = grown.length_kept ∙ totals.length_is;
  replayed = λ place under.
      let row : ℕ = place * stripes + index in
      let there : place < length old = omega (arith, grown.length_kept) in
      let is_row : row < rows = row_there stripes rows index place is_stripe (omega (arith, totals.length_is)) in
      grown.grown place there ∙ ap (λ v. v +ℤ brought entries row) (totals.replayed place there)
      ∙ ap (λ v. replay amount order row +ℤ v) (packets_bring_amounts amount rows job entries packet row is_row) ∙ sym (replay-push amount order job row);
}

-- so it is still small
pub small_before : (entries : List RowAmount) (i index stripes row bound : ℕ) (old middle : List ℤ) → AreRising entries
    → i < length entries → row ≡ (entry_in entries i).row → stripe_of stripes row ≡ index
    → place_of stripes row < length old → HasGrown (take i entries) index stripes old middle
    → ((place : ℕ) → place < length old → unsigned_abs (slice_index_or old place (pos 0)) ≤ bound)
    → unsigned_abs (slice_index_or middle (place_of stripes row) (pos 0)) ≤ bound
small_before entries i index stripes row bound old middle rising below row_is =
    subst
    (λ (r : ℕ). stripe_of stripes r ≡ index → place_of stripes r < length old → HasGrown (take i entries) index stripes old middle
    → ((place : ℕ) → place < length old → unsigned_abs (slice_index_or old place (pos 0)) ≤ bound)
    → unsigned_abs (slice_index_or middle (place_of stripes r) (pos 0)) ≤ bound)
    (sym row_is)
    (λ here under grown small.
    rw (total_before entries i index stripes old middle rising below here under grown) (small (place_of stripes (entry_in entries i).row) under))

-- an entry of a job's packet in a stripe: its row is one of the rows, it has a place there, and its amount is the job's
pub record IsReadEntry (amount : ℕ → ℕ → ℤ) (rows job index stripes row : ℕ) (its : ℤ) : Type 0 where
  pub is_row : row < rows
  pub here : stripe_of stripes row ≡ index
  pub there : place_of stripes row < place_count stripes rows index
  pub amount_is : its ≡ amount job row

-- so it is as it was read
pub read_entry : {amount : ℕ → ℕ → ℤ} {rows job : ℕ} {entries : List RowAmount} {i index stripes row : ℕ} {its : ℤ}
    → IsPacketOf amount rows job entries → i < length entries → index < stripes → row ≡ (entry_in entries i).row
    → its ≡ (entry_in entries i).amount → stripe_of stripes (entry_in entries i).row ≡ index
    → IsReadEntry amount rows job index stripes row its
read_entry {amount} {rows} {job} {entries} {i} {index} {stripes} {row} packet below is_stripe row_is amount_read own =
    let nothing : RowAmount = record { row = 0; amount = pos 0 } in
    let is_row : row < rows = rw row_is (packet.are_rows i nothing below) in
    let here : stripe_of stripes row ≡ index = ap (stripe_of stripes) row_is ∙ own in
    record {
      is_row = is_row;
      here = here;
      there = place_there stripes rows index row is_stripe is_row here;
      amount_is = amount_read ∙ packet.have_amounts i nothing below ∙ ap (amount job) (sym row_is);
    }

-- one entry more, as it was read
pub grown_by_read : (entries : List RowAmount) (i index stripes row : ℕ) (amount : ℤ) (old middle new : List ℤ)
    → i < length entries → row ≡ (entry_in entries i).row → amount ≡ (entry_in entries i).amount
    → HasGrown (take i entries) index stripes old middle
    → HasGrown (record { row = row; amount = amount } ∷ []) index stripes middle new
    → HasGrown (take (i + 1) entries) index stripes old new
grown_by_read entries i index stripes row amount old middle new below row_is amount_is first second =
    let is : record { row = row; amount = amount } ≡ entry_in entries i = (λ k. record { row = row_is k; amount = amount_is k }) in
    grown_more entries i index stripes old middle new below first (subst (λ (e : RowAmount). HasGrown (e ∷ []) index stripes middle new) is second)
