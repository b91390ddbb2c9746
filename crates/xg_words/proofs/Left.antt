-- Which entries of a packet are left to be added.
use Rattle.std.proofs.Common.{◌≡◌, ◌≢◌, ℕ, zero, suc, ◌+◌, ◌<◌, List, [], ◌∷◌, length, refl, ℤ, pos, negsuc, sym, ap, ◌∙◌, inl, inr, arith}
use Rattle.std.proofs.lemmas.Bool.{cases_eq}
use Rattle.def_history.specs.Packets.{RowAmount, AreRising, IsPacketOf}
use Rattle.xg_rowcore.specs.Packets.{entry_in}
use Rattle.std.proofs.lemmas.List.{get_or_default}
use Rattle.def_words.specs.Amounts.{IsNext, LastIsComplete}
use Rattle.xg_words.specs.Holdings.{AreLeft, reached_after}

abbrev nothing : RowAmount
nothing = record { row = 0; amount = pos 0 }

rising_at : (entries : List RowAmount) (i k : ℕ) → AreRising entries → i < k → k < length entries → (entry_in entries i).row < (entry_in entries k).row
rising_at [] i k rising before inside = absurd (omega arith)
rising_at (e ∷ es) zero zero rising before inside = absurd (omega arith)
rising_at (e ∷ es) zero (suc k) (first, rising) before inside = first k nothing (omega arith)
rising_at (e ∷ es) (suc i) zero rising before inside = absurd (omega arith)
rising_at (e ∷ es) (suc i) (suc k) (first, rising) before inside = rising_at es i k rising (omega arith) (omega arith)

-- at the start all entries are left
pub left_start : (amount : ℕ → ℕ → ℤ) (rows job : ℕ) (entries : List RowAmount) → IsPacketOf amount rows job entries → AreLeft amount rows job entries 0 0
left_start amount rows job entries packet = record {
  rows_after = λ k low inside. omega arith;
  nothing_else = λ row above below none.
      packet.nothing_else row below (λ k d inside e.
      none k (omega arith) inside (ap (λ (x : RowAmount). x.row) (get_or_default entries k nothing d inside) ∙ e));
}

-- an entry with an amount is the next that its job needs
pub left_is_next : (jobs : ℕ) (amount : ℕ → ℕ → ℤ) (rows job : ℕ) (entries : List RowAmount) (i reached : ℕ) (numbers earlier : List ℕ)
    → IsPacketOf amount rows job entries
    → AreLeft amount rows job entries i reached → i < length entries → job < jobs → numbers ≡ job ∷ earlier
    → IsNext jobs amount (entry_in entries i).row (entry_in entries i).amount reached numbers
left_is_next jobs amount rows job entries i reached numbers earlier packet left inside is_job last = record {
  job = job;
  earlier = earlier;
  last = last;
  is_job = is_job;
  amount_is = packet.have_amounts i nothing inside;
  after = left.rows_after i (omega arith) inside;
  between = λ r above before.
      left.nothing_else r above (let below : (entry_in entries i).row < rows = packet.are_rows i nothing inside in omega (arith, before, below))
      (λ k from inside' e.
      elim (cases_eq k i) [
        | inl same ↦ (let is = ap (λ k. (entry_in entries k).row) same in absurd (omega (arith, is, e, before)))
        | inr apart ↦ (let rise = rising_at entries i k packet.rising (omega (arith, from, apart)) inside' in absurd (omega (arith, rise, e, before)))
      ]);
}

-- with it added, those behind it are left
pub left_after : (amount : ℕ → ℕ → ℤ) (rows job : ℕ) (entries : List RowAmount) (i reached : ℕ) → IsPacketOf amount rows job entries
    → AreLeft amount rows job entries i reached → i < length entries
    → AreLeft amount rows job entries (i + 1) ((entry_in entries i).row + 1)
left_after amount rows job entries i reached packet left inside = record {
  rows_after = λ k from inside'. let rise = rising_at entries i k packet.rising (omega (arith, from)) inside' in omega (arith, rise);
  nothing_else = λ row above below none.
      left.nothing_else row (let a = left.rows_after i (omega arith) inside in omega (arith, a, above)) below (λ k from inside' e.
      elim (cases_eq k i) [
        | inl same ↦ (let is = ap (λ k. (entry_in entries k).row) same in absurd (omega (arith, is, e, above)))
        | inr apart ↦ absurd (none k (omega (arith, from, apart)) inside' e)
      ]);
}

-- and where its amount is 0 they are without
pub left_skipped : (amount : ℕ → ℕ → ℤ) (rows job : ℕ) (entries : List RowAmount) (i reached : ℕ) → IsPacketOf amount rows job entries
    → AreLeft amount rows job entries i reached → i < length entries
    → (entry_in entries i).amount ≡ pos 0 → AreLeft amount rows job entries (i + 1) reached
left_skipped amount rows job entries i reached packet left inside none_here = record {
  rows_after = λ k from inside'. left.rows_after k (omega (arith, from)) inside';
  nothing_else = λ row above below none.
      elim (cases_eq (entry_in entries i).row row) [
        | inl same ↦ (ap (amount job) (sym same) ∙ sym (packet.have_amounts i nothing inside) ∙ none_here)
        | inr other ↦ left.nothing_else row above below (λ k from inside' e.
            elim (cases_eq k i) [
              | inl same ↦ (absurd (other (ap (λ k. (entry_in entries k).row) (sym same) ∙ e)))
              | inr apart ↦ absurd (none k (omega (arith, from, apart)) inside' e)
            ])
      ];
}

-- in the end the job is complete
pub left_end : (jobs : ℕ) (amount : ℕ → ℕ → ℤ) (rows job : ℕ) (entries : List RowAmount) (reached : ℕ) (numbers earlier : List ℕ)
    → AreLeft amount rows job entries (length entries) reached → numbers ≡ job ∷ earlier
    → LastIsComplete jobs rows amount reached numbers
left_end jobs amount rows job entries reached numbers earlier left last n ns is is_job row above below =
    let same : n ≡ job = ap head (sym is ∙ last) in
    ap (λ j. amount j row) same ∙ left.nothing_else row above below (λ k from inside. absurd (omega (arith, from, inside)))
  where
    head : List ℕ → ℕ
    head [] = 0
    head (x ∷ xs) = x

-- either way
pub left_next : (amount : ℕ → ℕ → ℤ) (rows job : ℕ) (entries : List RowAmount) (i reached : ℕ) → IsPacketOf amount rows job entries
    → AreLeft amount rows job entries i reached → i < length entries
    → AreLeft amount rows job entries (i + 1) (reached_after (entry_in entries i).row (entry_in entries i).amount reached)
left_next amount rows job entries i reached packet left inside = by_amount (entry_in entries i).amount refl
  where
    by_amount : (a : ℤ) → (entry_in entries i).amount ≡ a → AreLeft amount rows job entries (i + 1) (reached_after (entry_in entries i).row a reached)
    by_amount (pos zero) is = left_skipped amount rows job entries i reached packet left inside is
    by_amount (pos (suc n)) is = left_after amount rows job entries i reached packet left inside
    by_amount (negsuc n) is = left_after amount rows job entries i reached packet left inside

-- what is reached, by whether the amount is 0
pub reached_some : (row : ℕ) (a : ℤ) (reached : ℕ) → a ≢ pos 0 → reached_after row a reached ≡ row + 1
reached_some row (pos zero) reached apart = absurd (apart refl)
reached_some row (pos (suc n)) reached apart = refl
reached_some row (negsuc n) reached apart = refl
