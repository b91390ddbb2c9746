-- A packet brings its job's amount to each row, and a stripe holds exactly its rows.
use Rattle.std.proofs.Common.{◌≡◌, ◌≢◌, ℕ, suc, ◌+◌, ◌-◌, ◌*◌, ◌<◌, ◌≤◌, Bool, true, false, eqb, List, [], ◌∷◌, refl, sym, ap, ◌∙◌, subst, arith, inl, inr}
use Rattle.std.specs.Prelude.{ℤ, pos, All, ◌⊎◌}
use Rattle.std.proofs.Math.Nat.{le-div_iff_mul-le}
use Rattle.std.proofs.lemmas.Bool.Decides.{nat_tests}
use Rattle.std.proofs.lemmas.List.Elements.{All-nil, All-cons}
use Rattle.def_sums.proofs.RingLaws.{zero-+ℤ, +ℤ-zero}
use Rattle.def_history.specs.Packets.{RowAmount, AreRising, brought, PacketsBringAmounts, StripesHoldTheirRows}

-- rows above this one bring nothing to it
later_bring_nothing : (row : ℕ) (entries : List RowAmount) → All (λ later. row < later.row) entries
    → brought entries row ≡ pos 0
later_bring_nothing row [] above = refl
later_bring_nothing row (entry ∷ entries) above =
    let here : row < entry.row = above 0 entry (omega arith) in
    let other : eqb entry.row row ≡ false = grind (arith, nat_tests) in
    rw other (zero-+ℤ (brought entries row) ∙ later_bring_nothing row entries (λ k d inside. above (suc k) d (omega arith)))

-- either an entry brings the row its amount, or no entry has the row
found : (amount : ℕ → ℕ → ℤ) (job row : ℕ) (entries : List RowAmount) → AreRising entries
    → All (λ entry. entry.amount ≡ amount job entry.row) entries
    → (brought entries row ≡ amount job row) ⊎ (All (λ entry. entry.row ≢ row) entries × (brought entries row ≡ pos 0))
found amount job row [] rising have = inr (All-nil (λ (entry : RowAmount). entry.row ≢ row), refl)
found amount job row (entry ∷ entries) (above, rising) have =
    by_head (found amount job row entries rising (λ k d inside. have (suc k) d (omega arith))) (eqb entry.row row) refl
  where
    by_head : (brought entries row ≡ amount job row) ⊎ (All (λ e. e.row ≢ row) entries × (brought entries row ≡ pos 0))
        → (same : Bool) → eqb entry.row row ≡ same
        → (brought (entry ∷ entries) row ≡ amount job row)
        ⊎ (All (λ e. e.row ≢ row) (entry ∷ entries) × (brought (entry ∷ entries) row ≡ pos 0))
    by_head later true e =
        let is : entry.row ≡ row = grind (arith, nat_tests) in
        let nothing : brought entries row ≡ pos 0 = later_bring_nothing row entries (subst (λ r. All (λ l. r < l.row) entries) is above) in
        let its : entry.amount ≡ amount job row = have 0 entry (omega arith) ∙ ap (amount job) is in
        inl (rw (e, nothing) (+ℤ-zero entry.amount ∙ its))
    by_head (inl brings) false e = inl (rw e (zero-+ℤ (brought entries row) ∙ brings))
    by_head (inr (none, nothing)) false e =
        let other : entry.row ≢ row = (λ same. absurd (no same)) in
        inr (All-cons (λ (x : RowAmount). x.row ≢ row) entry entries other none, rw e (zero-+ℤ (brought entries row) ∙ nothing))
      where
        no : entry.row ≡ row → ⊥
        no same = let t : eqb entry.row row ≡ true = grind (arith, nat_tests) in cc

-- a packet's entries for a row add up to the job's amount there
pub packets_bring_amounts : PacketsBringAmounts
packets_bring_amounts amount rows job entries packet row is_row =
    elim (found amount job row entries packet.rising packet.have_amounts) [
      | inl brings ↦ brings
      | inr (none, nothing) ↦ nothing ∙ sym (packet.nothing_else row is_row none)
    ]

-- a place of a stripe has a row exactly where it is below the stripe's count of places
pub stripes_hold_their_rows : StripesHoldTheirRows
stripes_hold_their_rows stripes rows stripe place below =
    let some : 0 < stripes = omega arith in
    let both = le-div_iff_mul-le {k = stripes} {x = suc place} {y = rows + stripes - 1 - stripe} some in
    let product : suc place * stripes ≡ place * stripes + stripes = omega arith in (
      (λ held. let h : suc place * stripes ≤ rows + stripes - 1 - stripe = both.0 held in omega (arith, product, h)),
      (λ is_row. both.1 (omega (arith, product))),
    )
