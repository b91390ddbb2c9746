use Rattle.std.proofs.Common.{◌≡◌, ℕ, List, length, replicate, pos, sym, ap, ◌∙◌, subst, arith}
use Rattle.std.proofs.lemmas.List.{length-replicate}
use Rattle.def_history.specs.Packets.{AreRising}
use Rattle.xg_rowcore.specs.Amounts.{AmountList}
use Rattle.xg_rowcore.specs.Packets.{Listed, entries_of_rows, zeros_at}
use Rattle.xg_rowcore.proofs.Rising.{entries_of_zeros}
use Rattle.xg_rowcore.proofs.entries.RowEntries.take_rows.Goals as goal

-- the rows that were taken, with as many zeros
taken_rows : (rows taken : List ℕ) (count room : ℕ) (new : AmountList) → taken ≡ rows → count ≡ length taken
    → new ≡ record { list = replicate count (pos 0); room = room }
    → (new.list ≡ replicate (length rows) (pos 0)) × (entries_of_rows taken new.list ≡ zeros_at rows)
taken_rows rows taken count room new same counted reset =
    let zeros : new.list ≡ replicate (length rows) (pos 0) =
    ap (λ (l : AmountList). l.list) reset ∙ ap (λ n. replicate n (pos 0)) (counted ∙ ap length same) in
    (zeros, (λ i. entries_of_rows (same i) (zeros i)) ∙ entries_of_zeros rows)

pub invariant_of-self : goal.invariant_of-self
invariant_of-self c =
    let rows = c.args.rows.now in
    let taken : c.copy_to.new.rows.items ≡ rows = c.copy_to.ensures.rows in
    let count = c.len.ensures ∙ c.copy_to.new.rows.ok.0 in
    let both = taken_rows rows _ c.len.result _ c.reset.new.self taken count c.reset.ensures in
    let room = ap (λ (l : AmountList). l.room) c.reset.ensures in
    let seen_room = ap (λ (l : Listed). l.room) c.self.view_is in
    let kept = c.self.invariant.4 in (
      ap length taken ∙ sym (length-replicate (length rows) (pos 0)) ∙ sym (ap length both.0),
      subst AreRising (sym both.1) c.copy_to.ensures.rising,
      omega (arith, room, c.copy_to.ensures.capacity, c.self.invariant.2),
      omega (arith, room, ap length taken, seen_room, c.requires),
      rw (taken, room, sym kept.next_count) c.copy_to.ensures.chains,
    )

pub returns : goal.returns
returns c =
    let rows = c.args.rows.now in
    let count = c.len.ensures ∙ c.copy_to.new.rows.ok.0 in
    let both = taken_rows rows _ c.len.result _ c.reset.new.self c.copy_to.ensures.rows count c.reset.ensures in
    let room = ap (λ (l : AmountList). l.room) c.reset.ensures ∙ ap (λ (l : Listed). l.room) c.self.view_is in
    (λ i. record { list = both.1 i; room = room i; chained = c.copy_to.ensures.stripes i })
