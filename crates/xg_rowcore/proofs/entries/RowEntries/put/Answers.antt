use Rattle.std.proofs.Common.{◌≡◌, ℕ, List, ◌<◌, length, set, sym, ap, ◌∙◌, subst, arith, length-set}
use Rattle.std.specs.Prelude.{ℤ}
use Rattle.std.proofs.lemmas.Int.{to_z-of_z}
use mir.Syntax.{w128}
use Rattle.def_history.specs.Packets.{AreRising}
use Rattle.xg_rowcore.specs.Amounts.{AmountList}
use Rattle.xg_rowcore.specs.Packets.{Listed, entries_of_rows, with_amount}
use Rattle.xg_rowcore.proofs.Rising.{length-entries_from}
use Rattle.xg_rowcore.proofs.Changing.{entries_from-set, rising_set}
use Rattle.xg_rowcore.proofs.Viewed.{counted}
use Rattle.xg_rowcore.proofs.entries.RowEntries.put.Goals as goal

-- the amounts with another one, as it was written, make the entries with it
changed : (rows : List ℕ) (amounts : List ℤ) (i : ℕ) (written amount : ℤ) (new : AmountList) (room : ℕ)
    → length rows ≡ length amounts → written ≡ amount → new ≡ record { list = set amounts i written; room = room }
    → entries_of_rows rows new.list ≡ with_amount (entries_of_rows rows amounts) i amount
changed rows amounts i written amount new room same is put =
    ap (λ (l : AmountList). entries_of_rows rows l.list) put ∙ ap (λ a. entries_of_rows rows (set amounts i a)) is
    ∙ entries_from-set rows amounts i amount same

pub put-requires : goal.put-requires
put-requires c =
    omega (arith, counted _ _ c.self.invariant.0 c.self.view_is, c.requires, c.self.invariant.0)

pub invariant_of-self : goal.invariant_of-self
invariant_of-self c =
    let rows = c.self.inside.rows.items in
    let amounts = c.self.inside.amounts.list in
    let same : length rows ≡ length amounts = c.self.invariant.0 in
    let fits = to_z-of_z w128 c.args.amount c.ranges.amount in
    let entries = changed rows amounts c.args.i _ c.args.amount c.put.new.self _ same fits c.put.ensures in
    let kept : length c.put.new.self.list ≡ length amounts =
    ap (λ (l : AmountList). length l.list) c.put.ensures ∙ length-set amounts c.args.i _ in
    let inside : c.args.i < length (entries_of_rows rows amounts) =
    omega (arith, length-entries_from rows amounts same, counted _ _ same c.self.view_is, c.requires) in
    let room = ap (λ (l : AmountList). l.room) c.put.ensures in (
      omega (arith, kept, same),
      subst AreRising (sym entries) (rising_set (entries_of_rows rows amounts) c.args.i c.args.amount inside c.self.invariant.1),
      rw room c.self.invariant.2,
      rw room c.self.invariant.3,
      rw room c.self.invariant.4,
    )

pub returns : goal.returns
returns c =
    let rows = c.self.inside.rows.items in
    let amounts = c.self.inside.amounts.list in
    let fits = to_z-of_z w128 c.args.amount c.ranges.amount in
    let entries = changed rows amounts c.args.i _ c.args.amount c.put.new.self _ c.self.invariant.0 fits c.put.ensures in
    let room = ap (λ (l : AmountList). l.room) c.put.ensures in
    (λ j. record { list = entries j; room = room j; chained = c.self.inside.chains.stripes })
    ∙ ap (λ (l : Listed). record { list = with_amount l.list c.args.i c.args.amount; room = l.room; chained = l.chained }) c.self.view_is
