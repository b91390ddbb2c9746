use Rattle.std.proofs.Common.{◌≡◌, ℕ, List, ◌+◌, ◌++◌, [], ◌∷◌, length, sym, ap, ◌∙◌, subst, arith, length-append}
use Rattle.std.specs.Prelude.{ℤ}
use Rattle.std.proofs.lemmas.Int.{to_z-of_z}
use mir.Syntax.{w128}
use Rattle.def_history.specs.Packets.{AreRising}
use Rattle.xg_rowcore.specs.Amounts.{AmountList}
use Rattle.xg_rowcore.specs.Packets.{Listed, IsAboveLast, entries_of_rows}
use Rattle.xg_rowcore.proofs.Rising.{entries_from-push, rising_push}
use Rattle.xg_rowcore.proofs.Chaining.{no_chains}
use Rattle.xg_rowcore.proofs.Viewed.{counted}
use Rattle.xg_rowcore.proofs.entries.RowEntries.push.Goals as goal

-- a row more, and an amount more, as it was written, make an entry more
pushed : (rows new_rows : List ℕ) (row : ℕ) (amounts : List ℤ) (written amount : ℤ) (new : AmountList) (room : ℕ)
    → length rows ≡ length amounts → written ≡ amount → new_rows ≡ rows ++ row ∷ []
    → new ≡ record { list = amounts ++ written ∷ []; room = room }
    → entries_of_rows new_rows new.list ≡ entries_of_rows rows amounts ++ record { row = row; amount = amount } ∷ []
pushed rows new_rows row amounts written amount new room same is rows_are put =
    (λ i. entries_of_rows (rows_are i) (ap (λ (l : AmountList). l.list) put i))
    ∙ ap (λ a. entries_of_rows (rows ++ row ∷ []) (amounts ++ a ∷ [])) is ∙ entries_from-push rows amounts row amount same

pub push_reserved-requires : goal.push_reserved-requires
push_reserved-requires c =
    let room = ap (λ (l : Listed). l.room) c.self.view_is in
    omega (arith, counted _ _ c.self.invariant.0 c.self.view_is, room, c.requires.room, c.self.inside.rows.ok.0, c.self.invariant.2)

pub push-requires : goal.push-requires
push-requires c =
    let room = ap (λ (l : Listed). l.room) c.self.view_is in
    omega (arith, counted _ _ c.self.invariant.0 c.self.view_is, room, c.requires.room, c.self.invariant.0)

pub invariant_of-self : goal.invariant_of-self
invariant_of-self c =
    let rows = c.self.inside.rows.items in
    let amounts = c.self.inside.amounts.list in
    let same : length rows ≡ length amounts = c.self.invariant.0 in
    let fits = to_z-of_z w128 c.args.amount c.ranges.amount in
    let rows_are = c.push_reserved.ensures.items in
    let entries = pushed rows _ c.args.row amounts _ c.args.amount c.push.new.self _ same fits rows_are c.push.ensures in
    let more : length c.push_reserved.new.self.items ≡ length rows + 1 = ap length rows_are ∙ length-append rows (c.args.row ∷ []) in
    let more_amounts : length c.push.new.self.list ≡ length amounts + 1 =
    ap (λ (l : AmountList). length l.list) c.push.ensures ∙ length-append amounts _ in
    let above : IsAboveLast (entries_of_rows rows amounts) c.args.row =
    subst (λ (l : Listed). IsAboveLast l.list c.args.row) (sym c.self.view_is) c.requires.above in
    let seen_room = ap (λ (l : Listed). l.room) c.self.view_is in
    let room = ap (λ (l : AmountList). l.room) c.push.ensures in
    let kept = c.self.invariant.4 in (
      omega (arith, more, more_amounts, same),
      subst AreRising (sym entries)
          (rising_push (entries_of_rows rows amounts) (record { row = c.args.row; amount = c.args.amount }) c.self.invariant.1 above),
      omega (arith, room, c.push_reserved.ensures.capacity, c.self.invariant.2),
      omega (arith, room, more, counted _ _ same c.self.view_is, seen_room, c.requires.room),
      no_chains _ _ _ _ kept.first_count (kept.next_count ∙ sym room),
    )

pub returns : goal.returns
returns c =
    let rows = c.self.inside.rows.items in
    let amounts = c.self.inside.amounts.list in
    let fits = to_z-of_z w128 c.args.amount c.ranges.amount in
    let rows_are = c.push_reserved.ensures.items in
    let entries = pushed rows _ c.args.row amounts _ c.args.amount c.push.new.self _ c.self.invariant.0 fits rows_are c.push.ensures in
    let room = ap (λ (l : AmountList). l.room) c.push.ensures in
    (λ i. record { list = entries i; room = room i; chained = 0 })
    ∙ ap (λ (l : Listed). record { list = l.list ++ record { row = c.args.row; amount = c.args.amount } ∷ []; room = l.room; chained = 0 }) c.self.view_is
