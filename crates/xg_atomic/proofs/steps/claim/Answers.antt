use Rattle.std.proofs.Common.{◌≡◌, ◌+◌, ◌%◌, sym, subst}
use Rattle.atomic_table.specs.Table.{Me, Allows}
use Rattle.def_words.specs.declared.view.View.{View}
use Rattle.def_words.specs.Views.{numbers_of, reached_of}
use Rattle.xg_atomic.specs.Seats.{claimed}
use Rattle.xg_atomic.proofs.Moves.{rule, claims}
use Rattle.xg_atomic.proofs.steps.claim.Goals as goal

pub fetch_add-requires : goal.fetch_add-requires
fetch_add-requires g c =
    let me : Me (Unit {0}) View = c.args.seat.now.me in
    let P : Me (Unit {0}) View → Type 0 =
    λ m. Allows (rule g.N.RowName.jobs g.N.RowName.rows g.N.RowName.amount) c.args.table.now.table_id.slots c.args.seat.now.id m 0
    (λ x. (x + 1) % 18446744073709551616) (λ found now. now ≡ (claimed found m.0, m.1)) in (
      c.requires.table.0,
      c.requires.table.1,
      subst P (sym c.requires.worker)
          (claims g.N.RowName.jobs g.N.RowName.rows g.N.RowName.amount c.args.table.now.table_id.slots c.args.seat.now.id (numbers_of me.0) (reached_of me.0)
          c.requires.small c.requires.below c.requires.complete),
    )
