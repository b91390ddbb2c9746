use Rattle.std.proofs.Common.{sym, ap, subst}
use Rattle.atomic_table.specs.Table.{Me, Splits}
use Rattle.def_words.specs.declared.view.View.{View}
use Rattle.def_words.specs.Views.{numbers_of, made_of, unjoined_of, new_worker}
use Rattle.xg_atomic.specs.Seats.{with_worker}
use Rattle.xg_atomic.proofs.Moves.{rule, splits}
use Rattle.xg_atomic.proofs.steps.split.Goals as goal

pub split_seat-requires : goal.split_seat-requires
split_seat-requires g c =
    let me : Me (Unit {0}) View = c.args.seat.now.me in
    let P : View → Type 0 = λ v. Splits (rule g.N.RowName.jobs g.N.RowName.rows g.N.RowName.amount) c.args.seat.now.id v (with_worker v) new_worker in (
      c.requires.table.0,
      c.requires.table.1,
      subst P (sym (ap (λ (m : Me (Unit {0}) View). m.0) c.requires.owner))
          (splits g.N.RowName.jobs g.N.RowName.rows g.N.RowName.amount c.args.seat.now.id (numbers_of me.0) (made_of me.0) (unjoined_of me.0) c.requires.few),
    )
