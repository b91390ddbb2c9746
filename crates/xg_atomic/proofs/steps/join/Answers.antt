use Rattle.std.proofs.Common.{sym, ap, subst}
use Rattle.atomic_table.specs.Table.{Me, Joins}
use Rattle.def_words.specs.declared.view.View.{View}
use Rattle.def_words.specs.declared.view.View.TheVariants.{Owner}
use Rattle.def_words.specs.Views.{numbers_of, reached_of, made_of, unjoined_of, spent_view}
use Rattle.xg_atomic.specs.Seats.{joined_views}
use Rattle.xg_atomic.proofs.Moves.{rule, joins}
use Rattle.xg_atomic.proofs.steps.join.Goals as goal

pub join_seat-requires : goal.join_seat-requires
join_seat-requires g c =
    let me : Me (Unit {0}) View = c.args.seat.now.me in
    let you : Me (Unit {0}) View = c.args.other.me in
    let P : View → View → Type 0 =
    λ v w. Joins (rule g.N.RowName.jobs g.N.RowName.rows g.N.RowName.amount) c.args.seat.now.id v c.args.other.id w (joined_views v w) spent_view in
    let both = subst (λ v. P v you.0) (sym (ap (λ (m : Me (Unit {0}) View). m.0) c.requires.owner))
    (subst (λ w. P (Owner (numbers_of me.0) (made_of me.0) (unjoined_of me.0)) w) (sym (ap (λ (m : Me (Unit {0}) View). m.0) c.requires.worker))
    (joins g.N.RowName.jobs g.N.RowName.rows g.N.RowName.amount c.args.seat.now.id (numbers_of me.0) (made_of me.0) (unjoined_of me.0) c.args.other.id
    (numbers_of you.0) (reached_of you.0) c.requires.complete)) in
    (c.requires.table.0, c.requires.table.1, ap (λ (m : Me (Unit {0}) View). m.1) c.requires.worker, c.requires.table.2, both)
