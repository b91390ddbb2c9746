use Rattle.std.proofs.Common.{◌≡◌, ◌+◌, ◌*◌, pos, ◌+ℤ◌, slice_index, ap, ◌∙◌, subst}
use mathlib.Core.Option.{some}
use Rattle.atomic_table.specs.Table.{Me}
use Rattle.def_history.specs.History.{sum_over_jobs}
use Rattle.def_history.proofs.Counts.{times_from_Contains}
use Rattle.def_words.specs.declared.view.View.{View}
use Rattle.def_words.specs.declared.view.View.TheVariants.{Owner}
use Rattle.def_words.specs.Views.{numbers_of, made_of}
use Rattle.def_words.proofs.Closing.{closes}
use Rattle.xg_atomic.proofs.steps.close.Goals as goal

pub returns-clause-sums : goal.returns-clause-sums
returns-clause-sums g c =
    let me : Me (Unit {0}) View = c.args.seat.me in
    let final = c.close_with.ensures.values.2 in
    let view : me.0 ≡ Owner (numbers_of me.0) (made_of me.0) 0 =
    ap (λ (m : Me (Unit {0}) View). m.0) c.requires.owner ∙ ap (Owner (numbers_of me.0) (made_of me.0)) c.requires.all_joined in
    let at = final.1.1 ∙ ap some view in
    let past = c.requires.past in
    λ row below.
    subst (λ ws. pos (slice_index ws (2 * row + 1)) ≡ sum_over_jobs g.N.RowName.amount g.N.RowName.jobs row +ℤ pos (slice_index ws (2 * row + 2))) final.2
    (closes g.N.RowName.jobs g.N.RowName.rows g.N.RowName.amount final.0.words final.0.views c.args.seat.id (numbers_of me.0) (made_of me.0) final.1.0 at
    past.0 (times_from_Contains past.0 (numbers_of me.0) past.1) past.2 row below)
