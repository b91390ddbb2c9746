use Rattle.std.proofs.Common.{◌≡◌, ℕ, ◌+◌, ◌%◌, [], ◌∷◌, ℤ, unsigned_abs, sym, ap, ◌∙◌, subst, arith}
use Rattle.std.proofs.lemmas.Int.{to_z-of_z}
use mir.Syntax.{w128}
use mir.Val.{to_z, of_z}
use Rattle.atomic_table.specs.Table.{Me, Allows}
use Rattle.def_words.specs.declared.view.View.{View}
use Rattle.def_words.specs.declared.view.View.TheVariants.{Worker}
use Rattle.def_words.specs.Views.{reached_of}
use Rattle.xg_atomic.specs.Seats.{with_row}
use Rattle.def_words.specs.Amounts.{side_of, word_at, row_of}
use Rattle.def_words.proofs.Moves.{amount_small, row_of_word, word_fits}
use Rattle.xg_atomic.proofs.Moves.{rule, adds}
use Rattle.xg_atomic.proofs.steps.add.Goals as goal

pub size_of-requires : goal.size_of-requires
size_of-requires g c =
    let n = c.requires.next in
    let s = amount_small g.N.RowName.jobs g.N.RowName.rows g.N.RowName.amount n.job c.args.row c.requires.small n.is_job c.requires.row in
    omega (arith, s, ap unsigned_abs (to_z-of_z w128 c.args.amount c.ranges.amount ∙ n.amount_is))

pub fetch_add-requires : goal.fetch_add-requires
fetch_add-requires g c =
    let n = c.requires.next in
    let a : ℤ = g.N.RowName.amount n.job c.args.row in
    let me : Me (Unit {0}) View = c.args.seat.now.me in
    let R = rule g.N.RowName.jobs g.N.RowName.rows g.N.RowName.amount in
    let slots : ℕ = c.args.table.now.table_id.slots in
    let is : to_z w128 (of_z w128 c.args.amount) ≡ a = to_z-of_z w128 c.args.amount c.ranges.amount ∙ n.amount_is in
    let word : c.word_of.result ≡ word_at (side_of a) c.args.row = c.word_of.ensures ∙ ap (λ z. word_at (side_of z) c.args.row) is in
    let size : c.size_of.result ≡ unsigned_abs a = c.size_of.ensures ∙ ap unsigned_abs is in
    let P : ℕ → ℕ → Me (Unit {0}) View → Type 0 =
    λ w k m. Allows R slots c.args.seat.now.id m w (λ x. (x + k) % 18446744073709551616) (λ found now. now ≡ (with_row (row_of w) m.0, m.1)) in
    let view : me ≡ (Worker (n.job ∷ n.earlier) (reached_of me.0), []) = c.requires.worker ∙ ap (λ ns. (Worker ns (reached_of me.0), [])) n.last in
    let made =
    adds g.N.RowName.jobs g.N.RowName.rows g.N.RowName.amount slots c.args.seat.now.id n.job n.earlier (reached_of me.0) c.args.row c.requires.small
    c.requires.row n.is_job n.after n.between in
    let told =
    subst (λ r. Allows R slots c.args.seat.now.id (Worker (n.job ∷ n.earlier) (reached_of me.0), []) (word_at (side_of a) c.args.row)
    (λ x. (x + unsigned_abs a) % 18446744073709551616) (λ found now. now ≡ (Worker (n.job ∷ n.earlier) (r + 1), [])))
    (sym (row_of_word (side_of a) c.args.row)) made in (
      c.requires.table.0,
      (let f = word_fits (side_of a) c.args.row g.N.RowName.rows c.requires.row in omega (arith, f, word, c.requires.table.1)),
      subst (λ w. P w c.size_of.result me) (sym word) (subst (λ k. P (word_at (side_of a) c.args.row) k me) (sym size)
          (subst (P (word_at (side_of a) c.args.row) (unsigned_abs a)) (sym view) told)),
    )

pub returns-clause-view : goal.returns-clause-view
returns-clause-view g c =
    let n = c.requires.next in
    let a : ℤ = g.N.RowName.amount n.job c.args.row in
    let is : to_z w128 (of_z w128 c.args.amount) ≡ a = to_z-of_z w128 c.args.amount c.ranges.amount ∙ n.amount_is in
    let word : c.word_of.result ≡ word_at (side_of a) c.args.row = c.word_of.ensures ∙ ap (λ z. word_at (side_of z) c.args.row) is in
    let row : row_of c.word_of.result ≡ c.args.row = ap row_of word ∙ row_of_word (side_of a) c.args.row in
    c.fetch_add.ensures.2 ∙ (λ i. (with_row (row i) c.args.seat.now.me.0, ap (λ (m : Me (Unit {0}) View). m.1) c.requires.worker i))
