use Rattle.std.proofs.Common.{◌≡◌, ℕ, ◌<◌, List, ℤ, pos, unsigned_abs, length, length-set, map, to_z, of_z, arith, ap, rules, sym, ◌∙◌, ⊎_elim}
use Rattle.std.specs.Int.{w128}
use Rattle.std.proofs.lemmas.Bool.{cases_eq, cases_lt}
use Rattle.std.proofs.lemmas.List.{get_or-set_other, get_or-set_same, get_or_past, length-map}
use Rattle.def_round.specs.Round.{utility}
use Rattle.xg_closer.proofs.Growing.{read_back}
use Rattle.xg_closer.proofs.RowSums.{own_amount_beyond, row_within}
use Rattle.xg_closer.proofs.closing.take_rows.Goals as goal

pub own_wide_row-requires : goal.own_wide_row-requires
own_wide_row-requires g c =
    let rows : List ℤ = map g.A.Worth.amount c.args.rows.now in
    let row_is = read_back c.worth_at.result _ (search rules) c.worth_at.ensures in
    omega (arith, ap unsigned_abs row_is, row_within rows c.loop-i.i, c.requires.small)

pub loop-i-preserved : goal.loop-i-preserved
loop-i-preserved g c =
    let i : ℕ = c.loop-i.i in
    let row_is = read_back c.worth_at.result _ (search rules) c.worth_at.ensures in
    let own : ℤ = to_z w128 (of_z w128 c.own_wide_row.result) in
    let own_is = read_back c.own_wide_row.result _ (search rules) c.own_wide_row.ensures ∙ ap (utility c.args.player) row_is in
    let inside : i < length c.loop-i.worths = omega (arith, c.loop-i.invariant.0, c.requires.as_many) in (
      length-set c.loop-i.worths i own ∙ c.loop-i.invariant.0,
      λ s below.
          ⊎_elim
          (λ here. rw here (get_or-set_same c.loop-i.worths i own (pos 0) inside ∙ own_is))
          (λ there. get_or-set_other c.loop-i.worths i s own (pos 0) there ∙ c.loop-i.invariant.1 s (omega arith))
          (cases_eq s i),
    )

pub returns-clause-each : goal.returns-clause-each
returns-clause-each g c s =
    let rows : List ℤ = map g.A.Worth.amount c.args.rows.now in
    let count : length rows ≡ length c.args.rows.now = length-map c.args.rows.now g.A.Worth.amount in
    ⊎_elim
    (λ low. c.loop-i.invariant.1 s (omega (arith, low)))
    (λ high. get_or_past c.loop-i.worths s (pos 0) (omega (arith, c.loop-i.invariant.0, c.requires.as_many))
    ∙ sym (own_amount_beyond c.args.player rows s (omega (arith, count))))
    (cases_lt s (length c.args.rows.now))
