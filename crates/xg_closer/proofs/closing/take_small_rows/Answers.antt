use Rattle.std.proofs.Common.{◌≡◌, ℕ, ◌+◌, ◌<◌, ◌≤◌, List, [], ◌∷◌, length, length-set, get_or, map, take, drop, ℤ, pos, unsigned_abs, to_z, of_z}
use Rattle.std.proofs.Common.{arith, ap, refl, rules, sym, ◌∙◌, ⊎_elim}
use Rattle.std.specs.Int.{w64}
use Rattle.std.proofs.lemmas.Bool.{cases_eq, cases_lt}
use Rattle.std.proofs.lemmas.Int.{to_z-of_z}
use Rattle.std.proofs.lemmas.List.{get_or-set_other, get_or-set_same, get_or_past, length-map, take-append-drop, take_all, take_more}
use Rattle.def_sums.specs.Sum.{nat_sum_over}
use Rattle.def_sums.proofs.SumLaws.{nat_sum_over-append}
use Rattle.def_round.specs.Round.{utility}
use Rattle.xg_closer.proofs.Growing.{read_back}
use Rattle.xg_closer.proofs.RowSums.{own_amount_beyond}
use Rattle.xg_closer.proofs.closing.take_small_rows.Goals as goal

pub own_row-requires : goal.own_row-requires
own_row-requires g c =
    let small_is = to_z-of_z w64 c.in-Some.row (search rules) in
    let known = c.in-Some.ensures.within in
    omega (arith, ap unsigned_abs (small_is ∙ known.0), known.1, c.loop-i.invariant.1)

pub loop-i-preserved : goal.loop-i-preserved
loop-i-preserved g c =
    let rows : List ℤ = map g.A.Worth.amount c.args.rows.now in
    let count : length rows ≡ length c.args.rows.now = length-map c.args.rows.now g.A.Worth.amount in
    let i : ℕ = c.loop-i.i in
    let row_is = read_back c.worth_at.result _ (search rules) c.worth_at.ensures in
    let known = c.in-Some.ensures.within in
    let taken = to_z-of_z w64 c.in-Some.row (search rules) ∙ known.0 ∙ row_is in
    let own_is = to_z-of_z w64 c.own_row.result (search rules) ∙ c.own_row.ensures ∙ ap (utility c.args.player) taken in
    let below : i < length rows = omega (arith, count, c.loop-i-test.true) in
    let inside : i < length c.loop-i.worths = omega (arith, c.loop-i.invariant.0, c.requires.as_many, c.loop-i-test.true) in (
      length-set c.loop-i.worths i (to_z w64 (of_z w64 c.own_row.result)) ∙ c.loop-i.invariant.0,
      omega (
        arith,
        ap (nat_sum_over unsigned_abs) (take_more rows i (pos 0) below),
        nat_sum_over-append unsigned_abs (take i rows) (get_or rows i (pos 0) ∷ []),
        ap unsigned_abs taken,
        ap unsigned_abs row_is,
        c.unsigned_abs-room.ensures.value,
        known.1,
        c.loop-i.invariant.1,
      ),
      λ s low.
          ⊎_elim
          (λ here. rw here (get_or-set_same c.loop-i.worths i (to_z w64 (of_z w64 c.own_row.result)) (pos 0) inside ∙ own_is))
          (λ there. get_or-set_other c.loop-i.worths i s (to_z w64 (of_z w64 c.own_row.result)) (pos 0) there ∙ c.loop-i.invariant.2 s (omega arith))
          (cases_eq s i),
    )

pub returns-clause-taken : goal.returns-clause-taken
returns-clause-taken g c =
    let rows : List ℤ = map g.A.Worth.amount c.args.rows.now in
    let count : length rows ≡ length c.args.rows.now = length-map c.args.rows.now g.A.Worth.amount in
    let past : length rows ≤ c.loop-i.i = omega (arith, count, c.loop-i-test.false) in
    let all = ap (nat_sum_over unsigned_abs) (take_all c.loop-i.i rows past) in
    record {
      each = λ s.
          ⊎_elim
          (λ low. c.loop-i.invariant.2 s (omega (arith, low, past)))
          (λ high. get_or_past c.loop-i.worths s (pos 0) (omega (arith, c.loop-i.invariant.0, c.requires.as_many, count))
          ∙ sym (own_amount_beyond c.args.player rows s (omega arith)))
          (cases_lt s (length rows));
      together = omega (arith, c.loop-i.invariant.1, all);
      small = omega (arith, c.loop-i.invariant.1, all);
    }

pub returns-in_default-clause-sizes : goal.returns-in_default-clause-sizes
returns-in_default-clause-sizes g c small =
    let rows : List ℤ = map g.A.Worth.amount c.args.rows.now in
    let count : length rows ≡ length c.args.rows.now = length-map c.args.rows.now g.A.Worth.amount in
    let i : ℕ = c.loop-i.i in
    let row_is = read_back c.worth_at.result _ (search rules) c.worth_at.ensures in
    let below : i < length rows = omega (arith, count, c.loop-i-test.true) in
    let large = c.in_default.ensures.none refl (omega (arith, c.loop-i.invariant.1)) in
    absurd (
    omega (
      arith,
      small,
      large,
      ap unsigned_abs row_is,
      c.loop-i.invariant.1,
      ap (nat_sum_over unsigned_abs) (take_more rows i (pos 0) below),
      nat_sum_over-append unsigned_abs (take i rows) (get_or rows i (pos 0) ∷ []),
      nat_sum_over-append unsigned_abs (take (i + 1) rows) (drop (i + 1) rows),
      ap (nat_sum_over unsigned_abs) (take-append-drop (i + 1) rows),
    )
    )
