use Rattle.std.proofs.Common.{◌≡◌, ℕ, ◌+◌, ◌-◌, ◌≤◌, FitsSigned, List, length, ℤ, pos, ◌+ℤ◌, ◌-ℤ◌, arith, refl, sym, subst, ap, map, ◌∙◌, ⊎_elim}
use Rattle.std.proofs.lemmas.Bool.{cases_eq, cases_lt}
use Rattle.std.proofs.lemmas.List.{ext_get_or, get_or_past, length-map, take_all}
use Rattle.def_plan.specs.Form.{InformationSet, PlacedSet, player_sets, sequence_count}
use Rattle.def_round.specs.Play.{regret_of}
use Rattle.def_round.specs.Round.{regrets_after, set_value}
use Rattle.xg_seq.specs.Table.{placed_of_row}
use Rattle.xg_closer.proofs.WorthsSetBySet.{first_worths, step_before}
use Rattle.xg_plan.proofs.PlaceLemmas.{all_places}
use Rattle.xg_closer.proofs.Sets.{row_at, start_of, units_at}
use Rattle.xg_closer.proofs.SetValues.{regrets_count}
use Rattle.xg_closer.proofs.closing.close_sets.Goals as goal
use Rattle.def_plan.specs.FormRows.{amount_of}

pub loop-set-init : goal.loop-set-init
loop-set-init g c =
    let sets : List InformationSet = player_sets c.args.form.now c.args.player in
    let sums : ℕ → ℤ = amount_of (map g.W.Worth.amount c.args.worths.now) in
    let count : length sets ≤ length c.places-places.result.now = omega (arith, all_places sets c.places-places.result.now c.places-places.ensures) in
    let last : start_of sets (length c.places-places.result.now) ≡ sequence_count sets =
    ap sequence_count (take_all (length c.places-places.result.now) sets count) in (
      first_worths g.W.Worth.width c.args.play.now sets (length c.places-places.result.now) (map g.W.Worth.amount c.args.worths.now) count
          (length-map c.args.worths.now g.W.Worth.amount ∙ c.requires.as_worths) c.requires.fits,
      refl,
      λ s low. refl,
      λ s from.
          get_or_past (map g.R.Worth.amount c.args.regrets.now) s (pos 0) (omega
          (arith, last, length-map c.args.regrets.now g.R.Worth.amount, c.requires.as_regrets))
          ∙ sym (get_or_past (regrets_after sums c.args.play.now sets (map g.R.Worth.amount c.args.regrets.now)) s (pos 0)
          (omega (arith, last, regrets_count sums c.args.play.now sets (map g.R.Worth.amount c.args.regrets.now) (c.facts.ensures.order c.args.player)))),
    )

pub close_set-requires : goal.close_set-requires
close_set-requires g c =
    let sets : List InformationSet = player_sets c.args.form.now c.args.player in
    let h : PlacedSet = placed_of_row c.place_at-place.result in
    let at = row_at sets c.places-places.result.now (c.loop-set.set - 1) c.place_at-place.result
    (c.facts.ensures.order c.args.player) (omega arith) c.places-places.ensures c.place_at-place.ensures in
    let worths : List ℤ = map g.W.Worth.amount c.loop-set.worths in
    let step = step_before g.W.Worth.width (amount_of (map g.W.Worth.amount c.args.worths.now)) c.args.play.now sets
    (map g.R.Worth.amount c.args.regrets.now) worths c.loop-set.set (c.loop-set.set - 1) h
    (omega arith) (c.facts.ensures.order c.args.player) c.requires.all_units c.requires.small c.requires.fits at c.loop-set.invariant.0 in
    let behind : c.loop-set.set ≡ c.loop-set.set - 1 + 1 = omega arith in
    let starts : start_of sets c.loop-set.set ≡ h.first + h.actions = ap (start_of sets) behind ∙ at.next in
    let count : length c.loop-set.worths ≡ sequence_count sets = sym (length-map c.loop-set.worths g.W.Worth.amount) ∙ c.loop-set.invariant.0.count in
    let grown : ℕ → ℤ = λ s. amount_of worths s -ℤ set_value c.args.play.now (amount_of worths) h in
    record {
      from_one = omega (arith, at.first);
      inside = omega (arith, at.inside, count);
      earlier = at.earlier;
      as_play = c.requires.as_play ∙ sym count;
      limit = omega (arith, count, c.facts.ensures.limit c.args.player);
      as_regrets = c.loop-set.invariant.1 ∙ c.requires.as_regrets ∙ sym count;
      all_units = units_at c.args.play.now sets (c.loop-set.set - 1) h at c.requires.all_units;
      products = step.products;
      fits = step.fits;
      growth = step.growth;
      growth_fits = λ s from to. c.requires.growth (grown s) (step.grows s from to);
      room = λ s from to. subst (λ r. FitsSigned g.R.Worth.width (r +ℤ grown s)) (sym (c.loop-set.invariant.2 s (omega (arith, starts))))
          (c.requires.room s (grown s) (step.grows s from to));
    }

pub loop-set-preserved : goal.loop-set-preserved
loop-set-preserved g c =
    let sets : List InformationSet = player_sets c.args.form.now c.args.player in
    let h : PlacedSet = placed_of_row c.place_at-place.result in
    let at = row_at sets c.places-places.result.now (c.loop-set.set - 1) c.place_at-place.result
    (c.facts.ensures.order c.args.player) (omega arith) c.places-places.ensures c.place_at-place.ensures in
    let worths : List ℤ = map g.W.Worth.amount c.loop-set.worths in
    let step = step_before g.W.Worth.width (amount_of (map g.W.Worth.amount c.args.worths.now)) c.args.play.now sets
    (map g.R.Worth.amount c.args.regrets.now) worths c.loop-set.set (c.loop-set.set - 1) h
    (omega arith) (c.facts.ensures.order c.args.player) c.requires.all_units c.requires.small c.requires.fits at c.loop-set.invariant.0 in
    let behind : c.loop-set.set ≡ c.loop-set.set - 1 + 1 = omega arith in
    let starts : start_of sets c.loop-set.set ≡ h.first + h.actions = ap (start_of sets) behind ∙ at.next in (
      record {
        count =
            length-map c.close_set.new.worths g.W.Worth.amount ∙ c.close_set.ensures.worths_count ∙ sym (length-map c.loop-set.worths g.W.Worth.amount)
            ∙ c.loop-set.invariant.0.count;
        each = λ s low.
            ⊎_elim
            (λ here. rw here (c.close_set.ensures.worth_before ∙ step.before))
            (λ there. c.close_set.ensures.other_worths s there ∙ step.others s low there)
            (cases_eq s h.before);
      },
      c.close_set.ensures.regrets_count ∙ c.loop-set.invariant.1,
      λ s low. c.close_set.ensures.before_set s (omega (arith, at.first)) ∙ c.loop-set.invariant.2 s (omega (arith, at.first, starts)),
      λ s from.
          ⊎_elim
          (λ inside.
          c.close_set.ensures.of_set s (omega (arith, at.first)) inside
          ∙ ap (λ r. r +ℤ (amount_of worths s -ℤ set_value c.args.play.now (amount_of worths) h)) (c.loop-set.invariant.2 s (omega (arith, starts)))
          ∙ sym (step.regret s (omega (arith, at.first)) inside))
          (λ above. c.close_set.ensures.after_set s (omega arith) ∙ c.loop-set.invariant.3 s (omega (arith, starts)))
          (cases_lt s (h.first + h.actions)),
    )

pub returns-clause-worths_count : goal.returns-clause-worths_count
returns-clause-worths_count g c = sym (length-map c.loop-set.worths g.W.Worth.amount) ∙ c.loop-set.invariant.0.count ∙ sym c.requires.as_worths

pub returns-clause-regrets : goal.returns-clause-regrets
returns-clause-regrets g c =
    let sets : List InformationSet = player_sets c.args.form.now c.args.player in
    let sums : ℕ → ℤ = amount_of (map g.W.Worth.amount c.args.worths.now) in
    let after : List ℤ = regrets_after sums c.args.play.now sets (map g.R.Worth.amount c.args.regrets.now) in
    let done : c.loop-set.set ≡ 0 = omega arith in
    let starts : start_of sets c.loop-set.set ≡ 1 = ap (start_of sets) done in
    ext_get_or (pos 0) (map g.R.Worth.amount c.loop-set.regrets) after
    (omega (
      arith,
      length-map c.loop-set.regrets g.R.Worth.amount,
      c.loop-set.invariant.1,
      c.requires.as_regrets,
      regrets_count sums c.args.play.now sets (map g.R.Worth.amount c.args.regrets.now) (c.facts.ensures.order c.args.player),
    ))
    (λ s low.
    ⊎_elim
    (λ first.
    let none : s ≡ 0 = omega arith in
    c.loop-set.invariant.2 s (omega (arith, starts)) ∙ ap (regret_of (map g.R.Worth.amount c.args.regrets.now)) none
    ∙ c.requires.none_of_empty ∙ ap (regret_of after) (sym none))
    (λ later. c.loop-set.invariant.3 s (omega (arith, starts)))
    (cases_lt s 1))
