use Rattle.std.proofs.Common.{List, ap, arith, length, refl, slice_index, subst, sym, ◌∙◌}
use Rattle.def_plan.specs.Form.{InformationSet, PlacedSet, player_sets, sequences_of}
use Rattle.def_plan.proofs.BadSets.{length-placed}
use Rattle.def_sums.specs.Sum.{nat_sum_over}
use Rattle.xg_plan.proofs.DealLemmas.{IsDealtUpTo, deals_at, dealt_is_plan_of_play, dealt_more_sets, dealt_to_all, dealt_to_none, small_before}
use Rattle.xg_plan.proofs.PlaceLemmas.{all_places, no_place, place_read}
use Rattle.xg_plan.proofs.dealing.deal_sets.Goals as goal

pub loop-k-init : goal.loop-k-init
loop-k-init c = dealt_to_none (player_sets c.args.form.now c.args.player) c.args.units.now c.args.weights.now _ c.requires.as_many refl

pub deal_set-requires-clause-inside : goal.deal_set-requires-clause-inside
deal_set-requires-clause-inside c = omega (
  arith,
  (place_read (player_sets c.args.form.now c.args.player) c.places-places.result.now c.loop-k.k
      c.place_at-place.result (c.facts.ensures.order c.args.player) c.places-places.ensures c.place_at-place.ensures).inside,
  c.loop-k.invariant.all_sequences,
)

pub deal_set-requires-clause-earlier : goal.deal_set-requires-clause-earlier
deal_set-requires-clause-earlier c = (place_read (player_sets c.args.form.now c.args.player) c.places-places.result.now c.loop-k.k c.place_at-place.result
    (c.facts.ensures.order c.args.player) c.places-places.ensures c.place_at-place.ensures).earlier

pub deal_set-requires-clause-as_many : goal.deal_set-requires-clause-as_many
deal_set-requires-clause-as_many c = omega (arith, c.requires.play_there, c.loop-k.invariant.all_sequences)

pub deal_set-requires-clause-limit : goal.deal_set-requires-clause-limit
deal_set-requires-clause-limit c = omega (arith, c.facts.ensures.limit c.args.player, c.loop-k.invariant.all_sequences)

pub deal_set-requires-clause-all_units : goal.deal_set-requires-clause-all_units
deal_set-requires-clause-all_units c =
    let sets : List InformationSet = player_sets c.args.form.now c.args.player in
    ap (λ (h : PlacedSet). nat_sum_over (λ s. slice_index c.args.units.now s) (sequences_of h))
    (sym ((place_read (player_sets c.args.form.now c.args.player) c.places-places.result.now c.loop-k.k c.place_at-place.result
    (c.facts.ensures.order c.args.player) c.places-places.ensures c.place_at-place.ensures).is no_place))
    ∙ c.requires.all_units c.loop-k.k no_place (omega (
      arith,
      length-placed 1 sets,
      all_places (player_sets c.args.form.now c.args.player) c.places-places.result.now c.places-places.ensures,
      c.loop-k-test.true,
    ))

pub deal_set-requires-clause-small : goal.deal_set-requires-clause-small
deal_set-requires-clause-small c =
    let sets : List InformationSet = player_sets c.args.form.now c.args.player in
    omega (
      arith,
      small_before sets c.args.units.now _ c.loop-k.k c.loop-k.weights (c.facts.ensures.order c.args.player)
          (omega (arith, all_places (player_sets c.args.form.now c.args.player) c.places-places.result.now c.places-places.ensures, c.loop-k-test.true))
          c.loop-k.invariant no_place,
      c.requires.limit,
      ap (λ (h : PlacedSet). slice_index c.loop-k.weights h.before) ((place_read (player_sets c.args.form.now c.args.player) c.places-places.result.now
          c.loop-k.k c.place_at-place.result (c.facts.ensures.order c.args.player) c.places-places.ensures c.place_at-place.ensures).is no_place),
    )

pub loop-k-preserved : goal.loop-k-preserved
loop-k-preserved c =
    let sets : List InformationSet = player_sets c.args.form.now c.args.player in
    dealt_more_sets sets c.args.units.now _ c.loop-k.k c.loop-k.weights c.deal_set.new.weights (c.facts.ensures.order c.args.player)
    (omega (arith, all_places (player_sets c.args.form.now c.args.player) c.places-places.result.now c.places-places.ensures, c.loop-k-test.true))
    c.loop-k.invariant
    (deals_at sets c.args.units.now c.loop-k.k _ _ _ c.loop-k.weights c.deal_set.new.weights
    (place_read (player_sets c.args.form.now c.args.player) c.places-places.result.now c.loop-k.k c.place_at-place.result
    (c.facts.ensures.order c.args.player) c.places-places.ensures c.place_at-place.ensures) c.deal_set.ensures.count c.deal_set.ensures.earlier
    c.deal_set.ensures.dealt)

pub returns-clause-plan : goal.returns-clause-plan
returns-clause-plan c =
    let all : IsDealtUpTo (player_sets c.args.form.now c.args.player) c.args.units.now (slice_index c.args.weights.now 0)
    (length (player_sets c.args.form.now c.args.player)) c.loop-k.weights =
    subst (λ k. IsDealtUpTo (player_sets c.args.form.now c.args.player) c.args.units.now (slice_index c.args.weights.now 0) k c.loop-k.weights)
    (omega (
      arith,
      c.loop-k-test.false,
      c.loop-k.auto.k-end,
      all_places (player_sets c.args.form.now c.args.player) c.places-places.result.now
          c.places-places.ensures,
    )) c.loop-k.invariant in
    dealt_is_plan_of_play (player_sets c.args.form.now c.args.player) c.args.units.now _ c.loop-k.weights (c.facts.ensures.order c.args.player)
    c.requires.from_one all

pub returns-clause-is_plan : goal.returns-clause-is_plan
returns-clause-is_plan c =
    let all : IsDealtUpTo (player_sets c.args.form.now c.args.player) c.args.units.now (slice_index c.args.weights.now 0)
    (length (player_sets c.args.form.now c.args.player)) c.loop-k.weights =
    subst (λ k. IsDealtUpTo (player_sets c.args.form.now c.args.player) c.args.units.now (slice_index c.args.weights.now 0) k c.loop-k.weights)
    (omega (
      arith,
      c.loop-k-test.false,
      c.loop-k.auto.k-end,
      all_places (player_sets c.args.form.now c.args.player) c.places-places.result.now
          c.places-places.ensures,
    )) c.loop-k.invariant in
    (dealt_to_all (player_sets c.args.form.now c.args.player) c.args.units.now _ c.loop-k.weights (c.facts.ensures.order c.args.player) c.requires.from_one
    all).is_plan
