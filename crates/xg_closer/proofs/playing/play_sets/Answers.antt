use Rattle.std.proofs.Common.{◌≡◌, ℕ, ◌+◌, ◌-◌, ◌<◌, List, length, slice_index, arith, refl, sym, subst, ap, ◌∙◌, ⊎_elim, map}
use Rattle.std.proofs.lemmas.Bool.{cases_lt}
use Rattle.std.proofs.lemmas.Grind.{same_number_lists}
use Rattle.std.proofs.lemmas.List.{take_all}
use Rattle.def_plan.specs.Form.{InformationSet, PlacedSet, player_sets, sequence_count}
use Rattle.def_round.specs.Play.{GivesAllUnits, play_of}
use Rattle.def_round.proofs.Plays.{plays_all_units, plays_each_set}
use Rattle.xg_seq.specs.Table.{placed_of_row}
use Rattle.xg_plan.proofs.PlaceLemmas.{all_places}
use Rattle.xg_closer.proofs.Sets.{row_at, start_of}
use Rattle.xg_closer.proofs.PlayedSets.{few_at, played_at, small_at}
use Rattle.xg_closer.proofs.playing.play_sets.Goals as goal

pub loop-set-init : goal.loop-set-init
loop-set-init g c = (
  refl,
  λ s low.
      let first : s ≡ 0 = omega arith in
      ap (λ s. slice_index c.args.play.now s) first ∙ c.gives_none_to_empty.ensures.none
      ∙ ap (λ s. slice_index (play_of (player_sets c.args.form.now c.args.player) (map g.R.Worth.amount c.args.regrets.now)) s) (sym first),
)

pub play_set-requires : goal.play_set-requires
play_set-requires g c =
    let sets : List InformationSet = player_sets c.args.form.now c.args.player in
    let h : PlacedSet = placed_of_row c.place_at-place.result in
    let at = row_at sets c.places-places.result.now c.loop-set.set c.place_at-place.result
    (c.facts.ensures.order c.args.player) (omega arith) c.places-places.ensures c.place_at-place.ensures in
    let below : c.loop-set.set < length sets = omega (arith, all_places sets c.places-places.result.now c.places-places.ensures) in
    let few = few_at sets c.loop-set.set h (c.facts.ensures.few_actions c.args.player) below at in
    record {
      from_one = omega (arith, at.first);
      some = at.some;
      few = few;
      inside = omega (arith, at.inside, c.requires.as_regrets);
      as_many = omega (arith, c.loop-set.invariant.0, c.requires.as_play, c.requires.as_regrets);
      limit = omega (arith, c.facts.ensures.limit c.args.player, c.requires.as_regrets);
      small = small_at sets (map g.R.Worth.amount c.args.regrets.now) c.loop-set.set h at c.requires.small few;
    }

pub loop-set-preserved : goal.loop-set-preserved
loop-set-preserved g c =
    let sets : List InformationSet = player_sets c.args.form.now c.args.player in
    let h : PlacedSet = placed_of_row c.place_at-place.result in
    let at = row_at (player_sets c.args.form.now c.args.player) c.places-places.result.now c.loop-set.set c.place_at-place.result
    (c.facts.ensures.order c.args.player) (omega arith) c.places-places.ensures c.place_at-place.ensures in (
      c.play_set.ensures.count ∙ c.loop-set.invariant.0,
      λ s low.
          ⊎_elim
          (λ before. c.play_set.ensures.earlier s before ∙ c.loop-set.invariant.1 s (omega (arith, at.first)))
          (λ from.
          let i : ℕ = s - h.first in
          let is : h.first + i ≡ s = omega arith in
          let inside : i < h.actions = omega (arith, at.next) in
          ap (λ s. slice_index c.play_set.new.play s) (sym is) ∙ c.play_set.ensures.given i inside
          ∙ sym (played_at sets (map g.R.Worth.amount c.args.regrets.now) c.loop-set.set h at i inside)
          ∙ ap (λ s. slice_index (play_of sets (map g.R.Worth.amount c.args.regrets.now)) s) is)
          (cases_lt s h.first),
    )

pub returns : goal.returns
returns g c =
    let sets : List InformationSet = player_sets c.args.form.now c.args.player in
    let done : c.loop-set.set ≡ length sets = omega (arith, all_places sets c.places-places.result.now c.places-places.ensures) in
    let all : start_of sets c.loop-set.set ≡ sequence_count sets =
    ap (start_of sets) done ∙ ap sequence_count (take_all (length sets) sets (omega arith)) in
    let count = (plays_each_set sets (map g.R.Worth.amount c.args.regrets.now)).all_sequences in
    let is : c.loop-set.play ≡ play_of sets (map g.R.Worth.amount c.args.regrets.now) =
    same_number_lists c.loop-set.play (play_of sets (map g.R.Worth.amount c.args.regrets.now))
    (c.loop-set.invariant.0 ∙ c.requires.as_play ∙ sym count)
    (λ s low. c.loop-set.invariant.1 s (omega (arith, all, count, c.loop-set.invariant.0, c.requires.as_play))) in
    record {
      by_regrets = is;
      all_units = subst (λ play. GivesAllUnits play sets) (sym is)
          (plays_all_units sets (map g.R.Worth.amount c.args.regrets.now) (c.facts.ensures.order c.args.player));
      count = c.loop-set.invariant.0;
    }
