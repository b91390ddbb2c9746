use Rattle.std.proofs.Common.{◌≡◌, ℕ, ◌+◌, List, length, ℤ, unsigned_abs, map, arith, refl, ◌∙◌, rules}
use Rattle.std.proofs.lemmas.List.{length-map}
use Rattle.def_sums.specs.Sum.{nat_sum_over}
use Rattle.def_plan.specs.Form.{InformationSet, player_sets, sequence_count}
use Rattle.def_round.specs.Play.{regret_of}
use Rattle.xg_closer.proofs.Closed.{own_worths_regrets, own_worths_small, same_amounts}
use Rattle.xg_closer.proofs.SmallRegrets.{number_fits, regret_fits, regrets_within}
use Rattle.xg_closer.proofs.closing.close_rows.Goals as goal

pub close_sets-requires : goal.close_sets-requires
close_sets-requires g c =
    let player = c.args.player in
    let sets : List InformationSet = player_sets c.args.form.now player in
    let rows : List ℤ = map g.A.Worth.amount c.args.rows.now in
    let count : length rows ≡ sequence_count sets = length-map c.args.rows.now g.A.Worth.amount ∙ c.requires.as_rows in
    let small : List ℤ = c.args.small_regrets.now in
    let first : List ℤ = c.take_small_rows-sizes.new.worths in
    let after = rw c.in-Some.is at c.most_after-more.ensures.within in
    let taken = rw after.grown_is at c.take_small_rows-sizes.ensures.taken in
    let within = rw after.before_is at c.requires.small in
    record {
      as_worths = c.take_small_rows-sizes.ensures.count ∙ c.requires.as_small_worths;
      as_regrets = c.requires.as_small_regrets;
      as_play = c.requires.as_play;
      all_units = c.requires.all_units;
      small = own_worths_small player rows sets count c.requires.small_rows first taken.each;
      fits = number_fits player rows first sets after.grown count taken;
      growth = number_fits player rows first sets after.grown count taken;
      room = λ s v low. rw (same_amounts small) (regret_fits player rows first sets after.grown count taken (regret_of small s) v after.before
          c.in-Some.field-0 (within.1 s) after.sum after.small low);
      none_of_empty = rw (same_amounts small) (rw after.before_is at c.requires.none_of_empty);
    }

pub returns-in-Some : goal.returns-in-Some
returns-in-Some g c =
    let player = c.args.player in
    let sets : List InformationSet = player_sets c.args.form.now player in
    let rows : List ℤ = map g.A.Worth.amount c.args.rows.now in
    let count : length rows ≡ sequence_count sets = length-map c.args.rows.now g.A.Worth.amount ∙ c.requires.as_rows in
    let small : List ℤ = c.args.small_regrets.now in
    let first : List ℤ = c.take_small_rows-sizes.new.worths in
    let after = rw c.in-Some.is at c.most_after-more.ensures.within in
    let taken = rw after.grown_is at c.take_small_rows-sizes.ensures.taken in
    let within = rw after.before_is at c.requires.small in
    let new : List ℤ = c.close_sets.new.regrets in
    let is = rw (same_amounts new, same_amounts small) at c.close_sets.ensures.regrets in
    record {
      small_worths_count = c.close_sets.ensures.worths_count ∙ c.take_small_rows-sizes.ensures.count;
      worths_count = refl;
      small_count = c.close_sets.ensures.count;
      count = refl;
      small = rw c.in-Some.is (
        after.small,
        λ s. omega (
          arith,
          after.sum,
          regrets_within player rows first sets after.grown count taken c.args.play.now small new after.before
              (c.facts.ensures.order player) c.requires.all_units within.1 is s,
        ),
      );
      stay_small = search rules;
      regrets = rw (c.in-Some.is, after.before_is)
          (own_worths_regrets player rows sets count c.requires.small_rows first c.args.play.now small new taken.each c.close_sets.ensures.regrets);
    }

pub close_wide-requires-clause-room : goal.close_wide-requires-clause-room
close_wide-requires-clause-room g c = rw c.widen.ensures c.requires.room

pub close_wide-requires-clause-none_of_empty : goal.close_wide-requires-clause-none_of_empty
close_wide-requires-clause-none_of_empty g c = rw c.widen.ensures c.requires.none_of_empty

pub returns-in-None-clause-regrets : goal.returns-in-None-clause-regrets
returns-in-None-clause-regrets g c = rw c.in-None.is (rw c.widen.ensures at c.close_wide.ensures.regrets)

pub returns-in-None-clause-stay_small : goal.returns-in-None-clause-stay_small
returns-in-None-clause-stay_small g c before is small =
    let grown : ℕ = nat_sum_over unsigned_abs (map g.A.Worth.amount c.args.rows.now) in
    c.most_after-more.ensures.all (before + grown)
    (record {
      before = before;
      grown = grown;
      before_is = is;
      grown_is = c.take_small_rows-sizes.ensures.sizes
          (omega (arith, small));
      sum = refl;
      small = small;
    })
