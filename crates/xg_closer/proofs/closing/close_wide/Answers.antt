use Rattle.std.proofs.Common.{◌≡◌, List, ℤ, length, map, ◌∙◌}
use Rattle.std.proofs.lemmas.List.{length-map}
use Rattle.def_plan.specs.Form.{InformationSet, player_sets, sequence_count}
use Rattle.xg_closer.proofs.Closed.{own_worths_regrets, own_worths_small, same_amounts}
use Rattle.xg_closer.proofs.SmallRegrets.{number_fits, numbers_fit_wide, regrets_fit_wide}
use Rattle.xg_closer.proofs.closing.close_wide.Goals as goal

pub close_sets-requires : goal.close_sets-requires
close_sets-requires g c =
    let sets : List InformationSet = player_sets c.args.form.now c.args.player in
    let rows : List ℤ = map g.A.Worth.amount c.args.rows.now in
    let first : List ℤ = c.args.small_worths.now in
    let taken = rw c.in-Some.is at c.requires.taken in
    let count : length rows ≡ sequence_count sets = length-map c.args.rows.now g.A.Worth.amount ∙ c.requires.as_rows in
    let small = own_worths_small c.args.player rows sets count c.requires.small_rows first taken.each in
    record {
      as_worths = c.requires.as_small_worths;
      as_regrets = c.requires.as_regrets;
      as_play = c.requires.as_play;
      all_units = c.requires.all_units;
      small = small;
      fits = number_fits c.args.player rows first sets c.in-Some.field-0 count taken;
      growth = numbers_fit_wide first sets small;
      room = regrets_fit_wide first sets small c.args.regrets.now c.requires.room;
      none_of_empty = rw (same_amounts c.args.regrets.now) c.requires.none_of_empty;
    }

pub close_sets-requires-in-None : goal.close_sets-requires-in-None
close_sets-requires-in-None g c =
    let sets : List InformationSet = player_sets c.args.form.now c.args.player in
    let rows : List ℤ = map g.A.Worth.amount c.args.rows.now in
    let first : List ℤ = c.take_rows.new.worths in
    let count : length rows ≡ sequence_count sets = length-map c.args.rows.now g.A.Worth.amount ∙ c.requires.as_rows in
    let small = own_worths_small c.args.player rows sets count c.requires.small_rows first c.take_rows.ensures.each in
    record {
      as_worths = c.take_rows.ensures.count ∙ c.requires.as_worths;
      as_regrets = c.requires.as_regrets;
      as_play = c.requires.as_play;
      all_units = c.requires.all_units;
      small = small;
      fits = numbers_fit_wide first sets small;
      growth = numbers_fit_wide first sets small;
      room = regrets_fit_wide first sets small c.args.regrets.now c.requires.room;
      none_of_empty = rw (same_amounts c.args.regrets.now) c.requires.none_of_empty;
    }

pub returns-in-Some-clause-regrets : goal.returns-in-Some-clause-regrets
returns-in-Some-clause-regrets g c =
    let rows : List ℤ = map g.A.Worth.amount c.args.rows.now in
    let first : List ℤ = c.args.small_worths.now in
    let taken = rw c.in-Some.is at c.requires.taken in
    own_worths_regrets c.args.player rows (player_sets c.args.form.now c.args.player) (length-map c.args.rows.now g.A.Worth.amount ∙ c.requires.as_rows)
    c.requires.small_rows first c.args.play.now c.args.regrets.now c.close_sets.new.regrets taken.each c.close_sets.ensures.regrets

pub returns-in-None-clause-regrets : goal.returns-in-None-clause-regrets
returns-in-None-clause-regrets g c =
    let rows : List ℤ = map g.A.Worth.amount c.args.rows.now in
    own_worths_regrets c.args.player rows (player_sets c.args.form.now c.args.player) (length-map c.args.rows.now g.A.Worth.amount ∙ c.requires.as_rows)
    c.requires.small_rows c.take_rows.new.worths c.args.play.now c.args.regrets.now c.close_sets-in-None.new.regrets
    c.take_rows.ensures.each c.close_sets-in-None.ensures.regrets
