use Rattle.xg_seq.specs.declared.table.SetPlace.{SetPlace}
use Rattle.def_plan.specs.Form.{player_sets}
use Rattle.xg_search.proofs.Placing.{in_place}
use Rattle.xg_search.proofs.places.place_at.Goals as goal

abbrev none : SetPlace
none = record { first = 0; before = 0; actions = 0 }

pub returns-clause-some : goal.returns-clause-some
returns-clause-some c =
    (in_place (player_sets c.args.form.now c.args.player) c.args.places.now c.args.k none c.sequence_count-count.ensures.order c.requires.all
    c.requires.there).some

pub returns-clause-earlier : goal.returns-clause-earlier
returns-clause-earlier c =
    (in_place (player_sets c.args.form.now c.args.player) c.args.places.now c.args.k none c.sequence_count-count.ensures.order c.requires.all
    c.requires.there).earlier

pub returns-clause-inside : goal.returns-clause-inside
returns-clause-inside c =
    (in_place (player_sets c.args.form.now c.args.player) c.args.places.now c.args.k none c.sequence_count-count.ensures.order c.requires.all
    c.requires.there).inside
