use Rattle.def_game_numbers.proofs.Fractions.{tables_lowest}
use Rattle.xg_scale.proofs.WordLemmas.{answer_count, answer_leaves, answer_least, answer_passes, answer_sound, answer_unit, fault_answered, first_answered}
use Rattle.xg_scale.proofs.WordLemmas.{weights_answered}
use Rattle.xg_scale.proofs.weighing.weigh.Goals as goal

pub returns-clause-first : goal.returns-clause-first
returns-clause-first c = λ fault is. first_answered c.args.game.now (tables_lowest c.args.game.now c.numbers_are_in_lowest_terms.ensures) c.weigh_exactly.result fault c.weigh_exactly.ensures is

pub returns-clause-faults : goal.returns-clause-faults
returns-clause-faults c = λ fault first. fault_answered c.args.game.now (tables_lowest c.args.game.now c.numbers_are_in_lowest_terms.ensures) c.weigh_exactly.result fault
    c.weigh_exactly.ensures first

pub returns-clause-weighed : goal.returns-clause-weighed
returns-clause-weighed c = λ weights passes are. weights_answered c.args.game.now (tables_lowest c.args.game.now c.numbers_are_in_lowest_terms.ensures) c.weigh_exactly.result weights
    c.weigh_exactly.ensures passes are

pub returns-clause-faultless : goal.returns-clause-faultless
returns-clause-faultless c = answer_passes c.args.game.now (tables_lowest c.args.game.now c.numbers_are_in_lowest_terms.ensures) c.weigh_exactly.result c.weigh_exactly.ensures

pub returns-clause-sound : goal.returns-clause-sound
returns-clause-sound c = answer_sound c.args.game.now (tables_lowest c.args.game.now c.numbers_are_in_lowest_terms.ensures) c.weigh_exactly.result c.weigh_exactly.ensures

pub returns-clause-unit : goal.returns-clause-unit
returns-clause-unit c = answer_unit c.args.game.now (tables_lowest c.args.game.now c.numbers_are_in_lowest_terms.ensures) c.weigh_exactly.result c.weigh_exactly.ensures

pub returns-clause-least : goal.returns-clause-least
returns-clause-least c = answer_least c.args.game.now (tables_lowest c.args.game.now c.numbers_are_in_lowest_terms.ensures) c.weigh_exactly.result c.weigh_exactly.ensures

pub returns-clause-leaves : goal.returns-clause-leaves
returns-clause-leaves c = answer_leaves c.args.game.now (tables_lowest c.args.game.now c.numbers_are_in_lowest_terms.ensures) c.weigh_exactly.result c.weigh_exactly.ensures

pub returns-clause-count : goal.returns-clause-count
returns-clause-count c = answer_count c.args.game.now (tables_lowest c.args.game.now c.numbers_are_in_lowest_terms.ensures) c.weigh_exactly.result c.weigh_exactly.ensures

pub weigh_exactly-requires : goal.weigh_exactly-requires
weigh_exactly-requires c = tables_lowest c.args.game.now c.numbers_are_in_lowest_terms.ensures
