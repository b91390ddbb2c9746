use Rattle.std.proofs.Common.{refl}
use Rattle.std.specs.Fmt.{digits}
use Rattle.def_cert_text.specs.Fields.{items_text}
use Rattle.def_cert_text.specs.Formats.{each_items}
use Rattle.def_text_laws.proofs.cert_text.rows.whole_texts.Goals as goal

pub returns-clause-pennies : goal.returns-clause-pennies
unfolding digits each_items items_text
returns-clause-pennies c = refl

pub returns-clause-pennies_length : goal.returns-clause-pennies_length
unfolding digits each_items items_text
returns-clause-pennies_length c = refl

pub returns-clause-one_mover : goal.returns-clause-one_mover
unfolding digits each_items items_text
returns-clause-one_mover c = refl

pub returns-clause-scale_one : goal.returns-clause-scale_one
unfolding digits each_items items_text
returns-clause-scale_one c = refl

pub returns-clause-no_round : goal.returns-clause-no_round
unfolding digits each_items items_text
returns-clause-no_round c = refl

pub returns-clause-head : goal.returns-clause-head
unfolding digits each_items items_text
returns-clause-head c = refl
