use Rattle.std.proofs.Common.{refl}
use Rattle.std.specs.Fmt.{digits}
use Rattle.def_cert_text.specs.Fields.{items_text}
use Rattle.def_cert_text.specs.Formats.{each_items}
use Rattle.def_text_laws.proofs.cert_text.version_rows.texts_of_both.Goals as goal

pub returns-clause-shared_one : goal.returns-clause-shared_one
unfolding digits each_items items_text
returns-clause-shared_one c = refl

pub returns-clause-shared_two : goal.returns-clause-shared_two
unfolding digits each_items items_text
returns-clause-shared_two c = refl

pub returns-clause-pennies_one : goal.returns-clause-pennies_one
unfolding digits each_items items_text
returns-clause-pennies_one c = refl

pub returns-clause-pennies_two : goal.returns-clause-pennies_two
unfolding digits each_items items_text
returns-clause-pennies_two c = refl

pub returns-clause-no_round_one : goal.returns-clause-no_round_one
unfolding digits each_items items_text
returns-clause-no_round_one c = refl

pub returns-clause-no_round_two : goal.returns-clause-no_round_two
unfolding digits each_items items_text
returns-clause-no_round_two c = refl

pub returns-clause-no_sum_one : goal.returns-clause-no_sum_one
unfolding digits each_items items_text
returns-clause-no_sum_one c = refl

pub returns-clause-no_sum_two : goal.returns-clause-no_sum_two
unfolding digits each_items items_text
returns-clause-no_sum_two c = refl

pub returns-clause-finest_one : goal.returns-clause-finest_one
unfolding digits each_items items_text
returns-clause-finest_one c = refl

pub returns-clause-finest_two : goal.returns-clause-finest_two
unfolding digits each_items items_text
returns-clause-finest_two c = refl

pub returns-clause-shared_length : goal.returns-clause-shared_length
unfolding digits each_items items_text
returns-clause-shared_length c = refl
