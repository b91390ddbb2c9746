use Rattle.std.proofs.Common.{rules}
use Rattle.xg_cert_fields.proofs.NumberLemmas.{none_at_all, none_fits, small_read}
use Rattle.xg_cert_fields.proofs.numbers.small_in.Goals as goal

pub returns-in_err-fraction : goal.returns-in_err-fraction
returns-in_err-fraction c = search (rules, none_at_all)

pub returns-then-not-is_small : goal.returns-then-not-is_small
returns-then-not-is_small c = search (rules, none_fits)

pub returns : goal.returns
returns c = search (rules, small_read)
