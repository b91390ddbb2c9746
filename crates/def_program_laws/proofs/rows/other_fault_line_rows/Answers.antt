use Rattle.std.proofs.Common.{refl}
use Rattle.std.specs.Fmt.{digits}
use Rattle.def_program_laws.proofs.rows.other_fault_line_rows.Goals as goal

pub returns : goal.returns
unfolding digits
returns c = record {
  too_long = refl;
  unexpected_end = refl;
  trailing_text = refl;
  form = refl;
  zero_denominator = refl;
  player_number = refl;
  set_undefined = refl;
  outcome_undefined = refl;
  outcome_mismatch = refl;
  payoff_count = refl;
  too_many_nodes = refl;
  action_count = refl;
  chance_negative = refl;
  chance_sum = refl;
  not_constant_sum = refl;
  scale = refl;
}
