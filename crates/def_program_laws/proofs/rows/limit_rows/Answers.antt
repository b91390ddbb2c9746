use Rattle.std.proofs.Common.{refl}
use Rattle.def_program_laws.proofs.rows.limit_rows.Goals as goal

pub returns : goal.returns
returns c = record {
  file_bytes = refl;
  certificate_bytes = refl;
  two_cards = refl;
  most_cards = refl;
  drill_of_most_cards = refl;
  one_card = refl;
  many_cards = refl;
  most_every = refl;
  large_every = refl;
  most_scale = refl;
  scale_zero = refl;
}
