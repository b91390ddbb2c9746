use Rattle.std.proofs.Common.{refl}
use Rattle.std.specs.Fmt.{digits}
use Rattle.def_program_laws.proofs.rows.unanswered_rows.Goals as goal

pub returns : goal.returns
unfolding digits
returns c = record {
  words = refl;
  solve = refl;
  info = refl;
  check = refl;
  certificate = refl;
  upgrade = refl;
  upgraded = refl;
}
