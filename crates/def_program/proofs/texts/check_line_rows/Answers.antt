use Rattle.std.proofs.Common.{refl}
use Rattle.std.specs.Fmt.{digits}
use Rattle.def_program.proofs.texts.check_line_rows.Goals as goal

pub returns : goal.returns
unfolding digits
returns c = record {
  accepted = refl;
  whole = refl;
  head_alone = refl;
  long = refl;
  syntax = refl;
  number = refl;
  version = refl;
  short = refl;
  trailing = refl;
  head = refl;
  plan = refl;
  value = refl;
  reply = refl;
  lower = refl;
  upper = refl;
  trace = refl;
  second = refl;
}
