use Rattle.std.proofs.Common.{refl}
use Rattle.def_progress.specs.Decimals.{as_decimal}
use Rattle.xg_close_lines.specs.Texts.{decimal_of}
use Rattle.xg_close_lines.proofs.asked.asked_width.Goals as goal

pub returns-in-Some : goal.returns-in-Some
returns-in-Some c =
    let known = c.in-Some.ensures in
    as_decimal (decimal_of c.in-Some.decimal) c.in-Some.decimal.few known.exact known.fewest refl
