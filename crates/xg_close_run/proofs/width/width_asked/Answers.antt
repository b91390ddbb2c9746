use Rattle.std.proofs.Common.{Option, subst, sym}
use Rattle.def_fraction.specs.Fraction.{Fraction}
use Rattle.xg_close_lines.specs.Texts.{asked_text}
use Rattle.xg_close_run.specs.Widths.{IsShown}
use Rattle.xg_close_run.proofs.width.width_asked.Goals as goal

pub returns-in-Some-clause-shown : goal.returns-in-Some-clause-shown
returns-in-Some-clause-shown c =
    subst (λ (asked : Option Fraction). IsShown asked (asked_text c.given_width.result.shown)) (sym c.in-Some.is)
    c.given_width.ensures.shown
