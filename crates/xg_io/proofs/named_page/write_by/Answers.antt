use Rattle.std.proofs.Common.{◌∙◌, sym}
use Rattle.std.proofs.lemmas.Result.{on_err_weaker}
use Rattle.xg_io.proofs.Pages.{front_before_waiting, front_of_sink}
use Rattle.xg_io.proofs.named_page.write_by.Goals as goal
use Rattle.xg_io.proofs.ResultCases.{without_err}

pub returns-then-is_err-clause-prefix : goal.returns-then-is_err-clause-prefix
returns-then-is_err-clause-prefix g c =
    on_err_weaker c.fill-page.result.1 (front_of_sink _ _ _ _ c.fill-page.ensures.grown) c.fill-page.ensures.prefix

pub returns-clause-prefix : goal.returns-clause-prefix
returns-clause-prefix g c =
    let filled = without_err c.fill-page.result.1 (sym c.is_err.ensures.value ∙ c.if-is_err.false) c.fill-page.ensures.appended in
    on_err_weaker c.turn-page.result (λ some. front_before_waiting _ _ _ _ (c.turn-page.ensures.grown g.L.Lender.before c.fill-page.ensures.grown) some
    (c.turn-page.ensures.same_written ∙ filled)) c.turn-page.ensures.some_wait
