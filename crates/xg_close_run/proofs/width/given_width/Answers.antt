use Rattle.std.proofs.Common.{rules, ◌≡◌, ◌∙◌, ℕ, unsigned_abs, ap, subst}
use Rattle.std.proofs.lemmas.Int.{to_z-of_z}
use mir.Syntax.{w128}
use mir.Val.{SFits}
use Rattle.def_progress.specs.Decimals.{IsQuotientText}
use Rattle.xg_close_lines.specs.Texts.{asked_text}
use Rattle.xg_close_run.proofs.width.given_width.Goals as goal

pub returns-clause-shown : goal.returns-clause-shown
returns-clause-shown c =
    let num_fits : SFits w128 c.num.result = search rules in
    let num_is : c.unsigned_abs-num.result ≡ unsigned_abs c.args.width.num =
    c.unsigned_abs-num.ensures.value ∙ ap unsigned_abs (to_z-of_z w128 c.num.result num_fits ∙ c.num.ensures.value) in
    let den_fits : SFits w128 c.den.result = search rules in
    let den_is : c.unsigned_abs-den.result ≡ c.args.width.den =
    c.unsigned_abs-den.ensures.value ∙ ap unsigned_abs (to_z-of_z w128 c.den.result den_fits ∙ c.den.ensures.value) in
    subst (λ (n : ℕ). IsQuotientText n c.args.width.den (asked_text c.asked_width.result)) num_is
    (subst (λ (n : ℕ). IsQuotientText c.unsigned_abs-num.result n (asked_text c.asked_width.result)) den_is
    c.asked_width.ensures)
