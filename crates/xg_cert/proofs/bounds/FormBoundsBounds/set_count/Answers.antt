use Rattle.std.proofs.Common.{◌∙◌, ap, drop, length, sym}
use Rattle.def_plan.specs.Form.{player_sets}
use Rattle.xg_cert.specs.Writable.{end_in}
use Rattle.xg_cert.proofs.FormEnds.{plan_is}
use Rattle.xg_cert.proofs.SetLines.{length-by_sets}
use Rattle.xg_cert.proofs.bounds.FormBoundsBounds.set_count.Goals as goal

pub returns-clause-plan : goal.returns-clause-plan
returns-clause-plan c =
    let b = c.args.self.now in
    c.set_count.ensures ∙ sym (length-by_sets (player_sets b.form.now c.args.player) (drop 1 (end_in c.args.player b).plan))
    ∙ ap (λ p. length p.weights) (sym (plan_is c.args.player b))
