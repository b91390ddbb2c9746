use Rattle.std.proofs.Common.{◌≤◌, ◌^◌, ℕ, ℤ, List, All, ap, slice_index, subst, sym, unsigned_abs, ◌∙◌}
use Rattle.def_sums.specs.Limits.{most_root}
use Rattle.def_tree.specs.declared.Player.{Player}
use Rattle.def_tree.specs.Opponent.{opponent}
use Rattle.def_cert_verdict.specs.Certificate.{printed_numbers}
use Rattle.xg_cert.specs.Printed.{bounds_in, plan_in, reply_in, set_count_in}
use Rattle.xg_check.proofs.PlanTests.{numbers_small}
use Rattle.xg_check.proofs.ReplyTests.{bounds_fit, plan_fits, reply_fits, same_tests, values_small}
use Rattle.xg_check.proofs.ends.fault_of_reply.Goals as goal

pub reply_fault-requires-clause-numbers : goal.reply_fault-requires-clause-numbers
reply_fault-requires-clause-numbers c =
    let cert = c.args.cert.now.certificate in
    let b = bounds_in cert in
    let fits = bounds_fit cert c.facts.ensures.within.certificate (c.facts.ensures.bounds c.requires.sets.asked) in
    let small = numbers_small (set_count_in c.opponent.result cert.head) (plan_in c.opponent.result b) (plan_fits c.opponent.result cert.head b fits) in
    λ s. subst (λ (xs : List ℕ). slice_index xs s ≤ most_root) (sym c.numbers-against.ensures) (small s)

pub reply_fault-requires-clause-small : goal.reply_fault-requires-clause-small
reply_fault-requires-clause-small c =
    let cert = c.args.cert.now.certificate in
    let b = bounds_in cert in
    let fits = bounds_fit cert c.facts.ensures.within.certificate (c.facts.ensures.bounds c.requires.sets.asked) in
    subst (λ (vs : List ℤ). All (λ v. unsigned_abs v ≤ 2 ^ 100) vs) (sym c.values-values.ensures)
    (values_small (reply_in c.args.player b).sets (reply_fits c.args.player cert.head b fits).values)

pub returns-clause-fault : goal.returns-clause-fault
returns-clause-fault c =
    let b = bounds_in c.args.cert.now.certificate in
    let against = c.numbers-against.ensures ∙ ap (λ (p : Player). printed_numbers (plan_in p b)) c.opponent.ensures in
    c.reply_fault.ensures.fault
    ∙ same_tests c.args.player c.form-form.result.now c.args.numbers.now.form c.numbers-against.result.now (printed_numbers (plan_in (opponent c.args.player) b))
    (reply_in c.args.player b) c.end_of-end.result.total c.end_of-end.result.traced _ c.end_of-end.result.bound _ (unsigned_abs c.end_of-end.result.scale) _
    c.values-values.result.now c.choices-choices.result.now
    c.form-form.ensures against c.end_of-end.ensures.total c.end_of-end.ensures.traced c.end_of-end.ensures.bound c.end_of-end.ensures.scale c.values-values.ensures
    c.choices-choices.ensures
