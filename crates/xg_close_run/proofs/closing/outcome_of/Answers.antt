use Rattle.std.proofs.Common.{◌≡◌, ◌∙◌, [], ◌∷◌, ap, rules}
use Rattle.std.specs.Prelude.{Some}
use Rattle.std.proofs.lemmas.Int.{to_z-of_z}
use mir.Syntax.{w128}
use mir.Val.{SFits, to_z, of_z}
use Rattle.def_reply.specs.Outcome.{End, OutcomeEnds}
use Rattle.def_close.specs.Plans.{ends_of_plans, line_of_ends}
use Rattle.def_program.specs.Text.{form_of_file}
use Rattle.xg_bracket.specs.declared.parts.PlanAndReply.{PlanAndReply}
use Rattle.xg_outcome.specs.Outcome.{end_seen}
use Rattle.xg_search.specs.Searches.{lower_of, upper_of}
use Rattle.xg_close_run.proofs.Found.{ends_are, ends_kept}
use Rattle.xg_close_run.proofs.closing.outcome_of.Goals as goal

abbrev seen : PlanAndReply → End
seen e = record { plan = e.plan; reply = e.reply.reply }

pub returns : goal.returns
returns c =
    let form = form_of_file c.args.accepted.now in
    let kept = c.args.search in
    let ends : OutcomeEnds = ends_of_plans form (lower_of kept).plan (upper_of kept).plan in
    let are : ends_kept kept ≡ ends = ends_are form kept c.requires.search in
    let low_fits : SFits w128 c.low.result = search rules in
    let low_is : to_z w128 (of_z w128 c.low.result) ≡ ends.lower.reply.total =
    to_z-of_z w128 c.low.result low_fits ∙ c.low.ensures ∙ ap (λ (e : OutcomeEnds). e.lower.reply.total) are in
    let high_fits : SFits w128 c.high.result = search rules in
    let high_is : to_z w128 (of_z w128 c.high.result) ≡ ends.upper.reply.total =
    to_z-of_z w128 c.high.result high_fits ∙ c.high.ensures ∙ ap (λ (e : OutcomeEnds). e.upper.reply.total) are in
    let trace_is : c.set_line.new.trace.items ≡ line_of_ends 65536 ends ∷ [] =
    c.set_line.ensures
    ∙ (λ i. record { round = 65536; low_round = 65536; low = low_is i; high_round = 65536; high = high_is i } ∷ []) in
    let lower_is : end_seen c.end_of.result ≡ seen (lower_of kept) =
    c.end_of.ensures ∙ ap seen c.into_ends-lower.ensures.lower in
    let upper_is : end_seen c.end_of-2.result ≡ seen (upper_of kept) =
    c.end_of-2.ensures ∙ ap seen c.into_ends-lower.ensures.upper in
    let both : ◌≡◌ {A = OutcomeEnds} (record { lower = end_seen c.end_of.result; upper = end_seen c.end_of-2.result }) ends =
    (λ i. record { lower = lower_is i; upper = upper_is i }) ∙ are in
    c.new.ensures ∙ (λ i. record { head = c.head.ensures i; trace = trace_is i; ends = Some (both i) })
