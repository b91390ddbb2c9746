use Rattle.std.proofs.Common.{◌≡◌, ◌≤◌, ◌∙◌, List, ℕ, ap, subst, sym}
use Rattle.def_fraction.specs.Fraction.{most}
use Rattle.def_file.specs.Content.{GameFile}
use Rattle.def_sums.specs.Limits.{most_mass}
use Rattle.def_tree.specs.declared.Player.TheVariants.{One, Two}
use Rattle.def_plan.specs.Form.{AreInOrder, SequenceForm}
use Rattle.def_plan.specs.Payoff.{mass_of}
use Rattle.def_plan.specs.Weighed.{WeighedGame}
use Rattle.def_cert_verdict.specs.Ranges.{IsFromTo}
use Rattle.def_cert_accepted.specs.OfOutcome.{certificate_of}
use Rattle.def_cert_text.specs.CertText.{versioned_text}
use Rattle.def_cert_versions.specs.Verdict.{in_version_two}
use Rattle.def_game_numbers.specs.WholeSums.{HasWholeSum}
use Rattle.def_program.specs.Text.{form_of_file, game_head}
use Rattle.def_outside.specs.Sinks.{Writes}
use Rattle.def_close.specs.Plans.{pair_text, whole_line}
use Rattle.def_cert_accepted.specs.Writable.{IsOutcomeOf}
use Rattle.xg_search.specs.Searches.{lower_of, upper_of}
use Rattle.xg_close_run.proofs.Found.{plans_kept, plans_writable, writes_of}
use Rattle.xg_close_run.proofs.closing.write_plans.Goals as goal

pub write_paged-written-requires : goal.write_paged-written-requires
write_paged-written-requires g c =
    let game : GameFile = c.args.accepted.now in
    let form : SequenceForm = form_of_file game in
    let first_is : c.form.result.now ≡ form =
    c.form.ensures ∙ ap (λ (numbers : WeighedGame). numbers.form) c.numbers-numbers.ensures in
    let form_is : c.form-2.result.now ≡ form =
    c.form-2.ensures ∙ ap (λ (numbers : WeighedGame). numbers.form) c.numbers-numbers.ensures in
    let can = plans_writable form
    (subst (λ (f : SequenceForm). AreInOrder f.sets_one) first_is (c.facts-2.ensures.order One))
    (subst (λ (f : SequenceForm). AreInOrder f.sets_two) first_is (c.facts-2.ensures.order Two))
    (subst (λ (f : SequenceForm). mass_of f.leaves ≤ most_mass) first_is c.facts-2.ensures.mass)
    (game_head game whole_line) (lower_of c.args.search).plan (upper_of c.args.search).plan
    (plans_kept form c.args.search c.requires.search)
    (subst (λ (numbers : WeighedGame). IsFromTo 1 most numbers.unit) c.numbers-numbers.ensures
    (c.facts.ensures.positive, c.facts.ensures.limit))
    (subst HasWholeSum c.numbers-numbers.ensures c.facts.ensures.whole_sum) in
    subst (λ (f : SequenceForm). IsOutcomeOf f c.outcome_of-outcome.result) (sym form_is)
    (subst (IsOutcomeOf form) (sym c.outcome_of-outcome.ensures) can)

pub returns-clause-text : goal.returns-clause-text
returns-clause-text g c =
    let game : GameFile = c.args.accepted.now in
    let form_is : c.form-2.result.now ≡ form_of_file game =
    c.form-2.ensures ∙ ap (λ (numbers : WeighedGame). numbers.form) c.numbers-numbers.ensures in
    let text : List ℕ = versioned_text (in_version_two (certificate_of c.form-2.result.now c.outcome_of-outcome.result)) in
    let text_is : text ≡ pair_text game (lower_of c.args.search).plan (upper_of c.args.search).plan =
    (λ i. versioned_text (in_version_two (certificate_of (form_is i) (c.outcome_of-outcome.ensures i)))) in
    subst (λ (bytes : List ℕ). Writes (g.O.Sink.written c.args.out.now) (g.O.Sink.written c.write_paged-written.new.out) bytes
    c.write_paged-written.result) text_is
    (writes_of (g.O.Sink.written c.args.out.now) (g.O.Sink.written c.write_paged-written.new.out) text
    c.write_paged-written.result c.write_paged-written.ensures.appended c.write_paged-written.ensures.prefix)
