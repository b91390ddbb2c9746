use Rattle.std.proofs.Common.{◌≡◌, ◌*◌, ◌≤◌, ◌∙◌, ℕ, refl, ap, subst, arith}
use Rattle.std.specs.Prelude.{◌↔◌, IsTrue}
use Rattle.def_sums.specs.Limits.{most_root}
use Rattle.def_file.specs.Content.{GameFile}
use Rattle.def_plan.specs.Form.{SequenceForm}
use Rattle.def_plan.specs.Weighed.{WeighedGame}
use Rattle.def_game_numbers.specs.Weighed.{weighed_game}
use Rattle.def_program.specs.Text.{form_of_file}
use Rattle.xg_io.specs.Calls.{sink_call}
use Rattle.xg_close_run.specs.Said.{SaysProgress}
use Rattle.std.proofs.lemmas.Nat.{mul-le}
use Rattle.def_close.specs.Narrow.{AreAsNarrow}
use Rattle.xg_search.specs.Searches.{IsSearchOf, high_of, low_of}
use Rattle.xg_close_run.proofs.Closings.{closes_of}
use Rattle.xg_close_run.specs.Searched.{IsTrueIn, width_of}
use Rattle.xg_close_run.proofs.Spoken.{nothing_said}
use Rattle.xg_close_run.proofs.closing.close_by.Goals as goal

pub returns-in_default-clause-said : goal.returns-in_default-clause-said
returns-in_default-clause-said g c =
    let game : GameFile = c.args.accepted.now in
    nothing_said (IsTrueIn (form_of_file game) (weighed_game game).unit c.args.asked.now.width) c.args.asked.now.quiet
    c.unsaid.result.is_heard (sink_call g.E.Sink c.args.err.now c.args.err.now) c.unsaid.ensures.heard refl refl

pub returns-in_default-new-clause-said : goal.returns-in_default-new-clause-said
returns-in_default-new-clause-said g c =
    let game : GameFile = c.args.accepted.now in
    nothing_said (IsTrueIn (form_of_file game) (weighed_game game).unit c.args.asked.now.width) c.args.asked.now.quiet
    c.unsaid-in_default-new.result.is_heard (sink_call g.E.Sink c.args.err.now c.args.err.now)
    c.unsaid-in_default-new.ensures.heard refl refl

pub returns-clause-said : goal.returns-clause-said
returns-clause-said g c =
    let game : GameFile = c.args.accepted.now in
    let form_is : c.form.result.now ≡ form_of_file game =
    c.form.ensures ∙ ap (λ (numbers : WeighedGame). numbers.form) c.numbers-numbers.ensures in
    let unit_is : c.unit.result ≡ (weighed_game game).unit =
    c.unit.ensures.unit ∙ ap (λ (numbers : WeighedGame). numbers.unit) c.numbers-numbers.ensures in
    let width = c.args.asked.now.width in
    let quiet = c.args.asked.now.quiet in
    let err = sink_call g.E.Sink c.args.err.now c.search_on-is_heard.new.err in
    subst (λ (f : SequenceForm). SaysProgress (IsTrueIn f (weighed_game game).unit width) quiet c.search_on-is_heard.result err)
    form_is
    (subst (λ (n : ℕ). SaysProgress (IsTrueIn c.form.result.now n width) quiet c.search_on-is_heard.result err) unit_is
    c.search_on-is_heard.ensures.said)

pub returns-clause-closes : goal.returns-clause-closes
returns-clause-closes g c =
    let game : GameFile = c.args.accepted.now in
    let form_is : c.form.result.now ≡ form_of_file game =
    c.form.ensures ∙ ap (λ (numbers : WeighedGame). numbers.form) c.numbers-numbers.ensures in
    let unit_is : c.unit.result ≡ (weighed_game game).unit =
    c.unit.ensures.unit ∙ ap (λ (numbers : WeighedGame). numbers.unit) c.numbers-numbers.ensures in
    let found = c.search_on-is_heard.new.search in
    let width = width_of c.args.width.now in
    let is = subst (λ (f : SequenceForm). IsSearchOf f found) form_is c.search_on-is_heard.ensures.search in
    let some_unit : 1 ≤ (weighed_game game).unit = subst (λ (n : ℕ). 1 ≤ n) unit_is c.unit.ensures.positive in
    let some : 1 ≤ (weighed_game game).unit * most_root = mul-le 1 1 (weighed_game game).unit most_root some_unit (omega arith) in
    closes_of c.args.asked.now.width game width found is c.requires.width some
    (sink_call g.O.Sink c.args.out.now c.write_plans-written.new.out) c.write_plans-written.result
    c.is_closed-is_narrow.result c.of_written.result
    (subst (λ (n : ℕ). IsTrue c.is_closed-is_narrow.result ↔ AreAsNarrow width (n * most_root) (low_of found) (high_of found))
    unit_is c.is_closed-is_narrow.ensures)
    c.of_written.ensures c.write_plans-written.ensures.text c.write_plans-written.ensures.cause
