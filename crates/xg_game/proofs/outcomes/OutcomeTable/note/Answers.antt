use Rattle.std.proofs.Common.{◌<◌, ℕ, List, length, option_map, sym, ap, ◌∙◌, arith}
use Rattle.std.proofs.Math.ListN.{length-map}
use Rattle.std.proofs.lemmas.Result.{on_ok_weaker}
use Rattle.def_file.specs.Adding.{kept_name}
use Rattle.def_file.specs.Content.{OutcomeEntry, outcome_mention}
use Rattle.xg_game.specs.Outcomes.{outcome_entry_of}
use Rattle.xg_game.proofs.FractionLemmas.{paid_given}
use Rattle.xg_game.proofs.TableLemmas.{KnownOutcome, outcome_noted, outcome_renamed, there}
use Rattle.xg_game.proofs.outcomes.OutcomeTable.note.Goals as goal

pub invariant_of-self : goal.invariant_of-self
invariant_of-self c =
    let es : List (ℕ × KnownOutcome) = c.self.inside.outcomes in
    let noted = outcome_noted c.args.self.now (outcome_mention c.args.number c.args.name.now (option_map (λ p. p.now) c.args.payoffs)) c.in-Some.i
    (sym c.requires.place ∙ c.in-Some.is) in
    let within : c.in-Some.i < length es = omega (arith, noted.0, length-map es outcome_entry_of, ap (length {A = OutcomeEntry}) c.self.view_is) in
    let found = there es c.in-Some.i within in
    paid_given c.name.result es c.name.new.self c.in-Some.i found.0 (kept_name found.0.1.name c.args.name.now) found.1 c.self.invariant
    (c.name.ensures.ok found.0 found.1) c.name.ensures.err

pub returns-in-Some : goal.returns-in-Some
returns-in-Some c =
    let es : List (ℕ × KnownOutcome) = c.self.inside.outcomes in
    let noted = outcome_noted c.args.self.now (outcome_mention c.args.number c.args.name.now (option_map (λ p. p.now) c.args.payoffs)) c.in-Some.i
    (sym c.requires.place ∙ c.in-Some.is) in
    let within : c.in-Some.i < length es = omega (arith, noted.0, length-map es outcome_entry_of, ap (length {A = OutcomeEntry}) c.self.view_is) in
    let found = there es c.in-Some.i within in
    on_ok_weaker c.name.result
    (λ put. outcome_renamed es c.name.new.self c.args.self.now c.in-Some.i found.0 c.args.name.now found.1 c.self.view_is put ∙ noted.1)
    (c.name.ensures.ok found.0 found.1)
