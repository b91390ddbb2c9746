use Rattle.std.proofs.Common.{◌∷◌, [], ◌++◌, ℕ, List, map, length, ap, ◌∙◌, arith}
use Rattle.std.proofs.Math.ListN.{length-map}
use Rattle.std.proofs.lemmas.Result.{on_ok_weaker}
use Rattle.def_file.specs.Content.{OutcomeEntry}
use Rattle.def_file.specs.Faults.{outcome_place_of}
use Rattle.xg_game.specs.Outcomes.{outcome_entry_of}
use Rattle.xg_game.proofs.FractionLemmas.{paid_put}
use Rattle.xg_game.proofs.TableLemmas.{KnownOutcome, outcome_added, outcome_place}
use Rattle.xg_game.proofs.outcomes.OutcomeTable.add.Goals as goal

pub push-requires-clause-new : goal.push-requires-clause-new
push-requires-clause-new c = outcome_place c.args.number c.self.inside.outcomes ∙ ap (outcome_place_of c.args.number) c.self.view_is ∙ c.requires.new

pub push-requires-clause-room : goal.push-requires-clause-room
push-requires-clause-room c =
    let es : List (ℕ × KnownOutcome) = c.self.inside.outcomes in
    omega (arith, length-map es outcome_entry_of, ap (length {A = OutcomeEntry}) c.self.view_is, c.requires.room)

pub returns : goal.returns
returns c =
    let known : KnownOutcome = record { name = c.args.name.now; value = record { one = c.payoff_at-one.result; two = c.payoff_at-two.result } } in
    on_ok_weaker c.push.result (λ put.
    ap (map outcome_entry_of) put ∙ outcome_added c.self.inside.outcomes (c.args.number, known)
    ∙ (λ j. c.self.view_is j ++ record {
      number = c.args.number;
      name = c.args.name.now;
      one = c.payoff_at-one.ensures.exact j;
      two = c.payoff_at-two.ensures.exact j;
    } ∷ [])) c.push.ensures.ok

pub invariant_of-self : goal.invariant_of-self
invariant_of-self c =
    let kept : KnownOutcome = record { name = c.args.name.now; value = record { one = c.payoff_at-one.result; two = c.payoff_at-two.result } } in
    paid_put c.push.result c.self.inside.outcomes c.push.new.self (c.args.number, kept) c.self.invariant c.payoff_at-one.ensures.small
    c.payoff_at-two.ensures.small c.push.ensures.ok c.push.ensures.err
