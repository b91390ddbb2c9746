use Rattle.std.proofs.Common.{◌≡◌, sym, ◌∙◌, ap, Ok}
use Rattle.def_plan.specs.Form.{SequenceForm}
use Rattle.def_plan.specs.Payoff.{mass_of}
use Rattle.def_tree.specs.Tree.{Forest, node_count}
use Rattle.def_game_numbers.specs.Numbers.{GameWeights, tables_of, weights_of_game}
use Rattle.def_sequence_form.specs.Form.{form_of}
use Rattle.def_sequence_form.specs.Sets.{sets_or_break}
use Rattle.def_game_numbers.proofs.Refusals.{accepted, refused_first, stands_on_answers}
use Rattle.xg_numbers.proofs.AcceptedSums.{accepted_sum}
use Rattle.xg_numbers.proofs.numbers.Numbers.open.Goals as goal

pub invariant_of-result : goal.invariant_of-result
invariant_of-result c =
    let game = c.args.game.now in
    let weights : GameWeights = c.in_ok-weights.weights in
    let sets = c.in_ok-form.ensures.recalled in
    let built : sets_or_break game.tree ≡ Ok sets.0 = ap sets_or_break (sym c.tree.ensures.tree) ∙ sets.1 in
    let stands = stands_on_answers game weights sets.0 c.in_ok-weights.ensures.exact built in
    let is : c.in_ok-form.form ≡ form_of game.tree weights.leaves =
    c.in_ok-form.ensures.form ∙ ap (λ (t : Forest). form_of t weights.leaves) c.tree.ensures.tree in
    record {
      mass_is = c.mass.ensures.mass ∙ sym stands.mass_is ∙ ap (λ (f : SequenceForm). mass_of f.leaves) (sym is);
      some_unit = c.unit.ensures.positive;
      small_unit = c.unit.ensures.limit;
      whole_sum = accepted_sum game weights sets.0 c.unit.result c.sum.result c.tree.ensures.whole
          c.numbers_are_in_lowest_terms.ensures c.in_ok-weights.ensures.exact built c.unit.ensures.unit c.sum.ensures;
    }

pub returns-clause-opened : goal.returns-clause-opened
returns-clause-opened c =
    let game = c.args.game.now in
    let answer : GameWeights = c.in_ok-weights.weights in
    let sets = c.in_ok-form.ensures.recalled in
    let built : sets_or_break game.tree ≡ Ok sets.0 = ap sets_or_break (sym c.tree.ensures.tree) ∙ sets.1 in
    let given : weights_of_game (tables_of game) game.tree ≡ answer = (accepted _ (weights_of_game (tables_of game) game.tree) answer
    c.in_ok-weights.ensures.exact).1 in
    let stands = stands_on_answers game answer sets.0 c.in_ok-weights.ensures.exact built in
    let nodes : c.len.result ≡ node_count game.tree = c.len.ensures.count ∙ ap node_count c.tree-2.ensures.tree in
    let unit = c.unit.ensures.unit ∙ sym (ap (λ (w : GameWeights). w.unit) given) in
    let sum = c.sum.ensures ∙ sym (ap (λ (w : GameWeights). w.sum) given) in
    let form = c.in_ok-form.ensures.form ∙ ap (λ (t : Forest). form_of t answer.leaves) c.tree.ensures.tree ∙ stands.form in
    λ i. record { nodes = nodes i; sum = sum i; unit = unit i; form = form i }

pub returns-clause-faultless : goal.returns-clause-faultless
returns-clause-faultless c =
    let sets = c.in_ok-form.ensures.recalled in
    (refused_first c.args.game.now).accepted c.in_ok-weights.weights sets.0 c.in_ok-weights.ensures.exact (ap sets_or_break (sym c.tree.ensures.tree) ∙ sets.1)
