use Rattle.std.proofs.Common.{rules, ◌≡◌, sym, ◌∙◌, ap, Some, Ok, Err}
use Rattle.def_plan.specs.Form.{SequenceForm}
use Rattle.def_plan.specs.Payoff.{mass_of}
use Rattle.def_tree.specs.Tree.{Forest, node_count}
use Rattle.def_game_numbers.specs.Numbers.{GameWeights, tables_of, weigh, weights_of_game}
use Rattle.def_sequence_form.specs.Form.{form_of}
use Rattle.def_sequence_form.specs.Sets.{sets_or_break}
use Rattle.def_game_numbers.proofs.Refusals.{accepted, refused_first, stands_on_answers}
use Rattle.xg_numbers.proofs.AcceptedSums.{accepted_sum}
use Rattle.xg_numbers.proofs.numbers.Numbers.of.Goals as goal

pub invariant_of-result : goal.invariant_of-result
invariant_of-result c =
    let weights : GameWeights = c.in_ok-weights.weights in
    let sets = c.in_ok-form.ensures.recalled in
    let built : sets_or_break c.args.game.tree ≡ Ok sets.0 = ap sets_or_break (sym c.into_tree-tree.ensures) ∙ sets.1 in
    let stands = stands_on_answers c.args.game weights sets.0 c.in_ok-weights.ensures.exact built in
    let is : c.in_ok-form.form ≡ form_of c.args.game.tree weights.leaves =
    c.in_ok-form.ensures.form ∙ ap (λ (t : Forest). form_of t weights.leaves) c.into_tree-tree.ensures in
    record {
      mass_is = c.mass-mass.ensures.mass ∙ sym stands.mass_is ∙ ap (λ (f : SequenceForm). mass_of f.leaves) (sym is);
      some_unit = c.unit-unit.ensures.positive;
      small_unit = c.unit-unit.ensures.limit;
      whole_sum = accepted_sum c.args.game weights sets.0 c.unit-unit.result c.sum-sum.result c.tree-tree.ensures.whole
          c.numbers_are_in_lowest_terms.ensures c.in_ok-weights.ensures.exact built c.unit-unit.ensures.unit c.sum-sum.ensures;
    }

pub returns-clause-opened : goal.returns-clause-opened
returns-clause-opened c =
    let game = c.args.game in
    let answer : GameWeights = c.in_ok-weights.weights in
    let sets = c.in_ok-form.ensures.recalled in
    let built : sets_or_break game.tree ≡ Ok sets.0 = ap sets_or_break (sym c.into_tree-tree.ensures) ∙ sets.1 in
    let given : weights_of_game (tables_of game) game.tree ≡ answer = (accepted _ (weights_of_game (tables_of game) game.tree) answer
    c.in_ok-weights.ensures.exact).1 in
    let stands = stands_on_answers game answer sets.0 c.in_ok-weights.ensures.exact built in
    let nodes : c.len-nodes.result ≡ node_count game.tree = c.len-nodes.ensures.count ∙ ap node_count c.into_tree-tree.ensures in
    let unit = c.unit-unit.ensures.unit ∙ sym (ap (λ (w : GameWeights). w.unit) given) in
    let sum = c.sum-sum.ensures ∙ sym (ap (λ (w : GameWeights). w.sum) given) in
    let form = c.in_ok-form.ensures.form ∙ ap (λ (t : Forest). form_of t answer.leaves) c.into_tree-tree.ensures ∙ stands.form in
    λ i. record { nodes = nodes i; sum = sum i; unit = unit i; form = form i }

pub returns-clause-faultless : goal.returns-clause-faultless
returns-clause-faultless c =
    let sets = c.in_ok-form.ensures.recalled in
    (refused_first c.args.game).accepted c.in_ok-weights.weights sets.0 c.in_ok-weights.ensures.exact (ap sets_or_break (sym c.into_tree-tree.ensures) ∙ sets.1)

pub returns-in_err-weights-clause-refused : goal.returns-in_err-weights-clause-refused
returns-in_err-weights-clause-refused c fault e =
    let told : weigh c.args.game ≡ Err fault = search (rules, c.in_err-weights.ensures.exact, c.from_residual.ensures, e) in
    (refused_first c.args.game).by_weighing fault told

pub returns-in_err-form-clause-refused : goal.returns-in_err-form-clause-refused
returns-in_err-form-clause-refused c fault e =
    let broken = c.in_err-form.ensures.broken fault (search (rules, c.from_residual-in_err-form.ensures, e)) in
    (refused_first c.args.game).by_sets c.in_ok-weights.weights broken.0 c.in_ok-weights.ensures.exact
    (ap sets_or_break (sym c.into_tree-tree.ensures) ∙ broken.1)
    ∙ ap Some (sym broken.2)
