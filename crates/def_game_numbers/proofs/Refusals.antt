-- When the calls refuse.
use Rattle.std.proofs.Common.{◌≡◌, ◌∙◌, ap, sym, refl, Some, None}
use Rattle.std.specs.Prelude.{Option, Ok, Err}
use Rattle.def_tree.specs.Tree.{Forest}
use Rattle.def_file.specs.declared.FileFault.{FileFault}
use Rattle.def_file.specs.Content.{GameFile}
use Rattle.def_game_paths.specs.Recall.{RecallBreak, recall_break}
use Rattle.def_game_scale.specs.Faults.{GameFault, or_else, number_fault, of_recall}
use Rattle.def_plan.specs.Payoff.{mass_of}
use Rattle.def_sequence_form.specs.Form.{form_of}
use Rattle.def_sequence_form.specs.Sets.{TreeSets, sets_or_break, tree_sets, unless_broken}
use Rattle.def_sequence_form.proofs.Leaves.{form_has_the_mass}
use Rattle.def_sequence_form.proofs.Nodes.{broken_by_break}
use Rattle.def_game_numbers.specs.Numbers.{GameWeights, as_file_fault, file_fault, refused_or, tables_of, weigh, weights_of_game}
use Rattle.def_game_numbers.specs.Laws.{IsRefusedWithTheFirst, StandsOnAnswers}

-- what is refused is refused with the fault that was found, as a fault of the file
pub refused : {A : Type 0} (o : Option GameFault) (answer : A) (fault : FileFault) → refused_or o answer ≡ Err fault
    → (found : GameFault) × (o ≡ Some found) × (fault ≡ file_fault found)
refused None answer fault e = cc
refused (Some found) answer fault e = (found, refl, cc)

-- what is accepted has no fault, and is the answer that was at hand
pub accepted : {A : Type 0} (o : Option GameFault) (answer given : A) → refused_or o answer ≡ Ok given
    → (o ≡ None) × (answer ≡ given)
accepted None answer given e = (refl, cc)
accepted (Some found) answer given e = cc

unbroken : (o : Option RecallBreak) (sets given : TreeSets) → unless_broken o sets ≡ Ok given
    → (o ≡ None) × (sets ≡ given)
unbroken None sets given e = (refl, cc)
unbroken (Some found) sets given e = cc

-- weighing, and then building the sets, refuse with the game's first fault, and accept where it has none
pub refused_first : (game : GameFile) → IsRefusedWithTheFirst game
refused_first game =
    let numbers : Option GameFault = number_fault (tables_of game) game.tree in
    let recall : Option RecallBreak = recall_break game.tree in
    let weights = weights_of_game (tables_of game) game.tree in
    record {
      by_weighing = λ fault e. let found = refused numbers weights fault e in ap (λ o. as_file_fault (or_else o (of_recall recall))) found.1
          ∙ ap Some (sym found.2);
      by_sets = λ answer fault e f.
          ap (λ o. as_file_fault (or_else o (of_recall recall))) (accepted numbers weights answer e).0
          ∙ ap (λ o. as_file_fault (of_recall o)) (broken_by_break recall (tree_sets game.tree) fault f);
      accepted = λ answer sets e f.
          ap (λ o. as_file_fault (or_else o (of_recall recall))) (accepted numbers weights answer e).0
          ∙ ap (λ o. as_file_fault (of_recall o)) (unbroken recall (tree_sets game.tree) sets f).0;
    }

-- the form made of both answers is the game's: the sets that were built, and the mass that was weighed
pub stands_on_answers : (game : GameFile) (answer : GameWeights) (sets : TreeSets) → weigh game ≡ Ok answer
    → sets_or_break game.tree ≡ Ok sets → StandsOnAnswers game answer sets
stands_on_answers game answer sets e f =
    let tree : Forest = game.tree in
    let given : weights_of_game (tables_of game) tree ≡ answer = (accepted (number_fault (tables_of game) tree) (weights_of_game (tables_of game) tree) answer
    e).1 in
    let built : tree_sets tree ≡ sets = (unbroken (recall_break tree) (tree_sets tree) sets f).1 in
    record {
      form = ap (λ w. form_of tree w.leaves) (sym given);
      sets_one = ap (λ s. s.one.sets) built;
      sets_two = ap (λ s. s.two.sets) built;
      mass_is = ap (λ w. mass_of (form_of tree w.leaves).leaves) (sym given) ∙ form_has_the_mass.of_game (tables_of game) tree ∙ ap (λ w. w.mass) given;
    }
