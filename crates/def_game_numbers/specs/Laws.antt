-- What the calls answer, in the words of the game.
use Rattle.std.specs.Prelude.{◌≡◌, ◌↔◌, ℕ, ◌≤◌, true, ℤ, unsigned_abs, map, sum, All, Some, None, Ok, Err}
use Rattle.std.specs.List.{AllZip}
use Prim.Native.Nat.{◌∣◌}
use Rattle.def_tree.specs.Tree.{Forest}
use Rattle.def_fraction.specs.Fraction.{fits, most}
use Rattle.def_file.specs.declared.FileFault.{FileFault}
use Rattle.def_file.specs.declared.FileFault.TheVariants as faults
use Rattle.def_file.specs.Content.{GameFile}
use Rattle.def_file.specs.Game.{HasFractions}
use Rattle.def_game_paths.specs.Paths.{leaf_visits}
use Rattle.def_game_paths.specs.Recall.{RecallBreak}
use Rattle.def_game_scale.specs.Tables.{Tables, AreFractions, game_sum}
use Rattle.def_game_scale.specs.Scale.{all_fractions}
use Rattle.def_game_scale.specs.Laws.{IsMultiple, IsWeightOf}
use Rattle.def_game_scale.specs.Faults.{GameFault}
use Rattle.def_game_scale.specs.First.{FirstNumberFault, PassNumbers}
use Rattle.def_plan.specs.Payoff.{mass_of}
use Rattle.def_sequence_form.specs.Form.{form_of, form_of_game}
use Rattle.def_sequence_form.specs.Sets.{TreeSets, sets_or_break}
use Rattle.def_game_numbers.specs.Numbers.{GameWeights, file_fault, game_file_fault, tables_of, weigh}

-- where a file's fractions are in lowest terms, those of its tables are
abbrev pub TablesAreFractions : Type 0
TablesAreFractions = (game : GameFile) → HasFractions game.sets game.outcomes → AreFractions (tables_of game)

-- the sum is that of the first leaf's payoffs, the unit is the least common multiple of the denominators of the sum and
-- of reach times payoff, each leaf's weight is unit times reach times payoff, and the mass is the sum of the weights'
-- sizes
pub record AreWeights (tables : Tables) (tree : Forest) (answer : GameWeights) : Type 0 where
  pub sum_is : answer.sum ≡ game_sum tables tree
  pub multiple : All (λ f. f.den ∣ answer.unit) (all_fractions tables tree)
  pub least : (m : ℕ) → All (λ f. f.den ∣ m) (all_fractions tables tree) → answer.unit ∣ m
  pub leaves : AllZip (IsWeightOf tables answer.unit) (leaf_visits tree) answer.leaves
  pub mass : answer.mass ≡ sum (map unsigned_abs answer.leaves)

-- it is refused exactly with the first fault of its numbers, and accepted exactly where they have none
pub record IsWeighed (game : GameFile) : Type 0 where
  pub refused : (fault : FileFault)
      → (weigh game ≡ Err fault)
      ↔ ((found : GameFault) × FirstNumberFault (tables_of game) game.tree found × (fault ≡ file_fault found))
  pub accepted : (answer : GameWeights)
      → (weigh game ≡ Ok answer)
      ↔ (PassNumbers (tables_of game) game.tree × AreWeights (tables_of game) game.tree answer)

abbrev pub WeighsExactly : Type 0
WeighsExactly = (game : GameFile) → AreFractions (tables_of game) → IsWeighed game

-- what weighing refuses is the game's first fault; where it accepts, what building the sets refuses is;
-- and where both accept there is none
pub record IsRefusedWithTheFirst (game : GameFile) : Type 0 where
  pub by_weighing : (fault : FileFault) → weigh game ≡ Err fault → game_file_fault game ≡ Some fault
  pub by_sets : (answer : GameWeights) (broken : RecallBreak) → weigh game ≡ Ok answer
      → sets_or_break game.tree ≡ Err broken → game_file_fault game ≡ Some (faults.NotRecall broken.node broken.earlier)
  pub accepted : (answer : GameWeights) (sets : TreeSets) → weigh game ≡ Ok answer → sets_or_break game.tree ≡ Ok sets
      → game_file_fault game ≡ None

abbrev pub NumbersRefusedWithTheFirst : Type 0
NumbersRefusedWithTheFirst = (game : GameFile) → IsRefusedWithTheFirst game

-- the unit isn't 0, and the sum, the unit, the sum in the unit, the mass and each weight are within the limit
pub record FitTheLimit (answer : GameWeights) : Type 0 where
  pub sum_fits : fits answer.sum ≡ true
  pub positive : 1 ≤ answer.unit
  pub unit : answer.unit ≤ most
  pub whole_sum : (w : ℤ) → IsMultiple answer.unit answer.sum w → unsigned_abs w ≤ most
  pub mass : answer.mass ≤ most
  pub leaves : All (λ w. unsigned_abs w ≤ most) answer.leaves

abbrev pub WeightsFit : Type 0
WeightsFit = (game : GameFile) (answer : GameWeights) → AreFractions (tables_of game) → weigh game ≡ Ok answer
    → FitTheLimit answer

-- the form that stands on both answers is the game's: it has the sets that were built, and the mass that was weighed
pub record StandsOnAnswers (game : GameFile) (answer : GameWeights) (sets : TreeSets) : Type 0 where
  pub form : form_of game.tree answer.leaves ≡ form_of_game (tables_of game) game.tree
  pub sets_one : (form_of game.tree answer.leaves).sets_one ≡ sets.one.sets
  pub sets_two : (form_of game.tree answer.leaves).sets_two ≡ sets.two.sets
  pub mass_is : mass_of (form_of game.tree answer.leaves).leaves ≡ answer.mass

abbrev pub FormStandsOnAnswers : Type 0
FormStandsOnAnswers = (game : GameFile) (answer : GameWeights) (sets : TreeSets) → weigh game ≡ Ok answer
    → sets_or_break game.tree ≡ Ok sets → StandsOnAnswers game answer sets
