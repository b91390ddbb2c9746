-- What the first fault of a game is, and what a game without one is.
use Rattle.std.specs.Prelude.{◌≡◌, ◌↔◌, ◌≤◌, pos, ◌≤ℤ◌, unsigned_abs, List, Some, None, All}
use Rattle.def_tree.specs.declared.Kind.TheVariants.{Chance}
use Rattle.def_tree.specs.Tree.{Forest}
use Rattle.def_fraction.specs.Fraction.{Fraction, most}
use Rattle.def_game_paths.specs.Paths.{visits}
use Rattle.def_game_paths.specs.Recall.{HasPerfectRecall}
use Rattle.def_game_scale.specs.Tables.{Tables, AreFractions, IsConstantSum, probabilities}
use Rattle.def_game_scale.specs.Scale.{game_mass, game_unit, whole_sum}
use Rattle.def_game_scale.specs.Faults.{GameFault, game_fault, number_fault}
use Rattle.def_game_scale.specs.First.{AddUpToOne, FirstGameFault, FirstNumberFault, PassNumbers}

-- the fault of the numbers is exactly the first one, and there is none exactly where all nodes pass
pub record FindsFirstNumberFault (tables : Tables) (tree : Forest) : Type 0 where
  pub some : (fault : GameFault) → (number_fault tables tree ≡ Some fault) ↔ FirstNumberFault tables tree fault
  pub none : (number_fault tables tree ≡ None) ↔ PassNumbers tables tree

abbrev pub NumberFaultIsFirst : Type 0
NumberFaultIsFirst = (tables : Tables) (tree : Forest) → AreFractions tables → FindsFirstNumberFault tables tree

-- the same with recall
pub record FindsFirstFault (tables : Tables) (tree : Forest) : Type 0 where
  pub some : (fault : GameFault) → (game_fault tables tree ≡ Some fault) ↔ FirstGameFault tables tree fault
  pub none : (game_fault tables tree ≡ None) ↔ (PassNumbers tables tree × HasPerfectRecall tree)

abbrev pub GameFaultIsFirst : Type 0
GameFaultIsFirst = (tables : Tables) (tree : Forest) → AreFractions tables → FindsFirstFault tables tree

-- none is below 0, and they add up to 1
pub record AreProbabilities (fractions : List Fraction) : Type 0 where
  pub positive : All (λ p. pos 0 ≤ℤ p.num) fractions
  pub total : AddUpToOne fractions

-- at each chance node chance plays by probabilities, all leaves pay both players together the same, and the unit, this
-- sum in the unit and the mass are within the limit
pub record HasSoundNumbers (tables : Tables) (tree : Forest) : Type 0 where
  pub chance : All (λ visit. visit.node.kind ≡ Chance → AreProbabilities (probabilities tables visit.node.set))
      (visits tree)
  pub constant_sum : IsConstantSum tables tree
  pub unit_within : game_unit tables tree ≤ most
  pub whole_sum_within : unsigned_abs (whole_sum tables tree) ≤ most
  pub mass_within : game_mass tables tree ≤ most

abbrev pub NoNumberFaultIsSound : Type 0
NoNumberFaultIsSound = (tables : Tables) (tree : Forest) → AreFractions tables → number_fault tables tree ≡ None
    → HasSoundNumbers tables tree

-- and all remember their choices
pub record IsSound (tables : Tables) (tree : Forest) : Type 0 where
  pub numbers : HasSoundNumbers tables tree
  pub recall : HasPerfectRecall tree

abbrev pub NoFaultIsSound : Type 0
NoFaultIsSound = (tables : Tables) (tree : Forest) → AreFractions tables → game_fault tables tree ≡ None
    → IsSound tables tree
