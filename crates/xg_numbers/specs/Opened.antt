-- What opening a game gives.
use Rattle.std.specs.Prelude.{◌≡◌, ℕ, ◌≤◌, Err, Ok}
use Rattle.def_fraction.specs.Fraction.{Fraction, most}
use Rattle.def_tree.specs.Tree.{Forest}
use Rattle.def_game_paths.specs.Recall.{RecallBreak}
use Rattle.def_sequence_form.specs.Sets.{TreeSets, sets_or_break}
use Rattle.def_file.specs.declared.FileFault.{FileFault}
use Rattle.def_file.specs.declared.FileFault.TheVariants.{NotRecall}
use Rattle.def_plan.specs.Form.{SequenceForm}
use Rattle.def_plan.specs.Payoff.{mass_of}
use Rattle.def_game_numbers.specs.WholeSums.{IsWholeIn}

-- the sizes of the form's weights add up to this
abbrev pub KeepsMass : SequenceForm → ℕ → Type 0
KeepsMass form mass = mass ≡ mass_of form.leaves

-- and the unit is at least 1, and within the limit, and in it the sum is whole
pub record KeepsNumbers (form : SequenceForm) (sum : Fraction) (unit mass : ℕ) : Type 0 where
  pub mass_is : KeepsMass form mass
  pub some_unit : 1 ≤ unit
  pub small_unit : unit ≤ most
  pub whole_sum : IsWholeIn unit sum

-- recall doesn't break, and these are the sets
abbrev pub HasSets : Forest → Type 0
HasSets tree = (sets : TreeSets) × (sets_or_break tree ≡ Ok sets)

-- recall breaks there first, and the fault says so
abbrev pub IsBreakOf : Forest → FileFault → Type 0
IsBreakOf tree fault = (broken : RecallBreak) × (sets_or_break tree ≡ Err broken)
    × (fault ≡ NotRecall broken.node broken.earlier)
