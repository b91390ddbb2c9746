-- The lines of faults tell the faults apart.
use Rattle.std.specs.Prelude.{◌≡◌, ℕ, ◌^◌, ◌<◌, List, [], ◌∷◌, All}
use Rattle.def_file.specs.declared.FileFault.{FileFault}
use Rattle.def_file.specs.declared.FileFault.TheVariants.{TooLong, Syntax, UnexpectedEnd, TrailingText, Number, Players}
use Rattle.def_file.specs.declared.FileFault.TheVariants.{PlayerNumber, SetUndefined, SetMismatch, OutcomeUndefined}
use Rattle.def_file.specs.declared.FileFault.TheVariants.{OutcomeMismatch, PayoffCount, TooManyNodes, ActionCount}
use Rattle.def_file.specs.declared.FileFault.TheVariants.{ChanceNegative, ChanceSum, NotConstantSum, NotRecall, Scale}
use Rattle.def_program.specs.TextLines.{fault_line}

-- the numbers in a fault
abbrev pub fault_numbers : FileFault → List ℕ
fault_numbers TooLong = []
fault_numbers (Syntax at) = at ∷ []
fault_numbers UnexpectedEnd = []
fault_numbers (TrailingText at) = at ∷ []
fault_numbers (Number at fault) = at ∷ []
fault_numbers (Players count) = count ∷ []
fault_numbers (PlayerNumber node) = node ∷ []
fault_numbers (SetUndefined node) = node ∷ []
fault_numbers (SetMismatch node) = node ∷ []
fault_numbers (OutcomeUndefined node) = node ∷ []
fault_numbers (OutcomeMismatch node) = node ∷ []
fault_numbers (PayoffCount node) = node ∷ []
fault_numbers TooManyNodes = []
fault_numbers (ActionCount node) = node ∷ []
fault_numbers (ChanceNegative node) = node ∷ []
fault_numbers (ChanceSum node) = node ∷ []
fault_numbers (NotConstantSum node) = node ∷ []
fault_numbers (NotRecall node earlier) = node ∷ earlier ∷ []
fault_numbers (Scale node) = node ∷ []

-- 64 bits hold each number in the fault
abbrev pub HasNarrowNumbers : FileFault → Type 0
HasNarrowNumbers fault = All (λ n. n < 2 ^ 64) (fault_numbers fault)

-- two faults whose numbers are within 64 bits have one line only where they are one fault
abbrev pub LinesTellFaults : Type 0
LinesTellFaults = (f g : FileFault) → HasNarrowNumbers f → HasNarrowNumbers g → fault_line f ≡ fault_line g → f ≡ g
