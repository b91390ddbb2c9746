-- What weighing says of a game.
use Rattle.std.specs.Prelude.{◌≡◌, ℕ, All}
use Prim.Native.Nat.{◌∣◌}
use Rattle.def_file.specs.declared.FileFault.{FileFault}
use Rattle.def_file.specs.Content.{GameFile}
use Rattle.def_game_scale.specs.Scale.{all_fractions}
use Rattle.def_game_scale.specs.Faults.{GameFault}
use Rattle.def_game_scale.specs.First.{FirstNumberFault, PassNumbers}
use Rattle.def_game_numbers.specs.Numbers.{file_fault, tables_of}

-- the game's numbers have no fault
abbrev pub HasNoNumberFault : GameFile → Type 0
HasNoNumberFault game = PassNumbers (tables_of game) game.tree

-- the fault is the first one of the game's numbers
abbrev pub IsFirstNumberFault : GameFile → FileFault → Type 0
IsFirstNumberFault game fault = (found : GameFault) × FirstNumberFault (tables_of game) game.tree found
    × (fault ≡ file_fault found)

-- the sum's denominator, and that of each leaf's reach times payoff, divides the number
abbrev pub IsCommonMultiple : GameFile → ℕ → Type 0
IsCommonMultiple game m = All (λ f. f.den ∣ m) (all_fractions (tables_of game) game.tree)

-- and the number divides each such one
abbrev pub IsLeastCommonMultiple : GameFile → ℕ → Type 0
IsLeastCommonMultiple game unit = (m : ℕ) → IsCommonMultiple game m → unit ∣ m
