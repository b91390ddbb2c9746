-- The commands and the options of the program, as tables.
--     CommandName, OptionName          the commands, and the options
--     command_word, least_plain, most_plain, takes
--                                      of a command: its word, the numbers of plain words that it has, and its options
--     option_name                      of an option: its name
--     least_number, most_number, default_number
--                                      of an option of a command: its range, and the number where it is absent
--     built_commands, built_options    those that the program takes so far: the words of others aren't taken
use Rattle.std.specs.Prelude.{ℕ, Bool, true, false, ◌==◌, if◌then◌else◌, List, [], ◌∷◌, codes}
use Rattle.def_sums.specs.Limits.{most_rounds, most_scale, most_workers}
use Rattle.def_plus.specs.Limits.{most_plus_rounds, most_plus_scale}
use Rattle.def_command.specs.declared.TheConstants.{MOST_FILES}

-- the files of one call
abbrev pub most_files : ℕ
most_files = MOST_FILES

pub data CommandName : Type 0 where
  Solve : CommandName
  Check : CommandName
  Upgrade : CommandName
  Info : CommandName
  Gen : CommandName
  Drill : CommandName
  Plus : CommandName
  Batch : CommandName

pub data OptionName : Type 0 where
  Rounds : OptionName
  Every : OptionName
  Scale : OptionName
  Workers : OptionName
  Atomic : OptionName

abbrev pub built_commands : List CommandName
built_commands = Solve ∷ Check ∷ Upgrade ∷ Info ∷ Gen ∷ Drill ∷ Plus ∷ Batch ∷ []

abbrev pub built_options : List OptionName
built_options = Rounds ∷ Every ∷ Scale ∷ Workers ∷ Atomic ∷ []

-- ---- a command: its word, the numbers of plain words that it has, and its options
abbrev pub command_word : CommandName → List ℕ
command_word Solve = codes "solve"
command_word Check = codes "check"
command_word Upgrade = codes "upgrade"
command_word Info = codes "info"
command_word Gen = codes "gen"
command_word Drill = codes "drill"
command_word Plus = codes "plus"
command_word Batch = codes "batch"

abbrev pub least_plain : CommandName → ℕ
least_plain Solve = 1
least_plain Check = 2
least_plain Upgrade = 2
least_plain Info = 1
least_plain Gen = 1
least_plain Drill = 1
least_plain Plus = 1
least_plain Batch = 1

-- each command but one has a fixed number of them
abbrev pub most_plain : CommandName → ℕ
most_plain Batch = most_files
most_plain name = least_plain name

abbrev pub takes : CommandName → OptionName → Bool
takes Solve option = true
takes Check option = false
takes Upgrade option = false
takes Info option = false
takes Gen option = false
takes Drill option = true
takes Plus option = true
takes Batch Atomic = false
takes Batch option = true

-- ---- an option: its name, its range with a command, and the number where it is absent
abbrev pub option_name : OptionName → List ℕ
option_name Rounds = codes "--rounds"
option_name Every = codes "--every"
option_name Scale = codes "--scale"
option_name Workers = codes "--workers"
option_name Atomic = codes "--atomic"

abbrev pub least_number : CommandName → OptionName → ℕ
least_number name Rounds = 0
least_number name Every = 1
least_number name Scale = 1
least_number name Workers = 1
least_number name Atomic = 0

-- rounds of CFR+ have limits of their own
abbrev pub most_number : CommandName → OptionName → ℕ
most_number name Every = most_rounds
most_number name Workers = most_workers
most_number name Atomic = 1
most_number Plus Rounds = most_plus_rounds
most_number name Rounds = most_rounds
most_number Plus Scale = most_plus_scale
most_number name Scale = most_scale

-- of a call that plays so many rounds: they are evaluated once, after the last
abbrev pub default_number : CommandName → OptionName → ℕ → ℕ
default_number name Rounds rounds = 1000
default_number name Every rounds = if rounds == 0 then 1 else rounds
default_number Plus Scale rounds = most_plus_scale
default_number name Scale rounds = most_scale
-- the most that play
default_number name Workers rounds = 4
default_number name Atomic rounds = 0
