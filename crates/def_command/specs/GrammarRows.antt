-- Worked rows: words that are taken, with their command, and words that aren't.
use Rattle.std.specs.Prelude.{◌≡◌, ℕ, Bool, true, false, List, [], ◌∷◌, ◌++◌, Option, Some, None, codes}
use Rattle.def_command.specs.Grammar.{Command, Solve, Check, Upgrade, Info, Gen, Drill, Plus, Batch}
use Rattle.def_command.specs.declared.RowSettings.{RowSettings}
use Rattle.def_command.specs.Grammar.{command_of_words}

abbrev file : List ℕ
file = codes "F1"

-- rows that are locked, with no number of workers given, and others
abbrev plain_rows : RowSettings
plain_rows = record { workers = None; atomic = false }

abbrev rows_with : Option ℕ → Bool → RowSettings
rows_with workers atomic = record { workers = workers; atomic = atomic }

-- `solve F1` with other words behind it
abbrev solve_with : List (List ℕ) → Option Command
solve_with words = command_of_words (codes "solve" ∷ file ∷ words)

-- with no number of workers given, and locks
abbrev solve_file : ℕ → ℕ → ℕ → Option Command
solve_file rounds every scale = Some (Solve file (record { rounds = rounds; every = every; scale = scale }) plain_rows)

-- `plus F1` with other words behind it
abbrev plus_with : List (List ℕ) → Option Command
plus_with words = command_of_words (codes "plus" ∷ file ∷ words)

-- with no number of workers given, and locks
abbrev plus_file : ℕ → ℕ → ℕ → Option Command
plus_file rounds every scale = Some (Plus file (record { rounds = rounds; every = every; scale = scale }) plain_rows)

-- as many names as a batch may have
abbrev sixteen_files : List (List ℕ)
sixteen_files = codes "F1" ∷ codes "F2" ∷ codes "F3" ∷ codes "F4" ∷ codes "F5" ∷ codes "F6" ∷ codes "F7" ∷ codes "F8"
    ∷ codes "F9" ∷ codes "F10" ∷ codes "F11" ∷ codes "F12" ∷ codes "F13" ∷ codes "F14" ∷ codes "F15" ∷ codes "F16" ∷ []

-- `batch` with other words behind it
abbrev batch_of : List (List ℕ) → Option Command
batch_of words = command_of_words (codes "batch" ∷ words)

-- with the settings of no options
abbrev batch_files : List (List ℕ) → Option Command
batch_files files = Some (Batch files (record { rounds = 1000; every = 1000; scale = 1048576 }) None)

pub record TakenRows : Type 0 where
  pub no_options : solve_with [] ≡ solve_file 1000 1000 1048576
  pub joined_before : command_of_words (codes "solve" ∷ codes "--rounds=0" ∷ file ∷ []) ≡ solve_file 0 1 1048576
  pub two_words : solve_with (codes "--rounds" ∷ codes "10" ∷ []) ≡ solve_file 10 10 1048576
  pub leading_zeros : solve_with (codes "--rounds" ∷ codes "007" ∷ []) ≡ solve_file 7 7 1048576
  pub most_rounds : solve_with (codes "--rounds" ∷ codes "65536" ∷ []) ≡ solve_file 65536 65536 1048576
  pub every_alone : solve_with (codes "--every=1" ∷ []) ≡ solve_file 1000 1 1048576
  pub all_options : command_of_words (codes "solve" ∷ codes "--scale" ∷ codes "1" ∷ codes "--every=2" ∷ file
      ∷ codes "--rounds=3" ∷ []) ≡ solve_file 3 2 1
  pub workers : solve_with (codes "--workers=64" ∷ codes "--rounds" ∷ codes "1" ∷ [])
      ≡ Some (Solve file (record { rounds = 1; every = 1; scale = 1048576 }) (rows_with (Some 64) false))
  pub check : command_of_words (codes "check" ∷ file ∷ codes "C1" ∷ []) ≡ Some (Check file (codes "C1"))
  pub upgrade : command_of_words (codes "upgrade" ∷ file ∷ codes "C1" ∷ []) ≡ Some (Upgrade file (codes "C1"))
  pub gen : command_of_words (codes "gen" ∷ codes "007" ∷ []) ≡ Some (Gen 7)
  pub drill : command_of_words (codes "drill" ∷ codes "--rounds=1" ∷ codes "3" ∷ codes "--workers" ∷ codes "2" ∷ [])
      ≡ Some (Drill 3 (record { rounds = 1; every = 1; scale = 1048576 }) (rows_with (Some 2) false))
  pub empty_file : command_of_words (codes "info" ∷ [] ∷ []) ≡ Some (Info [])
  pub info : command_of_words (codes "info" ∷ file ∷ []) ≡ Some (Info file)
  pub plus : plus_with [] ≡ plus_file 1000 1000 16384
  pub plus_no_rounds : command_of_words (codes "plus" ∷ codes "--rounds=0" ∷ file ∷ []) ≡ plus_file 0 1 16384
  pub plus_with_options : command_of_words (codes "plus" ∷ codes "--scale" ∷ codes "1" ∷ codes "--every=2" ∷ file
      ∷ codes "--rounds=3" ∷ codes "--workers" ∷ codes "4" ∷ [])
      ≡ Some (Plus file (record { rounds = 3; every = 2; scale = 1 }) (rows_with (Some 4) false))
  pub most_plus_rounds : plus_with (codes "--rounds" ∷ codes "2048" ∷ []) ≡ plus_file 2048 2048 16384
  pub most_plus_scale : plus_with (codes "--scale=16384" ∷ []) ≡ plus_file 1000 1000 16384
  pub plus_every : plus_with (codes "--every=65536" ∷ []) ≡ plus_file 1000 65536 16384
  pub solve_past_plus_rounds : solve_with (codes "--rounds" ∷ codes "2049" ∷ []) ≡ solve_file 2049 2049 1048576
  pub solve_past_plus_scale : solve_with (codes "--scale=16385" ∷ []) ≡ solve_file 1000 1000 16385
  pub atomic : solve_with (codes "--atomic=1" ∷ [])
      ≡ Some (Solve file (record { rounds = 1000; every = 1000; scale = 1048576 }) (rows_with None true))
  pub atomic_two_words : command_of_words (codes "solve" ∷ codes "--atomic" ∷ codes "1" ∷ file ∷ codes "--workers=3"
      ∷ [])
      ≡ Some (Solve file (record { rounds = 1000; every = 1000; scale = 1048576 }) (rows_with (Some 3) true))
  pub not_atomic : solve_with (codes "--atomic=0" ∷ []) ≡ solve_file 1000 1000 1048576
  pub not_atomic_two_words : plus_with (codes "--atomic" ∷ codes "0" ∷ []) ≡ plus_file 1000 1000 16384
  pub atomic_plus : plus_with (codes "--atomic" ∷ codes "001" ∷ [])
      ≡ Some (Plus file (record { rounds = 1000; every = 1000; scale = 16384 }) (rows_with None true))
  pub atomic_drill : command_of_words (codes "drill" ∷ codes "--atomic=1" ∷ codes "3" ∷ [])
      ≡ Some (Drill 3 (record { rounds = 1000; every = 1000; scale = 1048576 }) (rows_with None true))
  pub one_of_a_batch : batch_of (file ∷ []) ≡ batch_files (file ∷ [])
  pub batch_in_order : batch_of (codes "F2" ∷ codes "F1" ∷ []) ≡ batch_files (codes "F2" ∷ codes "F1" ∷ [])
  pub same_file_twice : batch_of (file ∷ file ∷ []) ≡ batch_files (file ∷ file ∷ [])
  pub most_files : batch_of sixteen_files ≡ batch_files sixteen_files
  pub options_between_files : batch_of (codes "--rounds" ∷ codes "2049" ∷ file ∷ codes "--workers=2" ∷ codes "F2"
      ∷ codes "--scale=16385" ∷ []) ≡ Some (Batch (file ∷ codes "F2" ∷ [])
      (record { rounds = 2049; every = 2049; scale = 16385 }) (Some 2))

pub record RefusedRows : Type 0 where
  pub no_words : command_of_words [] ≡ None
  pub no_file : command_of_words (codes "solve" ∷ []) ≡ None
  pub one_card : command_of_words (codes "gen" ∷ codes "1" ∷ []) ≡ None
  pub many_cards : command_of_words (codes "gen" ∷ codes "65" ∷ []) ≡ None
  pub no_cards : command_of_words (codes "gen" ∷ file ∷ []) ≡ None
  pub cards_of_a_file : command_of_words (codes "drill" ∷ file ∷ []) ≡ None
  pub two_decks : command_of_words (codes "drill" ∷ codes "3" ∷ codes "4" ∷ []) ≡ None
  pub no_certificate : command_of_words (codes "check" ∷ file ∷ []) ≡ None
  pub check_with_option : command_of_words (codes "check" ∷ file ∷ file ∷ codes "--rounds=1" ∷ []) ≡ None
  pub nothing_to_upgrade : command_of_words (codes "upgrade" ∷ file ∷ []) ≡ None
  pub two_to_upgrade : command_of_words (codes "upgrade" ∷ file ∷ file ∷ file ∷ []) ≡ None
  pub upgrade_with_option : command_of_words (codes "upgrade" ∷ file ∷ file ∷ codes "--rounds=1" ∷ []) ≡ None
  pub gen_with_option : command_of_words (codes "gen" ∷ codes "3" ∷ codes "--workers=1" ∷ []) ≡ None
  pub past_the_range : solve_with (codes "--rounds" ∷ codes "65537" ∷ []) ≡ None
  pub given_twice : solve_with (codes "--rounds" ∷ codes "1" ∷ codes "--rounds" ∷ codes "1" ∷ []) ≡ None
  pub given_twice_in_both_ways : solve_with (codes "--rounds=1" ∷ codes "--rounds" ∷ codes "1" ∷ []) ≡ None
  pub option_first : command_of_words (codes "--rounds" ∷ codes "0" ∷ codes "solve" ∷ file ∷ []) ≡ None
  pub minus : solve_with (codes "-" ∷ []) ≡ None
  pub two_minuses : solve_with (codes "--" ∷ []) ≡ None
  pub no_number : solve_with (codes "--rounds" ∷ []) ≡ None
  pub empty_number : solve_with (codes "--rounds=" ∷ []) ≡ None
  pub plus_sign : solve_with (codes "--rounds=+1" ∷ []) ≡ None
  pub every_below : solve_with (codes "--every" ∷ codes "0" ∷ []) ≡ None
  pub scale_above : solve_with (codes "--scale" ∷ codes "1048577" ∷ []) ≡ None
  pub no_workers : solve_with (codes "--workers" ∷ codes "0" ∷ []) ≡ None
  pub many_workers : solve_with (codes "--workers=65" ∷ []) ≡ None
  pub two_files : solve_with (file ∷ []) ≡ None
  pub plus_rounds_above : plus_with (codes "--rounds" ∷ codes "2049" ∷ []) ≡ None
  pub plus_scale_above : plus_with (codes "--scale=16385" ∷ []) ≡ None
  pub plus_scale_below : plus_with (codes "--scale" ∷ codes "0" ∷ []) ≡ None
  pub plus_every_below : plus_with (codes "--every=0" ∷ []) ≡ None
  pub plus_of_no_file : command_of_words (codes "plus" ∷ []) ≡ None
  pub plus_of_two_files : plus_with (file ∷ []) ≡ None
  pub plus_rounds_twice : plus_with (codes "--rounds=1" ∷ codes "--rounds=1" ∷ []) ≡ None
  pub batch_of_none : batch_of [] ≡ None
  pub batch_of_options : batch_of (codes "--rounds=1" ∷ []) ≡ None
  pub batch_of_seventeen : batch_of (sixteen_files ++ codes "F17" ∷ []) ≡ None
  pub batch_past_the_range : batch_of (file ∷ codes "--rounds=65537" ∷ []) ≡ None
  pub batch_with_minus : batch_of (file ∷ codes "-" ∷ []) ≡ None
  pub atomic_above : solve_with (codes "--atomic=2" ∷ []) ≡ None
  pub atomic_twice : solve_with (codes "--atomic=1" ∷ codes "--atomic=0" ∷ []) ≡ None
  pub atomic_twice_in_both_ways : solve_with (codes "--atomic" ∷ codes "1" ∷ codes "--atomic=1" ∷ []) ≡ None
  pub atomic_without_number : solve_with (codes "--atomic" ∷ []) ≡ None
  pub atomic_check : command_of_words (codes "check" ∷ file ∷ codes "C1" ∷ codes "--atomic=0" ∷ []) ≡ None
  pub atomic_upgrade : command_of_words (codes "upgrade" ∷ file ∷ codes "C1" ∷ codes "--atomic=1" ∷ []) ≡ None
  pub atomic_info : command_of_words (codes "info" ∷ file ∷ codes "--atomic=1" ∷ []) ≡ None
  pub atomic_gen : command_of_words (codes "gen" ∷ codes "3" ∷ codes "--atomic=1" ∷ []) ≡ None
  pub atomic_batch : batch_of (file ∷ codes "--atomic=1" ∷ []) ≡ None
  pub not_atomic_batch : batch_of (file ∷ codes "--atomic" ∷ codes "0" ∷ []) ≡ None
  pub info_with_option : command_of_words (codes "info" ∷ file ∷ codes "--rounds" ∷ codes "1" ∷ []) ≡ None
