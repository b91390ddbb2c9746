-- The command that the words of a call name, and how its words are spelled. The program's own name is none of them.
--     Settings, RowSettings, Command
--                                what is to be done, and with which settings
--     command_of_words words     the command, or none where the words aren't taken: word by word
--     file_words c, named_files words
--                                the names of the files that the command opens, and the same of the words
--     IsCall words command       the words are a call of the command: in the words of the format
use Rattle.std.specs.Prelude.{◌≡◌, ◌⊎◌, ℕ, ◌≤◌, Bool, true, false, ◌&&◌, ◌==◌, nat_lt, nat_le, if◌then◌else◌, List, []}
use Rattle.std.specs.Prelude.{◌∷◌, ◌++◌, length, find, Contains, Option, Some, None, is_none, unwrap_or, option_map}
use Rattle.std.specs.Prelude.{option_and_then}
use Rattle.def_sums.specs.Limits.{least_cards, most_cards}
use Rattle.def_fraction.specs.Digits.{is_numeral, number_of}
use Rattle.def_command.specs.Words.{is_option, is_word}
use Rattle.def_command.specs.declared.RowSettings.{RowSettings}
use Rattle.def_command.specs.declared.Settings.{Settings}
use Rattle.def_command.specs.Table as table
use Rattle.def_command.specs.Table.{CommandName, OptionName, Rounds, Every, Scale, Workers, Atomic, built_commands}
use Rattle.def_command.specs.Table.{built_options, command_word, least_plain, most_plain, takes, option_name}
use Rattle.def_command.specs.Table.{least_number, most_number, default_number}

-- the number of workers is that of the words, where they give one
pub data Command : Type 0 where
  Solve : (file : List ℕ) (settings : Settings) (rows : RowSettings) → Command
  Check : (file certificate : List ℕ) → Command
  Upgrade : (file certificate : List ℕ) → Command
  Info : (file : List ℕ) → Command
  Gen : (cards : ℕ) → Command
  Drill : (cards : ℕ) (settings : Settings) (rows : RowSettings) → Command
  Plus : (file : List ℕ) (settings : Settings) (rows : RowSettings) → Command
  Batch : (files : List (List ℕ)) (settings : Settings) (workers : Option ℕ) → Command

-- ---- the numbers of a command's options, each given or absent
abbrev pub settings_from : CommandName → Option ℕ → Option ℕ → Option ℕ → Settings
settings_from name rounds every scale =
    let played = unwrap_or rounds (default_number name Rounds 0) in record {
      rounds = played;
      every = unwrap_or every (default_number name Every played);
      scale = unwrap_or scale (default_number name Scale played);
    }

-- the rows have locks where nothing is said
abbrev pub rows_from : CommandName → Option ℕ → Option ℕ → RowSettings
rows_from name workers atomic =
    record { workers = workers; atomic = unwrap_or atomic (default_number name Atomic 0) == 1 }

abbrev pub is_same_option : OptionName → OptionName → Bool
is_same_option Rounds Rounds = true
is_same_option Every Every = true
is_same_option Scale Scale = true
is_same_option Workers Workers = true
is_same_option Atomic Atomic = true
is_same_option option other = false

-- ---- in the words of the format

-- digits that write this number, which is in a range
pub record IsNumberFromTo (least most : ℕ) (digits : List ℕ) (number : ℕ) : Type 0 where
  pub digits_alone : is_numeral digits ≡ true
  pub value : number_of digits ≡ number
  pub from : least ≤ number
  pub to : number ≤ most

-- what stands behind the command's word: plain words, and options with their numbers
pub data Argument : Type 0 where
  Plain : (word : List ℕ) → Argument
  Number : (option : OptionName) (number : ℕ) → Argument

-- an option of a command and its number, as two words or as one
pub record IsSpelledOption (name : CommandName) (option : OptionName) (number : ℕ) (words : List (List ℕ)) : Type 0
  where
    pub built : Contains built_options option
    pub digits : List ℕ
    pub in_range : IsNumberFromTo (least_number name option) (most_number name option) digits number
    pub spelled : (words ≡ option_name option ∷ digits ∷ []) ⊎ (words ≡ (option_name option ++ 61 ∷ digits) ∷ [])

-- these words are the argument of a command; a plain word doesn't begin with a minus
abbrev pub IsSpelled : CommandName → Argument → List (List ℕ) → Type 0
IsSpelled name (Plain word) words = (is_option word ≡ false) × (words ≡ word ∷ [])
IsSpelled name (Number option number) words = IsSpelledOption name option number words

-- the words are these arguments of a command, one after another
abbrev pub AreSpelled : CommandName → List Argument → List (List ℕ) → Type 0
AreSpelled name [] words = words ≡ []
AreSpelled name (argument ∷ arguments) words = (front : List (List ℕ)) × (rest : List (List ℕ))
    × IsSpelled name argument front × AreSpelled name arguments rest × (words ≡ front ++ rest)

abbrev pub plain_words : List Argument → List (List ℕ)
plain_words [] = []
plain_words (Plain word ∷ arguments) = word ∷ plain_words arguments
plain_words (Number option number ∷ arguments) = plain_words arguments

-- the number that an option is given, if it is
abbrev pub number_given : OptionName → List Argument → Option ℕ
number_given option [] = None
number_given option (Plain word ∷ arguments) = number_given option arguments
number_given option (Number other number ∷ arguments) =
    if is_same_option option other then Some number else number_given option arguments

-- each option is one of the command's, and isn't given again
abbrev pub AreOptionsOf : CommandName → List Argument → Type 0
AreOptionsOf name [] = Unit {0}
AreOptionsOf name (Plain word ∷ arguments) = AreOptionsOf name arguments
AreOptionsOf name (Number option number ∷ arguments) = (takes name option ≡ true)
    × (number_given option arguments ≡ None) × AreOptionsOf name arguments

abbrev pub settings_of : CommandName → List Argument → Settings
settings_of name arguments =
    settings_from name (number_given Rounds arguments) (number_given Every arguments) (number_given Scale arguments)

abbrev pub workers_of : List Argument → Option ℕ
workers_of arguments = number_given Workers arguments

abbrev pub rows_of : CommandName → List Argument → RowSettings
rows_of name arguments = rows_from name (workers_of arguments) (number_given Atomic arguments)

-- a file and a certificate alone, and the command that is made of both
abbrev pub IsOfTwo : (List ℕ → List ℕ → Command) → List Argument → Command → Type 0
IsOfTwo make arguments command = (file : List ℕ) × (certificate : List ℕ)
    × (plain_words arguments ≡ file ∷ certificate ∷ []) × (command ≡ make file certificate)

-- what a command is with these arguments
abbrev pub IsCommand : CommandName → List Argument → Command → Type 0
IsCommand table.Solve arguments command = (file : List ℕ) × (plain_words arguments ≡ file ∷ [])
    × (command ≡ Solve file (settings_of table.Solve arguments) (rows_of table.Solve arguments))
IsCommand table.Check arguments command = IsOfTwo Check arguments command
IsCommand table.Upgrade arguments command = IsOfTwo Upgrade arguments command
IsCommand table.Info arguments command = (file : List ℕ) × (plain_words arguments ≡ file ∷ []) × (command ≡ Info file)
IsCommand table.Gen arguments command = (word : List ℕ) × (cards : ℕ) × (plain_words arguments ≡ word ∷ [])
    × IsNumberFromTo least_cards most_cards word cards × (command ≡ Gen cards)
IsCommand table.Drill arguments command = (word : List ℕ) × (cards : ℕ) × (plain_words arguments ≡ word ∷ [])
    × IsNumberFromTo least_cards most_cards word cards
    × (command ≡ Drill cards (settings_of table.Drill arguments) (rows_of table.Drill arguments))
IsCommand table.Plus arguments command = (file : List ℕ) × (plain_words arguments ≡ file ∷ [])
    × (command ≡ Plus file (settings_of table.Plus arguments) (rows_of table.Plus arguments))
IsCommand table.Batch arguments command =
    command ≡ Batch (plain_words arguments) (settings_of table.Batch arguments) (workers_of arguments)

-- the first word is a command's, and the others are its arguments in any order
pub record IsCall (words : List (List ℕ)) (command : Command) : Type 0 where
  pub name : CommandName
  pub rest : List (List ℕ)
  pub arguments : List Argument
  pub built : Contains built_commands name
  pub words_are : words ≡ command_word name ∷ rest
  pub spelled : AreSpelled name arguments rest
  pub enough_plain : least_plain name ≤ length (plain_words arguments)
  pub few_plain : length (plain_words arguments) ≤ most_plain name
  pub options : AreOptionsOf name arguments
  pub command_is : IsCommand name arguments command

-- ---- word by word

-- the numbers of the options that were given so far
pub record NumbersSoFar : Type 0 where
  pub rounds : Option ℕ
  pub every : Option ℕ
  pub scale : Option ℕ
  pub workers : Option ℕ
  pub atomic : Option ℕ

abbrev pub number_so_far : NumbersSoFar → OptionName → Option ℕ
number_so_far numbers Rounds = numbers.rounds
number_so_far numbers Every = numbers.every
number_so_far numbers Scale = numbers.scale
number_so_far numbers Workers = numbers.workers
number_so_far numbers Atomic = numbers.atomic

abbrev pub with_number : NumbersSoFar → OptionName → ℕ → NumbersSoFar
with_number numbers Rounds number = record numbers { rounds = Some number }
with_number numbers Every number = record numbers { every = Some number }
with_number numbers Scale number = record numbers { scale = Some number }
with_number numbers Workers number = record numbers { workers = Some number }
with_number numbers Atomic number = record numbers { atomic = Some number }

-- the plain words and the options that were read so far
pub record Taken : Type 0 where
  pub plain : List (List ℕ)
  pub numbers : NumbersSoFar

abbrev pub takes_nothing : Taken
takes_nothing = record {
  plain = [];
  numbers = record { rounds = None; every = None; scale = None; workers = None; atomic = None };
}

abbrev pub command_named : List ℕ → Option CommandName
command_named word = find (λ name. is_word word (command_word name)) built_commands

abbrev pub option_named : List ℕ → Option OptionName
option_named word = find (λ option. is_word word (option_name option)) built_options

-- what stands before and behind the first `=` of a word
abbrev pub around_equals : List ℕ → Option (List ℕ × List ℕ)
around_equals [] = None
around_equals (byte ∷ bytes) = if byte == 61 then Some ([], bytes)
    else option_map (λ (parts : List ℕ × List ℕ). (byte ∷ parts.0, parts.1)) (around_equals bytes)

abbrev pub number_from_to : ℕ → ℕ → List ℕ → Option ℕ
number_from_to least most digits =
    if is_numeral digits && (nat_le least (number_of digits) && nat_le (number_of digits) most)
    then Some (number_of digits) else None

abbrev pub take_plain : CommandName → Taken → List ℕ → Option Taken
take_plain name taken word = if nat_lt (length taken.plain) (most_plain name)
    then Some (record taken { plain = taken.plain ++ word ∷ [] }) else None

abbrev pub take_number : CommandName → Taken → OptionName → ℕ → Option Taken
take_number name taken option number = if takes name option && is_none (number_so_far taken.numbers option)
    then Some (record taken { numbers = with_number taken.numbers option number }) else None

abbrev pub take_digits : CommandName → Taken → OptionName → List ℕ → Option Taken
take_digits name taken option digits =
    option_and_then (take_number name taken option)
    (number_from_to (least_number name option) (most_number name option) digits)

-- a word that begins with a minus: an option's name, whose number is the next word, or the name and the number
abbrev pub read_option : CommandName → Taken → List ℕ → Option (List ℕ × List ℕ) → Option (Taken × Option OptionName)
read_option name taken word None = option_map (λ option. (taken, Some option)) (option_named word)
read_option name taken word (Some parts) =
    option_and_then (λ option. option_map (λ next. (next, None)) (take_digits name taken option parts.1))
    (option_named parts.0)

-- a word where no option waits for its number, or where one does
abbrev pub read_word : CommandName → Taken → Option OptionName → List ℕ → Option (Taken × Option OptionName)
read_word name taken None word = if is_option word then read_option name taken word (around_equals word)
    else option_map (λ next. (next, None)) (take_plain name taken word)
read_word name taken (Some option) word = option_map (λ next. (next, None)) (take_digits name taken option word)

abbrev pub read_words : CommandName → Taken → Option OptionName → List (List ℕ) → Option Taken
read_words name taken None [] = Some taken
read_words name taken (Some option) [] = None
read_words name taken waiting (word ∷ words) =
    option_and_then (λ next. read_words name next.0 next.1 words) (read_word name taken waiting word)

abbrev pub with_one : (List ℕ → Option Command) → List (List ℕ) → Option Command
with_one make [] = None
with_one make (word ∷ []) = make word
with_one make (word ∷ second ∷ words) = None

abbrev pub with_two : (List ℕ → List ℕ → Command) → List (List ℕ) → Option Command
with_two make [] = None
with_two make (word ∷ []) = None
with_two make (word ∷ second ∷ []) = Some (make word second)
with_two make (word ∷ second ∷ third ∷ words) = None

abbrev pub with_some : (List (List ℕ) → Command) → List (List ℕ) → Option Command
with_some make [] = None
with_some make (word ∷ words) = Some (make (word ∷ words))

abbrev pub settings_in : CommandName → NumbersSoFar → Settings
settings_in name numbers = settings_from name numbers.rounds numbers.every numbers.scale

abbrev pub rows_in : CommandName → NumbersSoFar → RowSettings
rows_in name numbers = rows_from name numbers.workers numbers.atomic

abbrev pub command_from : CommandName → Taken → Option Command
command_from table.Solve taken =
    with_one (λ file. Some (Solve file (settings_in table.Solve taken.numbers) (rows_in table.Solve taken.numbers)))
    taken.plain
command_from table.Check taken = with_two Check taken.plain
command_from table.Upgrade taken = with_two Upgrade taken.plain
command_from table.Info taken = with_one (λ file. Some (Info file)) taken.plain
command_from table.Gen taken =
    with_one (λ word. option_map Gen (number_from_to least_cards most_cards word)) taken.plain
command_from table.Drill taken =
    with_one (λ word. option_map
    (λ cards. Drill cards (settings_in table.Drill taken.numbers) (rows_in table.Drill taken.numbers))
    (number_from_to least_cards most_cards word)) taken.plain
command_from table.Plus taken =
    with_one (λ file. Some (Plus file (settings_in table.Plus taken.numbers) (rows_in table.Plus taken.numbers)))
    taken.plain
command_from table.Batch taken =
    with_some (λ files. Batch files (settings_in table.Batch taken.numbers) taken.numbers.workers) taken.plain

abbrev pub command_of_words : List (List ℕ) → Option Command
command_of_words [] = None
command_of_words (word ∷ words) =
    option_and_then (λ name. option_and_then (command_from name) (read_words name takes_nothing None words))
    (command_named word)

-- ---- the files that a command opens
abbrev pub file_words : Command → List (List ℕ)
file_words (Solve file settings rows) = file ∷ []
file_words (Check file certificate) = file ∷ certificate ∷ []
file_words (Upgrade file certificate) = file ∷ certificate ∷ []
file_words (Info file) = file ∷ []
file_words (Gen cards) = []
file_words (Drill cards settings rows) = []
file_words (Plus file settings rows) = file ∷ []
file_words (Batch files settings workers) = files

abbrev pub files_of : Option Command → List (List ℕ)
files_of None = []
files_of (Some command) = file_words command

abbrev pub named_files : List (List ℕ) → List (List ℕ)
named_files words = files_of (command_of_words words)
