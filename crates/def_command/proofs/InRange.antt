-- The settings of a command are in the ranges of their options.
use Rattle.std.proofs.Common.{◌≡◌, ℕ, ◌≤◌, Bool, true, false, cond, ◌==◌, List, [], ◌∷◌, length, Option, Some, None, IfSome, unwrap_or, refl, sym, ap, subst}
use Rattle.std.proofs.Common.{arith}
use Rattle.std.proofs.lemmas.Bool.{eqb-false}
use Rattle.std.proofs.lemmas.Option.{none-some, same_Some}
use Rattle.def_sums.specs.Limits.{most_rounds, most_workers}
use Rattle.def_command.specs.Table as table
use Rattle.def_command.specs.Table.{CommandName, OptionName, Rounds, Every, Scale, Workers, least_plain, most_plain, least_number, most_number, default_number}
use Rattle.def_command.specs.Grammar.{Solve, Gen, Drill, Plus, Batch, Argument, Plain, Number, AreSpelled, IsCommand, is_same_option}
use Rattle.def_command.specs.declared.Settings.{Settings}
use Rattle.def_command.specs.declared.RowSettings.{RowSettings}
use Rattle.def_command.specs.Grammar.{number_given, plain_words, settings_of, workers_of, rows_of}
use Rattle.def_command.specs.GrammarLaws.{CardsAreInRange, CardsInRange, FilesAreInRange, FilesInRange, SettingsAreInRange}
use Rattle.def_command.proofs.Arguments.{same_option}
use Rattle.def_command.proofs.CallsAreComputed.{computed_is_call}

-- the number is in the option's range with a command
record FitsOption (name : CommandName) (option : OptionName) (number : ℕ) : Type 0 where
  from : least_number name option ≤ number
  to : number ≤ most_number name option

given_at : (name : CommandName) (option other : OptionName) (number given : ℕ) (rest : Option ℕ) (b : Bool)
    → is_same_option option other ≡ b → FitsOption name other number
    → (rest ≡ Some given → FitsOption name option given)
    → cond b (Some number) rest ≡ Some given → FitsOption name option given
given_at name option other number given rest true same first later is =
    subst (FitsOption name option) (same_Some number given is)
    (subst (λ (o : OptionName). FitsOption name o number) (sym (same_option option other same)) first)
given_at name option other number given rest false same first later is = later is

-- a number that an option is given is in its range
given_in_range : (name : CommandName) (option : OptionName) (arguments : List Argument) (words : List (List ℕ))
    (given : ℕ) → AreSpelled name arguments words → number_given option arguments ≡ Some given
    → FitsOption name option given
given_in_range name option [] words given spelled is = absurd (none-some given is)
given_in_range name option (Plain word ∷ arguments) words given (front, rest, first, spelled, words_are) is =
    given_in_range name option arguments rest given spelled is
given_in_range name option (Number other number ∷ arguments) words given (front, rest, known, spelled, words_are) is =
    given_at name option other number given (number_given option arguments) (is_same_option option other) refl
    (record { from = known.in_range.from; to = known.in_range.to })
    (given_in_range name option arguments rest given spelled) is

or_default : (name : CommandName) (option : OptionName) (o : Option ℕ) (default : ℕ)
    → ((given : ℕ) → o ≡ Some given → FitsOption name option given) → FitsOption name option default
    → FitsOption name option (unwrap_or o default)
or_default name option None default given_is default_is = default_is
or_default name option (Some given) default given_is default_is = given_is given refl

-- what holds of each number that is given
if_given : (o : Option ℕ) {P : ℕ → Type 0} → ((number : ℕ) → o ≡ Some number → P number) → IfSome o P
if_given None holds = tt
if_given (Some number) holds = holds number refl

-- ---- the numbers of absent options
rounds_default : (name : CommandName) → FitsOption name Rounds 1000
rounds_default table.Plus = record { from = omega arith; to = omega arith }
rounds_default name = record { from = omega arith; to = omega arith }

few_rounds : (name : CommandName) (rounds : ℕ) → FitsOption name Rounds rounds → rounds ≤ most_rounds
few_rounds table.Plus rounds fits = omega (arith, fits.to)
few_rounds name rounds fits = fits.to

every_default : (name : CommandName) (rounds : ℕ) (b : Bool) → (rounds == 0) ≡ b → rounds ≤ most_rounds
    → FitsOption name Every (cond b 1 rounds)
every_default name rounds true is few = record { from = omega arith; to = omega arith }
every_default name rounds false is few =
    let some : 1 ≤ rounds = omega (arith, eqb-false rounds 0 is) in
    record { from = some; to = few }

scale_default : (name : CommandName) (played : ℕ) → FitsOption name Scale (default_number name Scale played)
scale_default table.Plus played = record { from = omega arith; to = omega arith }
scale_default name played = record { from = omega arith; to = omega arith }

-- the settings fit the options of a command, and so does the number of workers that is given
record FitOptions (name : CommandName) (settings : Settings) (workers : Option ℕ) : Type 0 where
  rounds : FitsOption name Rounds settings.rounds
  every : FitsOption name Every settings.every
  scale : FitsOption name Scale settings.scale
  some_workers : IfSome workers (λ number. 1 ≤ number)
  few_workers : IfSome workers (λ number. number ≤ most_workers)

module _ (spelled_for : CommandName) (arguments : List Argument) (words : List (List ℕ))
    (spelled : AreSpelled spelled_for arguments words) where
  in_range_or : (option : OptionName) (default : ℕ) → FitsOption spelled_for option default
      → FitsOption spelled_for option (unwrap_or (number_given option arguments) default)
  in_range_or option default default_is =
      or_default spelled_for option (number_given option arguments) default
      (λ given is. given_in_range spelled_for option arguments words given spelled is) default_is

  workers_given : (number : ℕ) → workers_of arguments ≡ Some number → FitsOption spelled_for Workers number
  workers_given number is = given_in_range spelled_for Workers arguments words number spelled is

  arguments_fit : FitOptions spelled_for (settings_of spelled_for arguments) (workers_of arguments)
  arguments_fit =
      let settings : Settings = settings_of spelled_for arguments in
      let fit_rounds : FitsOption spelled_for Rounds settings.rounds =
      in_range_or Rounds 1000 (rounds_default spelled_for) in
      record {
        rounds = fit_rounds;
        every = in_range_or Every (default_number spelled_for Every settings.rounds)
            (every_default spelled_for settings.rounds (settings.rounds == 0) refl
            (few_rounds spelled_for settings.rounds fit_rounds));
        scale = in_range_or Scale (default_number spelled_for Scale settings.rounds)
            (scale_default spelled_for settings.rounds);
        some_workers = if_given (workers_of arguments) (λ number is. (workers_given number is).from);
        few_workers = if_given (workers_of arguments) (λ number is. (workers_given number is).to);
      }

  like_arguments : (settings : Settings) (workers : Option ℕ) → settings ≡ settings_of spelled_for arguments
      → workers ≡ workers_of arguments → FitOptions spelled_for settings workers
  like_arguments settings workers same_settings same_workers =
      subst (λ (s : Settings). FitOptions spelled_for s workers) (sym same_settings)
      (subst (FitOptions spelled_for (settings_of spelled_for arguments)) (sym same_workers) arguments_fit)

-- ---- the command's settings are those of its arguments
module _ (arguments : List Argument) (words : List (List ℕ)) (settings : Settings) (rows : RowSettings) where
  solve_fits : (name : CommandName) → AreSpelled name arguments words → (file : List ℕ)
      → IsCommand name arguments (Solve file settings rows) → FitOptions table.Solve settings rows.workers
  solve_fits table.Solve spelled file (other, alone, is) =
      let same_settings : settings ≡ settings_of table.Solve arguments = cc in
      let same_rows : rows ≡ rows_of table.Solve arguments = cc in
      like_arguments table.Solve arguments words spelled settings rows.workers same_settings
      (ap (λ (r : RowSettings). r.workers) same_rows)
  solve_fits table.Check spelled file (other, certificate, both, is) = absurd cc
  solve_fits table.Upgrade spelled file (other, certificate, both, is) = absurd cc
  solve_fits table.Info spelled file (other, alone, is) = absurd cc
  solve_fits table.Gen spelled file (word, cards, alone, number, is) = absurd cc
  solve_fits table.Drill spelled file (word, cards, alone, number, is) = absurd cc
  solve_fits table.Plus spelled file (other, alone, is) = absurd cc
  solve_fits table.Batch spelled file is = absurd cc

  drill_fits : (name : CommandName) → AreSpelled name arguments words → (cards : ℕ)
      → IsCommand name arguments (Drill cards settings rows) → FitOptions table.Drill settings rows.workers
  drill_fits table.Drill spelled cards (word, others, alone, number, is) =
      let same_settings : settings ≡ settings_of table.Drill arguments = cc in
      let same_rows : rows ≡ rows_of table.Drill arguments = cc in
      like_arguments table.Drill arguments words spelled settings rows.workers same_settings
      (ap (λ (r : RowSettings). r.workers) same_rows)
  drill_fits table.Check spelled cards (other, certificate, both, is) = absurd cc
  drill_fits table.Upgrade spelled cards (other, certificate, both, is) = absurd cc
  drill_fits table.Info spelled cards (other, alone, is) = absurd cc
  drill_fits table.Gen spelled cards (word, others, alone, number, is) = absurd cc
  drill_fits table.Solve spelled cards (other, alone, is) = absurd cc
  drill_fits table.Plus spelled cards (other, alone, is) = absurd cc
  drill_fits table.Batch spelled cards is = absurd cc

  plus_fits : (name : CommandName) → AreSpelled name arguments words → (file : List ℕ)
      → IsCommand name arguments (Plus file settings rows) → FitOptions table.Plus settings rows.workers
  plus_fits table.Plus spelled file (other, alone, is) =
      let same_settings : settings ≡ settings_of table.Plus arguments = cc in
      let same_rows : rows ≡ rows_of table.Plus arguments = cc in
      like_arguments table.Plus arguments words spelled settings rows.workers same_settings
      (ap (λ (r : RowSettings). r.workers) same_rows)
  plus_fits table.Check spelled file (other, certificate, both, is) = absurd cc
  plus_fits table.Upgrade spelled file (other, certificate, both, is) = absurd cc
  plus_fits table.Info spelled file (other, alone, is) = absurd cc
  plus_fits table.Gen spelled file (word, cards, alone, number, is) = absurd cc
  plus_fits table.Drill spelled file (word, cards, alone, number, is) = absurd cc
  plus_fits table.Solve spelled file (other, alone, is) = absurd cc
  plus_fits table.Batch spelled file is = absurd cc

batch_fits : (arguments : List Argument) (words : List (List ℕ)) (settings : Settings) (workers : Option ℕ)
    (name : CommandName) → AreSpelled name arguments words → (files : List (List ℕ))
    → IsCommand name arguments (Batch files settings workers) → FitOptions table.Batch settings workers
batch_fits arguments words settings workers table.Batch spelled files is =
    let same_settings : settings ≡ settings_of table.Batch arguments = cc in
    let same_workers : workers ≡ workers_of arguments = cc in
    like_arguments table.Batch arguments words spelled settings workers same_settings same_workers
batch_fits arguments words settings workers table.Check spelled files (other, certificate, both, is) = absurd cc
batch_fits arguments words settings workers table.Upgrade spelled files (other, certificate, both, is) = absurd cc
batch_fits arguments words settings workers table.Info spelled files (other, alone, is) = absurd cc
batch_fits arguments words settings workers table.Gen spelled files (word, cards, alone, number, is) = absurd cc
batch_fits arguments words settings workers table.Drill spelled files (word, cards, alone, number, is) = absurd cc
batch_fits arguments words settings workers table.Solve spelled files (other, alone, is) = absurd cc
batch_fits arguments words settings workers table.Plus spelled files (other, alone, is) = absurd cc

-- of each command that is computed
pub settings_in_range : SettingsAreInRange
settings_in_range = record {
  of_solve = λ words file settings rows is.
      let call = computed_is_call words (Solve file settings rows) is in
      let fit = solve_fits call.arguments call.rest settings rows call.name call.spelled file call.command_is in
      record {
        few_rounds = fit.rounds.to;
        some_every = fit.every.from;
        small_every = fit.every.to;
        some_scale = fit.scale.from;
        small_scale = fit.scale.to;
        some_workers = fit.some_workers;
        few_workers = fit.few_workers;
      };
  of_drill = λ words cards settings rows is.
      let call = computed_is_call words (Drill cards settings rows) is in
      let fit = drill_fits call.arguments call.rest settings rows call.name call.spelled cards call.command_is in
      record {
        few_rounds = fit.rounds.to;
        some_every = fit.every.from;
        small_every = fit.every.to;
        some_scale = fit.scale.from;
        small_scale = fit.scale.to;
        some_workers = fit.some_workers;
        few_workers = fit.few_workers;
      };
  of_plus = λ words file settings rows is.
      let call = computed_is_call words (Plus file settings rows) is in
      let fit = plus_fits call.arguments call.rest settings rows call.name call.spelled file call.command_is in
      record {
        few_rounds = fit.rounds.to;
        some_every = fit.every.from;
        small_every = fit.every.to;
        some_scale = fit.scale.from;
        small_scale = fit.scale.to;
        some_workers = fit.some_workers;
        few_workers = fit.few_workers;
      };
  of_batch = λ words files settings workers is.
      let call = computed_is_call words (Batch files settings workers) is in
      let fit = batch_fits call.arguments call.rest settings workers call.name call.spelled files call.command_is in
      record {
        few_rounds = fit.rounds.to;
        some_every = fit.every.from;
        small_every = fit.every.to;
        some_scale = fit.scale.from;
        small_scale = fit.scale.to;
        some_workers = fit.some_workers;
        few_workers = fit.few_workers;
      };
}

batch_files : (arguments : List Argument) (name : CommandName) (files : List (List ℕ)) (settings : Settings)
    (workers : Option ℕ) → least_plain name ≤ length (plain_words arguments)
    → length (plain_words arguments) ≤ most_plain name → IsCommand name arguments (Batch files settings workers)
    → FilesInRange files
batch_files arguments table.Batch files settings workers enough few is =
    let same : plain_words arguments ≡ files = cc in
    subst FilesInRange same (record { some = enough; few = few })
batch_files arguments table.Solve files settings workers enough few (other, alone, is) = absurd cc
batch_files arguments table.Check files settings workers enough few (other, certificate, both, is) = absurd cc
batch_files arguments table.Upgrade files settings workers enough few (other, certificate, both, is) = absurd cc
batch_files arguments table.Info files settings workers enough few (other, alone, is) = absurd cc
batch_files arguments table.Gen files settings workers enough few (word, cards, alone, number, is) = absurd cc
batch_files arguments table.Drill files settings workers enough few (word, cards, alone, number, is) = absurd cc
batch_files arguments table.Plus files settings workers enough few (other, alone, is) = absurd cc

-- the files of each batch that is computed
pub files_in_range : FilesAreInRange
files_in_range words files settings workers is =
    let call = computed_is_call words (Batch files settings workers) is in
    batch_files call.arguments call.name files settings workers call.enough_plain call.few_plain call.command_is

gen_cards : (arguments : List Argument) (name : CommandName) (cards : ℕ) → IsCommand name arguments (Gen cards)
    → CardsInRange cards
gen_cards arguments table.Gen cards (word, others, alone, number, is) =
    let same : others ≡ cards = cc in
    subst CardsInRange same (record { some = number.from; few = number.to })
gen_cards arguments table.Solve cards (other, alone, is) = absurd cc
gen_cards arguments table.Check cards (other, certificate, both, is) = absurd cc
gen_cards arguments table.Upgrade cards (other, certificate, both, is) = absurd cc
gen_cards arguments table.Info cards (other, alone, is) = absurd cc
gen_cards arguments table.Drill cards (word, others, alone, number, is) = absurd cc
gen_cards arguments table.Plus cards (other, alone, is) = absurd cc
gen_cards arguments table.Batch cards is = absurd cc

drill_cards : (arguments : List Argument) (name : CommandName) (cards : ℕ) (settings : Settings) (rows : RowSettings)
    → IsCommand name arguments (Drill cards settings rows) → CardsInRange cards
drill_cards arguments table.Drill cards settings rows (word, others, alone, number, is) =
    let same : others ≡ cards = cc in
    subst CardsInRange same (record { some = number.from; few = number.to })
drill_cards arguments table.Solve cards settings rows (other, alone, is) = absurd cc
drill_cards arguments table.Check cards settings rows (other, certificate, both, is) = absurd cc
drill_cards arguments table.Upgrade cards settings rows (other, certificate, both, is) = absurd cc
drill_cards arguments table.Info cards settings rows (other, alone, is) = absurd cc
drill_cards arguments table.Gen cards settings rows (word, others, alone, number, is) = absurd cc
drill_cards arguments table.Plus cards settings rows (other, alone, is) = absurd cc
drill_cards arguments table.Batch cards settings rows is = absurd cc

-- the cards of each command that is computed
pub cards_in_range : CardsAreInRange
cards_in_range = record {
  of_gen = λ words cards is.
      let call = computed_is_call words (Gen cards) is in gen_cards call.arguments call.name cards call.command_is;
  of_drill = λ words cards settings rows is.
      let call = computed_is_call words (Drill cards settings rows) is in
      drill_cards call.arguments call.name cards settings rows call.command_is;
}
