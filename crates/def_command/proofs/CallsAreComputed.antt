-- The command that is computed is the one that the words are a call of.
use Rattle.std.proofs.Common.{◌≡◌, ℕ, ◌≤◌, List, [], ◌∷◌, length, Option, Some, None, refl, sym, ap, ◌∙◌, subst, inl, arith}
use Rattle.std.specs.Option.{option_map, option_and_then, option_or}
use Rattle.std.proofs.lemmas.Option.{none-some, same_Some}
use Rattle.def_sums.specs.Limits.{least_cards, most_cards}
use Rattle.def_fraction.proofs.LiteralLemmas.{option_map_some}
use Rattle.def_command.specs.Table as table
use Rattle.def_command.specs.Table.{CommandName, OptionName, Rounds, Every, Scale, Workers, Atomic, least_plain, most_plain}
use Rattle.def_command.specs.Grammar.{Command, Solve, Check, Upgrade, Info, Gen, Drill, Plus, Batch, Argument, Taken, takes_nothing}
use Rattle.def_command.specs.declared.Settings.{Settings}
use Rattle.def_command.specs.declared.RowSettings.{RowSettings}
use Rattle.def_command.specs.Grammar.{IsCall, IsCommand, IsOfTwo, number_so_far, number_given, number_from_to, plain_words, settings_from, settings_in}
use Rattle.def_command.specs.Grammar.{settings_of, workers_of, rows_from, rows_in, rows_of, with_one, with_two, with_some, read_words, command_from}
use Rattle.def_command.specs.Grammar.{command_named, command_of_words}
use Rattle.def_command.proofs.CommandAndOptionNames.{and_then_some, command_found, command_by_word}
use Rattle.def_command.proofs.Arguments.{Merges, merges, few_taken, taken_all}
use Rattle.def_command.proofs.WordByWord.{number_is_read, number_read, arguments_are_read, arguments_read}

one_word_made : (make : List ℕ → Option Command) (words : List (List ℕ)) (command : Command)
    → with_one make words ≡ Some command → (word : List ℕ) × (words ≡ word ∷ []) × (make word ≡ Some command)
one_word_made make [] command is = absurd (none-some command is)
one_word_made make (word ∷ []) command is = (word, refl, is)
one_word_made make (word ∷ second ∷ words) command is = absurd (none-some command is)

two_words_made : (make : List ℕ → List ℕ → Command) (words : List (List ℕ)) (command : Command)
    → with_two make words ≡ Some command
    → (word : List ℕ) × (second : List ℕ) × (words ≡ word ∷ second ∷ []) × (command ≡ make word second)
two_words_made make [] command is = absurd (none-some command is)
two_words_made make (word ∷ []) command is = absurd (none-some command is)
two_words_made make (word ∷ second ∷ []) command is = (word, second, refl, sym (same_Some _ _ is))
two_words_made make (word ∷ second ∷ third ∷ words) command is = absurd (none-some command is)

some_words_made : (make : List (List ℕ) → Command) (words : List (List ℕ)) (command : Command)
    → with_some make words ≡ Some command → (1 ≤ length words) × (command ≡ make words)
some_words_made make [] command is = absurd (none-some command is)
some_words_made make (word ∷ words) command is = (omega arith, sym (same_Some _ _ is))

made_with_some : (make : List (List ℕ) → Command) (words : List (List ℕ)) → 1 ≤ length words
    → with_some make words ≡ Some (make words)
made_with_some make [] some = absurd (omega (arith, some))
made_with_some make (word ∷ words) some = refl

-- what was taken is what the arguments say
module _ (arguments : List Argument) (taken : Taken) (plain : taken.plain ≡ plain_words arguments)
    (numbers : (option : OptionName) → number_so_far taken.numbers option ≡ number_given option arguments) where
  same_settings : (name : CommandName) → settings_in name taken.numbers ≡ settings_of name arguments
  same_settings name = ap (λ (n : Option ℕ). settings_from name n taken.numbers.every taken.numbers.scale) (numbers Rounds)
      ∙ ap (λ (n : Option ℕ). settings_from name (number_given Rounds arguments) n taken.numbers.scale) (numbers Every)
      ∙ ap (λ (n : Option ℕ). settings_from name (number_given Rounds arguments) (number_given Every arguments) n)
      (numbers Scale)

  same_workers : taken.numbers.workers ≡ workers_of arguments
  same_workers = numbers Workers

  same_rows : (name : CommandName) → rows_in name taken.numbers ≡ rows_of name arguments
  same_rows name = ap (λ (n : Option ℕ). rows_from name n taken.numbers.atomic) (numbers Workers)
      ∙ ap (λ (n : Option ℕ). rows_from name (workers_of arguments) n) (numbers Atomic)

  same_batch : Batch (plain_words arguments) (settings_in table.Batch taken.numbers) taken.numbers.workers ≡ Batch
      (plain_words arguments) (settings_of table.Batch arguments) (workers_of arguments)
  same_batch =
      ap (λ (s : Settings). Batch (plain_words arguments) s taken.numbers.workers) (same_settings table.Batch)
      ∙ ap (Batch (plain_words arguments) (settings_of table.Batch arguments)) same_workers

  same_command : (name : CommandName) (make : Settings → RowSettings → Command)
      → make (settings_in name taken.numbers) (rows_in name taken.numbers) ≡ make (settings_of name arguments)
      (rows_of name arguments)
  same_command name make = ap (λ (s : Settings). make s (rows_in name taken.numbers)) (same_settings name)
      ∙ ap (make (settings_of name arguments)) (same_rows name)

  made_of_two : (make : List ℕ → List ℕ → Command) (command : Command) → with_two make taken.plain ≡ Some command
      → (2 ≤ length (plain_words arguments)) × IsOfTwo make arguments command
  made_of_two make command is =
      let (file, certificate, words, made) = two_words_made make taken.plain command is in
      let both : plain_words arguments ≡ file ∷ certificate ∷ [] = sym plain ∙ words in
      let count : length (plain_words arguments) ≡ 2 = ap length both in
      (omega (arith, count), (file, certificate, both, made))

  made_of_one : (make : List ℕ → Option Command) (command : Command) → with_one make taken.plain ≡ Some command
      → (1 ≤ length (plain_words arguments))
      × (word : List ℕ) × (plain_words arguments ≡ word ∷ []) × (make word ≡ Some command)
  made_of_one make command is =
      let (word, words, made) = one_word_made make taken.plain command is in
      let alone : plain_words arguments ≡ word ∷ [] = sym plain ∙ words in
      let count : length (plain_words arguments) ≡ 1 = ap length alone in
      (omega (arith, count), word, alone, made)

  made_of_some : (make : List (List ℕ) → Command) (command : Command) → with_some make taken.plain ≡ Some command
      → (1 ≤ length (plain_words arguments)) × (command ≡ make (plain_words arguments))
  made_of_some make command is =
      let (count, made) = some_words_made make taken.plain command is in
      (subst (λ (words : List (List ℕ)). 1 ≤ length words) plain count, made ∙ ap make plain)

  pub made_is_call : (name : CommandName) (command : Command) → command_from name taken ≡ Some command
      → (least_plain name ≤ length (plain_words arguments)) × IsCommand name arguments command
  made_is_call table.Solve command is =
      let (count, file, alone, made) = made_of_one _ command is in
      (count, (file, alone, sym (same_Some _ _ made) ∙ same_command table.Solve (Solve file)))
  made_is_call table.Check command is = made_of_two Check command is
  made_is_call table.Upgrade command is = made_of_two Upgrade command is
  made_is_call table.Info command is =
      let (count, file, alone, made) = made_of_one _ command is in (count, (file, alone, sym (same_Some _ _ made)))
  made_is_call table.Gen command is =
      let (count, word, alone, made) = made_of_one _ command is in
      let (cards, read, same) = option_map_some Gen (number_from_to least_cards most_cards word) command made in
      (count, (word, cards, alone, number_is_read least_cards most_cards word cards read, sym same))
  made_is_call table.Drill command is =
      let (count, word, alone, made) = made_of_one _ command is in
      let (cards, read, same) = option_map_some
      (λ (n : ℕ). Drill n (settings_in table.Drill taken.numbers) (rows_in table.Drill taken.numbers))
      (number_from_to least_cards most_cards word) command made in (
        count,
        (
          word,
          cards,
          alone,
          number_is_read least_cards most_cards word cards read,
          sym same
              ∙ same_command table.Drill (Drill cards),
        ),
      )
  made_is_call table.Plus command is =
      let (count, file, alone, made) = made_of_one _ command is in
      (count, (file, alone, sym (same_Some _ _ made) ∙ same_command table.Plus (Plus file)))
  made_is_call table.Batch command is =
      let (count, made) =
      made_of_some (λ files. Batch files (settings_in table.Batch taken.numbers) taken.numbers.workers) command is in
      (count, made ∙ same_batch)

  two_made : (make : List ℕ → List ℕ → Command) (command : Command) → IsOfTwo make arguments command
      → with_two make taken.plain ≡ Some command
  two_made make command (file, certificate, both, is) = ap (with_two make) (plain ∙ both) ∙ ap Some (sym is)

  some_made : (make : List (List ℕ) → Command) (command : Command) → 1 ≤ length (plain_words arguments)
      → command ≡ make (plain_words arguments) → with_some make taken.plain ≡ Some command
  some_made make command some is = ap (with_some make) plain ∙ made_with_some make (plain_words arguments) some
      ∙ ap Some (sym is)

  pub command_made : (name : CommandName) (command : Command) → least_plain name ≤ length (plain_words arguments)
      → IsCommand name arguments command → command_from name taken ≡ Some command
  command_made table.Solve command enough (file, alone, is) =
      ap (with_one (λ f. Some (Solve f (settings_in table.Solve taken.numbers) (rows_in table.Solve taken.numbers))))
      (plain ∙ alone)
      ∙ ap Some (same_command table.Solve (Solve file) ∙ sym is)
  command_made table.Check command enough is = two_made Check command is
  command_made table.Upgrade command enough is = two_made Upgrade command is
  command_made table.Info command enough (file, alone, is) =
      ap (with_one (λ f. Some (Info f))) (plain ∙ alone) ∙ ap Some (sym is)
  command_made table.Gen command enough (word, cards, alone, number, is) =
      ap (with_one (λ w. option_map Gen (number_from_to least_cards most_cards w))) (plain ∙ alone)
      ∙ ap (option_map Gen) (number_read least_cards most_cards word cards number) ∙ ap Some (sym is)
  command_made table.Drill command enough (word, cards, alone, number, is) =
      ap (with_one (λ w. option_map
      (λ (n : ℕ). Drill n (settings_in table.Drill taken.numbers) (rows_in table.Drill taken.numbers))
      (number_from_to least_cards most_cards w))) (plain ∙ alone)
      ∙ ap (option_map (λ (n : ℕ). Drill n (settings_in table.Drill taken.numbers) (rows_in table.Drill taken.numbers)))
      (number_read least_cards most_cards word cards number)
      ∙ ap Some (same_command table.Drill (Drill cards) ∙ sym is)
  command_made table.Plus command enough (file, alone, is) =
      ap (with_one (λ f. Some (Plus f (settings_in table.Plus taken.numbers) (rows_in table.Plus taken.numbers))))
      (plain ∙ alone)
      ∙ ap Some (same_command table.Plus (Plus file) ∙ sym is)
  command_made table.Batch command enough is =
      some_made (λ files. Batch files (settings_in table.Batch taken.numbers) taken.numbers.workers) command enough
      (is ∙ sym (same_batch))

-- of a call all of whose words are read
none_before : (option : OptionName) → number_so_far takes_nothing.numbers option ≡ None
none_before Rounds = refl
none_before Every = refl
none_before Scale = refl
none_before Workers = refl
none_before Atomic = refl

or_none : (o other : Option ℕ) → o ≡ None → option_or o other ≡ other
or_none None other is = refl
or_none (Some n) other is = cc

numbers_given : (name : CommandName) (arguments : List Argument) (final : Taken)
    → Merges name takes_nothing arguments final
    → (option : OptionName) → number_so_far final.numbers option ≡ number_given option arguments
numbers_given name arguments final m option = m.numbers option
    ∙ or_none (number_so_far takes_nothing.numbers option) (number_given option arguments) (none_before option)

-- words with a command are a call of it
pub computed_is_call : (words : List (List ℕ)) (command : Command) → command_of_words words ≡ Some command
    → IsCall words command
computed_is_call [] command is = absurd (none-some command is)
computed_is_call (word ∷ words) command is =
    let (name, named, next) = and_then_some (λ (n : CommandName). option_and_then (command_from n)
    (read_words n takes_nothing None words)) (command_named word) command is in
    let found = command_found word name named in
    let (final, read, made) = and_then_some (command_from name) (read_words name takes_nothing None words) command next in
    let (arguments, spelled, all) = arguments_are_read name words takes_nothing final read in
    let m = merges name arguments takes_nothing final all in
    let few = few_taken name arguments takes_nothing final all (omega arith) in
    let known = made_is_call arguments final m.plain (numbers_given name arguments final m) name command made in
    record {
      name = name;
      rest = words;
      arguments = arguments;
      built = found.1;
      words_are = ap (λ (w : List ℕ). w ∷ words) found.0;
      spelled = spelled;
      enough_plain = known.0;
      few_plain = subst (λ (words : List (List ℕ)). length words ≤ most_plain name) m.plain few;
      options = m.options;
      command_is = known.1;
    }

-- words that are a call have its command
pub call_computed : (words : List (List ℕ)) (command : Command) → IsCall words command
    → command_of_words words ≡ Some command
call_computed words command call =
    let few : length (plain_words call.arguments) ≤ most_plain call.name = call.few_plain in
    let (final, all) = taken_all call.name call.arguments takes_nothing call.options (λ option. inl (none_before option))
    (omega (arith, few)) in
    let read = arguments_read call.name call.arguments call.rest takes_nothing final call.spelled all in
    let m = merges call.name call.arguments takes_nothing final all in
    let made = command_made call.arguments final m.plain (numbers_given call.name call.arguments final m) call.name
    command call.enough_plain call.command_is in
    ap command_of_words call.words_are
    ∙ ap (option_and_then (λ (n : CommandName). option_and_then (command_from n) (read_words n takes_nothing None call.rest)))
    (command_by_word call.name call.built)
    ∙ ap (option_and_then (command_from call.name)) read ∙ made
