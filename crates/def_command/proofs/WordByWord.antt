-- Reading word by word, and the arguments that words spell.
use Rattle.std.proofs.Common.{◌≡◌, ⊎_elim, ℕ, Bool, true, false, cond, ◌&&◌, List, [], ◌∷◌, ◌++◌, Option, Some, None, refl, sym, ap, ◌∙◌, subst, inl, inr}
use Rattle.std.proofs.Common.{arith}
use Rattle.std.specs.Prelude.{nat_le}
use Rattle.std.specs.List.{Contains}
use Rattle.std.specs.Option.{option_map, option_and_then}
use Rattle.std.proofs.lemmas.Bool.{and_from, and_parts, le-leb, leb-true}
use Rattle.std.proofs.lemmas.Option.{none-some, cond_some}
use Rattle.def_fraction.specs.Digits.{is_numeral, number_of}
use Rattle.def_fraction.proofs.LiteralLemmas.{option_map_some}
use Rattle.def_command.specs.Words.{is_option}
use Rattle.def_command.specs.Table.{CommandName, OptionName, built_options, option_name, least_number, most_number}
use Rattle.def_command.specs.Grammar.{Argument, Plain, Number, Taken, IsNumberFromTo, AreSpelled, number_from_to, option_named, around_equals, take_plain}
use Rattle.def_command.specs.Grammar.{take_number, take_digits, read_option, read_word, read_words}
use Rattle.def_command.proofs.Arguments.{take_argument, take_all}
use Rattle.def_command.proofs.CommandAndOptionNames.{and_then_some, option_found, option_by_name, joined, name_alone, name_alone_is_option, name_and_digits}
use Rattle.def_command.proofs.CommandAndOptionNames.{name_is_option}

-- ---- numbers
-- a number that is read is in range
pub number_is_read : (least most : ℕ) (digits : List ℕ) (number : ℕ) → number_from_to least most digits ≡ Some number
    → IsNumberFromTo least most digits number
number_is_read least most digits number is =
    let tests = cond_some _ _ _ is in
    let parts = and_parts (is_numeral digits) (nat_le least (number_of digits) && nat_le (number_of digits) most)
    tests.0 in
    let range = and_parts (nat_le least (number_of digits)) (nat_le (number_of digits) most) parts.1 in
    record {
      digits_alone = parts.0;
      value = tests.1;
      from = omega (arith, leb-true least (number_of digits) range.0, tests.1);
      to = omega (arith, leb-true (number_of digits) most range.1, tests.1);
    }

-- a number in range is read
pub number_read : (least most : ℕ) (digits : List ℕ) (number : ℕ) → IsNumberFromTo least most digits number
    → number_from_to least most digits ≡ Some number
number_read least most digits number n =
    let from : nat_le least (number_of digits) ≡ true = le-leb least (number_of digits) (omega (arith, n.from, n.value))
    in
    let to : nat_le (number_of digits) most ≡ true = le-leb (number_of digits) most (omega (arith, n.to, n.value)) in
    let range = and_from (nat_le least (number_of digits)) (nat_le (number_of digits) most) from to in
    let tests = and_from (is_numeral digits) (nat_le least (number_of digits) && nat_le (number_of digits) most)
    n.digits_alone range in
    ap (λ b. cond b (Some (number_of digits)) None) tests ∙ ap Some n.value

-- ---- what is read tells arguments
abbrev TellsArguments : CommandName → Taken → Option OptionName → List (List ℕ) → Taken → Type 0
TellsArguments name taken None words final = (arguments : List Argument) × AreSpelled name arguments words
    × (take_all name taken arguments ≡ Some final)
TellsArguments name taken (Some option) words final = (digits : List ℕ) × (rest : List (List ℕ)) × (number : ℕ)
    × (arguments : List Argument) × (words ≡ digits ∷ rest)
    × IsNumberFromTo (least_number name option) (most_number name option) digits number × AreSpelled name arguments rest
    × (take_all name taken (Number option number ∷ arguments) ≡ Some final)

record NumberIsTaken (name : CommandName) (taken : Taken) (option : OptionName) (digits : List ℕ)
    (next : Taken) : Type 0
  where
    pub number : ℕ
    pub in_range : IsNumberFromTo (least_number name option) (most_number name option) digits number
    pub first : take_number name taken option number ≡ Some next

digits_taken : (name : CommandName) (taken : Taken) (option : OptionName) (digits : List ℕ) (next : Taken)
    → take_digits name taken option digits ≡ Some next → NumberIsTaken name taken option digits next
digits_taken name taken option digits next is =
    let (number, read, first) = and_then_some (take_number name taken option)
    (number_from_to (least_number name option) (most_number name option) digits) next is in
    record {
      number =
          number;
      in_range = number_is_read (least_number name option) (most_number name option) digits number read;
      first = first;
    }

take_more : (name : CommandName) (taken next : Taken) (argument : Argument) (arguments : List Argument) (final : Taken)
    → take_argument name taken argument ≡ Some next
    → take_all name next arguments ≡ Some final → take_all name taken (argument ∷ arguments) ≡ Some final
take_more name taken next argument arguments final first later =
    ap (option_and_then (λ (t : Taken). take_all name t arguments)) first ∙ later

-- the next word is the number of an option
tells_digits : (name : CommandName) (taken : Taken) (option : OptionName) (digits : List ℕ) (words : List (List ℕ))
    (next : Taken × Option OptionName) (final : Taken)
    → option_map (λ (t : Taken). (t, None)) (take_digits name taken option digits) ≡ Some next
    → TellsArguments name next.0 next.1 words final
    → TellsArguments name taken (Some option) (digits ∷ words) final
tells_digits name taken option digits words next final step later =
    let (t, there, same) = option_map_some (λ (t : Taken). (t, None)) (take_digits name taken option digits) next step in
    let is = digits_taken name taken option digits t there in
    let rest : TellsArguments name t None words final = subst (λ (x : Taken × Option OptionName). TellsArguments name x.0 x.1 words final)
    (sym same) later in (
      digits,
      words,
      is.number,
      rest.0,
      refl,
      is.in_range,
      rest.1,
      take_more name taken t (Number option is.number)
          rest.0 final is.first rest.2,
    )

-- the next word begins with a minus
tells_option : (name : CommandName) (taken : Taken) (word : List ℕ) (words : List (List ℕ))
    (next : Taken × Option OptionName) (final : Taken)
    (parts : Option (List ℕ × List ℕ)) → around_equals word ≡ parts → read_option name taken word parts ≡ Some next
    → TellsArguments name next.0 next.1 words final
    → TellsArguments name taken None (word ∷ words) final
tells_option name taken word words next final None around step later =
    let (option, named, same) = option_map_some (λ (o : OptionName). (taken, Some o)) (option_named word) next step in
    let found = option_found word option named in
    let rest : TellsArguments name taken (Some option) words final = subst
    (λ (x : Taken × Option OptionName). TellsArguments name x.0 x.1 words final) (sym same) later in
    let (digits, behind, number, arguments, words_are, in_range, spelled, all) = rest in (
      Number option number ∷ arguments,
      (
        word ∷ digits ∷ [],
        behind,
        record {
          built = found.1;
          digits = digits;
          in_range = in_range;
          spelled = inl
              (ap (λ (w : List ℕ). w ∷ digits ∷ []) found.0);
        },
        spelled,
        ap (λ (ws : List (List ℕ)). word ∷ ws) words_are,
      ),
      all,
    )
tells_option name taken word words next final (Some parts) around step later =
    let (option, named, given) = and_then_some (λ (o : OptionName). option_map (λ (t : Taken). (t, None))
    (take_digits name taken o parts.1)) (option_named parts.0) next step in
    let found = option_found parts.0 option named in
    let (t, there, same) = option_map_some (λ (t : Taken). (t, None)) (take_digits name taken option parts.1) next given in
    let is = digits_taken name taken option parts.1 t there in
    let rest : TellsArguments name t None words final = subst (λ (x : Taken × Option OptionName). TellsArguments name x.0 x.1 words final)
    (sym same) later in
    let whole : word ≡ option_name option ++ 61 ∷ parts.1 = joined word parts.0 parts.1 around
    ∙ ap (λ (front : List ℕ). front ++ 61 ∷ parts.1) found.0 in (
      Number option is.number ∷ rest.0,
      (
        word ∷ [],
        words,
        record {
          built = found.1;
          digits = parts.1;
          in_range = is.in_range;
          spelled = inr
              (ap (λ (w : List ℕ). w ∷ []) whole);
        },
        rest.1,
        refl,
      ),
      take_more name taken t (Number option is.number) rest.0 final is.first rest.2,
    )

tells_word : (name : CommandName) (taken : Taken) (word : List ℕ) (words : List (List ℕ))
    (next : Taken × Option OptionName) (final : Taken)
    (b : Bool) → is_option word ≡ b → cond b (read_option name taken word (around_equals word))
    (option_map (λ (t : Taken). (t, None)) (take_plain name taken word)) ≡ Some next
    → TellsArguments name next.0 next.1 words final → TellsArguments name taken None (word ∷ words) final
tells_word name taken word words next final true begins step later =
    tells_option name taken word words next final (around_equals word) refl step later
tells_word name taken word words next final false begins step later =
    let (t, there, same) = option_map_some (λ (t : Taken). (t, None)) (take_plain name taken word) next step in
    let rest : TellsArguments name t None words final = subst (λ (x : Taken × Option OptionName). TellsArguments name x.0 x.1 words final)
    (sym same) later in (
      Plain word ∷ rest.0,
      (word ∷ [], words, (begins, refl), rest.1, refl),
      take_more name taken t (Plain word) rest.0
          final there rest.2,
    )

tells : (name : CommandName) (words : List (List ℕ)) (taken final : Taken) (waiting : Option OptionName)
    → read_words name taken waiting words ≡ Some final → TellsArguments name taken waiting words final
tells name [] taken final None is = ([], refl, is)
tells name [] taken final (Some option) is = absurd (none-some final is)
tells name (word ∷ words) taken final None is =
    let (next, step, later) = and_then_some (λ (x : Taken × Option OptionName). read_words name x.0 x.1 words)
    (read_word name taken None word) final is in
    tells_word name taken word words next final (is_option word) refl step (tells name words next.0 final next.1 later)
tells name (word ∷ words) taken final (Some option) is =
    let (next, step, later) = and_then_some (λ (x : Taken × Option OptionName). read_words name x.0 x.1 words)
    (read_word name taken (Some option) word) final is in
    tells_digits name taken option word words next final step (tells name words next.0 final next.1 later)

-- words that are read spell arguments that are taken
pub arguments_are_read : (name : CommandName) (words : List (List ℕ)) (taken final : Taken)
    → read_words name taken None words ≡ Some final
    → (arguments : List Argument) × AreSpelled name arguments words × (take_all name taken arguments ≡ Some final)
arguments_are_read name words taken final is = tells name words taken final None is

-- ---- words that spell arguments are read
digits_read : (name : CommandName) (taken next : Taken) (option : OptionName) (digits : List ℕ) (number : ℕ)
    → IsNumberFromTo (least_number name option) (most_number name option) digits number
    → take_number name taken option number ≡ Some next → take_digits name taken option digits ≡ Some next
digits_read name taken next option digits number in_range first =
    ap (option_and_then (take_number name taken option)) (number_read (least_number name option) (most_number name option) digits
    number in_range)
    ∙ first

read_more : (name : CommandName) (taken : Taken) (waiting : Option OptionName) (word : List ℕ) (words : List (List ℕ))
    (next : Taken × Option OptionName) (final : Taken)
    → read_word name taken waiting word ≡ Some next → read_words name next.0 next.1 words ≡ Some final
    → read_words name taken waiting (word ∷ words) ≡ Some final
read_more name taken None word words next final step later =
    ap (option_and_then (λ (x : Taken × Option OptionName). read_words name x.0 x.1 words)) step ∙ later
read_more name taken (Some option) word words next final step later =
    ap (option_and_then (λ (x : Taken × Option OptionName). read_words name x.0 x.1 words)) step ∙ later

abbrev chosen : CommandName → Taken → List ℕ → Bool → Option (List ℕ × List ℕ) → Option (Taken × Option OptionName)
chosen name taken word b parts =
    cond b (read_option name taken word parts) (option_map (λ (t : Taken). (t, None)) (take_plain name taken word))

name_read : (name : CommandName) (taken : Taken) (option : OptionName) → Contains built_options option
    → read_word name taken None (option_name option) ≡ Some (taken, Some option)
name_read name taken option built =
    ap (λ (b : Bool). chosen name taken (option_name option) b (around_equals (option_name option)))
    (name_alone_is_option option)
    ∙ ap (λ (parts : Option (List ℕ × List ℕ)). chosen name taken (option_name option) true parts) (name_alone option)
    ∙ ap (option_map (λ (o : OptionName). (taken, Some o))) (option_by_name option built)

joined_read : (name : CommandName) (taken next : Taken) (option : OptionName) (digits : List ℕ)
    → Contains built_options option → take_digits name taken option digits ≡ Some next
    → read_word name taken None (option_name option ++ 61 ∷ digits) ≡ Some (next, None)
joined_read name taken next option digits built given =
    let word = option_name option ++ 61 ∷ digits in
    ap (λ (b : Bool). chosen name taken word b (around_equals word)) (name_is_option option (61 ∷ digits))
    ∙ ap (λ (parts : Option (List ℕ × List ℕ)). chosen name taken word true parts) (name_and_digits option digits)
    ∙ ap (option_and_then (λ (o : OptionName). option_map (λ (t : Taken). (t, None)) (take_digits name taken o digits)))
    (option_by_name option built)
    ∙ ap (option_map (λ (t : Taken). (t, None))) given

-- all words are read that spell arguments which are taken
pub arguments_read : (name : CommandName) (arguments : List Argument) (words : List (List ℕ)) (taken final : Taken)
    → AreSpelled name arguments words → take_all name taken arguments ≡ Some final
    → read_words name taken None words ≡ Some final
arguments_read name [] words taken final spelled is =
    subst (λ (ws : List (List ℕ)). read_words name taken None ws ≡ Some final) (sym spelled) is
arguments_read name (Plain word ∷ arguments) words taken final (front, rest, (begins, front_is), spelled, words_are) is
    =
    let (next, first, later) = and_then_some (λ (t : Taken). take_all name t arguments) (take_plain name taken word)
    final is in
    let whole : words ≡ word ∷ rest = words_are ∙ ap (λ (ws : List (List ℕ)). ws ++ rest) front_is in
    let step : read_word name taken None word ≡ Some (next, None) = ap
    (λ (b : Bool). chosen name taken word b (around_equals word)) begins
    ∙ ap (option_map (λ (t : Taken). (t, None))) first in
    subst (λ (ws : List (List ℕ)). read_words name taken None ws ≡ Some final) (sym whole)
    (read_more name taken None word rest (next, None) final step
    (arguments_read name arguments rest next final spelled later))
arguments_read name (Number option number ∷ arguments) words taken final (front, rest, known, spelled, words_are) is =
    let (next, first, later) = and_then_some (λ (t : Taken). take_all name t arguments)
    (take_number name taken option number) final is in
    let given = digits_read name taken next option known.digits number known.in_range first in
    let behind = arguments_read name arguments rest next final spelled later in
    ⊎_elim
    (λ two.
    let whole : words ≡ option_name option ∷ known.digits ∷ rest = words_are
    ∙ ap (λ (ws : List (List ℕ)). ws ++ rest) two in
    subst (λ (ws : List (List ℕ)). read_words name taken None ws ≡ Some final) (sym whole)
    (read_more name taken None (option_name option) (known.digits ∷ rest) (taken, Some option) final
    (name_read name taken option known.built)
    (read_more name taken (Some option) known.digits rest (next, None) final
    (ap (option_map (λ (t : Taken). (t, None))) given) behind)))
    (λ one.
    let whole : words ≡ (option_name option ++ 61 ∷ known.digits) ∷ rest = words_are
    ∙ ap (λ (ws : List (List ℕ)). ws ++ rest) one in
    subst (λ (ws : List (List ℕ)). read_words name taken None ws ≡ Some final) (sym whole)
    (read_more name taken None (option_name option ++ 61 ∷ known.digits) rest (next, None) final
    (joined_read name taken next option known.digits known.built given) behind))
    known.spelled
