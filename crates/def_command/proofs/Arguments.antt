-- Taking arguments one after another.
use Rattle.std.proofs.Common.{◌≡◌, ◌⊎◌, ⊎_elim, ℕ, ◌+◌, ◌<◌, ◌≤◌, Bool, true, false, cond, List, [], ◌∷◌, ◌++◌, length, Option, Some, None, refl, sym, ap, ◌∙◌}
use Rattle.std.proofs.Common.{subst, inl, inr, append_assoc, arith}
use Rattle.std.specs.Option.{option_and_then, option_or, is_none}
use Rattle.std.proofs.lemmas.Bool.{and_from, and_parts, lt-ltb, ltb-true}
use Rattle.std.proofs.lemmas.List.{append-nil, length-append}
use Rattle.std.proofs.lemmas.Option.{none-some, same_Some, cond_some}
use Rattle.def_command.specs.Table.{CommandName, OptionName, Rounds, Every, Scale, Workers, Atomic, most_plain, takes}
use Rattle.def_command.specs.Grammar.{Argument, Plain, Number, Taken, NumbersSoFar, number_so_far, with_number, take_plain, take_number, plain_words}
use Rattle.def_command.specs.Grammar.{number_given, is_same_option, AreOptionsOf}
use Rattle.def_command.proofs.CommandAndOptionNames.{and_then_some}

-- one argument is taken
abbrev pub take_argument : CommandName → Taken → Argument → Option Taken
take_argument name taken (Plain word) = take_plain name taken word
take_argument name taken (Number option number) = take_number name taken option number

-- all of them, one after another
abbrev pub take_all : CommandName → Taken → List Argument → Option Taken
take_all name taken [] = Some taken
take_all name taken (argument ∷ arguments) =
    option_and_then (λ next. take_all name next arguments) (take_argument name taken argument)

-- the arguments were added to what was taken before
pub record Merges (name : CommandName) (taken : Taken) (arguments : List Argument) (final : Taken) : Type 0 where
  pub plain : final.plain ≡ taken.plain ++ plain_words arguments
  pub numbers : (option : OptionName)
      → number_so_far final.numbers option
      ≡ option_or (number_so_far taken.numbers option) (number_given option arguments)
  pub options : AreOptionsOf name arguments
  pub apart : (option : OptionName)
      → (number_so_far taken.numbers option ≡ None) ⊎ (number_given option arguments ≡ None)

-- ---- options
-- names that are the same option are one name
pub same_option : (a b : OptionName) → is_same_option a b ≡ true → a ≡ b
same_option Rounds Rounds is = refl
same_option Every Every is = refl
same_option Scale Scale is = refl
same_option Workers Workers is = refl
same_option Atomic Atomic is = refl
same_option a b is = cc

same_itself : (option : OptionName) → is_same_option option option ≡ true
same_itself Rounds = refl
same_itself Every = refl
same_itself Scale = refl
same_itself Workers = refl
same_itself Atomic = refl

number_in-with : (numbers : NumbersSoFar) (option other : OptionName) (number : ℕ)
    → number_so_far (with_number numbers other number) option ≡ cond (is_same_option option other) (Some number)
    (number_so_far numbers option)
number_in-with numbers Rounds Rounds number = refl
number_in-with numbers Every Every number = refl
number_in-with numbers Scale Scale number = refl
number_in-with numbers Workers Workers number = refl
number_in-with numbers Atomic Atomic number = refl
number_in-with numbers option other number = refl

option_or-none : {A : Type 0} (o : Option A) → o ≡ option_or o None
option_or-none None = refl
option_or-none (Some x) = refl

none_from_test : (o : Option ℕ) → is_none o ≡ true → o ≡ None
none_from_test None is = refl
none_from_test (Some x) is = cc

-- ---- what was taken tells the arguments
module _ (numbers : NumbersSoFar) (option other : OptionName) (number : ℕ) (given : Option ℕ)
    (free : number_so_far numbers other ≡ None) where
  number_merged : (b : Bool) → is_same_option option other ≡ b
      → option_or (number_so_far (with_number numbers other number) option) given
      ≡ option_or (number_so_far numbers option)
      (cond (is_same_option option other) (Some number) given)
  number_merged true same =
      let e : option ≡ other = same_option option other same in
      let left : number_so_far (with_number numbers other number) option ≡ Some number = number_in-with numbers option other
      number
      ∙ ap (λ b. cond b (Some number) (number_so_far numbers option)) same in
      let right : number_so_far numbers option ≡ None = ap (number_so_far numbers) e ∙ free in
      ap (λ o. option_or o given) left
      ∙ sym (ap (λ o. option_or o (cond (is_same_option option other) (Some number) given)) right
      ∙ ap (λ b. option_or None (cond b (Some number) given)) same)
  number_merged false same =
      let left : number_so_far (with_number numbers other number) option ≡ number_so_far numbers option = number_in-with numbers
      option other number
      ∙ ap (λ b. cond b (Some number) (number_so_far numbers option)) same in
      ap (λ o. option_or o given) left
      ∙ sym (ap (λ b. option_or (number_so_far numbers option) (cond b (Some number) given)) same)

  number_apart : (b : Bool) → is_same_option option other ≡ b
      → (number_so_far (with_number numbers other number) option ≡ None) ⊎ (given ≡ None)
      → (number_so_far numbers option ≡ None) ⊎ (cond (is_same_option option other) (Some number) given ≡ None)
  number_apart true same later = inl (ap (number_so_far numbers) (same_option option other same) ∙ free)
  number_apart false same later =
      let left : number_so_far (with_number numbers other number) option ≡ number_so_far numbers option = number_in-with numbers
      option other number
      ∙ ap (λ b. cond b (Some number) (number_so_far numbers option)) same in
      ⊎_elim (λ e. inl (sym left ∙ e)) (λ e. inr (ap (λ b. cond b (Some number) given) same ∙ e)) later

given_once : (numbers : NumbersSoFar) (option : OptionName) (number : ℕ) (given : Option ℕ)
    → (number_so_far (with_number numbers option number) option ≡ None) ⊎ (given ≡ None) → given ≡ None
given_once numbers option number given later =
    let there : number_so_far (with_number numbers option number) option ≡ Some number = number_in-with numbers option
    option number
    ∙ ap (λ b. cond b (Some number) (number_so_far numbers option)) (same_itself option) in
    ⊎_elim (λ e. absurd (none-some number (sym e ∙ there))) (λ e. e) later

-- arguments that are taken were added
pub merges : (name : CommandName) (arguments : List Argument) (taken final : Taken)
    → take_all name taken arguments ≡ Some final → Merges name taken arguments final
merges name [] taken final is =
    let same : taken ≡ final = same_Some taken final is in
    subst (Merges name taken []) same (record {
      plain = sym (append-nil taken.plain);
      numbers = λ option. option_or-none (number_so_far taken.numbers option);
      options = tt;
      apart = λ option. inr refl;
    })
merges name (Plain word ∷ arguments) taken final is =
    let (next, first, later) = and_then_some (λ next. take_all name next arguments) (take_plain name taken word) final
    is in
    let same : record taken { plain = taken.plain ++ word ∷ [] } ≡ next = (cond_some _ _ _ first).1 in
    let m = subst (λ (t : Taken). Merges name t arguments final) (sym same) (merges name arguments next final later) in
    record {
      plain = m.plain ∙ append_assoc taken.plain (word ∷ []) (plain_words arguments);
      numbers = m.numbers;
      options = m.options;
      apart = m.apart;
    }
merges name (Number option number ∷ arguments) taken final is =
    let (next, first, later) = and_then_some (λ next. take_all name next arguments)
    (take_number name taken option number) final is in
    let tests = cond_some _ _ _ first in
    let parts = and_parts (takes name option) (is_none (number_so_far taken.numbers option)) tests.0 in
    let free : number_so_far taken.numbers option ≡ None = none_from_test (number_so_far taken.numbers option) parts.1 in
    let same : record taken { numbers = with_number taken.numbers option number } ≡ next = tests.1 in
    let m = subst (λ (t : Taken). Merges name t arguments final) (sym same) (merges name arguments next final later) in
    record {
      plain = m.plain;
      numbers = λ o. m.numbers o
          ∙ number_merged taken.numbers o option number (number_given o arguments) free (is_same_option o option) refl;
      options =
          (parts.0, given_once taken.numbers option number (number_given option arguments) (m.apart option), m.options);
      apart = λ o. number_apart taken.numbers o option number (number_given o arguments) free (is_same_option o option)
          refl (m.apart o);
    }

-- no more plain words are taken than the command has
pub few_taken : (name : CommandName) (arguments : List Argument) (taken final : Taken)
    → take_all name taken arguments ≡ Some final → length taken.plain ≤ most_plain name
    → length final.plain ≤ most_plain name
few_taken name [] taken final is few =
    subst (λ (t : Taken). length t.plain ≤ most_plain name) (same_Some taken final is) few
few_taken name (Plain word ∷ arguments) taken final is few =
    let (next, first, later) = and_then_some (λ next. take_all name next arguments) (take_plain name taken word) final
    is in
    let tests = cond_some _ _ _ first in
    let room : length taken.plain < most_plain name = ltb-true (length taken.plain) (most_plain name) tests.0 in
    let longer : length (taken.plain ++ word ∷ []) ≡ length taken.plain + 1 = length-append taken.plain (word ∷ []) in
    let plain : taken.plain ++ word ∷ [] ≡ next.plain = ap (λ (t : Taken). t.plain) tests.1 in
    let more : length next.plain ≡ length taken.plain + 1 = ap length (sym plain) ∙ longer in
    few_taken name arguments next final later (omega (arith, room, more))
few_taken name (Number option number ∷ arguments) taken final is few =
    let (next, first, later) = and_then_some (λ next. take_all name next arguments)
    (take_number name taken option number) final is in
    let plain : taken.plain ≡ next.plain = ap (λ (t : Taken). t.plain) (cond_some _ _ _ first).1 in
    few_taken name arguments next final later
    (subst (λ (words : List (List ℕ)). length words ≤ most_plain name) plain few)

-- ---- arguments that fit are taken
module _ (numbers : NumbersSoFar) (option other : OptionName) (number : ℕ) (given : Option ℕ)
    (once : option ≡ other → given ≡ None) where
  stays_apart : (b : Bool) → is_same_option option other ≡ b
      → (number_so_far numbers option ≡ None) ⊎ (cond (is_same_option option other) (Some number) given ≡ None)
      → (number_so_far (with_number numbers other number) option ≡ None) ⊎ (given ≡ None)
  stays_apart true same before = inr (once (same_option option other same))
  stays_apart false same before =
      let left : number_so_far (with_number numbers other number) option ≡ number_so_far numbers option = number_in-with numbers
      option other number
      ∙ ap (λ b. cond b (Some number) (number_so_far numbers option)) same in
      ⊎_elim (λ e. inl (left ∙ e)) (λ e. inr (sym (ap (λ b. cond b (Some number) given) same) ∙ e)) before

free_before : (numbers : NumbersSoFar) (option : OptionName) (number : ℕ) (given : Option ℕ)
    → (number_so_far numbers option ≡ None) ⊎ (cond (is_same_option option option) (Some number) given ≡ None)
    → is_none (number_so_far numbers option) ≡ true
free_before numbers option number given before =
    ⊎_elim (λ e. ap is_none e)
    (λ e. absurd (none-some number (sym e ∙ ap (λ b. cond b (Some number) given) (same_itself option)))) before

-- they are taken where each is given once and there is room for the plain words
pub taken_all : (name : CommandName) (arguments : List Argument) (taken : Taken) → AreOptionsOf name arguments
    → ((option : OptionName) → (number_so_far taken.numbers option ≡ None) ⊎ (number_given option arguments ≡ None))
    → length taken.plain + length (plain_words arguments) ≤ most_plain name
    → (final : Taken) × (take_all name taken arguments ≡ Some final)
taken_all name [] taken options apart room = (taken, refl)
taken_all name (Plain word ∷ arguments) taken options apart room =
    let next : Taken = record taken { plain = taken.plain ++ word ∷ [] } in
    let longer : length next.plain ≡ length taken.plain + 1 = length-append taken.plain (word ∷ []) in
    let first : take_plain name taken word ≡ Some next = ap (λ b. cond b (Some next) None)
    (lt-ltb (length taken.plain) (most_plain name) (omega arith)) in
    let later = taken_all name arguments next options apart (omega arith) in
    (later.0, ap (option_and_then (λ next. take_all name next arguments)) first ∙ later.1)
taken_all name (Number option number ∷ arguments) taken (takes_it, once, options) apart room =
    let next : Taken = record taken { numbers = with_number taken.numbers option number } in
    let free = free_before taken.numbers option number (number_given option arguments) (apart option) in
    let first : take_number name taken option number ≡ Some next = ap (λ b. cond b (Some next) None)
    (and_from (takes name option) (is_none (number_so_far taken.numbers option)) takes_it free) in
    let later = taken_all name arguments next options
    (λ o. stays_apart taken.numbers o option number (number_given o arguments)
    (λ e. ap (λ (x : OptionName). number_given x arguments) e ∙ once) (is_same_option o option) refl (apart o))
    room in
    (later.0, ap (option_and_then (λ next. take_all name next arguments)) first ∙ later.1)
