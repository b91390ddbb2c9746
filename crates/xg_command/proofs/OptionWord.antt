-- A word that begins with a minus, by the option that it names.
use Rattle.std.proofs.Common.{◌≡◌, ℕ, List, Option, Some, None, ap, ◌∙◌}
use Rattle.std.specs.Option.{option_map, option_and_then}
use Rattle.def_command.specs.Table.{CommandName, OptionName}
use Rattle.def_command.specs.Grammar.{Taken, around_equals, option_named, read_option, take_digits}

-- a map of nothing
pub absent : {A B : Type 0} (f : A → B) (o : Option A) → o ≡ None → option_map f o ≡ None
absent f o is = ap (option_map f) is

module _ (name : CommandName) (taken : Taken) (word : List ℕ) (named : Option OptionName) where
  -- a word with a `=` is read as the option that its front names, with the digits behind the `=`
  pub joined_option : (front digits : List ℕ) → around_equals word ≡ Some (front, digits) → option_named front ≡ named
      → read_option name taken word (around_equals word)
      ≡ option_and_then (λ (o : OptionName). option_map (λ (t : Taken). (t, None)) (take_digits name taken o digits))
      named
  joined_option front digits around is =
      ap (read_option name taken word) around
      ∙ ap (option_and_then (λ (o : OptionName). option_map (λ (t : Taken). (t, None))
      (take_digits name taken o digits))) is

  -- a word without a `=` is read as the option that it names, whose number is still to come
  pub option_alone : around_equals word ≡ None → option_named word ≡ named
      → read_option name taken word (around_equals word) ≡ option_map (λ (o : OptionName). (taken, Some o)) named
  option_alone around is = ap (read_option name taken word) around
      ∙ ap (option_map (λ (o : OptionName). (taken, Some o))) is
