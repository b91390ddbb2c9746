-- What is found by its name in a list, and the parts of an option's word.
use Rattle.std.proofs.Common.{◌≡◌, ◌⊎◌, ℕ, zero, suc, ◌<◌, Bool, true, false, cond, ◌==◌, List, [], ◌∷◌, ◌++◌, length, slice_index_or, Option, Some, None, refl}
use Rattle.std.proofs.Common.{sym, ap, ◌∙◌, inl, inr, arith}
use Rattle.std.specs.List.{Contains, find}
use Rattle.std.specs.Option.{option_map, option_and_then}
use Rattle.std.proofs.lemmas.Bool.Decides.{Decides-eqb}
use Rattle.std.proofs.lemmas.Bool.{eqb-true}
use Rattle.std.proofs.lemmas.Option.{none-some, same_Some}
use Rattle.std.proofs.lemmas.Slice.Eq.{slice_eq-Decides}
use Rattle.def_sums.proofs.RisingLists.{Contains-tail}
use Rattle.def_fraction.proofs.LiteralLemmas.{option_map_some}
use Rattle.def_command.specs.Words.{is_option, is_word}
use Rattle.def_command.specs.Table.{CommandName, OptionName, Solve, Check, Upgrade, Info, Gen, Drill, Plus, Batch, Rounds, Every, Scale, Workers, Atomic}
use Rattle.def_command.specs.Table.{command_word, option_name, built_commands, built_options}
use Rattle.def_command.specs.Grammar.{command_named, option_named, around_equals}

-- ---- lists
contains_cases : {A : Type 0} (x y : A) (xs : List A) (k : ℕ) → k < length (x ∷ xs) → slice_index_or (x ∷ xs) k y ≡ y
    → (x ≡ y) ⊎ Contains xs y
contains_cases x y xs zero within is = inl is
contains_cases x y xs (suc k) within is = inr (k, omega arith, is)

contains_first : {A : Type 0} (x y : A) (xs : List A) → Contains (x ∷ xs) y → (x ≡ y) ⊎ Contains xs y
contains_first x y xs (k, within, is) = contains_cases x y xs k within is

contains_none : {A : Type 0} (y : A) → Contains [] y → ⊥
contains_none y (k, within, is) = omega arith

-- what a search finds passes the test and is in the list
found_at : {A : Type 0} (test : A → Bool) (y : A) (ys : List A) (x : A) (b : Bool) → test y ≡ b
    → (find test ys ≡ Some x → (test x ≡ true) × Contains ys x)
    → cond b (Some y) (find test ys) ≡ Some x → (test x ≡ true) × Contains (y ∷ ys) x
found_at test y ys x true passes later is =
    let same : y ≡ x = same_Some y x is in
    (ap test (sym same) ∙ passes, (0, omega arith, same))
found_at test y ys x false passes later is = let r = later is in (r.0, Contains-tail y x ys r.1)

found : {A : Type 0} (test : A → Bool) (xs : List A) (x : A) → find test xs ≡ Some x → (test x ≡ true) × Contains xs x
found test [] x is = absurd (none-some x is)
found test (y ∷ ys) x is = found_at test y ys x (test y) refl (found test ys x) is

-- ---- names
same_word : (a b : List ℕ) → is_word a b ≡ true → a ≡ b
same_word a b h = (slice_eq-Decides Decides-eqb a b _ refl).0 h

-- the command that a word names is built, and its word is that one
pub command_found : (word : List ℕ) (name : CommandName) → command_named word ≡ Some name
    → (word ≡ command_word name) × Contains built_commands name
command_found word name is =
    let r = found (λ (c : CommandName). is_word word (command_word c)) built_commands name is in
    (same_word word (command_word name) r.0, r.1)

-- the same of an option
pub option_found : (word : List ℕ) (option : OptionName) → option_named word ≡ Some option
    → (word ≡ option_name option) × Contains built_options option
option_found word option is =
    let r = found (λ (o : OptionName). is_word word (option_name o)) built_options option is in
    (same_word word (option_name option) r.0, r.1)

-- a built command is found by its word
pub command_by_word : (name : CommandName) → Contains built_commands name
    → command_named (command_word name) ≡ Some name
command_by_word Solve built = refl
command_by_word Check built = refl
command_by_word Upgrade built = refl
command_by_word Info built = refl
command_by_word Gen built = refl
command_by_word Drill built = refl
command_by_word Plus built = refl
command_by_word Batch built = refl

-- a built option is found by its name
pub option_by_name : (option : OptionName) → Contains built_options option
    → option_named (option_name option) ≡ Some option
option_by_name Rounds built = refl
option_by_name Every built = refl
option_by_name Scale built = refl
option_by_name Workers built = refl
option_by_name Atomic built = refl

-- ---- the parts of an option's word
-- what begins with an option's name begins with a minus
pub name_is_option : (option : OptionName) (rest : List ℕ) → is_option (option_name option ++ rest) ≡ true
name_is_option Rounds rest = refl
name_is_option Every rest = refl
name_is_option Scale rest = refl
name_is_option Workers rest = refl
name_is_option Atomic rest = refl

-- and so does the name alone
pub name_alone_is_option : (option : OptionName) → is_option (option_name option) ≡ true
name_alone_is_option Rounds = refl
name_alone_is_option Every = refl
name_alone_is_option Scale = refl
name_alone_is_option Workers = refl
name_alone_is_option Atomic = refl

-- an option's name has no `=`
pub name_alone : (option : OptionName) → around_equals (option_name option) ≡ None
name_alone Rounds = refl
name_alone Every = refl
name_alone Scale = refl
name_alone Workers = refl
name_alone Atomic = refl

-- the first `=` of an option's word stands behind its name
pub name_and_digits : (option : OptionName) (digits : List ℕ)
    → around_equals (option_name option ++ 61 ∷ digits) ≡ Some (option_name option, digits)
name_and_digits Rounds digits = refl
name_and_digits Every digits = refl
name_and_digits Scale digits = refl
name_and_digits Workers digits = refl
name_and_digits Atomic digits = refl

-- where a chain gives something, its first part does
pub and_then_some : {A B : Type 0} (f : A → Option B) (o : Option A) (y : B) → option_and_then f o ≡ Some y
    → (x : A) × (o ≡ Some x) × (f x ≡ Some y)
and_then_some f None y is = absurd (none-some y is)
and_then_some f (Some x) y is = (x, refl, is)

abbrev around_at : Bool → ℕ → List ℕ → Option (List ℕ × List ℕ)
around_at true byte bytes = Some ([], bytes)
around_at false byte bytes = option_map (λ (parts : List ℕ × List ℕ). (byte ∷ parts.0, parts.1)) (around_equals bytes)

around_is : (byte : ℕ) (bytes : List ℕ) (b : Bool) → (byte == 61) ≡ b
    → around_at b byte bytes ≡ around_equals (byte ∷ bytes)
around_is byte bytes true is = rw is refl
around_is byte bytes false is = rw is refl

rejoined : (byte : ℕ) (bytes a b front back : List ℕ) → byte ∷ a ≡ front → b ≡ back → bytes ≡ a ++ 61 ∷ b
    → byte ∷ bytes ≡ front ++ 61 ∷ back
rejoined byte bytes a b front back first second whole =
    ap (λ (xs : List ℕ). byte ∷ xs) whole ∙ ap (λ (xs : List ℕ). xs ++ 61 ∷ b) first
    ∙ ap (λ (xs : List ℕ). front ++ 61 ∷ xs) second

joined_at : (byte : ℕ) (bytes front back : List ℕ) (b : Bool) → (byte == 61) ≡ b
    → ((front back : List ℕ) → around_equals bytes ≡ Some (front, back) → bytes ≡ front ++ 61 ∷ back)
    → around_at b byte bytes ≡ Some (front, back)
    → byte ∷ bytes ≡ front ++ 61 ∷ back
joined_at byte bytes front back true equals later is =
    let parts = same_Some _ _ is in
    let first : [] ≡ front = ap (λ (x : List ℕ × List ℕ). x.0) parts in
    let second : bytes ≡ back = ap (λ (x : List ℕ × List ℕ). x.1) parts in
    let at : byte ≡ 61 = eqb-true byte 61 equals in
    rw (← first, ← second, at) refl
joined_at byte bytes front back false equals later is =
    let (parts, there, same) = option_map_some (λ (parts : List ℕ × List ℕ). (byte ∷ parts.0, parts.1))
    (around_equals bytes) (front, back) is in
    let first : byte ∷ parts.0 ≡ front = ap (λ (x : List ℕ × List ℕ). x.0) same in
    let second : parts.1 ≡ back = ap (λ (x : List ℕ × List ℕ). x.1) same in
    let rest : bytes ≡ parts.0 ++ 61 ∷ parts.1 = later parts.0 parts.1 there in
    rejoined byte bytes parts.0 parts.1 front back first second rest

-- the word is its parts with the `=` between them
pub joined : (word front back : List ℕ) → around_equals word ≡ Some (front, back) → word ≡ front ++ 61 ∷ back
joined [] front back is = absurd (none-some (front, back) is)
joined (byte ∷ bytes) front back is =
    joined_at byte bytes front back (byte == 61) refl (joined bytes) (around_is byte bytes (byte == 61) refl ∙ is)
