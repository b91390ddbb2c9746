-- A fault is read back from its line, so that the line tells it.
use Rattle.std.proofs.Common.{◌≡◌, ℕ, ◌^◌, ◌<◌, true, cond, eqb, List, [], ◌∷◌, ◌++◌, drop, get_or, Option, Some, None, refl, sym, ap, ◌∙◌, arith}
use Rattle.std.specs.Prelude.{codes}
use Rattle.std.specs.Option.{option_map_or}
use Rattle.std.specs.Str.{all_ascii_digits}
use Rattle.std.specs.Str.Parse.{AllDigits, digits_value}
use Rattle.std.specs.Fmt.{decimal}
use Rattle.std.proofs.lemmas.Str.Parse.{digit_from_value, tells_all_ascii_digits}
use Rattle.std.proofs.lemmas.Fmt.{decimal_is_IsNumeral}
use Rattle.def_fraction.specs.Digits.{leading_digits, after_digits}
use Rattle.def_fraction.specs.declared.fault.NumberFault.{NumberFault}
use Rattle.def_fraction.specs.declared.fault.NumberFault.TheVariants.{Form, ZeroDenominator, Range}
use Rattle.def_fraction.proofs.LiteralLemmas.{BeginsElsewhere, leading_digits-append, after_digits-append}
use Rattle.def_file.specs.declared.FileFault.{FileFault}
use Rattle.def_file.specs.declared.FileFault.TheVariants.{TooLong, Syntax, UnexpectedEnd, TrailingText, Number, Players, PlayerNumber, SetUndefined}
use Rattle.def_file.specs.declared.FileFault.TheVariants.{SetMismatch, OutcomeUndefined, OutcomeMismatch, PayoffCount, TooManyNodes, ActionCount}
use Rattle.def_file.specs.declared.FileFault.TheVariants.{ChanceNegative, ChanceSum, NotConstantSum, NotRecall, Scale}
use Rattle.def_program.specs.Text.{line_feed}
use Rattle.def_program.specs.TextLines.{number_fault_name, fault_line}
use Rattle.def_program.specs.TextLaws.{HasNarrowNumbers}

-- ---- numbers

all_digits : (ds : List ℕ) → AllDigits 10 ds → all_ascii_digits ds ≡ true
all_digits [] h = refl
all_digits (d ∷ ds) h = tells_all_ascii_digits.more d ds (digit_from_value d h.0) (all_digits ds h.1)

-- the number that a text begins with
abbrev number_in : List ℕ → ℕ
number_in bytes = digits_value 10 (leading_digits bytes)

number_found : (n : ℕ) (rest : List ℕ) → n < 2 ^ 64 → BeginsElsewhere rest → number_in (decimal n ++ rest) ≡ n
number_found n rest h elsewhere =
    let numeral = decimal_is_IsNumeral n h in
    ap (digits_value 10) (leading_digits-append (decimal n) rest (all_digits (decimal n) numeral.0.1) elsewhere)
    ∙ numeral.1

rest_found : (n : ℕ) (rest : List ℕ) → n < 2 ^ 64 → BeginsElsewhere rest → after_digits (decimal n ++ rest) ≡ rest
rest_found n rest h elsewhere =
    let numeral = decimal_is_IsNumeral n h in
    after_digits-append (decimal n) rest (all_digits (decimal n) numeral.0.1) elsewhere

-- ---- faults

-- the fault of a number whose name is behind a space, by the name's first letter
abbrev name_in : List ℕ → NumberFault
name_in bytes = cond (eqb (get_or bytes 1 0) 70) Form (cond (eqb (get_or bytes 1 0) 90) ZeroDenominator Range)

abbrev number_of_line : List ℕ → FileFault
number_of_line bytes = Number (number_in bytes) (name_in (after_digits bytes))

abbrev recall_of_line : List ℕ → FileFault
recall_of_line bytes = NotRecall (number_in bytes) (number_in (drop 9 (after_digits bytes)))

-- how a line begins, and the fault by what is behind
record FaultLine : Type 0 where
  front : List ℕ
  fault : List ℕ → FileFault

abbrev rows : List FaultLine
rows =
    record { front = codes "refused 1 TooLong"; fault = λ bytes. TooLong }
    ∷ record { front = codes "refused 2 Syntax at "; fault = λ bytes. Syntax (number_in bytes) }
    ∷ record { front = codes "refused 3 UnexpectedEnd"; fault = λ bytes. UnexpectedEnd }
    ∷ record { front = codes "refused 4 TrailingText at "; fault = λ bytes. TrailingText (number_in bytes) }
    ∷ record { front = codes "refused 5 Number at "; fault = number_of_line }
    ∷ record { front = codes "refused 6 Players count "; fault = λ bytes. Players (number_in bytes) }
    ∷ record { front = codes "refused 7 PlayerNumber node "; fault = λ bytes. PlayerNumber (number_in bytes) }
    ∷ record { front = codes "refused 8 SetUndefined node "; fault = λ bytes. SetUndefined (number_in bytes) }
    ∷ record { front = codes "refused 9 SetMismatch node "; fault = λ bytes. SetMismatch (number_in bytes) }
    ∷ record { front = codes "refused 10 OutcomeUndefined node "; fault = λ bytes. OutcomeUndefined (number_in bytes) }
    ∷ record { front = codes "refused 11 OutcomeMismatch node "; fault = λ bytes. OutcomeMismatch (number_in bytes) }
    ∷ record { front = codes "refused 12 PayoffCount node "; fault = λ bytes. PayoffCount (number_in bytes) }
    ∷ record { front = codes "refused 13 TooManyNodes"; fault = λ bytes. TooManyNodes }
    ∷ record { front = codes "refused 14 ActionCount node "; fault = λ bytes. ActionCount (number_in bytes) }
    ∷ record { front = codes "refused 15 ChanceNegative node "; fault = λ bytes. ChanceNegative (number_in bytes) }
    ∷ record { front = codes "refused 16 ChanceSum node "; fault = λ bytes. ChanceSum (number_in bytes) }
    ∷ record { front = codes "refused 17 NotConstantSum node "; fault = λ bytes. NotConstantSum (number_in bytes) }
    ∷ record { front = codes "refused 18 NotRecall node "; fault = recall_of_line }
    ∷ record { front = codes "refused 19 Scale node "; fault = λ bytes. Scale (number_in bytes) } ∷ []

-- what is behind such a begin
abbrev behind : List ℕ → List ℕ → Option (List ℕ)
behind [] line = Some line
behind (byte ∷ front) [] = None
behind (byte ∷ front) (b ∷ line) = cond (eqb byte b) (behind front line) None

abbrev fault_by : List FaultLine → List ℕ → FileFault
fault_by [] line = TooLong
fault_by (row ∷ more) line = option_map_or row.fault (behind row.front line) (fault_by more line)

-- the fault of a line
abbrev pub fault_of_line : List ℕ → FileFault
fault_of_line line = fault_by rows line

named : (at : ℕ) (fault : NumberFault) → at < 2 ^ 64
    → number_of_line (decimal at ++ (codes " " ++ (number_fault_name fault ++ line_feed))) ≡ Number at fault
named at Form h =
    let n = number_found at (codes " Form" ++ line_feed) h refl in
    let r = rest_found at (codes " Form" ++ line_feed) h refl in
    rw (n, r) refl
named at ZeroDenominator h =
    let n = number_found at (codes " ZeroDenominator" ++ line_feed) h refl in
    let r = rest_found at (codes " ZeroDenominator" ++ line_feed) h refl in
    rw (n, r) refl
named at Range h =
    let n = number_found at (codes " Range" ++ line_feed) h refl in
    let r = rest_found at (codes " Range" ++ line_feed) h refl in
    rw (n, r) refl

recalled : (node earlier : ℕ) → node < 2 ^ 64 → earlier < 2 ^ 64
    → recall_of_line (decimal node ++ (codes " earlier " ++ (decimal earlier ++ line_feed))) ≡ NotRecall node earlier
recalled node earlier h k =
    let tail = codes " earlier " ++ (decimal earlier ++ line_feed) in
    let n = number_found node tail h refl in
    let r = rest_found node tail h refl in
    let m = number_found earlier line_feed k refl in
    ap (λ x. NotRecall x (number_in (drop 9 (after_digits (decimal node ++ tail))))) n
    ∙ ap (λ bytes. NotRecall node (number_in (drop 9 bytes))) r ∙ ap (NotRecall node) m

-- a number at the end of the line
last : (n : ℕ) → n < 2 ^ 64 → number_in (decimal n ++ line_feed) ≡ n
last n h = number_found n line_feed h refl

pub read_back : (f : FileFault) → HasNarrowNumbers f → fault_of_line (fault_line f) ≡ f
read_back TooLong h = refl
read_back (Syntax at) h = ap Syntax (last at (h 0 0 (omega arith)))
read_back UnexpectedEnd h = refl
read_back (TrailingText at) h = ap TrailingText (last at (h 0 0 (omega arith)))
read_back (Number at fault) h = named at fault (h 0 0 (omega arith))
read_back (Players count) h = ap Players (last count (h 0 0 (omega arith)))
read_back (PlayerNumber node) h = ap PlayerNumber (last node (h 0 0 (omega arith)))
read_back (SetUndefined node) h = ap SetUndefined (last node (h 0 0 (omega arith)))
read_back (SetMismatch node) h = ap SetMismatch (last node (h 0 0 (omega arith)))
read_back (OutcomeUndefined node) h = ap OutcomeUndefined (last node (h 0 0 (omega arith)))
read_back (OutcomeMismatch node) h = ap OutcomeMismatch (last node (h 0 0 (omega arith)))
read_back (PayoffCount node) h = ap PayoffCount (last node (h 0 0 (omega arith)))
read_back TooManyNodes h = refl
read_back (ActionCount node) h = ap ActionCount (last node (h 0 0 (omega arith)))
read_back (ChanceNegative node) h = ap ChanceNegative (last node (h 0 0 (omega arith)))
read_back (ChanceSum node) h = ap ChanceSum (last node (h 0 0 (omega arith)))
read_back (NotConstantSum node) h = ap NotConstantSum (last node (h 0 0 (omega arith)))
read_back (NotRecall node earlier) h = recalled node earlier (h 0 0 (omega arith)) (h 1 0 (omega arith))
read_back (Scale node) h = ap Scale (last node (h 0 0 (omega arith)))

-- two faults with the same line are the same, where 64 bits hold each number in them
pub tell_faults : (f g : FileFault) → HasNarrowNumbers f → HasNarrowNumbers g → fault_line f ≡ fault_line g → f ≡ g
tell_faults f g h k e = sym (read_back f h) ∙ ap fault_of_line e ∙ read_back g k
