-- How many bytes the lines of a certificate have.
use Rattle.std.proofs.Common.{◌≡◌, ℕ, suc, ◌+◌, ◌*◌, ◌^◌, ◌<◌, ◌≤◌, Bool, true, false, cond, eqb, List, [], ◌∷◌, ◌++◌, length, ℤ, pos, negsuc, All, refl, arith}
use Rattle.std.specs.Fmt.{decimal, signed_decimal}
use Rattle.std.proofs.lemmas.Fmt.{length-decimal-le_wide}
use Rattle.std.proofs.lemmas.List.{length-append}
use Rattle.std.proofs.lemmas.List.Elements.{All-head, All-tail}
use Rattle.def_fraction.specs.Fraction.{Fraction, most, is_zero}
use Rattle.def_fraction.specs.Literal.{slash}
use Rattle.def_fraction.specs.Text.{fraction_text}
use Rattle.def_sums.specs.Sum.{nat_sum_over}
use Rattle.def_reply.specs.Reply.{SetReply}
use Rattle.def_reply.specs.declared.TraceLine.{TraceLine}
use Rattle.def_reply.specs.Outcome.{Head}
use Rattle.def_cert_verdict.specs.Ranges.{IsPrintable, FractionFits, HeadFits, PlanWeightsFit, BoundFits}
use Rattle.def_cert_text.specs.Fields.{space, feed, TextItem, field, separator, items_text}
use Rattle.def_cert_text.specs.Formats.{Format, each_items, row_items}
use Rattle.def_cert_text.specs.declared.version.TextVersion.{TextVersion}
use Rattle.def_cert_text.specs.declared.version.TextVersion.TheVariants as versions
use Rattle.def_cert_text.specs.Versions.{PrintedBracket}
use Rattle.def_cert_text.specs.CertText.{version_field, sum_field, sum_items, mass_line, payoff_lines, asked_line, head_lines_of, line_of_round, weights_line}
use Rattle.def_cert_text.specs.CertText.{value_line, bracket_line, second_line}

-- ---- numbers
-- a number below 10 ^ k and 10 ^ 64 has at most k digits, where k is 1 at least
pub few_digits : (k n : ℕ) → 1 ≤ k → n < 10 ^ k → n < 10 ^ 64 → length (decimal n) ≤ k
few_digits k n some low wide = length-decimal-le_wide k n (omega (arith, some)) low wide

-- the decimal text of a signed number whose size is 2 ^ 100 at most has 32 bytes at most
pub few_signed : (z : ℤ) → IsPrintable z → length (signed_decimal z) ≤ 32
few_signed (pos n) small = omega (arith, few_digits 31 n (omega arith) (omega (arith, small)) (omega (arith, small)))
few_signed (negsuc n) small =
    omega (arith, few_digits 31 (suc n) (omega arith) (omega (arith, small)) (omega (arith, small)))

chosen : (b : Bool) (xs ys : List ℕ) (n : ℕ) → length xs ≤ n → length ys ≤ n → length (cond b xs ys) ≤ n
chosen true xs ys n one other = one
chosen false xs ys n one other = other

pub few_of_fraction : (f : Fraction) → BoundFits f → length (fraction_text f) ≤ 64
few_of_fraction f fits =
    let num = few_signed f.num fits.num in
    let den = few_digits 31 f.den (omega arith) (omega (arith, fits.den)) (omega (arith, fits.den)) in
    chosen (eqb f.den 1) (signed_decimal f.num) (signed_decimal f.num ++ slash ∷ decimal f.den) 64 (omega (arith, num))
    (omega (arith, num, den, length-append (signed_decimal f.num) (slash ∷ decimal f.den)))

-- ---- items
abbrev pub width : TextItem → ℕ
width (field kind bytes) = length bytes
width (separator byte) = 1

abbrev pub widths : List TextItem → ℕ
widths [] = 0
widths (item ∷ items) = width item + widths items

-- the text of items has as many bytes as their widths make together
pub text_width : (items : List TextItem) → length (items_text items) ≡ widths items
unfolding items_text
text_width [] = refl
text_width (field kind bytes ∷ items) = omega (arith, length-append bytes (items_text items), text_width items)
text_width (separator byte ∷ items) = omega (arith, text_width items)

-- the width of items with others behind them is the widths of both, added
pub widths-append : (xs ys : List TextItem) → widths (xs ++ ys) ≡ widths xs + widths ys
widths-append [] ys = omega arith
widths-append (x ∷ xs) ys = omega (arith, widths-append xs ys)

-- a value is within its size at each place up to the last
abbrev pub IsWithinSize : (A : Type 0) → (ℕ → Format A) → (A → ℕ) → ℕ → A → Type 0
IsWithinSize A f size last x = (j : ℕ) → j ≤ last → widths ((f j).items x) ≤ size x

-- where values are within their sizes at each place up to the last, a list up to there is at most as wide as all sizes
pub each_width : (A : Type 0) (f : ℕ → Format A) (size : A → ℕ) (last k : ℕ) (xs : List A) → k + length xs ≤ last + 1
    → All (IsWithinSize A f size last) xs → widths (each_items f k xs) ≤ nat_sum_over size xs
unfolding each_items
each_width A f size last k [] low all = omega arith
each_width A f size last k (x ∷ xs) low all =
    omega (
      arith,
      widths-append ((f k).items x) (each_items f (k + 1) xs),
      All-head (IsWithinSize A f size last) x xs all k (omega (arith, low)),
      each_width A f size last (k + 1) xs (omega (arith, low)) (All-tail (IsWithinSize A f size last) x xs all),
    )

-- ---- lines
-- a sum has 64 bytes at most
few_of_sum : (f : Fraction) → FractionFits most f → length (fraction_text f) ≤ 64
few_of_sum f fits =
    few_of_fraction f (record { lowest = fits.lowest; num = omega (arith, fits.num); den = omega (arith, fits.den) })

-- what stands behind a unit has a width of 70 at most
sum_width : (f : Fraction) → FractionFits most f → widths (sum_items f) ≤ 70
sum_width f fits = by (is_zero f)
  where
    by : (none : Bool) → widths (cond none (separator feed ∷ []) (separator space ∷ sum_field.items f)) ≤ 70
    by true = omega arith
    by false = omega (arith, few_of_sum f fits)

-- the version has one digit
pub version_width : (v : TextVersion) → widths (version_field.items v) ≡ 2
version_width versions.One = refl
version_width versions.Two = refl

-- the lines of the unit, the sum and the mass have together a width of 119 at most in either version
payoff_width : (v : TextVersion) (head : Head) → HeadFits head
    → widths ((payoff_lines v).items ((head.unit, head.sum), head.mass)) ≤ 119
payoff_width v head fits = by v
  where
    unit : length (decimal head.unit) ≤ 19
    unit = few_digits 19 head.unit (omega arith) (omega (arith, fits.unit.1)) (omega (arith, fits.unit.1))

    mass : length (decimal head.mass) ≤ 19
    mass = few_digits 19 head.mass (omega arith) (omega (arith, fits.mass)) (omega (arith, fits.mass))

    by : (v : TextVersion) → widths ((payoff_lines v).items ((head.unit, head.sum), head.mass)) ≤ 119
    by versions.One =
        omega (arith, unit, mass, sum_width head.sum fits.sum, widths-append (sum_items head.sum) (mass_line.items head.mass))
    by versions.Two = omega (arith, unit, mass, few_of_sum head.sum fits.sum)

-- the lines of a head that is within its ranges have together a width of 270 at most
pub head_width : (v : TextVersion) (head : Head) → HeadFits head → widths ((head_lines_of v).items head) ≤ 270
head_width v head fits =
    omega (
      arith,
      few_digits 7 head.nodes (omega arith) (omega (arith, fits.nodes.1)) (omega (arith, fits.nodes.1)),
      few_digits 7 head.leaves (omega arith) (omega (arith, fits.leaves.1)) (omega (arith, fits.leaves.1)),
      few_digits 7 head.sets_one (omega arith) (omega (arith, fits.sets_one)) (omega (arith, fits.sets_one)),
      few_digits 7 head.sets_two (omega arith) (omega (arith, fits.sets_two)) (omega (arith, fits.sets_two)),
      few_digits 7 head.sequences_one (omega arith) (omega (arith, fits.sequences_one.1))
          (omega (arith, fits.sequences_one.1)),
      few_digits 7 head.sequences_two (omega arith) (omega (arith, fits.sequences_two.1))
          (omega (arith, fits.sequences_two.1)),
      payoff_width v head fits,
      widths-append ((payoff_lines v).items ((head.unit, head.sum), head.mass))
          (asked_line.items (head.rounds, (head.every, head.scale))),
      few_digits 5 head.rounds (omega arith) (omega (arith, fits.rounds)) (omega (arith, fits.rounds)),
      few_digits 5 head.every (omega arith) (omega (arith, fits.every.1)) (omega (arith, fits.every.1)),
      few_digits 7 head.scale (omega arith) (omega (arith, fits.scale.1)) (omega (arith, fits.scale.1)),
    )

-- the numbers of a trace line, whatever its place
pub record HasSmallNumbers (line : TraceLine) : Type 0 where
  pub round : line.round ≤ 65536
  pub low_round : line.low_round ≤ 65536
  pub low : IsPrintable line.low
  pub high_round : line.high_round ≤ 65536
  pub high : IsPrintable line.high

-- a trace line with small numbers has 90 bytes at most
pub trace_line_width : (round : ℕ) (line : TraceLine) → HasSmallNumbers line
    → widths ((line_of_round round).items line) ≤ 90
trace_line_width round line small =
    omega (
      arith,
      few_digits 5 line.round (omega arith) (omega (arith, small.round)) (omega (arith, small.round)),
      few_digits 5 line.low_round (omega arith) (omega (arith, small.low_round)) (omega (arith, small.low_round)),
      few_signed line.low small.low,
      few_digits 5 line.high_round (omega arith) (omega (arith, small.high_round)) (omega (arith, small.high_round)),
      few_signed line.high small.high,
    )

row_width : (ws : List ℕ) → All (λ n. n ≤ 2 ^ 36) ws → widths (row_items ws) ≤ 12 * length ws
row_width [] all = omega arith
row_width (n ∷ []) all =
    let h = All-head (λ n. n ≤ 2 ^ 36) n [] all in
    omega (arith, few_digits 11 n (omega arith) (omega (arith, h)) (omega (arith, h)))
row_width (n ∷ m ∷ ns) all =
    let h = All-head (λ n. n ≤ 2 ^ 36) n (m ∷ ns) all in
    omega (
      arith,
      few_digits 11 n (omega arith) (omega (arith, h)) (omega (arith, h)),
      row_width (m ∷ ns) (All-tail (λ n. n ≤ 2 ^ 36) n (m ∷ ns) all),
    )

-- the line of a set's weights has at most 16 bytes and 12 more for each weight, where all numbers are in their ranges
pub weights_width : (set : ℕ) (ws : List ℕ) → set ≤ 2 ^ 20 → PlanWeightsFit ws
    → widths ((weights_line set).items ws) ≤ 16 + 12 * length ws
weights_width set ws small fits =
    omega (arith, few_digits 7 set (omega arith) (omega (arith, small)) (omega (arith, small)), row_width ws fits.each)

-- the line of a set's value and choice has 52 bytes at most, where all its numbers are in their ranges
pub value_width : (set : ℕ) (reply : SetReply) → set ≤ 2 ^ 20 → IsPrintable reply.value → reply.choice ≤ 1024
    → widths ((value_line set).items reply) ≤ 52
value_width set reply small value choice =
    omega (
      arith,
      few_digits 7 set (omega arith) (omega (arith, small)) (omega (arith, small)),
      few_signed reply.value value,
      few_digits 4 reply.choice (omega arith) (omega (arith, choice)) (omega (arith, choice)),
    )

-- the line of a bracket has 138 bytes at most, where both its ends are in their ranges
pub bracket_width : (low high : Fraction) → BoundFits low → BoundFits high
    → widths (bracket_line.items (low, high)) ≤ 138
bracket_width low high fits_low fits_high = omega (arith, few_of_fraction low fits_low, few_of_fraction high fits_high)

-- and so has the line of player two's
pub second_width : (second : PrintedBracket) → BoundFits second.low → BoundFits second.high
    → widths (second_line.items second) ≤ 138
second_width second fits_low fits_high =
    omega (arith, few_of_fraction second.low fits_low, few_of_fraction second.high fits_high)
