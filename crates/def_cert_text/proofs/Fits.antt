-- The values that the formats take are those within the ranges of a certificate.
use Rattle.std.proofs.Common.{◌≡◌, ℕ, zero, suc, ◌+◌, ◌*◌, ◌^◌, ◌<◌, ◌≤◌, min, Bool, true, false, leb, ltb, List, [], ◌∷◌, ◌&&◌, length, get_or, Option, Some}
use Rattle.std.proofs.Common.{None, All, unsigned_abs, refl, sym, ap, ◌∙◌, arith}
use Rattle.std.proofs.lemmas.Bool.{and_parts, and_from, leb-true, le-leb, ltb-true, lt-ltb}
use Rattle.std.proofs.lemmas.List.Elements.{All-cons, All-nil, All-head, All-tail}
use Rattle.std.specs.Prelude.{codes}
use Rattle.def_fraction.specs.Fraction.{Fraction}
use Rattle.def_reply.specs.Reply.{SetReply, Reply}
use Rattle.def_reply.specs.declared.TraceLine.{TraceLine}
use Rattle.def_reply.specs.Outcome.{Head}
use Rattle.def_cert_verdict.specs.Certificate.{PrintedPlan, PrintedBounds, Certificate}
use Rattle.def_cert_verdict.specs.Ranges.{IsFromTo, IsPrintable, FractionFits, HeadFits, LineFits, TraceFits, PlanWeightsFit, PlanFits, ReplyFits, BoundsFit}
use Rattle.def_cert_verdict.specs.Ranges.{FitsBelowHead, CertificateFits}
use Rattle.def_cert_text.specs.Formats.{Format, is_lowest_within, each_fits, asked_fits, row_fits}
use Rattle.def_cert_text.specs.Versions.{PrintedBracket, VersionedCertificate, has_second, SecondFits, VersionedFits}
use Rattle.def_cert_text.specs.declared.version.TextVersion.{TextVersion}
use Rattle.def_cert_text.specs.declared.version.TextVersion.TheVariants as versions
use Rattle.def_cert_text.specs.CertText.{payoff_lines, head_lines_of, line_of_round, round_of_evaluation, evaluation_count, trace_lines, weights_line}
use Rattle.def_cert_text.specs.CertText.{plan_lines, value_line, reply_lines, bounds_lines, second_line, versioned_certificate}
use Rattle.def_cert_text.proofs.FieldLaws.{lowest_parts, lowest_from}

-- ---- numbers
abbrev is_within : ℕ → ℕ → ℕ → Bool
is_within low high n = leb low n && leb n high

from_to : (low high n : ℕ) → is_within low high n ≡ true → IsFromTo low high n
from_to low high n fit = let p = and_parts (leb low n) (leb n high) fit in (leb-true low n p.0, leb-true n high p.1)

to_within : (low high n : ℕ) → IsFromTo low high n → is_within low high n ≡ true
to_within low high n p = and_from (leb low n) (leb n high) (le-leb low n p.0) (le-leb n high p.1)

up_to : (high n : ℕ) → n ≤ high → is_within 0 high n ≡ true
up_to high n h = to_within 0 high n (omega arith, h)

-- ---- fractions
fraction_fits : (limit : ℕ) (f : Fraction) → is_lowest_within limit f ≡ true → FractionFits limit f
fraction_fits limit f fit =
    let p = lowest_parts limit f fit in
    record { lowest = record { positive = p.positive; coprime = p.coprime }; num = p.num; den = p.den }

fraction_taken : (limit : ℕ) (f : Fraction) → FractionFits limit f → is_lowest_within limit f ≡ true
fraction_taken limit f b = lowest_from limit f (record { positive = b.lowest.positive; coprime = b.lowest.coprime; num = b.num; den = b.den })

-- ---- the head
record PayoffsFit (unit : ℕ) (sum : Fraction) (mass : ℕ) : Type 0 where
  unit_is : IsFromTo 1 (2 ^ 62) unit
  sum_is : FractionFits (2 ^ 62) sum
  mass_is : mass ≤ 2 ^ 62

abbrev payoffs_taken_by : TextVersion → ℕ → Fraction → ℕ → Bool
payoffs_taken_by v unit sum mass = (payoff_lines v).fits ((unit, sum), mass)

payoffs_fit : (v : TextVersion) (unit : ℕ) (sum : Fraction) (mass : ℕ) → payoffs_taken_by v unit sum mass ≡ true
    → PayoffsFit unit sum mass
payoffs_fit versions.One unit sum mass fit =
    let p = and_parts (is_within 1 (2 ^ 62) unit && is_lowest_within (2 ^ 62) sum) (is_within 0 (2 ^ 62) mass) fit in
    let q = and_parts (is_within 1 (2 ^ 62) unit) (is_lowest_within (2 ^ 62) sum) p.0 in
    record { unit_is = from_to 1 (2 ^ 62) unit q.0; sum_is = fraction_fits (2 ^ 62) sum q.1; mass_is = (from_to 0 (2 ^ 62) mass p.1).1 }
payoffs_fit versions.Two unit sum mass fit =
    let p = and_parts (is_within 1 (2 ^ 62) unit) (is_within 0 (2 ^ 62) mass && is_lowest_within (2 ^ 62) sum) fit in
    let q = and_parts (is_within 0 (2 ^ 62) mass) (is_lowest_within (2 ^ 62) sum) p.1 in
    record { unit_is = from_to 1 (2 ^ 62) unit p.0; sum_is = fraction_fits (2 ^ 62) sum q.1; mass_is = (from_to 0 (2 ^ 62) mass q.0).1 }

payoffs_taken : (v : TextVersion) (unit : ℕ) (sum : Fraction) (mass : ℕ) → PayoffsFit unit sum mass
    → payoffs_taken_by v unit sum mass ≡ true
payoffs_taken versions.One unit sum mass f =
    and_from (is_within 1 (2 ^ 62) unit && is_lowest_within (2 ^ 62) sum) (is_within 0 (2 ^ 62) mass)
    (and_from (is_within 1 (2 ^ 62) unit) (is_lowest_within (2 ^ 62) sum) (to_within 1 (2 ^ 62) unit f.unit_is) (fraction_taken (2 ^ 62) sum f.sum_is))
    (up_to (2 ^ 62) mass f.mass_is)
payoffs_taken versions.Two unit sum mass f =
    and_from (is_within 1 (2 ^ 62) unit) (is_within 0 (2 ^ 62) mass && is_lowest_within (2 ^ 62) sum) (to_within 1 (2 ^ 62) unit f.unit_is)
    (and_from (is_within 0 (2 ^ 62) mass) (is_lowest_within (2 ^ 62) sum) (up_to (2 ^ 62) mass f.mass_is) (fraction_taken (2 ^ 62) sum f.sum_is))

abbrev payoffs_of : TextVersion → Head → Bool
payoffs_of v h = payoffs_taken_by v h.unit h.sum h.mass

abbrev game_fits : TextVersion → Head → Bool
game_fits v h =
    (is_within 1 (2 ^ 20) h.nodes && is_within 1 (2 ^ 20) h.leaves) && ((is_within 0 (2 ^ 20) h.sets_one && is_within 0 (2 ^ 20) h.sets_two)
    && ((is_within 1 (2 ^ 20) h.sequences_one && is_within 1 (2 ^ 20) h.sequences_two) && payoffs_of v h))

abbrev asked_line_fits : Head → Bool
asked_line_fits h = is_within 0 65536 h.rounds && (is_within 1 65536 h.every && is_within 1 1048576 h.scale)

-- a head that the format of its lines takes is within its ranges
pub head_fits : (v : TextVersion) (h : Head) → (head_lines_of v).fits h ≡ true → HeadFits h
head_fits v h fit =
    let whole = and_parts (game_fits v h) (asked_line_fits h) fit in
    let size = and_parts (is_within 1 (2 ^ 20) h.nodes && is_within 1 (2 ^ 20) h.leaves) _ whole.0 in
    let nodes = and_parts (is_within 1 (2 ^ 20) h.nodes) (is_within 1 (2 ^ 20) h.leaves) size.0 in
    let sets = and_parts (is_within 0 (2 ^ 20) h.sets_one && is_within 0 (2 ^ 20) h.sets_two) _ size.1 in
    let each_sets = and_parts (is_within 0 (2 ^ 20) h.sets_one) (is_within 0 (2 ^ 20) h.sets_two) sets.0 in
    let sequences = and_parts (is_within 1 (2 ^ 20) h.sequences_one && is_within 1 (2 ^ 20) h.sequences_two) _ sets.1 in
    let each_sequences = and_parts (is_within 1 (2 ^ 20) h.sequences_one) (is_within 1 (2 ^ 20) h.sequences_two) sequences.0 in
    let payoffs = payoffs_fit v h.unit h.sum h.mass sequences.1 in
    let rounds = and_parts (is_within 0 65536 h.rounds) (is_within 1 65536 h.every && is_within 1 1048576 h.scale) whole.1 in
    let every = and_parts (is_within 1 65536 h.every) (is_within 1 1048576 h.scale) rounds.1 in
    record {
      nodes = from_to 1 (2 ^ 20) h.nodes nodes.0;
      leaves = from_to 1 (2 ^ 20) h.leaves nodes.1;
      sets_one = (from_to 0 (2 ^ 20) h.sets_one each_sets.0).1;
      sets_two = (from_to 0 (2 ^ 20) h.sets_two each_sets.1).1;
      sequences_one = from_to 1 (2 ^ 20) h.sequences_one each_sequences.0;
      sequences_two = from_to 1 (2 ^ 20) h.sequences_two each_sequences.1;
      unit = payoffs.unit_is;
      sum = payoffs.sum_is;
      mass = payoffs.mass_is;
      rounds = (from_to 0 65536 h.rounds rounds.0).1;
      every = from_to 1 65536 h.every every.0;
      scale = from_to 1 1048576 h.scale every.1;
    }

pub head_taken : (v : TextVersion) (h : Head) → HeadFits h → (head_lines_of v).fits h ≡ true
head_taken v h f =
    and_from (game_fits v h) (asked_line_fits h)
    (and_from (is_within 1 (2 ^ 20) h.nodes && is_within 1 (2 ^ 20) h.leaves) _
    (and_from (is_within 1 (2 ^ 20) h.nodes) (is_within 1 (2 ^ 20) h.leaves) (to_within 1 (2 ^ 20) h.nodes f.nodes) (to_within 1 (2 ^ 20) h.leaves f.leaves))
    (and_from (is_within 0 (2 ^ 20) h.sets_one && is_within 0 (2 ^ 20) h.sets_two) _
    (and_from (is_within 0 (2 ^ 20) h.sets_one) (is_within 0 (2 ^ 20) h.sets_two) (up_to (2 ^ 20) h.sets_one f.sets_one) (up_to (2 ^ 20) h.sets_two f.sets_two))
    (and_from (is_within 1 (2 ^ 20) h.sequences_one && is_within 1 (2 ^ 20) h.sequences_two) (payoffs_of v h)
    (and_from (is_within 1 (2 ^ 20) h.sequences_one) (is_within 1 (2 ^ 20) h.sequences_two) (to_within 1 (2 ^ 20) h.sequences_one f.sequences_one)
    (to_within 1 (2 ^ 20) h.sequences_two f.sequences_two))
    (payoffs_taken v h.unit h.sum h.mass (record { unit_is = f.unit; sum_is = f.sum; mass_is = f.mass })))))
    (and_from (is_within 0 65536 h.rounds) (is_within 1 65536 h.every && is_within 1 1048576 h.scale) (up_to 65536 h.rounds f.rounds)
    (and_from (is_within 1 65536 h.every) (is_within 1 1048576 h.scale) (to_within 1 65536 h.every f.every) (to_within 1 1048576 h.scale f.scale)))

-- ---- many values
pub record CountsAll (A : Type 0) (P : A → Type 0) (count : ℕ) (xs : List A) : Type 0 where
  pub count_is : length xs ≡ count
  pub each : All P xs

each_all : (A : Type 0) (f : ℕ → Format A) (P : A → Type 0) → ((j : ℕ) (x : A) → (f j).fits x ≡ true → P x)
    → (count k : ℕ) (xs : List A) → each_fits f k count xs ≡ true → CountsAll A P count xs
unfolding each_fits
each_all A f P is zero k [] fit = record { count_is = refl; each = All-nil P }
each_all A f P is zero k (x ∷ xs) fit = absurd cc
each_all A f P is (suc count) k [] fit = absurd cc
each_all A f P is (suc count) k (x ∷ xs) fit =
    let p = and_parts ((f k).fits x) (each_fits f (k + 1) count xs) fit in
    let later = each_all A f P is count (k + 1) xs p.1 in
    record { count_is = ap suc later.count_is; each = All-cons P x xs (is k x p.0) later.each }

all_taken : (A : Type 0) (f : ℕ → Format A) (P : A → Type 0) → ((j : ℕ) (x : A) → P x → (f j).fits x ≡ true)
    → (count k : ℕ) (xs : List A) → length xs ≡ count → All P xs → each_fits f k count xs ≡ true
unfolding each_fits
all_taken A f P is zero k [] counts all = refl
all_taken A f P is zero k (x ∷ xs) counts all = absurd (omega (arith, counts))
all_taken A f P is (suc count) k [] counts all = absurd (omega (arith, counts))
all_taken A f P is (suc count) k (x ∷ xs) counts all =
    and_from ((f k).fits x) (each_fits f (k + 1) count xs) (is k x (All-head P x xs all))
    (all_taken A f P is count (k + 1) xs (omega (arith, counts)) (All-tail P x xs all))

-- ---- the trace: each line by its place
pub record CountsPlaces (A : Type 0) (f : ℕ → Format A) (k count : ℕ) (xs : List A) : Type 0 where
  pub count_is : length xs ≡ count
  pub each : (i : ℕ) (d : A) → i < length xs → (f (k + i)).fits (get_or xs i d) ≡ true

each_place : (A : Type 0) (f : ℕ → Format A) (count k : ℕ) (xs : List A) → each_fits f k count xs ≡ true
    → CountsPlaces A f k count xs
unfolding each_fits
each_place A f zero k [] fit = record { count_is = refl; each = λ i d low. absurd (omega (arith, low)) }
each_place A f zero k (x ∷ xs) fit = absurd cc
each_place A f (suc count) k [] fit = absurd cc
each_place A f (suc count) k (x ∷ xs) fit =
    let p = and_parts ((f k).fits x) (each_fits f (k + 1) count xs) fit in
    let later = each_place A f count (k + 1) xs p.1 in
    record { count_is = ap suc later.count_is; each = at p.0 later.each }
  where
    at : (f k).fits x ≡ true → ((i : ℕ) (d : A) → i < length xs → (f (k + 1 + i)).fits (get_or xs i d) ≡ true)
        → (i : ℕ) (d : A) → i < length (x ∷ xs) → (f (k + i)).fits (get_or (x ∷ xs) i d) ≡ true
    at first later zero d low = ap (λ j. (f j).fits x) (omega arith) ∙ first
    at first later (suc i) d low = ap (λ j. (f j).fits (get_or xs i d)) (omega arith) ∙ later i d (omega (arith, low))

places_taken : (A : Type 0) (f : ℕ → Format A) (count k : ℕ) (xs : List A) → length xs ≡ count
    → ((i : ℕ) (d : A) → i < length xs → (f (k + i)).fits (get_or xs i d) ≡ true) → each_fits f k count xs ≡ true
unfolding each_fits
places_taken A f zero k [] counts each = refl
places_taken A f zero k (x ∷ xs) counts each = absurd (omega (arith, counts))
places_taken A f (suc count) k [] counts each = absurd (omega (arith, counts))
places_taken A f (suc count) k (x ∷ xs) counts each =
    and_from ((f k).fits x) (each_fits f (k + 1) count xs)
    (ap (λ j. (f j).fits x) (omega arith) ∙ each 0 x (omega arith))
    (places_taken A f count (k + 1) xs (omega (arith, counts)) (λ i d low. ap (λ j. (f j).fits (get_or xs i d)) (omega arith)
    ∙ each (suc i) d (omega (arith, low))))

abbrev line_is_within : ℕ → TraceLine → Bool
line_is_within k l = is_within k k l.round && (is_within 1 k l.low_round && (leb (unsigned_abs l.low) (2 ^ 100)
    && (is_within 1 k l.high_round && leb (unsigned_abs l.high) (2 ^ 100))))

line_fits : (head : Head) (i k : ℕ) (l : TraceLine) → k ≡ min ((i + 1) * head.every) head.rounds
    → (line_of_round k).fits l ≡ true → LineFits head i l
line_fits head i k l is fit =
    let a = and_parts (is_within k k l.round) _ fit in
    let b = and_parts (is_within 1 k l.low_round) (leb (unsigned_abs l.low) (2 ^ 100) && (is_within 1 k l.high_round && leb (unsigned_abs l.high) (2 ^ 100)))
    a.1 in
    let c = and_parts (leb (unsigned_abs l.low) (2 ^ 100)) (is_within 1 k l.high_round && leb (unsigned_abs l.high) (2 ^ 100)) b.1 in
    let d = and_parts (is_within 1 k l.high_round) (leb (unsigned_abs l.high) (2 ^ 100)) c.1 in
    let round = from_to k k l.round a.0 in
    let low = from_to 1 k l.low_round b.0 in
    let high = from_to 1 k l.high_round d.0 in
    let same : l.round ≡ k = omega (arith, round.0, round.1) in
    record {
      round = same ∙ is;
      low_round = (low.0, omega (arith, low.1, same));
      low = leb-true (unsigned_abs l.low) (2 ^ 100) c.0;
      high_round = (high.0, omega (arith, high.1, same));
      high = leb-true (unsigned_abs l.high) (2 ^ 100) d.1;
    }

line_taken : (head : Head) (i k : ℕ) (l : TraceLine) → k ≡ min ((i + 1) * head.every) head.rounds → LineFits head i l
    → (line_of_round k).fits l ≡ true
line_taken head i k l is f =
    let same : l.round ≡ k = f.round ∙ sym is in
    and_from (is_within k k l.round) _ (to_within k k l.round (omega (arith, same), omega (arith, same)))
    (and_from (is_within 1 k l.low_round) (leb (unsigned_abs l.low) (2 ^ 100) && (is_within 1 k l.high_round && leb (unsigned_abs l.high) (2 ^ 100)))
    (to_within 1 k l.low_round (f.low_round.0, omega (arith, f.low_round.1, same)))
    (and_from (leb (unsigned_abs l.low) (2 ^ 100)) (is_within 1 k l.high_round && leb (unsigned_abs l.high) (2 ^ 100))
    (le-leb (unsigned_abs l.low) (2 ^ 100) f.low)
    (and_from (is_within 1 k l.high_round) (leb (unsigned_abs l.high) (2 ^ 100))
    (to_within 1 k l.high_round (f.high_round.0, omega (arith, f.high_round.1, same))) (le-leb (unsigned_abs l.high) (2 ^ 100) f.high))))

round_at : (head : Head) (i : ℕ) → round_of_evaluation head (1 + i) ≡ min ((i + 1) * head.every) head.rounds
round_at head i = ap (λ k. min (k * head.every) head.rounds) (omega arith)

trace_fits : (head : Head) (lines : List TraceLine) → (trace_lines head).fits lines ≡ true → TraceFits head lines
trace_fits head lines fit =
    let p = each_place TraceLine (λ k. line_of_round (round_of_evaluation head k)) (evaluation_count head) 1 lines fit in
    record { count = p.count_is; each = λ i d low. line_fits head i (round_of_evaluation head (1 + i)) (get_or lines i d) (round_at head i) (p.each i d low) }

trace_taken : (head : Head) (lines : List TraceLine) → TraceFits head lines → (trace_lines head).fits lines ≡ true
trace_taken head lines f =
    places_taken TraceLine (λ k. line_of_round (round_of_evaluation head k)) (evaluation_count head) 1 lines f.count
    (λ i d low. line_taken head i (round_of_evaluation head (1 + i)) (get_or lines i d) (round_at head i) (f.each i d low))

-- ---- plans
record RowFits (most more : ℕ) (ns : List ℕ) : Type 0 where
  some : 1 ≤ length ns
  few : length ns ≤ more + 1
  each : All (λ n. n ≤ most) ns

one_fits : (most n : ℕ) → n ≤ most → All (λ m. m ≤ most) (n ∷ [])
one_fits most n h = All-cons (λ m. m ≤ most) n [] h (All-nil (λ m. m ≤ most))

row_is : (most more : ℕ) (ns : List ℕ) → row_fits most more ns ≡ true → RowFits most more ns
row_is most zero [] fit = absurd cc
row_is most (suc more) [] fit = absurd cc
row_is most zero (n ∷ []) fit = record { some = omega arith; few = omega arith; each = one_fits most n (leb-true n most fit) }
row_is most (suc more) (n ∷ []) fit = record { some = omega arith; few = omega arith; each = one_fits most n (leb-true n most fit) }
row_is most zero (n ∷ m ∷ ns) fit = absurd cc
row_is most (suc more) (n ∷ m ∷ ns) fit =
    let p = and_parts (leb n most) (row_fits most more (m ∷ ns)) fit in
    let later = row_is most more (m ∷ ns) p.1 in
    record { some = omega arith; few = omega (arith, later.few); each = All-cons (λ k. k ≤ most) n (m ∷ ns) (leb-true n most p.0) later.each }

row_taken : (most more : ℕ) (ns : List ℕ) → 1 ≤ length ns → length ns ≤ more + 1 → All (λ n. n ≤ most) ns
    → row_fits most more ns ≡ true
row_taken most more [] some few all = absurd (omega (arith, some))
row_taken most zero (n ∷ []) some few all = le-leb n most (All-head (λ k. k ≤ most) n [] all)
row_taken most (suc more) (n ∷ []) some few all = le-leb n most (All-head (λ k. k ≤ most) n [] all)
row_taken most zero (n ∷ m ∷ ns) some few all = absurd (omega (arith, few))
row_taken most (suc more) (n ∷ m ∷ ns) some few all =
    and_from (leb n most) (row_fits most more (m ∷ ns)) (le-leb n most (All-head (λ k. k ≤ most) n (m ∷ ns) all))
    (row_taken most more (m ∷ ns) (omega arith) (omega (arith, few)) (All-tail (λ k. k ≤ most) n (m ∷ ns) all))

weights_fit : (set : ℕ) (ws : List ℕ) → (weights_line set).fits ws ≡ true → PlanWeightsFit ws
weights_fit set ws fit = let r = row_is (65536 * 1048576) 1023 ws fit in record { count = (r.some, r.few); each = r.each }

weights_taken : (set : ℕ) (ws : List ℕ) → PlanWeightsFit ws → (weights_line set).fits ws ≡ true
weights_taken set ws f = row_taken (65536 * 1048576) 1023 ws f.count.0 f.count.1 f.each

plan_fits : (player : List ℕ) (sets : ℕ) (plan : PrintedPlan) → (plan_lines player sets).fits plan ≡ true
    → PlanFits sets plan
plan_fits player sets plan fit =
    let p = and_parts (is_within 1 (65536 * 1048576) plan.root) (each_fits weights_line 1 sets plan.weights) fit in
    let all = each_all (List ℕ) weights_line PlanWeightsFit weights_fit sets 1 plan.weights p.1 in
    record { root = from_to 1 (65536 * 1048576) plan.root p.0; count = all.count_is; each = all.each }

plan_taken : (player : List ℕ) (sets : ℕ) (plan : PrintedPlan) → PlanFits sets plan
    → (plan_lines player sets).fits plan ≡ true
plan_taken player sets plan f =
    and_from (is_within 1 (65536 * 1048576) plan.root) (each_fits weights_line 1 sets plan.weights) (to_within 1 (65536 * 1048576) plan.root f.root)
    (all_taken (List ℕ) weights_line PlanWeightsFit weights_taken sets 1 plan.weights f.count f.each)

-- ---- replies
abbrev SetFits : SetReply → Type 0
SetFits r = IsPrintable r.value × IsFromTo 1 1024 r.choice

value_fits : (set : ℕ) (r : SetReply) → (value_line set).fits r ≡ true → SetFits r
value_fits set r fit =
    let p = and_parts (leb (unsigned_abs r.value) (2 ^ 100)) (is_within 1 1024 r.choice) fit in
    (leb-true (unsigned_abs r.value) (2 ^ 100) p.0, from_to 1 1024 r.choice p.1)

value_taken : (set : ℕ) (r : SetReply) → SetFits r → (value_line set).fits r ≡ true
value_taken set r f =
    and_from (leb (unsigned_abs r.value) (2 ^ 100)) (is_within 1 1024 r.choice) (le-leb (unsigned_abs r.value) (2 ^ 100) f.0) (to_within 1 1024 r.choice f.1)

values_of_all : (rs : List SetReply) → All SetFits rs → All (λ r. IsPrintable r.value) rs
values_of_all [] all = All-nil (λ r. IsPrintable r.value)
values_of_all (r ∷ rs) all = All-cons (λ r. IsPrintable r.value) r rs (All-head SetFits r rs all).0 (values_of_all rs (All-tail SetFits r rs all))

choices_of_all : (rs : List SetReply) → All SetFits rs → All (λ r. IsFromTo 1 1024 r.choice) rs
choices_of_all [] all = All-nil (λ r. IsFromTo 1 1024 r.choice)
choices_of_all (r ∷ rs) all = All-cons (λ r. IsFromTo 1 1024 r.choice) r rs (All-head SetFits r rs all).1 (choices_of_all rs (All-tail SetFits r rs all))

all_of_both : (rs : List SetReply) → All (λ r. IsPrintable r.value) rs → All (λ r. IsFromTo 1 1024 r.choice) rs
    → All SetFits rs
all_of_both [] values choices = All-nil SetFits
all_of_both (r ∷ rs) values choices =
    All-cons SetFits r rs (All-head (λ r. IsPrintable r.value) r rs values, All-head (λ r. IsFromTo 1 1024 r.choice) r rs choices)
    (all_of_both rs (All-tail (λ r. IsPrintable r.value) r rs values) (All-tail (λ r. IsFromTo 1 1024 r.choice) r rs choices))

reply_fits : (player : List ℕ) (sets : ℕ) (reply : Reply) → (reply_lines player sets).fits reply ≡ true
    → ReplyFits sets reply
reply_fits player sets reply fit =
    let p = and_parts (leb (unsigned_abs reply.total) (2 ^ 100)) (each_fits value_line 1 sets reply.sets) fit in
    let all = each_all SetReply value_line SetFits value_fits sets 1 reply.sets p.1 in
    record {
      total = leb-true (unsigned_abs reply.total) (2 ^ 100) p.0;
      count = all.count_is;
      values = values_of_all reply.sets all.each;
      choices = choices_of_all reply.sets all.each;
    }

reply_taken : (player : List ℕ) (sets : ℕ) (reply : Reply) → ReplyFits sets reply
    → (reply_lines player sets).fits reply ≡ true
reply_taken player sets reply f =
    and_from (leb (unsigned_abs reply.total) (2 ^ 100)) (each_fits value_line 1 sets reply.sets) (le-leb (unsigned_abs reply.total) (2 ^ 100) f.total)
    (all_taken SetReply value_line SetFits value_taken sets 1 reply.sets f.count (all_of_both reply.sets f.values f.choices))

-- ---- the whole
abbrev behind_trace : Head → PrintedBounds → Bool
behind_trace head b =
    (plan_lines (codes "1") head.sets_one).fits b.plan_one && ((reply_lines (codes "2") head.sets_two).fits b.reply_two
    && ((plan_lines (codes "2") head.sets_two).fits b.plan_two
    && ((reply_lines (codes "1") head.sets_one).fits b.reply_one && (is_lowest_within (2 ^ 100) b.low && is_lowest_within (2 ^ 100) b.high))))

bounds_fit : (head : Head) (b : PrintedBounds) → 1 ≤ head.rounds → (bounds_lines head).fits b ≡ true → BoundsFit head b
bounds_fit head b asked fit =
    let t = and_parts ((trace_lines head).fits b.trace) (behind_trace head b) fit in
    let p = and_parts ((plan_lines (codes "1") head.sets_one).fits b.plan_one) _ t.1 in
    let q = and_parts ((reply_lines (codes "2") head.sets_two).fits b.reply_two) _ p.1 in
    let r = and_parts ((plan_lines (codes "2") head.sets_two).fits b.plan_two) _ q.1 in
    let s = and_parts ((reply_lines (codes "1") head.sets_one).fits b.reply_one) (is_lowest_within (2 ^ 100) b.low && is_lowest_within (2 ^ 100) b.high) r.1 in
    let u = and_parts (is_lowest_within (2 ^ 100) b.low) (is_lowest_within (2 ^ 100) b.high) s.1 in
    record {
      asked = asked;
      trace = trace_fits head b.trace t.0;
      plan_one = plan_fits (codes "1") head.sets_one b.plan_one p.0;
      reply_two = reply_fits (codes "2") head.sets_two b.reply_two q.0;
      plan_two = plan_fits (codes "2") head.sets_two b.plan_two r.0;
      reply_one = reply_fits (codes "1") head.sets_one b.reply_one s.0;
      low = fraction_fits (2 ^ 100) b.low u.0;
      high = fraction_fits (2 ^ 100) b.high u.1;
    }

bounds_taken : (head : Head) (b : PrintedBounds) → BoundsFit head b → (bounds_lines head).fits b ≡ true
bounds_taken head b f =
    and_from ((trace_lines head).fits b.trace) (behind_trace head b) (trace_taken head b.trace f.trace)
    (and_from ((plan_lines (codes "1") head.sets_one).fits b.plan_one) _ (plan_taken (codes "1") head.sets_one b.plan_one f.plan_one)
    (and_from ((reply_lines (codes "2") head.sets_two).fits b.reply_two) _ (reply_taken (codes "2") head.sets_two b.reply_two f.reply_two)
    (and_from ((plan_lines (codes "2") head.sets_two).fits b.plan_two) _ (plan_taken (codes "2") head.sets_two b.plan_two f.plan_two)
    (and_from ((reply_lines (codes "1") head.sets_one).fits b.reply_one) (is_lowest_within (2 ^ 100) b.low && is_lowest_within (2 ^ 100) b.high)
    (reply_taken (codes "1") head.sets_one b.reply_one f.reply_one)
    (and_from (is_lowest_within (2 ^ 100) b.low) (is_lowest_within (2 ^ 100) b.high) (fraction_taken (2 ^ 100) b.low f.low)
    (fraction_taken (2 ^ 100) b.high f.high))))))

below_fits : (head : Head) (t : Bool) (bounds : Option PrintedBounds) → ltb 0 head.rounds ≡ t
    → asked_fits t (bounds_lines head) bounds ≡ true → FitsBelowHead head bounds
below_fits head true (Some b) asked fit = bounds_fit head b (ltb-true 0 head.rounds asked) fit
below_fits head true None asked fit = absurd cc
below_fits head false (Some b) asked fit = absurd cc
below_fits head false None asked fit = no_rounds head.rounds asked
  where
    no_rounds : (n : ℕ) → ltb 0 n ≡ false → n ≡ 0
    no_rounds zero h = refl
    no_rounds (suc n) h = absurd (let bad = sym (lt-ltb 0 (suc n) (omega arith)) ∙ h in cc)

below_taken : (head : Head) (bounds : Option PrintedBounds) → FitsBelowHead head bounds
    → asked_fits (ltb 0 head.rounds) (bounds_lines head) bounds ≡ true
below_taken head (Some b) f = ap (λ t. asked_fits t (bounds_lines head) (Some b)) (lt-ltb 0 head.rounds f.asked) ∙ bounds_taken head b f
below_taken head None f = ap (λ n. asked_fits (ltb 0 n) (bounds_lines head) None) f

abbrev below : Certificate → Bool
below c = asked_fits (ltb 0 c.head.rounds) (bounds_lines c.head) c.bounds

-- in a text of any version, from the fits of the head and of the bounds
from_parts : (v : TextVersion) (c : Certificate) → (head_lines_of v).fits c.head ≡ true → below c ≡ true → CertificateFits c
from_parts v c head bounds = record { head = head_fits v c.head head; below = below_fits c.head (ltb 0 c.head.rounds) c.bounds refl bounds }

-- ---- the second bracket
abbrev second_taken_by : TextVersion → ℕ → Option PrintedBracket → Bool
second_taken_by v rounds second = asked_fits (has_second v && ltb 0 rounds) second_line second

bracket_fits : (second : PrintedBracket) → second_line.fits second ≡ true
    → FractionFits (2 ^ 100) second.low × FractionFits (2 ^ 100) second.high
bracket_fits second fit =
    let p = and_parts (is_lowest_within (2 ^ 100) second.low) (is_lowest_within (2 ^ 100) second.high) fit in
    (fraction_fits (2 ^ 100) second.low p.0, fraction_fits (2 ^ 100) second.high p.1)

second_fits : (v : TextVersion) (head : Head) (bounds : Option PrintedBounds) (second : Option PrintedBracket)
    → FitsBelowHead head bounds → second_taken_by v head.rounds second ≡ true → SecondFits v bounds second
second_fits versions.One head bounds None below fit = refl
second_fits versions.One head bounds (Some second) below fit = absurd cc
second_fits versions.Two head None second below fit = none second (ap (λ n. second_taken_by versions.Two n second) (sym below) ∙ fit)
  where
    none : (second : Option PrintedBracket) → second_taken_by versions.Two 0 second ≡ true → second ≡ None
    none None fit = refl
    none (Some second) fit = absurd cc
second_fits versions.Two head (Some b) second below fit =
    there second (ap (λ t. asked_fits t second_line second) (sym (lt-ltb 0 head.rounds below.asked)) ∙ fit)
  where
    there : (second : Option PrintedBracket) → asked_fits true second_line second ≡ true → SecondFits versions.Two (Some b) second
    there None fit = absurd cc
    there (Some second) fit = bracket_fits second fit

second_taken : (v : TextVersion) (head : Head) (bounds : Option PrintedBounds) (second : Option PrintedBracket)
    → FitsBelowHead head bounds → SecondFits v bounds second → second_taken_by v head.rounds second ≡ true
second_taken versions.One head bounds None below f = refl
second_taken versions.One head bounds (Some second) below f = absurd cc
second_taken versions.Two head None second below f =
    ap (λ s. second_taken_by versions.Two head.rounds s) f ∙ ap (λ n. second_taken_by versions.Two n None) below
second_taken versions.Two head (Some b) None below f = absurd f
second_taken versions.Two head (Some b) (Some second) below f =
    ap (λ t. asked_fits t second_line (Some second)) (lt-ltb 0 head.rounds below.asked)
    ∙ and_from (is_lowest_within (2 ^ 100) second.low) (is_lowest_within (2 ^ 100) second.high) (fraction_taken (2 ^ 100) second.low f.0)
    (fraction_taken (2 ^ 100) second.high f.1)

abbrev second_of : VersionedCertificate → Bool
second_of c = second_taken_by c.version c.certificate.head.rounds c.second

-- a certificate that the formats take is within its ranges
pub fits_versioned : (c : VersionedCertificate) → versioned_certificate.fits c ≡ true → VersionedFits c
fits_versioned c fit =
    let p = and_parts ((head_lines_of c.version).fits c.certificate.head) (below c.certificate && (second_of c && true)) fit in
    let q = and_parts (below c.certificate) (second_of c && true) p.1 in
    let fits = from_parts c.version c.certificate p.0 q.0 in
    record {
      certificate = fits;
      second = second_fits c.version c.certificate.head c.certificate.bounds c.second fits.below
          (and_parts (second_of c) true q.1).0;
    }

-- a certificate that is within its ranges is one that the formats take
pub versioned_fit : (c : VersionedCertificate) → VersionedFits c → versioned_certificate.fits c ≡ true
versioned_fit c f =
    and_from ((head_lines_of c.version).fits c.certificate.head) (below c.certificate && (second_of c && true))
    (head_taken c.version c.certificate.head f.certificate.head)
    (and_from (below c.certificate) (second_of c && true) (below_taken c.certificate.head c.certificate.bounds f.certificate.below)
    (and_from (second_of c) true (second_taken c.version c.certificate.head c.certificate.bounds c.second f.certificate.below f.second) refl))
