-- What the sum leaves of both ends of a bracket, in whole numbers.
use Rattle.std.proofs.Common.{◌≡◌, ℕ, ◌*◌, ◌≤◌, Option, Some, None, ℤ, pos, unsigned_abs, refl, sym, ap, ◌∙◌, arith, slice_index}
use Rattle.std.specs.Prelude.{◌-ℤ◌, unwrap_or}
use Rattle.std.specs.Int.{◌∣◌}
use Rattle.std.proofs.Math.Nat.{dvd-mul_right_of_dvd, mul-le-mul_left, one-le-mul, pos_of_dvd_of_pos}
use Rattle.def_fraction.specs.Fraction.{Fraction, fraction_of, most}
use Rattle.def_fraction.proofs.FractionLemmas.{fraction_of-reduced}
use Rattle.def_game_scale.specs.Scale.{weight_of}
use Rattle.def_game_scale.proofs.Units.{whole-weight}
use Rattle.def_sums.specs.Limits.{most_root, most_row}
use Rattle.def_fraction.specs.Order.{difference_of}
use Rattle.def_constant_sum.proofs.Times.{difference-lowest, same-without, times-difference, times-reduced, times-same}
use Rattle.def_reply.specs.Outcome.{End, Head}
use Rattle.def_cert_verdict.specs.Certificate.{PrintedBounds}
use Rattle.def_cert_verdict.specs.Ranges.{BoundsFit, FitsBelowHead, HeadFits, IsFromTo}
use Rattle.def_cert_accepted.specs.OfOutcome.{printed_bound}
use Rattle.def_cert_versions.specs.Upgrade.{EndTurns, EndsTurn, IsUpgradable}
use Rattle.def_game_numbers.specs.WholeSums.{IsWholeIn}
use Rattle.def_cert_versions.proofs.Upgrades.{den-divides, weight-small}
use Rattle.xg_cert.specs.declared.bounds.FormBounds.{FormBounds}
use Rattle.def_cert_text.specs.Versions.{VersionedCertificate, VersionedFits}
use Rattle.xg_outcome.specs.Outcome.{end_seen}
use Rattle.xg_cert.specs.Printed.{bounds_in, no_bounds}
use Rattle.xg_cert.specs.Writable.{AreFormBounds, IsWholeEnd, LeavesSecond, form_bounds}

-- the difference of two fractions by what they are times a number that makes both whole
difference-by_weights : (m : ℕ) (f g : Fraction) → 1 ≤ m → 1 ≤ f.den → 1 ≤ g.den → f.den ∣ m → g.den ∣ m
    → fraction_of (weight_of m f -ℤ weight_of m g) m ≡ difference_of f g
difference-by_weights m f g some some_f some_g whole_f whole_g =
    let rest : ℤ = weight_of m f -ℤ weight_of m g in
    times-same m (fraction_of rest m) (difference_of f g) rest some (fraction_of-reduced rest m some).lowest (difference-lowest f g some_f some_g)
    (times-reduced rest m (pos m) rest some refl)
    (times-difference (pos m) f g (weight_of m f) (weight_of m g) some_f some_g (whole-weight m f whole_f) (whole-weight m g whole_g))

some_sum : (unit : ℕ) (sum : Fraction) → 1 ≤ unit → IsWholeIn unit sum → 1 ≤ sum.den
some_sum unit sum some is = pos_of_dvd_of_pos is.whole some

sum_divides : (unit root : ℕ) (sum : Fraction) → IsWholeIn unit sum → sum.den ∣ unit * root
sum_divides unit root sum is = dvd-mul_right_of_dvd sum.den is.whole root

-- the sum times the unit and a root
pub sum-small : (unit root : ℕ) (sum : Fraction) → 1 ≤ unit → root ≤ most_root → IsWholeIn unit sum
    → unsigned_abs (weight_of (unit * root) sum) ≤ most_row
sum-small unit root sum some few is =
    omega (arith, weight-small unit root sum (some_sum unit sum some is) (sum_divides unit root sum is) is.small, mul-le-mul_left most few)

-- what the sum leaves of an end, over the unit and the root
pub left-over : (unit root : ℕ) (sum end : Fraction) → 1 ≤ unit → IsWholeIn unit sum → IsWholeEnd unit root end
    → fraction_of (weight_of (unit * root) sum -ℤ weight_of (unit * root) end) (unit * root) ≡ difference_of sum end
left-over unit root sum end some is whole =
    difference-by_weights (unit * root) sum end (one-le-mul some whole.of_root.0) (some_sum unit sum some is) whole.some (sum_divides unit root sum is)
    whole.whole

-- ---- the ends of an outcome
whole_bound : (unit : ℕ) (end : End) → IsFromTo 1 most unit → IsFromTo 1 most_root (slice_index end.plan 0)
    → unsigned_abs end.reply.total ≤ most_row → IsWholeEnd unit (slice_index end.plan 0) (printed_bound unit end)
whole_bound unit end of_unit of_root small =
    let root : ℕ = slice_index end.plan 0 in
    let m : ℕ = unit * root in
    let total : ℤ = end.reply.total in
    let f : Fraction = fraction_of total m in
    let some : 1 ≤ m = one-le-mul of_unit.0 of_root.0 in
    let reduced = fraction_of-reduced total m some in
    let divides : f.den ∣ m = den-divides f total m reduced.lowest reduced.exact in
    let same : weight_of m f ≡ total = same-without f.den (weight_of m f) total reduced.lowest.positive (whole-weight m f divides ∙ reduced.exact) in
    record { of_root = of_root; some = reduced.lowest.positive; whole = divides; small = omega (arith, ap unsigned_abs same, small) }

pub outcome_leaves : (head : Head) (b : FormBounds) → AreFormBounds b → head.unit ≡ b.unit → IsWholeIn head.unit head.sum
    → LeavesSecond head (form_bounds b)
outcome_leaves head b are same sum =
    rw same (record {
      unit = are.unit;
      sum_is = rw (sym same) sum;
      low = whole_bound b.unit (end_seen b.lower.now) are.unit are.lower.root are.lower.total;
      high = whole_bound b.unit (end_seen b.upper.now) are.unit are.upper.root are.upper.total;
    })

-- ---- the ends of a certificate that was read
turned : (unit root : ℕ) (end : Fraction) → IsFromTo 1 most_root root → 1 ≤ end.den → EndTurns unit root end
    → IsWholeEnd unit root end
turned unit root end of_root some turns =
    record {
      of_root = of_root;
      some = some;
      whole = turns.whole;
      small = omega
          (arith, weight-small unit root end some turns.whole turns.small, mul-le-mul_left most of_root.1);
    }

read_leaves : (head : Head) (b : PrintedBounds) → HeadFits head → BoundsFit head b → IsWholeIn head.unit head.sum
    → EndTurns head.unit b.plan_one.root b.low × EndTurns head.unit b.plan_two.root b.high → LeavesSecond head b
read_leaves head b of_head fits sum turns = record {
  unit = of_head.unit;
  sum_is = sum;
  low = turned head.unit b.plan_one.root b.low fits.plan_one.root fits.low.lowest.positive turns.0;
  high = turned head.unit b.plan_two.root b.high fits.plan_two.root fits.high.lowest.positive turns.1;
}

bounds_leave : (head : Head) (bounds : Option PrintedBounds) → HeadFits head → FitsBelowHead head bounds
    → IsWholeIn head.unit head.sum → EndsTurn head.unit bounds → 1 ≤ head.rounds
    → LeavesSecond head (unwrap_or bounds no_bounds)
bounds_leave head None of_head below sum turn asked = absurd (omega (arith, below, asked))
bounds_leave head (Some b) of_head below sum turn asked = read_leaves head b of_head below sum turn

pub upgrade_leaves : (c : VersionedCertificate) → VersionedFits c → IsUpgradable c → 1 ≤ c.certificate.head.rounds
    → LeavesSecond c.certificate.head (bounds_in c.certificate)
upgrade_leaves c fits is asked =
    bounds_leave c.certificate.head c.certificate.bounds fits.certificate.head fits.certificate.below is.sum_is is.ends asked
