-- The upgrade of an accepted certificate is within its ranges, and its text is accepted.
use Rattle.std.proofs.Common.{◌≡◌, ℕ, ◌+◌, ◌*◌, ◌^◌, ◌≤◌, List, get_or, Option, Some, None, Ok, ℤ, pos, ◌*ℤ◌, unsigned_abs, refl, sym, ap, subst, ◌∙◌, arith}
use Rattle.std.proofs.Common.{slice_index}
use Rattle.std.specs.Int.{◌∣◌}
use Rattle.std.specs.Option.{option_map}
use Rattle.std.specs.Prelude.{◌-ℤ◌}
use Rattle.std.proofs.Math.Nat.{div-le_self, dvd-mul_left, dvd-mul_right_of_dvd, le_of_mul-le-mul_right, mul-le-mul, mul-le-mul_left, mul-le-mul_right, mul-one}
use Rattle.std.proofs.Math.Nat.{mul_assoc, mul_comm, one-le-mul, one-mul}
use Rattle.std.proofs.lemmas.Int.{ints, unsigned_abs-mul}
use Rattle.def_sums.proofs.SumLaws.{nat_sum_over-factor, nat_sum_over-mono, unsigned_abs-sum_over}
use Rattle.def_tree.specs.declared.Kind.TheVariants as kinds
use Rattle.def_fraction.specs.Divisors.{gcd}
use Rattle.def_fraction.specs.Fraction.{Fraction, IsInLowestTerms, fraction_of, most}
use Rattle.def_fraction.specs.Laws.{HasValue}
use Rattle.def_fraction.proofs.DivisorLemmas.{divides_other}
use Rattle.def_fraction.proofs.FractionLemmas.{fraction_of-value, unsigned_abs-without_factor}
use Rattle.def_game_scale.specs.Scale.{weight_of}
use Rattle.def_game_scale.proofs.Units.{whole-weight}
use Rattle.def_game_numbers.specs.Weighed.{weighed_game}
use Rattle.def_game_numbers.specs.WholeSums.{IsSmallTimes, IsWholeIn}
use Rattle.def_game_numbers.proofs.WholeSums.{whole_sums}
use Rattle.def_plan.specs.Form.{AreInOrder, Leaf}
use Rattle.def_plan.specs.Plan.{pure_plan}
use Rattle.def_plan.specs.Payoff.{mass_of, pay}
use Rattle.def_plan.specs.Weighed.{WeighedGame}
use Rattle.def_plan.proofs.SizeLaws.{plan-below_root}
use Rattle.def_reply.specs.Outcome.{Head}
use Rattle.def_reply.specs.Reply.{choices_of}
use Rattle.def_fraction.specs.Order.{difference_of}
use Rattle.def_constant_sum.proofs.Times.{IsTimes, difference-lowest, times-difference}
use Rattle.def_cert_verdict.specs.Certificate.{PrintedBounds, printed_numbers}
use Rattle.def_cert_verdict.specs.Ranges.{BoundFits, FitsBelowHead, HeadFits}
use Rattle.def_cert_verdict.specs.Verdict.{Verdict, bracket, head_only, verdict}
use Rattle.def_cert_verdict.specs.Laws.{IsHeadOf, ShowsItsBounds}
use Rattle.def_cert_verdict.proofs.VerdictIsExact.{exact}
use Rattle.def_cert_text.specs.Versions.{SecondFits}
use Rattle.def_cert_text.specs.declared.version.TextVersion.TheVariants as versions
use Rattle.def_cert_text.specs.CertText.{versioned_text}
use Rattle.def_cert_text.proofs.TextLaws.{versioned_reading}
use Rattle.def_cert_versions.specs.Verdict.{second_bracket, upgraded}
use Rattle.def_cert_versions.specs.Upgrade.{AcceptedAreUpgradable, EndTurns, EndsTurn, UpgradedTextsAreAccepted, UpgradesFit}
use Rattle.def_cert_versions.proofs.VersionedVerdict.{accept_alike, upgrades}
use Rattle.def_cert_versions.proofs.PlayerTwo.{accepted_with, in_order, some_unit}

-- ---- numbers
mul-swap_last : (a b c : ℕ) → (a * b) * c ≡ (a * c) * b
mul-swap_last a b c = mul_assoc a b c ∙ ap (λ n. a * n) (mul_comm b c) ∙ sym (mul_assoc a c b)

-- no part of a fraction in lowest terms is larger than that of a fraction with its value
parts_of : (limit : ℕ) (f : Fraction) (n : ℤ) (d : ℕ) → IsInLowestTerms f → 1 ≤ d → HasValue f n d
    → unsigned_abs n ≤ limit → d ≤ limit → (unsigned_abs f.num ≤ limit) × (f.den ≤ limit)
unfolding fraction_of
parts_of limit f n d low some value small few =
    let g : ℕ = gcd (unsigned_abs n) d in
    subst (λ (h : Fraction). (unsigned_abs h.num ≤ limit) × (h.den ≤ limit)) (fraction_of-value f n d low some value)
    (omega (arith, unsigned_abs-without_factor n g, div-le_self (unsigned_abs n) g), omega (arith, div-le_self d g))

-- the denominator divides each number that makes the fraction whole
pub den-divides : (f : Fraction) (n : ℤ) (m : ℕ) → IsInLowestTerms f → HasValue f n m → f.den ∣ m
den-divides f n m low value =
    let sizes : unsigned_abs n * f.den ≡ unsigned_abs f.num * m = sym (unsigned_abs-mul n (pos f.den)) ∙ ap unsigned_abs (sym value)
    ∙ unsigned_abs-mul f.num (pos m) in
    divides_other (unsigned_abs f.num) f.den m low.coprime (subst (λ k. f.den ∣ k) sizes (dvd-mul_left f.den (unsigned_abs n)))

-- a fraction that is small times the unit is as small times the unit and a root, over that root
pub weight-small : (unit root : ℕ) (f : Fraction) → 1 ≤ f.den → f.den ∣ unit * root → IsSmallTimes unit f
    → unsigned_abs (weight_of (unit * root) f) ≤ most * root
weight-small unit root f some divides small =
    let m : ℕ = unit * root in
    let size : unsigned_abs (weight_of m f) * f.den ≡ unsigned_abs f.num * m =
    sym (unsigned_abs-mul (weight_of m f) (pos f.den)) ∙ ap unsigned_abs (whole-weight m f divides) ∙ unsigned_abs-mul f.num (pos m) in
    let spread : unsigned_abs f.num * m ≡ (unsigned_abs f.num * unit) * root = sym (mul_assoc (unsigned_abs f.num) unit root) in
    let turned : (most * f.den) * root ≡ (most * root) * f.den = mul-swap_last most f.den root in
    le_of_mul-le-mul_right (omega (arith, size, spread, turned, mul-le-mul_right root small)) some

-- ---- what two plans pay is small
term : (w : ℤ) (n most : ℕ) → n ≤ most → unsigned_abs (w *ℤ pos n) ≤ unsigned_abs w * most
term w n most h = omega (arith, unsigned_abs-mul w (pos n), mul-le-mul_left (unsigned_abs w) h)

pay-small : (leaves : List Leaf) (r s : ℕ) (x y : List ℕ) → ((n : ℕ) → slice_index x n ≤ r) → ((n : ℕ) → slice_index y n ≤ s)
    → unsigned_abs (pay leaves x y) ≤ mass_of leaves * (r * s)
pay-small leaves r s x y few_x few_y =
    let amount : Leaf → ℤ = λ z. z.weight *ℤ pos (slice_index x z.sequence_one * slice_index y z.sequence_two) in
    let size : Leaf → ℕ = λ z. unsigned_abs z.weight * (r * s) in
    omega (
      arith,
      unsigned_abs-sum_over amount leaves,
      nat_sum_over-mono (λ z. unsigned_abs (amount z)) size leaves
          (λ k d low. let z : Leaf = get_or leaves k d in term z.weight (slice_index x z.sequence_one * slice_index y z.sequence_two) (r * s)
          (mul-le-mul (few_x z.sequence_one) (few_y z.sequence_two))),
      nat_sum_over-factor (r * s) (λ z. unsigned_abs z.weight) leaves,
    )

-- ---- an end of the bracket
-- an end is the total over the unit and the root, and the total is what some plan of root 1 is paid
end_turns : (unit root mass : ℕ) (end : Fraction) (total : ℤ) → 1 ≤ root → IsInLowestTerms end
    → HasValue end total (unit * root) → unsigned_abs total ≤ mass * root → mass ≤ most → EndTurns unit root end
end_turns unit root mass end total some low value small light =
    let sizes : unsigned_abs end.num * (unit * root) ≡ unsigned_abs total * end.den = sym (unsigned_abs-mul end.num (pos (unit * root))) ∙ ap unsigned_abs value
    ∙ unsigned_abs-mul total (pos end.den) in
    let spread : unsigned_abs end.num * (unit * root) ≡ (unsigned_abs end.num * unit) * root = sym (mul_assoc (unsigned_abs end.num) unit root) in
    let turned : (mass * root) * end.den ≡ (mass * end.den) * root = mul-swap_last mass root end.den in
    record {
      whole = den-divides end total (unit * root) low value;
      small = omega (
        arith,
        le_of_mul-le-mul_right {m = unsigned_abs end.num * unit} {n = mass * end.den} {k = root}
            (omega (arith, sizes, spread, turned, mul-le-mul_right end.den small)) some,
        mul-le-mul_right end.den light,
      );
    }

-- what the sum leaves of an end is within its range
rest_fits : (unit root : ℕ) (sum end : Fraction) → 1 ≤ unit → unit ≤ 2 ^ 62 → 1 ≤ root → root ≤ 2 ^ 36 → IsInLowestTerms sum
    → IsInLowestTerms end → sum.den ∣ unit → IsSmallTimes unit sum → EndTurns unit root end
    → BoundFits (difference_of sum end)
rest_fits unit root sum end some_unit few_units some_root few low_sum low_end divides small turns =
    let m : ℕ = unit * root in
    let some : 1 ≤ m = one-le-mul some_unit some_root in
    let divides_m : sum.den ∣ m = dvd-mul_right_of_dvd sum.den divides root in
    let k : ℤ = weight_of m sum in
    let h : ℤ = weight_of m end in
    let rest : Fraction = difference_of sum end in
    let low : IsInLowestTerms rest = difference-lowest sum end low_sum.positive low_end.positive in
    let times : IsTimes (pos m) rest (k -ℤ h) = times-difference (pos m) sum end k h low_sum.positive low_end.positive (whole-weight m sum divides_m)
    (whole-weight m end turns.whole) in
    let few_m : m ≤ 2 ^ 98 = mul-le-mul few_units few in
    let small_k : unsigned_abs k ≤ most * root = weight-small unit root sum low_sum.positive divides_m small in
    let small_h : unsigned_abs h ≤ most * root = weight-small unit root end low_end.positive turns.whole turns.small in
    let limit : most * root ≤ 2 ^ 98 = mul-le-mul_left most few in
    let size : unsigned_abs (k -ℤ h) ≤ unsigned_abs k + unsigned_abs h = omega (arith, ints) in
    let parts = parts_of (2 ^ 100) rest (k -ℤ h) m low some (sym times) (omega (arith, size, small_k, small_h, limit)) (omega (arith, few_m)) in
    record { lowest = low; num = parts.0; den = parts.1 }

-- ---- an accepted certificate
module _ (game : WeighedGame) (one : AreInOrder game.form.sets_one) (two : AreInOrder game.form.sets_two) where
  -- a total that two plans pay, the one of root 1
  floor_small : (b : PrintedBounds) → ShowsItsBounds game b
      → unsigned_abs b.reply_two.total ≤ mass_of game.form.leaves * b.plan_one.root
  floor_small b shows =
      let reply : List ℕ = pure_plan game.form.sets_two (choices_of b.reply_two.sets) in
      omega (
        arith,
        ap unsigned_abs shows.floor_attained.pays,
        pay-small game.form.leaves b.plan_one.root 1 (printed_numbers b.plan_one) reply
            (plan-below_root game.form.sets_one b.plan_one.root (printed_numbers b.plan_one) one shows.plan_one)
            (plan-below_root game.form.sets_two 1 reply two shows.floor_attained.is_plan),
        ap (λ n. mass_of game.form.leaves * n) (mul-one b.plan_one.root),
      )

  ceiling_small : (b : PrintedBounds) → ShowsItsBounds game b
      → unsigned_abs b.reply_one.total ≤ mass_of game.form.leaves * b.plan_two.root
  ceiling_small b shows =
      let reply : List ℕ = pure_plan game.form.sets_one (choices_of b.reply_one.sets) in
      omega (
        arith,
        ap unsigned_abs shows.ceiling_attained.pays,
        pay-small game.form.leaves 1 b.plan_two.root reply (printed_numbers b.plan_two)
            (plan-below_root game.form.sets_one 1 reply one shows.ceiling_attained.is_plan)
            (plan-below_root game.form.sets_two b.plan_two.root (printed_numbers b.plan_two) two shows.plan_two),
        ap (λ n. mass_of game.form.leaves * n) (one-mul b.plan_two.root),
      )

  both_turn : (b : PrintedBounds) → ShowsItsBounds game b → mass_of game.form.leaves ≤ most
      → EndTurns game.unit b.plan_one.root b.low × EndTurns game.unit b.plan_two.root b.high
  both_turn b shows light = (
    end_turns game.unit b.plan_one.root (mass_of game.form.leaves) b.low b.reply_two.total shows.plan_one.some_root shows.low.lowest shows.low.value
        (floor_small b shows) light,
    end_turns game.unit b.plan_two.root (mass_of game.form.leaves) b.high b.reply_one.total shows.plan_two.some_root shows.high.lowest shows.high.value
        (ceiling_small b shows) light,
  )

head_is_of : (game : WeighedGame) (head : Head) (bounds : Option PrintedBounds) (shown : Verdict)
    → verdict game (record { head = head; bounds = bounds }) ≡ Ok shown → IsHeadOf game head
head_is_of game head None head_only e = (exact.head_alone game head).0 e
head_is_of game head None (bracket low high) e = absurd (exact.no_bracket game head low high e)
head_is_of game head (Some b) head_only e = absurd (exact.not_head_alone game head b e)
head_is_of game head (Some b) (bracket low high) e = ((exact.with_bracket game head b low high).0 e).0

ends_turn : (game : WeighedGame) (head : Head) (bounds : Option PrintedBounds) (shown : Verdict) → AreInOrder game.form.sets_one
    → AreInOrder game.form.sets_two → 1 ≤ game.unit → head.mass ≤ most
    → verdict game (record { head = head; bounds = bounds }) ≡ Ok shown → EndsTurn head.unit bounds
ends_turn game head None shown one two unit light e = tt
ends_turn game head (Some b) shown one two unit light e =
    let with = accepted_with game head b shown one two unit e in
    subst (λ u. EndsTurn u (Some b)) (sym with.head_is.unit) (both_turn game one two b with.shows (omega (arith, light, with.head_is.mass_is)))

-- what is accepted is upgradable
pub upgradable : AcceptedAreUpgradable
upgradable game c shown one two unit sum fits e =
    let a = (accept_alike game c shown).0 e in
    let head : Head = c.certificate.head in
    let head_is = head_is_of game head c.certificate.bounds shown a.0 in
    record {
      sum_is = subst (λ u. IsWholeIn u head.sum) (sym head_is.unit) (subst (IsWholeIn game.unit) (sym head_is.sum_is) sum);
      ends = ends_turn game head c.certificate.bounds shown one two unit fits.certificate.head.mass a.0;
      second = a.1;
    }

second_within : (head : Head) (bounds : Option PrintedBounds) → HeadFits head → FitsBelowHead head bounds
    → head.sum.den ∣ head.unit → IsSmallTimes head.unit head.sum → EndsTurn head.unit bounds
    → SecondFits versions.Two bounds (option_map (second_bracket head.sum) bounds)
second_within head None fits below whole small turn = refl
second_within head (Some b) fits below whole small turn = (
  rest_fits head.unit b.plan_two.root head.sum b.high fits.unit.0 fits.unit.1 below.plan_two.root.0 below.plan_two.root.1 fits.sum.lowest below.high.lowest
      whole small turn.1,
  rest_fits head.unit b.plan_one.root head.sum b.low fits.unit.0 fits.unit.1 below.plan_one.root.0 below.plan_one.root.1 fits.sum.lowest below.low.lowest whole
      small turn.0,
)

-- the upgrade of what is upgradable is within its ranges
pub upgrades_fit : UpgradesFit
upgrades_fit c fits is = record {
  certificate = fits.certificate;
  second = second_within c.certificate.head c.certificate.bounds fits.certificate.head fits.certificate.below is.sum_is.whole is.sum_is.small is.ends;
}

-- the text of the upgrade of an accepted text is accepted
pub upgraded_texts : UpgradedTextsAreAccepted
upgraded_texts game bytes c shown is e accepts =
    let text = (versioned_reading bytes c).0 e in
    let can = upgradable (weighed_game game) c shown (in_order game is kinds.One refl) (in_order game is kinds.Two refl) (some_unit game is)
    (whole_sums game is) text.0 accepts in
    record {
      read = (versioned_reading (versioned_text (upgraded c)) (upgraded c)).1 (upgrades_fit c text.0 can, refl);
      accepted = upgrades.same_verdict (weighed_game game) c shown accepts;
      itself = λ two. ap versioned_text (upgrades.itself (weighed_game game) c shown accepts two) ∙ sym text.1;
    }
