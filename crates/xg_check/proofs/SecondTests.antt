-- The bracket of player two's own payoff, which is judged where all tests pass.
use Rattle.std.proofs.Common.{◌≡◌, ◌≤◌, Bool, true, false, ◌&&◌, not, cond, Option, Some, None, Result, Ok, Err, ◌↔◌, refl, sym, ap, subst, ◌∙◌}
use Rattle.std.specs.Option.{option_map}
use Rattle.std.proofs.lemmas.Option.{none-some}
use Rattle.def_fraction.specs.Fraction.{Fraction}
use Rattle.def_tree.specs.declared.Player.{Player}
use Rattle.def_tree.specs.declared.Player.TheVariants.{One, Two}
use Rattle.def_tree.specs.Opponent.{opponent}
use Rattle.def_plan.specs.Form.{AreInOrder}
use Rattle.def_plan.specs.Weighed.{WeighedGame}
use Rattle.def_reply.specs.Outcome.{Head}
use Rattle.def_fraction.specs.Order.{difference_of}
use Rattle.def_cert_verdict.specs.declared.fault.TestFault.{TestFault}
use Rattle.def_cert_verdict.specs.declared.fault.TestFault.TheVariants.{SecondDiffers}
use Rattle.def_cert_verdict.specs.Certificate.{Certificate, PrintedBounds}
use Rattle.def_cert_verdict.specs.Verdict.{Verdict, decided_by, first_failing, is_same_fraction, shown_by, verdict}
use Rattle.def_cert_verdict.proofs.Fractions.{same_fraction}
use Rattle.def_cert_text.specs.declared.version.TextVersion.{TextVersion}
use Rattle.def_cert_text.specs.declared.version.TextVersion.TheVariants as versions
use Rattle.def_cert_text.specs.Versions.{PrintedBracket, SecondFits, VersionedCertificate, VersionedFits, has_second, in_version_one}
use Rattle.def_cert_versions.specs.Upgrade.{IsUpgradable}
use Rattle.def_game_numbers.specs.WholeSums.{HasWholeSum}
use Rattle.def_cert_versions.specs.Verdict.{is_same_bracket, judged_with, second_bracket, second_of, tests_of, verdict_by}
use Rattle.def_cert_versions.proofs.Upgrades.{upgradable}
use Rattle.def_cert_versions.proofs.VersionedVerdict.{accept_alike, old_verdicts}
use Rattle.xg_cert.specs.Printed.{bounds_in, plan_in}
use Rattle.xg_cert.specs.ReadCert.{bracket_between, second_where_given}
use Rattle.xg_cert.specs.Writable.{IsWholeEnd, LeavesSecond}
use Rattle.xg_check.specs.Parts.{bound_in}

-- ---- where all tests pass
same_itself : (o : Option PrintedBracket) → is_same_bracket o o ≡ true
same_itself None = refl
same_itself (Some a) =
    let low : is_same_fraction a.low a.low ≡ true = (same_fraction a.low a.low).1 refl in
    let high : is_same_fraction a.high a.high ≡ true = (same_fraction a.high a.high).1 refl in
    λ i. low i && high i

not_bad : (v : TextVersion) (same : Bool) → same ≡ true → (has_second v && not same) ≡ false
not_bad versions.One same e = refl
not_bad versions.Two same e = ap not e

-- the tests of each version accept what those without a version do
passes : (v : TextVersion) (game : WeighedGame) (c : Certificate) (shown : Verdict) → verdict_by v game c ≡ Ok shown
    → verdict game c ≡ Ok shown
passes v game c shown e =
    let told : VersionedCertificate = record { version = v; certificate = c; second = second_of c } in
    let last : Bool → Result Verdict TestFault = λ bad. cond bad (Err SecondDiffers) (Ok shown) in
    let good = not_bad v (is_same_bracket (second_of c) (second_of c)) (same_itself (second_of c)) in
    ((accept_alike game told shown).0 (ap (judged_with told) e ∙ ap last good)).0

-- what a certificate says whose tests all pass is upgradable, whatever its second bracket is
pub passed-upgradable : (game : WeighedGame) (c : VersionedCertificate) → AreInOrder game.form.sets_one
    → AreInOrder game.form.sets_two → 1 ≤ game.unit → HasWholeSum game → VersionedFits c
    → first_failing (tests_of c.version game c.certificate) ≡ None → IsUpgradable (in_version_one c.certificate)
passed-upgradable game c one two unit sum fits none =
    let shown : Verdict = shown_by c.certificate.bounds in
    let accepted : verdict game c.certificate ≡ Ok shown = passes c.version game c.certificate shown (ap (decided_by c.certificate.bounds) none) in
    upgradable game (in_version_one c.certificate) shown one two unit sum (record { certificate = fits.certificate; second = refl })
    ((old_verdicts.accepted game c.certificate shown).1 accepted)

-- the bound that a player's reply shows, with the root of the plan that the reply is against
pub whole_bound : (player : Player) (head : Head) (b : PrintedBounds) → LeavesSecond head b
    → IsWholeEnd head.unit (plan_in (opponent player) b).root (bound_in player b)
whole_bound One head b leaves = leaves.high
whole_bound Two head b leaves = leaves.low

-- ---- the test
no_second : (v : TextVersion) (second : Option PrintedBracket) → SecondFits v None second → second ≡ None
no_second versions.One second fits = fits
no_second versions.Two second fits = fits

-- without bounds there is no second bracket, and none is wanted
pub other-without_bounds : (c : VersionedCertificate) → VersionedFits c → c.certificate.bounds ≡ None
    → false ≡ (has_second c.version && not (is_same_bracket c.second (second_of c.certificate)))
other-without_bounds c fits none =
    let absent : c.second ≡ None = no_second c.version c.second (subst (λ bounds. SecondFits c.version bounds c.second) none fits.second) in
    let wanted : second_of c.certificate ≡ None = ap (option_map (second_bracket c.certificate.head.sum)) none in
    sym (not_bad c.version (is_same_bracket c.second (second_of c.certificate)) (λ i. is_same_bracket (absent i) (wanted i)))

-- version 1 tells none
pub other-in_one : (v : TextVersion) (t : Bool) → v ≡ versions.One → false ≡ (has_second v && t)
other-in_one v t e = ap (λ w. has_second w && t) (sym e)

-- and version 2 another one where the printed ends aren't both what the sum leaves
pub other-in_two : (c : VersionedCertificate) (r : Option (Fraction × Fraction)) (printed : Fraction × Fraction) (low high : Fraction)
    (same : Bool) → r ≡ Some printed → second_where_given r ≡ c.second → ((r ≡ None) ↔ (c.version ≡ versions.One))
    → c.certificate.bounds ≡ Some (bounds_in c.certificate)
    → low ≡ difference_of c.certificate.head.sum (bounds_in c.certificate).high
    → high ≡ difference_of c.certificate.head.sum (bounds_in c.certificate).low
    → same ≡ (is_same_fraction printed.0 low && is_same_fraction printed.1 high)
    → not same ≡ (has_second c.version && not (is_same_bracket c.second (second_of c.certificate)))
other-in_two c r printed low high same is value version there low_is high_is same_is =
    let sum : Fraction = c.certificate.head.sum in
    let told : c.second ≡ Some (bracket_between printed) = sym value ∙ ap second_where_given is in
    let wanted : second_of c.certificate ≡ Some (record { low = low; high = high }) =
    ap (option_map (second_bracket sum)) there ∙ (λ i. Some (record { low = sym low_is i; high = sym high_is i })) in
    let two : has_second c.version ≡ true = by c.version refl in
    ap not same_is ∙ (λ i. sym two i && not (is_same_bracket (sym told i) (sym wanted i)))
  where
    by : (v : TextVersion) → c.version ≡ v → has_second v ≡ true
    by versions.One one = absurd (none-some printed (sym (version.1 one) ∙ is))
    by versions.Two two = refl
