-- The verdict on a certificate of either version, by the lines of its version: what its certificate says is judged
-- first, and then the bracket of player two's own payoff.
--     second_bracket sum b         what the sum leaves of both ends of the bracket, in the other order
--     versioned_verdict game c     what the certificate shows of the game, or its first fault
use Rattle.std.specs.Prelude.{ℕ, ◌+◌, ◌==◌, Bool, true, false, ◌&&◌, not, List, [], ◌∷◌, ◌++◌, take, Option, Some, None}
use Rattle.std.specs.Prelude.{Result, Ok, Err, if◌then◌else◌}
use Rattle.std.specs.Option.{option_map}
use Rattle.def_fraction.specs.Fraction.{Fraction}
use Rattle.def_plan.specs.Payoff.{mass_of}
use Rattle.def_plan.specs.Weighed.{WeighedGame}
use Rattle.def_reply.specs.Outcome.{Head}
use Rattle.def_fraction.specs.Order.{difference_of}
use Rattle.def_cert_verdict.specs.declared.fault.TestFault.{TestFault}
use Rattle.def_cert_verdict.specs.declared.fault.TestFault.TheVariants.{HeadDiffers, SecondDiffers}
use Rattle.def_cert_verdict.specs.Certificate.{PrintedBounds, Certificate}
use Rattle.def_cert_verdict.specs.Verdict.{Verdict, first_failing, first_trace_line, unless, is_same_fraction}
use Rattle.def_cert_verdict.specs.Verdict.{head_tests, tests_below_head, decided_by}
use Rattle.def_cert_text.specs.Versions.{PrintedBracket, VersionedCertificate, has_second}
use Rattle.def_cert_text.specs.declared.version.TextVersion.{TextVersion}
use Rattle.def_cert_text.specs.declared.version.TextVersion.TheVariants as versions

-- ---- player two's bracket: the sum of the game less the ends of player one's
abbrev pub second_bracket : Fraction → PrintedBounds → PrintedBracket
second_bracket sum b = record { low = difference_of sum b.high; high = difference_of sum b.low }

-- there is one where there are bounds
abbrev pub second_of : Certificate → Option PrintedBracket
second_of c = option_map (second_bracket c.head.sum) c.bounds

abbrev pub is_same_bracket : Option PrintedBracket → Option PrintedBracket → Bool
is_same_bracket None None = true
is_same_bracket None (Some b) = false
is_same_bracket (Some a) None = false
is_same_bracket (Some a) (Some b) = is_same_fraction a.low b.low && is_same_fraction a.high b.high

-- ---- the tests by the lines of a version: version 2 has the sum's line behind that of the mass
abbrev pub head_tests_of : TextVersion → WeighedGame → Head → List (Option TestFault)
head_tests_of versions.One game head = head_tests game head
head_tests_of versions.Two game head =
    take 3 (head_tests game head)
    ++ (unless (head.unit == game.unit) (HeadDiffers 5)
    ∷ unless (head.mass == mass_of game.form.leaves) (HeadDiffers 6)
    ∷ unless (is_same_fraction head.sum game.sum) (HeadDiffers 7)
    ∷ [])

-- whose trace begins a line later
abbrev pub first_trace_line_of : TextVersion → ℕ
first_trace_line_of versions.One = first_trace_line
first_trace_line_of versions.Two = first_trace_line + 1

abbrev pub tests_of : TextVersion → WeighedGame → Certificate → List (Option TestFault)
tests_of v game c = head_tests_of v game c.head ++ tests_below_head game (first_trace_line_of v) c.head.scale c.bounds

abbrev pub verdict_by : TextVersion → WeighedGame → Certificate → Result Verdict TestFault
verdict_by v game c = decided_by c.bounds (first_failing (tests_of v game c))

-- ---- the verdict
-- the second bracket is judged last of all
abbrev pub judged_with : VersionedCertificate → Result Verdict TestFault → Result Verdict TestFault
judged_with c (Err fault) = Err fault
judged_with c (Ok shown) = if has_second c.version && not (is_same_bracket c.second (second_of c.certificate)) then Err SecondDiffers else Ok shown

abbrev pub versioned_verdict : WeighedGame → VersionedCertificate → Result Verdict TestFault
versioned_verdict game c = judged_with c (verdict_by c.version game c.certificate)

-- ---- the upgrade
-- a certificate in a text of version 2, with the bracket that the sum leaves player two
abbrev pub in_version_two : Certificate → VersionedCertificate
in_version_two c = record { version = versions.Two; certificate = c; second = second_of c }

-- what a certificate says, in version 2
abbrev pub upgraded : VersionedCertificate → VersionedCertificate
upgraded c = in_version_two c.certificate
