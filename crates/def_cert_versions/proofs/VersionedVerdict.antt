-- The verdict on certificates of both versions.
use Rattle.std.proofs.Common.{◌≡◌, ℕ, suc, ◌+◌, ◌-◌, ◌<◌, ◌≤◌, Bool, true, false, ◌&&◌, not, cond, eqb, length, Option, Some, None, Result, Ok, Err, refl, sym}
use Rattle.std.proofs.Common.{ap, subst, ◌∙◌, arith, ◌⊎◌, inl, inr, ⊎_elim}
use Rattle.std.specs.Bool.{Decides}
use Rattle.std.proofs.lemmas.Bool.{cases_lt, false≢true}
use Rattle.std.proofs.lemmas.Bool.Decides.{Decides-eqb, Decides-and, Decides-like}
use Rattle.std.proofs.lemmas.Option.{none-some, same_Some}
use Rattle.def_plan.specs.Form.{sequence_count}
use Rattle.def_plan.specs.Payoff.{mass_of}
use Rattle.def_plan.specs.Weighed.{WeighedGame}
use Rattle.def_reply.specs.Outcome.{Head}
use Rattle.def_cert_verdict.specs.declared.fault.TestFault.{TestFault}
use Rattle.def_cert_verdict.specs.declared.fault.TestFault.TheVariants.{HeadDiffers, NotAPlan, ValueTooGood, ReplyNotTight, TotalDiffers, TraceWidens}
use Rattle.def_cert_verdict.specs.declared.fault.TestFault.TheVariants.{SecondDiffers}
use Rattle.def_cert_verdict.specs.Certificate.{PrintedBounds, Certificate}
use Rattle.def_cert_verdict.specs.Verdict.{Verdict, first_failing, is_same_fraction, head_tests, tests_below_head, shown_by, decided_by, verdict}
use Rattle.def_cert_verdict.specs.Laws.{IsHeadOf}
use Rattle.def_cert_verdict.specs.FaultCauses.{IsFirstNot}
use Rattle.def_cert_verdict.proofs.Fractions.{same_fraction}
use Rattle.def_cert_verdict.proofs.Heads.{both, head_described, line_step}
use Rattle.def_cert_verdict.proofs.TestsDecide.{TestsDecide, TestsDecide-append, TestsDecide-search, TestsDecide-like, Searches, Searches-end}
use Rattle.def_cert_verdict.proofs.VerdictIsExact.{BoundsHoldUp, below_described}
use Rattle.def_cert_text.specs.Versions.{PrintedBracket, VersionedCertificate, has_second, in_version_one}
use Rattle.def_cert_text.specs.declared.version.TextVersion.{TextVersion}
use Rattle.def_cert_text.specs.declared.version.TextVersion.TheVariants as versions
use Rattle.def_cert_versions.specs.Verdict.{first_trace_line_of, head_tests_of, is_same_bracket, judged_with, second_of, tests_of, upgraded, verdict_by}
use Rattle.def_cert_versions.specs.Verdict.{versioned_verdict}
use Rattle.def_cert_versions.specs.Laws.{EachVersionedFaultHasItsCause, HasItsSecond, HeadFaultOfTwo, IsSecondFault, NamesLineOfTwo, OldVerdictsStay}
use Rattle.def_cert_versions.specs.Laws.{TestFaultOf, UpgradesAreAccepted, VersionsAcceptAlike}

-- ---- the head of version 2
other_line : (game : WeighedGame) (head : Head) (line : ℕ) → ((1 < line) → (line < 8) → ⊥) → NamesLineOfTwo game head line
other_line game head line far = record {
  nodes = λ e. absurd (far (omega arith) (omega arith));
  sets = λ e. absurd (far (omega arith) (omega arith));
  sequences = λ e. absurd (far (omega arith) (omega arith));
  unit = λ e. absurd (far (omega arith) (omega arith));
  mass_is = λ e. absurd (far (omega arith) (omega arith));
  sum_is = λ e. absurd (far (omega arith) (omega arith));
}

nodes_line : (game : WeighedGame) (head : Head)
    → Decides (eqb head.nodes game.nodes && eqb head.leaves (length game.form.leaves)) (NamesLineOfTwo game head 2)
nodes_line game head =
    let d = both head.nodes game.nodes head.leaves (length game.form.leaves) in (
      λ e. record {
        nodes = λ l. d.0 e;
        sets = λ l. absurd (omega arith);
        sequences = λ l. absurd (omega arith);
        unit = λ l. absurd (omega arith);
        mass_is = λ l. absurd (omega arith);
        sum_is = λ l. absurd (omega arith);
      },
      λ s. d.1 (s.nodes refl),
    )

sets_line : (game : WeighedGame) (head : Head)
    → Decides (eqb head.sets_one (length game.form.sets_one) && eqb head.sets_two (length game.form.sets_two)) (NamesLineOfTwo game head 3)
sets_line game head =
    let d = both head.sets_one (length game.form.sets_one) head.sets_two (length game.form.sets_two) in (
      λ e. record {
        nodes = λ l. absurd (omega arith);
        sets = λ l. d.0 e;
        sequences = λ l. absurd (omega arith);
        unit = λ l. absurd (omega arith);
        mass_is = λ l. absurd (omega arith);
        sum_is = λ l. absurd (omega arith);
      },
      λ s. d.1 (s.sets refl),
    )

sequences_line : (game : WeighedGame) (head : Head)
    → Decides (eqb head.sequences_one (sequence_count game.form.sets_one) && eqb head.sequences_two (sequence_count game.form.sets_two))
    (NamesLineOfTwo game head 4)
sequences_line game head =
    let d = both head.sequences_one (sequence_count game.form.sets_one) head.sequences_two (sequence_count game.form.sets_two) in (
      λ e. record {
        nodes = λ l. absurd (omega arith);
        sets = λ l. absurd (omega arith);
        sequences = λ l. d.0 e;
        unit = λ l. absurd (omega arith);
        mass_is = λ l. absurd (omega arith);
        sum_is = λ l. absurd (omega arith);
      },
      λ s. d.1 (s.sequences refl),
    )

unit_line : (game : WeighedGame) (head : Head) → Decides (eqb head.unit game.unit) (NamesLineOfTwo game head 5)
unit_line game head =
    let d = Decides-eqb head.unit game.unit in (
      λ e. record {
        nodes = λ l. absurd (omega arith);
        sets = λ l. absurd (omega arith);
        sequences = λ l. absurd (omega arith);
        unit = λ l. d.0 e;
        mass_is = λ l. absurd (omega arith);
        sum_is = λ l. absurd (omega arith);
      },
      λ s. d.1 (s.unit refl),
    )

mass_line : (game : WeighedGame) (head : Head) → Decides (eqb head.mass (mass_of game.form.leaves)) (NamesLineOfTwo game head 6)
mass_line game head =
    let d = Decides-eqb head.mass (mass_of game.form.leaves) in (
      λ e. record {
        nodes = λ l. absurd (omega arith);
        sets = λ l. absurd (omega arith);
        sequences = λ l. absurd (omega arith);
        unit = λ l. absurd (omega arith);
        mass_is = λ l. d.0 e;
        sum_is = λ l. absurd (omega arith);
      },
      λ s. d.1 (s.mass_is refl),
    )

sum_line : (game : WeighedGame) (head : Head) → Decides (is_same_fraction head.sum game.sum) (NamesLineOfTwo game head 7)
sum_line game head =
    let d = same_fraction head.sum game.sum in (
      λ e. record {
        nodes = λ l. absurd (omega arith);
        sets = λ l. absurd (omega arith);
        sequences = λ l. absurd (omega arith);
        unit = λ l. absurd (omega arith);
        mass_is = λ l. absurd (omega arith);
        sum_is = λ l. d.0 e;
      },
      λ s. d.1 (s.sum_is refl),
    )

searched : (game : WeighedGame) (head : Head)
    → Searches TestFault HeadDiffers (first_failing (head_tests_of versions.Two game head)) 2 (λ i. NamesLineOfTwo game head (2 + i))
searched game head =
    line_step 2 _ _ (λ i. NamesLineOfTwo game head (2 + i)) (nodes_line game head)
    (line_step 3 _ _ (λ i. NamesLineOfTwo game head (2 + suc i)) (sets_line game head)
    (line_step 4 _ _ (λ i. NamesLineOfTwo game head (2 + suc (suc i))) (sequences_line game head)
    (line_step 5 _ _ (λ i. NamesLineOfTwo game head (2 + suc (suc (suc i)))) (unit_line game head)
    (line_step 6 _ _ (λ i. NamesLineOfTwo game head (2 + suc (suc (suc (suc i))))) (mass_line game head)
    (line_step 7 _ _ (λ i. NamesLineOfTwo game head (2 + suc (suc (suc (suc (suc i)))))) (sum_line game head)
    (Searches-end TestFault HeadDiffers 8 (λ i. NamesLineOfTwo game head (2 + suc (suc (suc (suc (suc (suc i)))))))
    (λ i. other_line game head (2 + suc (suc (suc (suc (suc (suc i)))))) (λ low high. omega arith))))))))

all_lines : (game : WeighedGame) (head : Head) → IsHeadOf game head → (line : ℕ) → NamesLineOfTwo game head line
all_lines game head h line = record {
  nodes = λ l. (h.nodes, h.leaves);
  sets = λ l. (h.sets_one, h.sets_two);
  sequences = λ l. (h.sequences_one, h.sequences_two);
  unit = λ l. h.unit;
  mass_is = λ l. h.mass_is;
  sum_is = λ l. h.sum_is;
}

head_of : (game : WeighedGame) (head : Head) → ((i : ℕ) → NamesLineOfTwo game head (2 + i)) → IsHeadOf game head
head_of game head says = record {
  nodes = ((says 0).nodes refl).0;
  leaves = ((says 0).nodes refl).1;
  sets_one = ((says 1).sets refl).0;
  sets_two = ((says 1).sets refl).1;
  sequences_one = ((says 2).sequences refl).0;
  sequences_two = ((says 2).sequences refl).1;
  unit = (says 3).unit refl;
  sum_is = (says 5).sum_is refl;
  mass_is = (says 4).mass_is refl;
}

from_two : (game : WeighedGame) (head : Head) (i : ℕ) → IsFirstNot (λ k. NamesLineOfTwo game head (2 + k)) i
    → IsFirstNot (NamesLineOfTwo game head) (2 + i)
from_two game head i f = record {
  fails = f.fails;
  earlier = λ j low. ⊎_elim (λ less. other_line game head j (λ a b. omega arith))
      (λ more. subst (NamesLineOfTwo game head) (back j more) (f.earlier (j - 2) (omega arith))) (cases_lt j 2);
}
  where
    back : (j : ℕ) → 2 ≤ j → 2 + (j - 2) ≡ j
    back j more = omega arith

caused : (game : WeighedGame) (head : Head) (f : TestFault) → HeadFaultOfTwo game head f
    → (i : ℕ) × (f ≡ HeadDiffers (2 + i)) × IsFirstNot (λ k. NamesLineOfTwo game head (2 + k)) i
caused game head (HeadDiffers line) c =
    ⊎_elim (λ less. absurd (c.fails (other_line game head line (λ a b. omega arith))))
    (λ more.
    let back : line ≡ 2 + (line - 2) = omega arith in (
      line - 2,
      ap HeadDiffers back,
      record {
        fails = λ s. c.fails (subst (NamesLineOfTwo game head) (sym back) s);
        earlier = λ j low. c.earlier (2 + j) (omega arith);
      },
    ))
    (cases_lt line 2)
caused game head (NotAPlan p set) c = absurd c
caused game head (ValueTooGood p set action) c = absurd c
caused game head (ReplyNotTight p set) c = absurd c
caused game head (TotalDiffers end) c = absurd c
caused game head (TraceWidens line) c = absurd c
caused game head SecondDiffers c = absurd c

head_described_two : (game : WeighedGame) (head : Head)
    → TestsDecide (head_tests_of versions.Two game head) (IsHeadOf game head) (HeadFaultOfTwo game head)
head_described_two game head =
    TestsDecide-like (head_tests_of versions.Two game head) _ (IsHeadOf game head) _ (HeadFaultOfTwo game head)
    (TestsDecide-search HeadDiffers (head_tests_of versions.Two game head) 2 (λ i. NamesLineOfTwo game head (2 + i)) (searched game head))
    (head_of game head, λ h i. all_lines game head h (2 + i))
    (λ f. (λ c. subst (HeadFaultOfTwo game head) (sym c.1) (from_two game head c.0 c.2), caused game head f))

-- ---- all tests
described : (v : TextVersion) (game : WeighedGame) (c : Certificate)
    → TestsDecide (tests_of v game c) (IsHeadOf game c.head × BoundsHoldUp game c.head.scale c.bounds) (TestFaultOf v game c)
described versions.One game c =
    TestsDecide-append (head_tests game c.head) (tests_below_head game (first_trace_line_of versions.One) c.head.scale c.bounds) _ _ _ _
    (head_described game c.head)
    (below_described game (first_trace_line_of versions.One) c.head.scale c.bounds)
described versions.Two game c =
    TestsDecide-append (head_tests_of versions.Two game c.head) (tests_below_head game (first_trace_line_of versions.Two) c.head.scale c.bounds) _ _ _ _
    (head_described_two game c.head)
    (below_described game (first_trace_line_of versions.Two) c.head.scale c.bounds)

-- ---- from tests to the verdict
accepted_by : (bounds : Option PrintedBounds) (o : Option TestFault) (shown : Verdict) → decided_by bounds o ≡ Ok shown
    → (o ≡ None) × (shown_by bounds ≡ shown)
accepted_by bounds None shown e = (refl, let same : shown_by bounds ≡ shown = cc in same)
accepted_by bounds (Some f) shown e = absurd cc

refused_by : (bounds : Option PrintedBounds) (o : Option TestFault) (f : TestFault) → decided_by bounds o ≡ Err f
    → o ≡ Some f
refused_by bounds None f e = absurd cc
refused_by bounds (Some g) f e = let same : g ≡ f = cc in ap Some same

-- what is accepted by the lines of one version is by those of the other
alike : (u v : TextVersion) (game : WeighedGame) (c : Certificate) (shown : Verdict) → verdict_by u game c ≡ Ok shown
    → verdict_by v game c ≡ Ok shown
alike u v game c shown e =
    let a = accepted_by c.bounds (first_failing (tests_of u game c)) shown e in
    ap (decided_by c.bounds) ((described v game c).none.1 ((described u game c).none.0 a.0)) ∙ ap Ok a.1

-- ---- the second bracket
same_bracket : (a b : Option PrintedBracket) → Decides (is_same_bracket a b) (a ≡ b)
same_bracket None None = (λ e. refl, λ e. refl)
same_bracket None (Some b) = (λ e. absurd (false≢true e), λ e. absurd (none-some b e))
same_bracket (Some a) None = (λ e. absurd (false≢true e), λ e. absurd (none-some a (sym e)))
same_bracket (Some a) (Some b) =
    Decides-like (is_same_bracket (Some a) (Some b)) (λ p. ap (λ l. Some (record { low = l; high = a.high })) p.0
    ∙ ap (λ h. Some (record { low = b.low; high = h })) p.1)
    (λ e. (let same : a ≡ b = same_Some a b e in (ap (λ (x : PrintedBracket). x.low) same, ap (λ (x : PrintedBracket). x.high) same)))
    (Decides-and (is_same_fraction a.low b.low) (is_same_fraction a.high b.high) (same_fraction a.low b.low) (same_fraction a.high b.high))

-- what judging the second bracket gives, where that is the one the sum leaves and where it isn't
abbrev last_of : Bool → Verdict → Result Verdict TestFault
last_of bad shown = cond bad (Err SecondDiffers) (Ok shown)

abbrev is_bad : VersionedCertificate → Bool
is_bad c = has_second c.version && not (is_same_bracket c.second (second_of c.certificate))

-- it is the one the sum leaves, or the version has none
good : (c : VersionedCertificate) → HasItsSecond c → is_bad c ≡ false
good c has = by c.version refl
  where
    by : (v : TextVersion) → c.version ≡ v → (has_second v && not (is_same_bracket c.second (second_of c.certificate))) ≡ false
    by versions.One is = refl
    by versions.Two is = ap not ((same_bracket c.second (second_of c.certificate)).1 (has is))

not_bad : (c : VersionedCertificate) → is_bad c ≡ false → HasItsSecond c
not_bad c ok is =
    (same_bracket c.second (second_of c.certificate)).0
    (by (is_same_bracket c.second (second_of c.certificate)) (ap (λ v. has_second v && not (is_same_bracket c.second (second_of c.certificate))) (sym is) ∙ ok))
  where
    by : (t : Bool) → not t ≡ false → t ≡ true
    by true e = refl
    by false e = absurd (false≢true (sym e))

bad : (c : VersionedCertificate) → is_bad c ≡ true → (c.version ≡ versions.Two) × (¬ (c.second ≡ second_of c.certificate))
bad c e = by c.version refl
  where
    by : (v : TextVersion) → c.version ≡ v → (c.version ≡ versions.Two) × (¬ (c.second ≡ second_of c.certificate))
    by versions.One is = absurd (false≢true (ap (λ v. has_second v && not (is_same_bracket c.second (second_of c.certificate))) (sym is) ∙ e))
    by versions.Two is = (is, λ same. false≢true (sym (good c (λ two. same)) ∙ e))

is_bad_with : (c : VersionedCertificate) → c.version ≡ versions.Two → ¬ (c.second ≡ second_of c.certificate) → is_bad c ≡ true
is_bad_with c two other = by (is_bad c) refl
  where
    by : (t : Bool) → is_bad c ≡ t → t ≡ true
    by true is = refl
    by false is = absurd (other (not_bad c is two))

-- ---- what is judged
ok_of : (c : VersionedCertificate) (r : Result Verdict TestFault) (shown : Verdict) → judged_with c r ≡ Ok shown
    → (r ≡ Ok shown) × (is_bad c ≡ false)
ok_of c (Err f) shown e = absurd cc
ok_of c (Ok found) shown e = (let p = by (is_bad c) refl e in (ap Ok p.0, p.1))
  where
    by : (t : Bool) → is_bad c ≡ t → last_of t found ≡ Ok shown → (found ≡ shown) × (is_bad c ≡ false)
    by true is e = absurd cc
    by false is e = (let same : found ≡ shown = cc in same, is)

-- a fault is that of a test, or the second bracket's where all tests pass
fault_of : (c : VersionedCertificate) (r : Result Verdict TestFault) (f : TestFault) → judged_with c r ≡ Err f
    → (r ≡ Err f) ⊎ ((f ≡ SecondDiffers) × ((shown : Verdict) × (r ≡ Ok shown)) × (is_bad c ≡ true))
fault_of c (Err g) f e = inl e
fault_of c (Ok found) f e = by (is_bad c) refl e
  where
    by : (t : Bool) → is_bad c ≡ t → last_of t found ≡ Err f
        → ◌≡◌ {A = Result Verdict TestFault} (Ok found) (Err f)
        ⊎ ((f ≡ SecondDiffers) × ((shown : Verdict) × ◌≡◌ {A = Result Verdict TestFault} (Ok found) (Ok shown)) × (is_bad c ≡ true))
    by true is e = inr ((let same : SecondDiffers ≡ f = cc in sym same), (found, refl), is)
    by false is e = absurd cc

accepted_from : (game : WeighedGame) (c : VersionedCertificate) (shown : Verdict) → verdict_by c.version game c.certificate ≡ Ok shown
    → HasItsSecond c → versioned_verdict game c ≡ Ok shown
accepted_from game c shown e has = ap (judged_with c) e ∙ ap (λ t. last_of t shown) (good c has)

-- both versions accept the same, and version 2 that alone whose second bracket is what the sum leaves
pub accept_alike : VersionsAcceptAlike
accept_alike game c shown = (
  λ e. (let a = ok_of c (verdict_by c.version game c.certificate) shown e in (alike c.version versions.One game c.certificate shown a.0, not_bad c a.1)),
  λ h. accepted_from game c shown (alike versions.One c.version game c.certificate shown h.0) h.1,
)

-- each fault comes exactly where its cause is there
pub versioned_causes : EachVersionedFaultHasItsCause
versioned_causes game c fault = (caused_by, ⊎_elim of_test of_second)
  where
    caused_by : versioned_verdict game c ≡ Err fault → TestFaultOf c.version game c.certificate fault ⊎ IsSecondFault game c fault
    caused_by e =
        ⊎_elim
        (λ test. inl (((described c.version game c.certificate).some fault).0
        (refused_by c.certificate.bounds (first_failing (tests_of c.version game c.certificate)) fault test)))
        (λ s.
        let b = bad c s.2 in
        inr (record { is = s.0; of_two = b.0; shown = s.1.0; passes = alike c.version versions.One game c.certificate s.1.0 s.1.1; differs = b.1 }))
        (fault_of c (verdict_by c.version game c.certificate) fault e)

    of_test : TestFaultOf c.version game c.certificate fault → versioned_verdict game c ≡ Err fault
    of_test why = ap (λ o. judged_with c (decided_by c.certificate.bounds o)) (((described c.version game c.certificate).some fault).1 why)

    of_second : IsSecondFault game c fault → versioned_verdict game c ≡ Err fault
    of_second s =
        ap (judged_with c) (alike versions.One c.version game c.certificate s.shown s.passes)
        ∙ ap (λ t. last_of t s.shown) (is_bad_with c s.of_two s.differs)
        ∙ ap Err (sym s.is)

-- the upgrade is accepted with the same verdict, and is the certificate itself where that is of version 2
pub upgrades : UpgradesAreAccepted
upgrades = record {
  of_two = λ c. refl;
  same = λ c. refl;
  same_verdict = λ game c shown e. accepted_from game (upgraded c) shown (alike versions.One versions.Two game c.certificate shown
      ((accept_alike game c shown).0 e).0) (λ two. refl);
  itself = λ game c shown e two.
      let second = ((accept_alike game c shown).0 e).1 two in
      λ i. record { version = sym two i; certificate = c.certificate; second = sym second i };
}

-- in a text of version 1 a certificate has the verdict on what it says
pub old_verdicts : OldVerdictsStay
old_verdicts = record {
  accepted = λ game c shown. (
    λ e. ((accept_alike game (in_version_one c) shown).0 e).0,
    λ e. (accept_alike game (in_version_one c) shown).1 (e, λ two. absurd (one_two two)),
  );
  refused = λ game c fault. (
    λ e. ⊎_elim (λ test. test) (λ s. absurd (one_two (bad (in_version_one c) s.2).0)) (fault_of (in_version_one c) (verdict game c) fault e),
    λ e. ap (judged_with (in_version_one c)) e,
  );
}
  where
    one_two : versions.One ≡ versions.Two → ⊥
    one_two e = cc
