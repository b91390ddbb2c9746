-- The laws of the lines, and of the whole text.
use Rattle.std.proofs.Common.{◌≡◌, ℕ, ◌*◌, ◌^◌, ◌≤◌, ◌&&◌, Bool, true, false, cond, eqb, ltb, List, Option, Some, None, refl, sym, ap, ◌∙◌, arith}
use Rattle.std.specs.Prelude.{codes}
use Rattle.std.specs.Cmp.Lexicographic.{pointwise, same_text}
use Rattle.std.specs.Fmt.{decimal}
use Rattle.std.proofs.lemmas.Bool.{ltb-true}
use Rattle.std.proofs.lemmas.Nat.{mul-le}
use Rattle.def_fraction.specs.Fraction.{Fraction}
use Rattle.def_reply.specs.Reply.{SetReply, Reply}
use Rattle.def_reply.specs.declared.TraceLine.{TraceLine}
use Rattle.def_reply.specs.Outcome.{Head}
use Rattle.def_cert_verdict.specs.Certificate.{PrintedPlan, PrintedBounds}
use Rattle.def_cert_verdict.specs.Ranges.{HeadFits}
use Rattle.def_cert_text.specs.Fields.{space, feed, fixed_word, number, version, is_field_byte}
use Rattle.def_cert_text.specs.Versions.{PrintedBracket, VersionedCertificate, has_second}
use Rattle.def_cert_text.specs.declared.version.TextVersion.{TextVersion}
use Rattle.def_cert_text.specs.declared.version.TextVersion.TheVariants as versions
use Rattle.def_cert_text.specs.Formats.{Format, whole_field, fraction_field, and_then, where_asked}
use Rattle.def_cert_text.specs.CertText.{after_word, after_set_number, after_player, NumbersOfGame, size_line, sets_line, sequences_line, unit_line}
use Rattle.def_cert_text.specs.CertText.{unit_alone_line, mass_line, sum_line, PayoffNumbers, payoff_lines, game_lines_of, asked_line, head_lines_of}
use Rattle.def_cert_text.specs.CertText.{line_of_round, round_of_evaluation, evaluation_count, trace_lines, weights_line, plan_lines, value_line, reply_lines}
use Rattle.def_cert_text.specs.CertText.{bracket_line, PartsOfBounds, bounds_lines, end_line, lines_of, version_text, version_in, version_field, second_line}
use Rattle.def_cert_text.specs.CertText.{last_lines, PartsOfVersioned, versioned_certificate}
use Rattle.def_cert_text.proofs.FieldLaws.{all_pass, decimal_inside}
use Rattle.def_cert_text.proofs.FormatLaws.{IsFormat, pair_laws}
use Rattle.def_cert_text.proofs.FieldFormatLaws.{one_field_laws, whole_laws, integer_laws, fraction_laws, fixed_laws}
use Rattle.def_cert_text.proofs.Fits.{head_fits}
use Rattle.def_cert_text.proofs.UnitLaws.{unit_laws}
use Rattle.def_cert_text.proofs.CombinedFormatLaws.{seen_laws, after_laws, each_laws, asked_laws, row_laws}

word_laws : (A : Type 0) (wanted : List ℕ) (f : Format A) → all_pass is_field_byte wanted ≡ true → IsFormat A f
    → IsFormat A (after_word wanted f)
word_laws A wanted f h laws = after_laws A fixed_word wanted space f h refl laws

two_laws : (A B : Type 0) (f : Format A) (g : Format B) → IsFormat A f → IsFormat B g
    → IsFormat (A × B) (and_then f (λ _. g))
two_laws A B f g first second = pair_laws A B f (λ _. g) first (λ x fit. second)

entries_laws : (low sep : ℕ) → low ≤ 2 ^ 20 → is_field_byte sep ≡ false → IsFormat ℕ (whole_field low (2 ^ 20) sep)
entries_laws low sep small s = whole_laws low (2 ^ 20) sep small (omega arith) s

-- ---- the head
mass_laws : IsFormat ℕ mass_line
mass_laws = word_laws _ (codes "mass") _ refl (whole_laws 0 (2 ^ 62) feed (omega arith) (omega arith) refl)

payoff_laws : (v : TextVersion) → IsFormat PayoffNumbers (payoff_lines v)
payoff_laws versions.One = two_laws _ _ unit_line mass_line (word_laws _ (codes "unit") _ refl unit_laws) mass_laws
payoff_laws versions.Two =
    seen_laws (ℕ × (ℕ × Fraction)) PayoffNumbers _ _ _ (λ p. refl) (λ p. refl)
    (two_laws _ _ unit_alone_line _ (word_laws _ (codes "unit") _ refl (whole_laws 1 (2 ^ 62) feed (omega arith) (omega arith) refl))
    (two_laws _ _ mass_line sum_line mass_laws (word_laws _ (codes "sum") _ refl (fraction_laws (2 ^ 62) feed (omega arith) (omega arith) refl))))

pub game_laws : (v : TextVersion) → IsFormat NumbersOfGame (game_lines_of v)
game_laws v =
    two_laws _ _ size_line _ (word_laws _ (codes "nodes") _ refl (two_laws _ _ _ _ (entries_laws 1 space (omega arith) refl)
    (word_laws _ (codes "leaves") _ refl (entries_laws 1 feed (omega arith) refl))))
    (two_laws _ _ sets_line _ (word_laws _ (codes "sets") _ refl (two_laws _ _ _ _ (entries_laws 0 space (omega arith) refl)
    (entries_laws 0 feed (omega arith) refl)))
    (two_laws _ _ sequences_line (payoff_lines v) (word_laws _ (codes "sequences") _ refl
    (two_laws _ _ _ _ (entries_laws 1 space (omega arith) refl) (entries_laws 1 feed (omega arith) refl)))
    (payoff_laws v)))

asked_line_laws : IsFormat (ℕ × (ℕ × ℕ)) asked_line
asked_line_laws =
    word_laws _ (codes "rounds") _ refl (two_laws _ _ _ _ (whole_laws 0 65536 space (omega arith) (omega arith) refl)
    (word_laws _ (codes "every") _ refl (two_laws _ _ _ _ (whole_laws 1 65536 space (omega arith) (omega arith) refl)
    (word_laws _ (codes "scale") _ refl (whole_laws 1 1048576 feed (omega arith) (omega arith) refl)))))

pub head_laws : (v : TextVersion) → IsFormat Head (head_lines_of v)
head_laws v = seen_laws _ Head _ _ _ (λ p. refl) (λ h. refl) (two_laws _ _ (game_lines_of v) asked_line (game_laws v) asked_line_laws)

-- ---- the trace
pub round_line_laws : (k : ℕ) → 1 ≤ k → k ≤ 65536 → IsFormat TraceLine (line_of_round k)
round_line_laws k some small =
    seen_laws _ TraceLine _ _ _ (λ p. refl) (λ line. refl)
    (word_laws _ (codes "trace") _ refl (two_laws _ _ _ _ (whole_laws k k space (omega arith) (omega arith) refl)
    (two_laws _ _ _ _ (whole_laws 1 k space some (omega arith) refl)
    (two_laws _ _ _ _ (integer_laws (2 ^ 100) space (omega arith) refl)
    (two_laws _ _ _ _ (whole_laws 1 k space some (omega arith) refl) (integer_laws (2 ^ 100) feed (omega arith) refl))))))

pub record AsksRounds (head : Head) : Type 0 where
  pub rounds : (1 ≤ head.rounds) × (head.rounds ≤ 65536)
  pub every : 1 ≤ head.every
  pub sets_one : head.sets_one ≤ 2 ^ 20
  pub sets_two : head.sets_two ≤ 2 ^ 20

round_from_one : (head : Head) (k : ℕ) → AsksRounds head → 1 ≤ k
    → (1 ≤ round_of_evaluation head k) × (round_of_evaluation head k ≤ 65536)
round_from_one head k asks some =
    let product : 1 ≤ k * head.every = omega (arith, mul-le 1 1 k head.every some asks.every) in
    (omega (arith, product, asks.rounds.0), omega (arith, asks.rounds.1))

pub trace_laws : (head : Head) → AsksRounds head → IsFormat (List TraceLine) (trace_lines head)
trace_laws head asks = each_laws TraceLine (λ k. line_of_round (round_of_evaluation head k)) (evaluation_count head) 1 (λ k low high.
    let r = round_from_one head k asks low in round_line_laws (round_of_evaluation head k) r.0 r.1)

-- ---- plans and replies
set_laws : (A : Type 0) (wanted : List ℕ) (set : ℕ) (f : Format A) → all_pass is_field_byte wanted ≡ true → set ≤ 2 ^ 20
    → IsFormat A f → IsFormat A (after_set_number wanted set f)
set_laws A wanted set f h small laws = word_laws A wanted _ h (after_laws A number (decimal set) space f (decimal_inside set (omega arith)) refl laws)

player_laws : (A : Type 0) (wanted player : List ℕ) (f : Format A) → all_pass is_field_byte wanted ≡ true
    → all_pass is_field_byte player ≡ true → IsFormat A f → IsFormat A (after_player wanted player f)
player_laws A wanted player f h k laws = word_laws A wanted _ h (word_laws A player f k laws)

weights_laws : (set : ℕ) → set ≤ 2 ^ 20 → IsFormat (List ℕ) (weights_line set)
weights_laws set small = set_laws _ (codes "weights") set _ refl small (row_laws _ (omega arith) 1023)

plan_laws : (player : List ℕ) (sets : ℕ) → all_pass is_field_byte player ≡ true → sets ≤ 2 ^ 20
    → IsFormat PrintedPlan (plan_lines player sets)
plan_laws player sets h small =
    seen_laws _ PrintedPlan _ _ _ (λ p. refl) (λ plan. refl)
    (player_laws _ (codes "plan") player _ refl h (two_laws _ _ _ _ (whole_laws 1 _ feed (omega arith) (omega arith) refl)
    (each_laws (List ℕ) weights_line sets 1 (λ set low high. weights_laws set (omega arith)))))

value_laws : (set : ℕ) → set ≤ 2 ^ 20 → IsFormat SetReply (value_line set)
value_laws set small =
    seen_laws _ SetReply _ _ _ (λ p. refl) (λ reply. refl)
    (set_laws _ (codes "value") set _ refl small (two_laws _ _ _ _ (integer_laws (2 ^ 100) space (omega arith) refl)
    (whole_laws 1 1024 feed (omega arith) (omega arith) refl)))

reply_laws : (player : List ℕ) (sets : ℕ) → all_pass is_field_byte player ≡ true → sets ≤ 2 ^ 20
    → IsFormat Reply (reply_lines player sets)
reply_laws player sets h small =
    seen_laws _ Reply _ _ _ (λ p. refl) (λ reply. refl)
    (player_laws _ (codes "reply") player _ refl h (two_laws _ _ _ _ (integer_laws (2 ^ 100) feed (omega arith) refl)
    (each_laws SetReply value_line sets 1 (λ set low high. value_laws set (omega arith)))))

ends_laws : IsFormat (Fraction × Fraction) (and_then (fraction_field (2 ^ 100) space) (λ low. fraction_field (2 ^ 100) feed))
ends_laws = two_laws _ _ _ _ (fraction_laws (2 ^ 100) space (omega arith) (omega arith) refl) (fraction_laws (2 ^ 100) feed (omega arith) (omega arith) refl)

bracket_laws : IsFormat (Fraction × Fraction) bracket_line
bracket_laws = word_laws _ (codes "bracket") _ refl ends_laws

-- ---- the whole
pub bounds_laws : (head : Head) → AsksRounds head → IsFormat PrintedBounds (bounds_lines head)
bounds_laws head asks =
    seen_laws PartsOfBounds PrintedBounds _ _ _ (λ p. refl) (λ b. refl)
    (two_laws _ _ (trace_lines head) _ (trace_laws head asks)
    (two_laws _ _ (plan_lines (codes "1") head.sets_one) _ (plan_laws (codes "1") head.sets_one refl asks.sets_one)
    (two_laws _ _ (reply_lines (codes "2") head.sets_two) _ (reply_laws (codes "2") head.sets_two refl asks.sets_two)
    (two_laws _ _ (plan_lines (codes "2") head.sets_two) _ (plan_laws (codes "2") head.sets_two refl asks.sets_two)
    (two_laws _ _ (reply_lines (codes "1") head.sets_one) bracket_line (reply_laws (codes "1") head.sets_one refl asks.sets_one) bracket_laws)))))

asks_rounds : (head : Head) → HeadFits head → ltb 0 head.rounds ≡ true → AsksRounds head
asks_rounds head f asked = record { rounds = (ltb-true 0 head.rounds asked, f.rounds); every = f.every.0; sets_one = f.sets_one; sets_two = f.sets_two }

-- the lines of a version keep the laws, where what stands behind the bounds does for each head within its ranges
lines_laws : (A : Type 0) (v : TextVersion) (end : Head → Format A) → ((head : Head) → IsFormat A (end head))
    → IsFormat (Head × (Option PrintedBounds × A)) (lines_of v end)
lines_laws A v end laws =
    pair_laws Head (Option PrintedBounds × A) (head_lines_of v) _ (head_laws v) (λ head fit.
    two_laws (Option PrintedBounds) A (where_asked (ltb 0 head.rounds) (bounds_lines head)) (end head)
    (asked_laws PrintedBounds (ltb 0 head.rounds) (bounds_lines head) (λ asked. bounds_laws head (asks_rounds head (head_fits v head fit) asked)))
    (laws head))

end_laws : IsFormat (Unit {0}) end_line
end_laws = fixed_laws fixed_word (codes "end") feed refl refl

-- ---- the version, and the lines of version 2 behind the bounds
version_again : (v : TextVersion) → version_in (version_text v) ≡ Some v
unfolding version_in
version_again versions.One = refl
version_again versions.Two = refl

abbrev version_by : Bool → Bool → Option TextVersion
version_by one two = cond one (Some versions.One) (cond two (Some versions.Two) None)

some_same : (u w : TextVersion) → ◌≡◌ {A = Option TextVersion} (Some u) (Some w) → u ≡ w
some_same u w e = cc

version_only : (bytes : List ℕ) (v : TextVersion) → version_in bytes ≡ Some v → bytes ≡ version_text v
unfolding version_in
version_only bytes v e = by (pointwise eqb bytes (codes "1")) (pointwise eqb bytes (codes "2")) refl refl e
  where
    by : (one two : Bool) → pointwise eqb bytes (codes "1") ≡ one → pointwise eqb bytes (codes "2") ≡ two
        → version_by one two ≡ Some v → bytes ≡ version_text v
    by true two h k e = same_text bytes (codes "1") (sym h) ∙ ap version_text (some_same versions.One v e)
    by false true h k e = same_text bytes (codes "2") (sym k) ∙ ap version_text (some_same versions.Two v e)
    by false false h k e = absurd cc

version_inside : (v : TextVersion) → all_pass is_field_byte (version_text v) ≡ true
version_inside versions.One = refl
version_inside versions.Two = refl

version_laws : IsFormat TextVersion version_field
version_laws = one_field_laws TextVersion version (λ v. true) version_text version_in feed refl (record {
  inside = λ v fits. version_inside v;
  again = λ v fits. version_again v;
  only = λ bytes v e. (refl, version_only bytes v e);
  some = versions.One;
  some_fits = refl;
})

second_laws : IsFormat PrintedBracket second_line
second_laws = seen_laws (Fraction × Fraction) PrintedBracket _ _ _ (λ p. refl) (λ b. refl) (word_laws _ (codes "second") _ refl ends_laws)

last_laws : (v : TextVersion) (head : Head) → IsFormat (Option PrintedBracket × Unit {0}) (last_lines v head)
last_laws v head =
    let asked : Bool = has_second v && ltb 0 head.rounds in
    two_laws (Option PrintedBracket) (Unit {0}) (where_asked asked second_line) end_line (asked_laws PrintedBracket asked second_line (λ h. second_laws))
    end_laws

-- the format of a whole certificate keeps the laws of a format
pub versioned_laws : IsFormat VersionedCertificate versioned_certificate
versioned_laws =
    seen_laws PartsOfVersioned VersionedCertificate _ _ _ (λ p. refl) (λ c. refl)
    (word_laws _ (codes "XGCERT") _ refl (pair_laws TextVersion (Head × (Option PrintedBounds × (Option PrintedBracket × Unit {0}))) version_field
    (λ v. lines_of v (last_lines v)) version_laws
    (λ v fit. lines_laws (Option PrintedBracket × Unit {0}) v (last_lines v) (last_laws v))))
