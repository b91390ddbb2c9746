-- A text is of another version exactly where its second field is neither `1` nor `2`.
use Rattle.std.proofs.Common.{◌≡◌, ◌≢◌, ℕ, zero, suc, ◌+◌, ◌-◌, Bool, true, false, cond, eqb, List, [], ◌∷◌, ◌++◌, length, ℤ, Option, Some, None, Result, Ok}
use Rattle.std.proofs.Common.{Err, refl, sym, ap, ◌∙◌, ⊎_elim}
use Rattle.std.specs.Prelude.{codes, ◌&&◌, not, nat_lt}
use Rattle.std.specs.Cmp.Lexicographic.{pointwise, same_text}
use Rattle.std.specs.Fmt.{decimal, signed_decimal}
use Rattle.def_sums.specs.Limits.{most_mass, most_rounds, most_root, most_scale}
use Rattle.def_tree.specs.Rules.{most_actions, most_nodes}
use Rattle.def_fraction.specs.Fraction.{Fraction, is_zero, most, zero_fraction}
use Rattle.def_fraction.specs.Text.{fraction_text}
use Rattle.def_reply.specs.Outcome.{Head}
use Rattle.def_reply.specs.Reply.{Reply, SetReply}
use Rattle.def_reply.specs.declared.TraceLine.{TraceLine}
use Rattle.def_cert_verdict.specs.Certificate.{PrintedBounds, PrintedPlan}
use Rattle.def_cert_verdict.specs.Ranges.{most_printed}
use Rattle.def_cert_text.specs.declared.fault.CertFault.{CertFault}
use Rattle.def_cert_text.specs.declared.fault.CertFault.TheVariants.{CertSyntax, CertNumber, CertVersion, CertShort}
use Rattle.def_cert_text.specs.Fields.{◌>>=◌, space, feed, FieldKind, fixed_word, number, items_text, next_field, behind_field, is_empty, field_fault, if_fit}
use Rattle.def_cert_text.specs.Fields.{read_field}
use Rattle.def_cert_text.specs.Numbers.{whole_in, integer_in, fraction_in, nonzero_in}
use Rattle.def_cert_text.specs.Formats.{Format, one_field, whole_field, integer_field, is_lowest_within, fraction_field, same_bytes, fixed_field, after_fixed}
use Rattle.def_cert_text.specs.Formats.{and_then, seen_as, read_each, each_from, where_asked, with_end_if_fit, read_number, read_last, read_row, row_of_numbers}
use Rattle.def_cert_text.specs.Versions.{PrintedBracket, VersionedCertificate, has_second}
use Rattle.def_cert_text.specs.declared.version.TextVersion.{TextVersion}
use Rattle.def_cert_text.specs.declared.version.TextVersion.TheVariants as versions
use Rattle.def_cert_text.specs.CertText.{after_set_number, after_player, size_line, sets_line, sequences_line, sum_field, unit_and_sum, unit_line}
use Rattle.def_cert_text.specs.CertText.{unit_alone_line, mass_line, sum_line, PayoffNumbers, parts_of_payoffs, payoffs_of_parts, payoff_lines, game_lines_of}
use Rattle.def_cert_text.specs.CertText.{asked_line, parts_of_head, head_of_parts, head_lines_of, parts_of_trace_line, trace_line_of_parts, line_of_round}
use Rattle.def_cert_text.specs.CertText.{round_of_evaluation, evaluation_count, trace_lines, weights_line, plan_lines, value_line, reply_lines, bracket_line}
use Rattle.def_cert_text.specs.CertText.{PartsOfBounds, parts_of_bounds, bounds_of_parts, bounds_lines, end_line, lines_of, version_in, version_field}
use Rattle.def_cert_text.specs.CertText.{second_line, last_lines, PartsOfVersioned, versioned_of_parts, versioned_certificate, if_at_end, versioned_in}
use Rattle.def_cert_text.specs.Laws.{NamesNoVersion, OtherVersionsAreRefused}
use Rattle.def_cert_text.proofs.FormatLaws.{bind_err}
use Rattle.def_cert_text.proofs.FieldFormatLaws.{fixed_laws}

-- reading by the format never says that the text is of another version
NeverVersion : {A : Type 0} → Format A → Type 0
NeverVersion f = (total : ℕ) (bytes : List ℕ) → f.read total bytes ≡ Err CertVersion → ⊥

-- ---- fields
record IsNoVersion (kind : FieldKind) : Type 0 where
  other : (at : ℕ) → field_fault kind at ≡ CertVersion → ⊥

a_word : IsNoVersion fixed_word
a_word = record { other = λ at e. cc }

a_number : IsNoVersion number
a_number = record { other = λ at e. cc }

read_never : (A : Type 0) (kind : FieldKind) (test : List ℕ → Option A) (sep : ℕ) → IsNoVersion kind → (total : ℕ)
    (bytes : List ℕ) → read_field kind test sep total bytes ≡ Err CertVersion → ⊥
unfolding read_field
read_never A kind test sep is total bytes e = by (test (next_field bytes)) (behind_field bytes) e
  where
    separated : (x : A) (b : ℕ) (more : List ℕ) (t : Bool)
        → ◌≡◌ {A = Result (A × List ℕ) CertFault} (cond t (Ok (x, more)) (Err (CertSyntax (total - length (b ∷ more))))) (Err CertVersion) → ⊥
    separated x b more true e = cc
    separated x b more false e = cc

    by : (o : Option A) (r : List ℕ)
        → ◌≡◌ {A = Result (A × List ℕ) CertFault} (cond (is_empty r) (Err CertShort) (if_fit (field_fault kind (total - length bytes)) sep total o r))
        (Err CertVersion) → ⊥
    by o [] e = cc
    by None (b ∷ more) e = let same : field_fault kind (total - length bytes) ≡ CertVersion = cc in is.other (total - length bytes) same
    by (Some x) (b ∷ more) e = separated x b more (eqb b sep) e

field_never : (A : Type 0) (kind : FieldKind) (fits : A → Bool) (spelled : A → List ℕ) (test : List ℕ → Option A) (sep : ℕ)
    → IsNoVersion kind → NeverVersion (one_field kind fits spelled test sep)
unfolding NeverVersion
field_never A kind fits spelled test sep is = read_never A kind test sep is

number_never : (low high total : ℕ) (bytes : List ℕ) → read_number low high total bytes ≡ Err CertVersion → ⊥
unfolding read_number
number_never low high total bytes e = by (whole_in low high (next_field bytes)) (behind_field bytes) e
  where
    by : (o : Option ℕ) (r : List ℕ)
        → cond (is_empty r) (Err CertShort) (with_end_if_fit (CertNumber (total - length bytes)) o r) ≡ Err CertVersion → ⊥
    by o [] e = cc
    by None (b ∷ more) e = cc
    by (Some n) (b ∷ more) e = cc

-- ---- what is made of formats
pair_never : (A B : Type 0) (f : Format A) (g : A → Format B) → NeverVersion f → ((x : A) → NeverVersion (g x))
    → NeverVersion (and_then f g)
unfolding NeverVersion
pair_never A B f g first second total bytes e =
    ⊎_elim (λ here. first total bytes here)
    (λ later. ⊎_elim (λ there. second later.0.0 total later.0.1 there) (λ end. (let bad = end.2 in cc))
    (bind_err ((g later.0.0).read total later.0.1) (λ y. Ok ((later.0.0, y.0), y.1)) CertVersion later.2))
    (bind_err (f.read total bytes) (λ x. (g x.0).read total x.1 >>= λ y. Ok ((x.0, y.0), y.1)) CertVersion e)

seen_never : (A B : Type 0) (to : A → B) (from : B → A) (f : Format A) → NeverVersion f → NeverVersion (seen_as to from f)
unfolding NeverVersion
seen_never A B to from f never total bytes e =
    ⊎_elim (λ here. never total bytes here) (λ end. (let bad = end.2 in cc)) (bind_err (f.read total bytes) (λ x. Ok (to x.0, x.1)) CertVersion e)

after_never : (A : Type 0) (kind : FieldKind) (wanted : List ℕ) (sep : ℕ) (f : Format A) → IsNoVersion kind → NeverVersion f
    → NeverVersion (after_fixed kind wanted sep f)
unfolding NeverVersion
after_never A kind wanted sep f is never total bytes e =
    ⊎_elim (λ here. read_never (Unit {0}) kind _ sep is total bytes here) (λ later. never total later.0.1 later.2)
    (bind_err ((fixed_field kind wanted sep).read total bytes) (λ w. f.read total w.1) CertVersion e)

each_never : (A : Type 0) (f : ℕ → Format A) (count k : ℕ) → ((j : ℕ) → NeverVersion (f j)) → NeverVersion (each_from k count f)
unfolding NeverVersion read_each
each_never A f zero k never total bytes e = cc
each_never A f (suc count) k never total bytes e =
    ⊎_elim (λ here. never k total bytes here)
    (λ later. ⊎_elim (λ there. each_never A f count (k + 1) never total later.0.1 there) (λ end. (let bad = end.2 in cc))
    (bind_err (read_each f (k + 1) count total later.0.1) (λ xs. Ok (later.0.0 ∷ xs.0, xs.1)) CertVersion later.2))
    (bind_err ((f k).read total bytes) (λ x. read_each f (k + 1) count total x.1 >>= λ xs. Ok (x.0 ∷ xs.0, xs.1)) CertVersion e)

asked_never : (A : Type 0) (asked : Bool) (f : Format A) → NeverVersion f → NeverVersion (where_asked asked f)
unfolding NeverVersion
asked_never A false f never total bytes e = cc
asked_never A true f never total bytes e =
    ⊎_elim (λ here. never total bytes here) (λ end. (let bad = end.2 in cc)) (bind_err (f.read total bytes) (λ x. Ok (Some x.0, x.1)) CertVersion e)

row_never : (most more : ℕ) → NeverVersion (row_of_numbers most more)
unfolding NeverVersion read_row read_last
row_never most zero total bytes e =
    ⊎_elim (λ here. read_never ℕ number _ feed a_number total bytes here) (λ end. (let bad = end.2 in cc))
    (bind_err ((whole_field 0 most feed).read total bytes) (λ n. Ok (n.0 ∷ [], n.1)) CertVersion e)
row_never most (suc more) total bytes e =
    ⊎_elim (λ here. number_never 0 most total bytes here) (λ later. next later.0 later.0.0.1 (λ here. row_never most more total later.0.1 here) later.2)
    (bind_err (read_number 0 most total bytes) (λ n. cond n.0.1 (Ok (n.0.0 ∷ [], n.1)) (read_row most more total n.1 >>= λ ns. Ok (n.0.0 ∷ ns.0, ns.1)))
    CertVersion e)
  where
    next : (n : (ℕ × Bool) × List ℕ) (last : Bool) → (read_row most more total n.1 ≡ Err CertVersion → ⊥)
        → ◌≡◌ {A = Result (List ℕ × List ℕ) CertFault} (cond last (Ok (n.0.0 ∷ [], n.1)) (read_row most more total n.1 >>= λ ns. Ok (n.0.0 ∷ ns.0, ns.1)))
        (Err CertVersion) → ⊥
    next n true rest e = cc
    next n false rest e =
        ⊎_elim rest (λ end. (let bad = end.2 in cc)) (bind_err (read_row most more total n.1) (λ ns. Ok (n.0.0 ∷ ns.0, ns.1)) CertVersion e)

-- ---- the lines
word_never : (A : Type 0) (wanted : List ℕ) (f : Format A) → NeverVersion f → NeverVersion (after_fixed fixed_word wanted space f)
word_never A wanted f never = after_never A fixed_word wanted space f a_word never

two_never : (A B : Type 0) (f : Format A) (g : Format B) → NeverVersion f → NeverVersion g → NeverVersion (and_then f (λ _. g))
two_never A B f g first second = pair_never A B f (λ _. g) first (λ x. second)

whole_never : (low high sep : ℕ) → NeverVersion (whole_field low high sep)
whole_never low high sep = field_never ℕ number _ decimal (whole_in low high) sep a_number

integer_never : (limit sep : ℕ) → NeverVersion (integer_field limit sep)
integer_never limit sep = field_never ℤ number _ signed_decimal (integer_in limit) sep a_number

fraction_never : (limit sep : ℕ) → NeverVersion (fraction_field limit sep)
fraction_never limit sep = field_never Fraction number (is_lowest_within limit) fraction_text (fraction_in limit) sep a_number

sum_never : NeverVersion sum_field
sum_never = word_never _ (codes "sum") _ (field_never Fraction number (λ f. is_lowest_within most f && not (is_zero f)) fraction_text (nonzero_in most) feed
    a_number)

unit_never : NeverVersion unit_and_sum
unfolding NeverVersion
unit_never total bytes e =
    ⊎_elim (λ here. number_never 1 most total bytes here) (λ later. next later.0 later.0.0.1 later.2)
    (bind_err (read_number 1 most total bytes) (λ n. cond n.0.1 (Ok ((n.0.0, zero_fraction), n.1))
    (sum_field.read total n.1 >>= λ sum. Ok ((n.0.0, sum.0), sum.1))) CertVersion e)
  where
    next : (n : (ℕ × Bool) × List ℕ) (last : Bool)
        → ◌≡◌ {A = Result ((ℕ × Fraction) × List ℕ) CertFault} (cond last (Ok ((n.0.0, zero_fraction), n.1))
        (sum_field.read total n.1 >>= λ sum. Ok ((n.0.0, sum.0), sum.1))) (Err CertVersion) → ⊥
    next n true e = cc
    next n false e =
        ⊎_elim (λ here. sum_never total n.1 here) (λ end. (let bad = end.2 in cc))
        (bind_err (sum_field.read total n.1) (λ sum. Ok ((n.0.0, sum.0), sum.1)) CertVersion e)

mass_never : NeverVersion mass_line
mass_never = word_never _ (codes "mass") _ (whole_never 0 most_mass feed)

payoff_never : (v : TextVersion) → NeverVersion (payoff_lines v)
payoff_never versions.One = two_never _ _ unit_line mass_line (word_never _ (codes "unit") _ unit_never) mass_never
payoff_never versions.Two =
    seen_never (ℕ × (ℕ × Fraction)) PayoffNumbers payoffs_of_parts parts_of_payoffs _
    (two_never _ _ unit_alone_line _ (word_never _ (codes "unit") _ (whole_never 1 most feed))
    (two_never _ _ mass_line sum_line mass_never (word_never _ (codes "sum") _ (fraction_never most feed))))

size_never : NeverVersion size_line
size_never = word_never _ (codes "nodes") _ (two_never _ _ _ _ (whole_never 1 most_nodes space)
    (word_never _ (codes "leaves") _ (whole_never 1 most_nodes feed)))

sets_never : NeverVersion sets_line
sets_never = word_never _ (codes "sets") _ (two_never _ _ _ _ (whole_never 0 most_nodes space) (whole_never 0 most_nodes feed))

sequences_never : NeverVersion sequences_line
sequences_never = word_never _ (codes "sequences") _ (two_never _ _ _ _ (whole_never 1 most_nodes space) (whole_never 1 most_nodes feed))

game_never : (v : TextVersion) → NeverVersion (game_lines_of v)
game_never v = two_never _ _ size_line _ size_never (two_never _ _ sets_line _ sets_never
    (two_never _ _ sequences_line (payoff_lines v) sequences_never (payoff_never v)))

asked_line_never : NeverVersion asked_line
asked_line_never =
    word_never _ (codes "rounds") _ (two_never _ _ _ _ (whole_never 0 most_rounds space)
    (word_never _ (codes "every") _ (two_never _ _ _ _ (whole_never 1 most_rounds space) (word_never _ (codes "scale") _ (whole_never 1 most_scale feed)))))

head_never : (v : TextVersion) → NeverVersion (head_lines_of v)
head_never v = seen_never _ Head head_of_parts parts_of_head _ (two_never _ _ (game_lines_of v) asked_line (game_never v) asked_line_never)

round_line_never : (k : ℕ) → NeverVersion (line_of_round k)
round_line_never k =
    seen_never (ℕ × (ℕ × (ℤ × (ℕ × ℤ)))) TraceLine trace_line_of_parts parts_of_trace_line _
    (word_never _ (codes "trace") _ (two_never _ _ _ _ (whole_never k k space) (two_never _ _ _ _ (whole_never 1 k space)
    (two_never _ _ _ _ (integer_never most_printed space) (two_never _ _ _ _ (whole_never 1 k space) (integer_never most_printed feed))))))

trace_never : (head : Head) → NeverVersion (trace_lines head)
trace_never head = each_never TraceLine (λ k. line_of_round (round_of_evaluation head k)) (evaluation_count head) 1
    (λ k. round_line_never (round_of_evaluation head k))

set_never : (A : Type 0) (wanted : List ℕ) (set : ℕ) (f : Format A) → NeverVersion f → NeverVersion (after_set_number wanted set f)
set_never A wanted set f never = word_never A wanted _ (after_never A number (decimal set) space f a_number never)

player_never : (A : Type 0) (wanted player : List ℕ) (f : Format A) → NeverVersion f → NeverVersion (after_player wanted player f)
player_never A wanted player f never = word_never A wanted _ (word_never A player f never)

weights_never : (set : ℕ) → NeverVersion (weights_line set)
weights_never set = set_never _ (codes "weights") set _ (row_never _ 1023)

plan_never : (player : List ℕ) (sets : ℕ) → NeverVersion (plan_lines player sets)
plan_never player sets =
    seen_never (ℕ × List (List ℕ)) PrintedPlan (λ p. record { root = p.0; weights = p.1 }) (λ plan. (plan.root, plan.weights)) _
    (player_never _ (codes "plan") player _ (two_never _ _ _ _ (whole_never 1 most_root feed) (each_never (List ℕ) weights_line sets 1 weights_never)))

value_never : (set : ℕ) → NeverVersion (value_line set)
value_never set = seen_never (ℤ × ℕ) SetReply (λ p. record { value = p.0; choice = p.1 }) (λ reply. (reply.value, reply.choice)) _
    (set_never _ (codes "value") set _ (two_never _ _ _ _ (integer_never most_printed space) (whole_never 1 most_actions feed)))

reply_never : (player : List ℕ) (sets : ℕ) → NeverVersion (reply_lines player sets)
reply_never player sets =
    seen_never (ℤ × List SetReply) Reply (λ p. record { total = p.0; sets = p.1 }) (λ reply. (reply.total, reply.sets)) _
    (player_never _ (codes "reply") player _ (two_never _ _ _ _ (integer_never most_printed feed) (each_never SetReply value_line sets 1 value_never)))

ends_never : NeverVersion (and_then (fraction_field most_printed space) (λ low. fraction_field most_printed feed))
ends_never = two_never _ _ _ _ (fraction_never most_printed space) (fraction_never most_printed feed)

bounds_never : (head : Head) → NeverVersion (bounds_lines head)
bounds_never head =
    seen_never PartsOfBounds PrintedBounds bounds_of_parts parts_of_bounds _ (two_never _ _ (trace_lines head) _ (trace_never head)
    (two_never _ _ (plan_lines (codes "1") head.sets_one) _ (plan_never (codes "1") head.sets_one)
    (two_never _ _ (reply_lines (codes "2") head.sets_two) _ (reply_never (codes "2") head.sets_two)
    (two_never _ _ (plan_lines (codes "2") head.sets_two) _ (plan_never (codes "2") head.sets_two)
    (two_never _ _ (reply_lines (codes "1") head.sets_one) bracket_line (reply_never (codes "1") head.sets_one)
    (word_never _ (codes "bracket") _ ends_never))))))

second_never : NeverVersion second_line
second_never = seen_never (Fraction × Fraction) PrintedBracket (λ p. record { low = p.0; high = p.1 }) (λ second. (second.low, second.high)) _
    (word_never _ (codes "second") _ ends_never)

end_never : NeverVersion end_line
end_never = field_never (Unit {0}) fixed_word (λ x. true) (λ x. codes "end") (same_bytes (codes "end")) feed a_word

last_never : (v : TextVersion) (head : Head) → NeverVersion (last_lines v head)
last_never v head =
    let asked : Bool = has_second v && nat_lt 0 head.rounds in
    two_never (Option PrintedBracket) (Unit {0}) (where_asked asked second_line) end_line (asked_never PrintedBracket asked second_line second_never) end_never

lines_never : (v : TextVersion) → NeverVersion (lines_of v (last_lines v))
lines_never v =
    pair_never Head (Option PrintedBounds × (Option PrintedBracket × Unit {0})) (head_lines_of v) _ (head_never v) (λ head.
    two_never (Option PrintedBounds) (Option PrintedBracket × Unit {0}) (where_asked (nat_lt 0 head.rounds) (bounds_lines head)) (last_lines v head)
    (asked_never PrintedBounds (nat_lt 0 head.rounds) (bounds_lines head) (bounds_never head)) (last_never v head))

-- ---- the first line
read_word : (left : List ℕ) (total : ℕ)
    → (fixed_field fixed_word (codes "XGCERT") space).read total (codes "XGCERT" ++ space ∷ left) ≡ Ok (tt, left)
unfolding items_text
read_word left total =
    (fixed_laws fixed_word (codes "XGCERT") space refl refl).again total tt left refl

-- a field that names no version, and the other way round
unnamed : (bytes : List ℕ) → bytes ≢ codes "1" → bytes ≢ codes "2" → version_in bytes ≡ None
unfolding version_in
unnamed bytes not_one not_two = by (pointwise eqb bytes (codes "1")) (pointwise eqb bytes (codes "2")) refl refl
  where
    by : (one two : Bool) → pointwise eqb bytes (codes "1") ≡ one → pointwise eqb bytes (codes "2") ≡ two
        → ◌≡◌ {A = Option TextVersion} (cond one (Some versions.One) (cond two (Some versions.Two) None)) None
    by true two h k = absurd (not_one (same_text bytes (codes "1") (sym h)))
    by false true h k = absurd (not_two (same_text bytes (codes "2") (sym k)))
    by false false h k = refl

named_one : (bytes : List ℕ) → version_in bytes ≡ None → bytes ≢ codes "1"
unfolding version_in
named_one bytes e same = (let bad = ap version_in (sym same) ∙ e in cc)

named_two : (bytes : List ℕ) → version_in bytes ≡ None → bytes ≢ codes "2"
unfolding version_in
named_two bytes e same = (let bad = ap version_in (sym same) ∙ e in cc)

refused : (total : ℕ) (left : List ℕ) → is_empty (behind_field left) ≡ false → version_in (next_field left) ≡ None
    → version_field.read total left ≡ Err CertVersion
unfolding read_field
refused total left ended none = by (version_in (next_field left)) (behind_field left) none ended
  where
    by : (o : Option TextVersion) (r : List ℕ) → o ≡ None → is_empty r ≡ false
        → cond (is_empty r) (Err CertShort) (if_fit CertVersion feed total o r) ≡ Err CertVersion
    by o [] e long = absurd cc
    by None (b ∷ more) e long = refl
    by (Some v) (b ∷ more) e long = absurd cc

is_refused : (total : ℕ) (left : List ℕ) → version_field.read total left ≡ Err CertVersion
    → (is_empty (behind_field left) ≡ false) × (version_in (next_field left) ≡ None)
unfolding read_field
is_refused total left e = by (version_in (next_field left)) (behind_field left) e
  where
    separated : (v : TextVersion) (b : ℕ) (more : List ℕ) (t : Bool)
        → ◌≡◌ {A = Result (TextVersion × List ℕ) CertFault} (cond t (Ok (v, more)) (Err (CertSyntax (total - length (b ∷ more))))) (Err CertVersion) → ⊥
    separated v b more true e = cc
    separated v b more false e = cc

    by : (o : Option TextVersion) (r : List ℕ)
        → cond (is_empty r) (Err CertShort) (if_fit CertVersion feed total o r) ≡ Err CertVersion → (is_empty r ≡ false) × (o ≡ None)
    by o [] e = absurd cc
    by None (b ∷ more) e = (refl, refl)
    by (Some v) (b ∷ more) e = absurd (separated v b more (eqb b feed) e)

-- ---- the whole
abbrev below_version : ℕ → (TextVersion × List ℕ) → Result (PartsOfVersioned × List ℕ) CertFault
below_version total v = (lines_of v.0 (last_lines v.0)).read total v.1 >>= λ y. Ok ((v.0, y.0), y.1)

not_behind : (total : ℕ) (c : VersionedCertificate) (left : List ℕ) → if_at_end total c left ≡ Err CertVersion → ⊥
not_behind total c [] e = cc
not_behind total c (b ∷ more) e = cc

names_none : (bytes : List ℕ) → versioned_in bytes ≡ Err CertVersion → NamesNoVersion bytes
unfolding versioned_in NeverVersion items_text
names_none bytes e =
    let total : ℕ = length bytes in
    let word = fixed_field fixed_word (codes "XGCERT") space in
    ⊎_elim
    (λ within. ⊎_elim
    (λ here. ⊎_elim
    (λ first. absurd (read_never (Unit {0}) fixed_word _ space a_word total bytes first))
    (λ later. ⊎_elim
    (λ there. found total later.0.1 later.1 there)
    (λ below. ⊎_elim (λ lines. absurd (lines_never below.0.0 total below.0.1 lines)) (λ end. absurd (let bad = end.2 in cc))
    (bind_err ((lines_of below.0.0 (last_lines below.0.0)).read total below.0.1) (λ y. Ok ((below.0.0, y.0), y.1)) CertVersion below.2))
    (bind_err (version_field.read total later.0.1) (below_version total) CertVersion later.2))
    (bind_err (word.read total bytes) (λ w. version_field.read total w.1 >>= below_version total) CertVersion here))
    (λ end. absurd (let bad = end.2 in cc))
    (bind_err (word.read total bytes >>= λ w. version_field.read total w.1 >>= below_version total) _ CertVersion within))
    (λ behind. absurd (not_behind total behind.0.0 behind.0.1 behind.2))
    (bind_err (versioned_certificate.read total bytes) (λ x. if_at_end total x.0 x.1) CertVersion e)
  where
    found : (total : ℕ) (left : List ℕ) → (fixed_field fixed_word (codes "XGCERT") space).read total bytes ≡ Ok (tt, left)
        → version_field.read total left ≡ Err CertVersion → NamesNoVersion bytes
    found total left word e =
        let text = (fixed_laws fixed_word (codes "XGCERT") space refl refl).only total bytes tt left word in
        let is = is_refused total left e in
        record { left = left; parts = text.1; ended = is.0; not_one = named_one (next_field left) is.1; not_two = named_two (next_field left) is.1 }

abbrev to_versioned : (PartsOfVersioned × List ℕ) → Result (VersionedCertificate × List ℕ) CertFault
to_versioned x = Ok (versioned_of_parts x.0, x.1)

abbrev to_end : ℕ → (VersionedCertificate × List ℕ) → Result VersionedCertificate CertFault
to_end total x = if_at_end total x.0 x.1

abbrev behind_word : ℕ → (Unit {0} × List ℕ) → Result (PartsOfVersioned × List ℕ) CertFault
behind_word total w = version_field.read total w.1 >>= below_version total

is_other : (bytes : List ℕ) → NamesNoVersion bytes → versioned_in bytes ≡ Err CertVersion
unfolding versioned_in
is_other bytes names =
    let total : ℕ = length bytes in
    let word : (fixed_field fixed_word (codes "XGCERT") space).read total bytes ≡ Ok (tt, names.left) =
    ap (λ (b : List ℕ). (fixed_field fixed_word (codes "XGCERT") space).read total b) names.parts ∙ read_word names.left total in
    ap (λ (r : Result (Unit {0} × List ℕ) CertFault). ((r >>= behind_word total) >>= to_versioned) >>= to_end total) word
    ∙ ap (λ (r : Result (TextVersion × List ℕ) CertFault). ((r >>= below_version total) >>= to_versioned) >>= to_end total)
    (refused total names.left names.ended (unnamed (next_field names.left) names.not_one names.not_two))

-- a text is of another version exactly where its second field is neither
pub other_versions : OtherVersionsAreRefused
other_versions bytes = (names_none bytes, is_other bytes)
