-- The text of a certificate in both versions: its lines as formats, and what reading gives.
use Rattle.std.specs.Prelude.{ℕ, true, ◌+◌, ◌-◌, ◌*◌, ◌/◌, ◌&&◌, nat_le, nat_lt, nat_eq, min, if◌then◌else◌, List, []}
use Rattle.std.specs.Prelude.{◌∷◌, ◌++◌, codes, length, Option, Some, None, Result, Ok, Err, ℤ}
use Rattle.std.specs.Cmp.Lexicographic.{pointwise}
use Rattle.std.specs.Fmt.{decimal}
use Rattle.def_fraction.specs.Fraction.{Fraction, most, zero_fraction, is_zero}
use Rattle.def_tree.specs.Rules.{most_actions, most_nodes}
use Rattle.def_sums.specs.Limits.{most_mass, most_rounds, most_scale, most_root}
use Rattle.def_reply.specs.Reply.{SetReply, Reply}
use Rattle.def_reply.specs.declared.TraceLine.{TraceLine}
use Rattle.def_reply.specs.Outcome.{Head}
use Rattle.def_cert_verdict.specs.Certificate.{PrintedPlan, PrintedBounds}
use Rattle.def_cert_verdict.specs.Ranges.{most_printed}
use Rattle.def_cert_text.specs.declared.fault.CertFault.{CertFault}
use Rattle.def_cert_text.specs.declared.fault.CertFault.TheVariants.{CertTrailing}
use Rattle.def_cert_text.specs.Fields.{◌>>=◌, space, feed, fixed_word, number, version, TextItem, field, separator}
use Rattle.def_cert_text.specs.Versions.{PrintedBracket, VersionedCertificate, has_second}
use Rattle.def_cert_text.specs.declared.version.TextVersion.{TextVersion}
use Rattle.def_cert_text.specs.declared.version.TextVersion.TheVariants as versions
use Rattle.def_cert_text.specs.Formats.{Format, text_of, one_field, whole_field, integer_field, is_lowest_within}
use Rattle.def_cert_text.specs.Formats.{fraction_field, nonzero_field, fixed_field, after_fixed, and_then, seen_as}
use Rattle.def_cert_text.specs.Formats.{each_from, where_asked, read_number, row_of_numbers}

abbrev pub after_word : {A : Type 0} → List ℕ → Format A → Format A
after_word wanted f = after_fixed fixed_word wanted space f

-- ---- the game's numbers: the lines 2 to 6 of version 1, 2 to 7 of version 2
abbrev pub NumbersOfGame : Type 0
NumbersOfGame = (ℕ × ℕ) × ((ℕ × ℕ) × ((ℕ × ℕ) × ((ℕ × Fraction) × ℕ)))

abbrev pub size_line : Format (ℕ × ℕ)
size_line = after_word (codes "nodes") (and_then (whole_field 1 most_nodes space)
    (λ nodes. after_word (codes "leaves") (whole_field 1 most_nodes feed)))

abbrev pub sets_line : Format (ℕ × ℕ)
sets_line = after_word (codes "sets") (and_then (whole_field 0 most_nodes space) (λ one. whole_field 0 most_nodes feed))

abbrev pub sequences_line : Format (ℕ × ℕ)
sequences_line = after_word (codes "sequences") (and_then (whole_field 1 most_nodes space)
    (λ one. whole_field 1 most_nodes feed))

abbrev pub sum_field : Format Fraction
sum_field = after_word (codes "sum") (nonzero_field most feed)

-- what stands behind the unit
abbrev pub sum_items : Fraction → List TextItem
sum_items sum = if is_zero sum then separator feed ∷ [] else separator space ∷ sum_field.items sum

-- the unit, and what each leaf pays both players together where that isn't 0
abbrev pub unit_and_sum : Format (ℕ × Fraction)
unit_and_sum = record {
  fits = λ p. (nat_le 1 p.0 && nat_le p.0 most) && is_lowest_within most p.1;
  items = λ p. field number (decimal p.0) ∷ sum_items p.1;
  read = λ total bytes. read_number 1 most total bytes >>= λ n.
      (if n.0.1 then Ok ((n.0.0, zero_fraction), n.1) else (sum_field.read total n.1 >>= λ sum. Ok
      ((n.0.0, sum.0), sum.1)));
}

abbrev pub unit_line : Format (ℕ × Fraction)
unit_line = after_word (codes "unit") unit_and_sum

abbrev pub mass_line : Format ℕ
mass_line = after_word (codes "mass") (whole_field 0 most_mass feed)

-- in version 2 the unit, and the sum with 0 included, have lines of their own
abbrev pub unit_alone_line : Format ℕ
unit_alone_line = after_word (codes "unit") (whole_field 1 most feed)

abbrev pub sum_line : Format Fraction
sum_line = after_word (codes "sum") (fraction_field most feed)

-- the unit with the sum, and the mass
abbrev pub PayoffNumbers : Type 0
PayoffNumbers = (ℕ × Fraction) × ℕ

abbrev pub parts_of_payoffs : PayoffNumbers → (ℕ × (ℕ × Fraction))
parts_of_payoffs p = (p.0.0, (p.1, p.0.1))

abbrev pub payoffs_of_parts : (ℕ × (ℕ × Fraction)) → PayoffNumbers
payoffs_of_parts p = ((p.0, p.1.1), p.1.0)

abbrev pub payoff_lines : TextVersion → Format PayoffNumbers
payoff_lines versions.One = and_then unit_line (λ unit. mass_line)
payoff_lines versions.Two = seen_as payoffs_of_parts parts_of_payoffs (and_then unit_alone_line (λ unit. and_then mass_line (λ mass. sum_line)))

abbrev pub game_lines_of : TextVersion → Format NumbersOfGame
game_lines_of v = and_then size_line (λ size. and_then sets_line
    (λ sets. and_then sequences_line (λ sequences. payoff_lines v)))

-- ---- the line behind them: what was asked
abbrev pub asked_line : Format (ℕ × (ℕ × ℕ))
asked_line = after_word (codes "rounds") (and_then (whole_field 0 most_rounds space) (λ rounds.
    after_word (codes "every") (and_then (whole_field 1 most_rounds space)
    (λ every. after_word (codes "scale") (whole_field 1 most_scale feed)))))

abbrev pub numbers_of_game : Head → NumbersOfGame
numbers_of_game head = (
  (head.nodes, head.leaves),
  (
    (head.sets_one, head.sets_two),
    ((head.sequences_one, head.sequences_two), ((head.unit, head.sum), head.mass)),
  ),
)

abbrev pub parts_of_head : Head → (NumbersOfGame × (ℕ × (ℕ × ℕ)))
parts_of_head head = (numbers_of_game head, (head.rounds, (head.every, head.scale)))

abbrev pub head_of_parts : (NumbersOfGame × (ℕ × (ℕ × ℕ))) → Head
head_of_parts p = record {
  nodes = p.0.0.0;
  leaves = p.0.0.1;
  sets_one = p.0.1.0.0;
  sets_two = p.0.1.0.1;
  sequences_one = p.0.1.1.0.0;
  sequences_two = p.0.1.1.0.1;
  unit = p.0.1.1.1.0.0;
  sum = p.0.1.1.1.0.1;
  mass = p.0.1.1.1.1;
  rounds = p.1.0;
  every = p.1.1.0;
  scale = p.1.1.1;
}

abbrev pub head_lines_of : TextVersion → Format Head
head_lines_of v = seen_as head_of_parts parts_of_head (and_then (game_lines_of v) (λ game. asked_line))

-- ---- the trace
abbrev pub parts_of_trace_line : TraceLine → (ℕ × (ℕ × (ℤ × (ℕ × ℤ))))
parts_of_trace_line line = (line.round, (line.low_round, (line.low, (line.high_round, line.high))))

abbrev pub trace_line_of_parts : (ℕ × (ℕ × (ℤ × (ℕ × ℤ)))) → TraceLine
trace_line_of_parts p = record {
  round = p.0;
  low_round = p.1.0;
  low = p.1.1.0;
  high_round = p.1.1.1.0;
  high = p.1.1.1.1;
}

-- the line of the evaluation after this round
abbrev pub line_of_round : ℕ → Format TraceLine
line_of_round k = seen_as trace_line_of_parts parts_of_trace_line
    (after_word (codes "trace") (and_then (whole_field k k space) (λ round.
    and_then (whole_field 1 k space) (λ low_round. and_then (integer_field most_printed space) (λ low.
    and_then (whole_field 1 k space) (λ high_round. integer_field most_printed feed))))))

-- the round of an evaluation, which counts from 1
abbrev pub round_of_evaluation : Head → ℕ → ℕ
round_of_evaluation head k = min (k * head.every) head.rounds

-- the rounds over `every`, rounded up
abbrev pub evaluation_count : Head → ℕ
evaluation_count head = (head.rounds + head.every - 1) / head.every

abbrev pub trace_lines : Head → Format (List TraceLine)
trace_lines head = each_from 1 (evaluation_count head) (λ k. line_of_round (round_of_evaluation head k))

-- ---- plans and replies
abbrev pub after_set_number : {A : Type 0} → List ℕ → ℕ → Format A → Format A
after_set_number wanted set f = after_word wanted (after_fixed number (decimal set) space f)

abbrev pub weights_line : ℕ → Format (List ℕ)
weights_line set = after_set_number (codes "weights") set (row_of_numbers most_root (most_actions - 1))

-- the player is told by a fixed word
abbrev pub after_player : {A : Type 0} → List ℕ → List ℕ → Format A → Format A
after_player wanted player f = after_word wanted (after_word player f)

abbrev pub plan_lines : List ℕ → ℕ → Format PrintedPlan
plan_lines player sets = seen_as (λ (p : ℕ × List (List ℕ)). record { root = p.0; weights = p.1 })
    (λ (plan : PrintedPlan). (plan.root, plan.weights))
    (after_player (codes "plan") player (and_then (whole_field 1 most_root feed)
    (λ root. each_from 1 sets weights_line)))

abbrev pub value_line : ℕ → Format SetReply
value_line set = seen_as (λ (p : ℤ × ℕ). record { value = p.0; choice = p.1 })
    (λ (reply : SetReply). (reply.value, reply.choice))
    (after_set_number (codes "value") set (and_then (integer_field most_printed space)
    (λ value. whole_field 1 most_actions feed)))

abbrev pub reply_lines : List ℕ → ℕ → Format Reply
reply_lines player sets = seen_as (λ (p : ℤ × List SetReply). record { total = p.0; sets = p.1 })
    (λ (reply : Reply). (reply.total, reply.sets))
    (after_player (codes "reply") player (and_then (integer_field most_printed feed)
    (λ total. each_from 1 sets value_line)))

abbrev pub bracket_line : Format (Fraction × Fraction)
bracket_line = after_word (codes "bracket") (and_then (fraction_field most_printed space)
    (λ low. fraction_field most_printed feed))

-- ---- all that stands below the head where rounds were asked
abbrev pub PartsOfBounds : Type 0
PartsOfBounds = List TraceLine × (PrintedPlan × (Reply × (PrintedPlan × (Reply × (Fraction × Fraction)))))

abbrev pub parts_of_bounds : PrintedBounds → PartsOfBounds
parts_of_bounds b = (b.trace, (b.plan_one, (b.reply_two, (b.plan_two, (b.reply_one, (b.low, b.high))))))

abbrev pub bounds_of_parts : PartsOfBounds → PrintedBounds
bounds_of_parts p = record {
  trace = p.0;
  plan_one = p.1.0;
  reply_two = p.1.1.0;
  plan_two = p.1.1.1.0;
  reply_one = p.1.1.1.1.0;
  low = p.1.1.1.1.1.0;
  high = p.1.1.1.1.1.1;
}

abbrev pub bounds_lines : Head → Format PrintedBounds
bounds_lines head = seen_as bounds_of_parts parts_of_bounds
    (and_then (trace_lines head) (λ trace. and_then (plan_lines (codes "1") head.sets_one)
    (λ plan_one. and_then (reply_lines (codes "2") head.sets_two) (λ reply_two.
    and_then (plan_lines (codes "2") head.sets_two) (λ plan_two. and_then (reply_lines (codes "1") head.sets_one)
    (λ reply_one. bracket_line))))))

-- ---- all lines below the first, up to those behind the bounds
abbrev pub end_line : Format (Unit {0})
end_line = fixed_field fixed_word (codes "end") feed

abbrev pub lines_of : {A : Type 0} → TextVersion → (Head → Format A) → Format (Head × (Option PrintedBounds × A))
lines_of v end = and_then (head_lines_of v) (λ head. and_then (where_asked (nat_lt 0 head.rounds) (bounds_lines head))
    (λ bounds. end head))

-- ---- the version, which the first line names, and the bracket of player two's payoff behind the bounds of version 2
abbrev pub version_text : TextVersion → List ℕ
version_text versions.One = codes "1"
version_text versions.Two = codes "2"

unfoldable pub version_in : List ℕ → Option TextVersion
version_in bytes = if pointwise nat_eq bytes (codes "1") then Some versions.One else if pointwise nat_eq bytes (codes "2") then Some versions.Two else None

abbrev pub version_field : Format TextVersion
version_field = one_field version (λ v. true) version_text version_in feed

abbrev pub second_line : Format PrintedBracket
second_line = seen_as (λ (p : Fraction × Fraction). record { low = p.0; high = p.1 }) (λ (second : PrintedBracket). (second.low, second.high))
    (after_word (codes "second") (and_then (fraction_field most_printed space) (λ low. fraction_field most_printed feed)))

abbrev pub last_lines : TextVersion → Head → Format (Option PrintedBracket × Unit {0})
last_lines v head = and_then (where_asked (has_second v && nat_lt 0 head.rounds) second_line) (λ second. end_line)

-- ---- the whole
abbrev pub PartsOfVersioned : Type 0
PartsOfVersioned = TextVersion × (Head × (Option PrintedBounds × (Option PrintedBracket × Unit {0})))

abbrev pub parts_of_versioned : VersionedCertificate → PartsOfVersioned
parts_of_versioned c = (c.version, (c.certificate.head, (c.certificate.bounds, (c.second, tt))))

abbrev pub versioned_of_parts : PartsOfVersioned → VersionedCertificate
versioned_of_parts p = record {
  version = p.0;
  certificate = record { head = p.1.0; bounds = p.1.1.0 };
  second = p.1.1.1.0;
}

abbrev pub versioned_certificate : Format VersionedCertificate
versioned_certificate = seen_as versioned_of_parts parts_of_versioned
    (after_word (codes "XGCERT") (and_then version_field (λ v. lines_of v (last_lines v))))

-- ---- the texts, and the lines that are of the game alone
abbrev pub versioned_text : VersionedCertificate → List ℕ
versioned_text c = text_of versioned_certificate c

abbrev pub head_text_of : TextVersion → Head → List ℕ
head_text_of v head = text_of (game_lines_of v) (numbers_of_game head)

abbrev pub head_text : Head → List ℕ
head_text head = head_text_of versions.One head

-- the other lines
abbrev pub first_text_of : TextVersion → List ℕ
first_text_of v = codes "XGCERT " ++ (version_text v ++ feed ∷ [])

abbrev pub asked_text : Head → List ℕ
asked_text head = text_of asked_line (head.rounds, (head.every, head.scale))

abbrev pub bounds_text : Head → PrintedBounds → List ℕ
bounds_text head b = text_of (bounds_lines head) b

abbrev pub second_text : PrintedBracket → List ℕ
second_text second = text_of second_line second

abbrev pub last_text : List ℕ
last_text = codes "end" ++ feed ∷ []

-- nothing may stand behind
abbrev pub if_at_end : {A : Type 0} → ℕ → A → List ℕ → Result A CertFault
if_at_end total x [] = Ok x
if_at_end total x (byte ∷ left) = Err (CertTrailing (total - length (byte ∷ left)))

-- what reading gives: the value that the bytes say, or the first fault
abbrev pub read_to_end : {A : Type 0} → Format A → List ℕ → Result A CertFault
read_to_end f bytes = f.read (length bytes) bytes >>= λ x. if_at_end (length bytes) x.0 x.1

unfoldable pub versioned_in : List ℕ → Result VersionedCertificate CertFault
versioned_in bytes = read_to_end versioned_certificate bytes
