-- No accepted certificate is too long.
use Rattle.std.proofs.Common.{◌≡◌, ℕ, ◌+◌, ◌-◌, ◌*◌, ◌^◌, ◌<◌, ◌≤◌, List, [], ◌∷◌, ◌++◌, length, get_or, All, Option, Some, None, refl, sym, ap, subst, arith}
use Rattle.std.specs.Prelude.{codes}
use Rattle.std.proofs.Math.Nat.{div-le_self}
use Rattle.std.proofs.lemmas.List.{length-append}
use Rattle.def_sums.specs.Sum.{nat_sum_over}
use Rattle.def_sums.proofs.SumLaws.{nat_sum_over-bounded}
use Rattle.def_plan.specs.Form.{InformationSet, sequence_count}
use Rattle.def_plan.specs.Plan.{IsPlan}
use Rattle.def_reply.specs.Reply.{Reply, SetReply}
use Rattle.def_reply.specs.declared.TraceLine.{TraceLine}
use Rattle.def_reply.specs.Outcome.{Head}
use Rattle.def_cert_verdict.specs.Certificate.{PrintedPlan, PrintedBounds, joined, printed_numbers}
use Rattle.def_plan.specs.Weighed.{WeighedGame}
use Rattle.def_cert_verdict.specs.Verdict.{Verdict, bracket, head_only}
use Rattle.def_cert_verdict.specs.Ranges.{HeadFits, TraceFits, PlanFits, ReplyFits, BoundsFit, FitsBelowHead}
use Rattle.def_cert_text.specs.declared.version.TextVersion.{TextVersion}
use Rattle.def_cert_text.specs.declared.version.TextVersion.TheVariants as versions
use Rattle.def_cert_text.specs.Formats.{asked_items}
use Rattle.def_cert_text.specs.Versions.{PrintedBracket, SecondFits, VersionedFits}
use Rattle.def_cert_text.specs.CertText.{head_lines_of, last_lines, second_line, version_field, line_of_round, round_of_evaluation, trace_lines, weights_line}
use Rattle.def_cert_text.specs.CertText.{plan_lines, value_line, reply_lines, bracket_line, bounds_lines, versioned_certificate, versioned_text}
use Rattle.def_cert_text.proofs.TextLines.{end_items}
use Rattle.def_check.specs.Check.{most_cert_bytes}
use Rattle.def_check.specs.Shown.{Shows}
use Rattle.def_check.proofs.Checked.{checks_show}
use Rattle.def_game_numbers.specs.Weighed.{weighed_game}
use Rattle.def_program_laws.specs.SolveLaws.{AcceptedTextsAreShort}
use Rattle.def_program_laws.proofs.CertificateLineWidths.{few_digits, few_signed, widths, widths-append, text_width, each_width, version_width, head_width}
use Rattle.def_program_laws.proofs.CertificateLineWidths.{HasSmallNumbers, trace_line_width, weights_width, value_width, bracket_width, second_width}

-- ---- the trace
small_lines : (head : Head) (lines : List TraceLine) → HeadFits head → TraceFits head lines
    → All HasSmallNumbers lines
small_lines head lines fits trace k line low =
    let at = trace.each k line low in
    record {
      round = omega (arith, at.round, fits.rounds);
      low_round = omega (arith, at.low_round.1, at.round, fits.rounds);
      low = at.low;
      high_round = omega (arith, at.high_round.1, at.round, fits.rounds);
      high = at.high;
    }

abbrev line_size : TraceLine → ℕ
line_size line = 90

trace_width : (head : Head) (lines : List TraceLine) → HeadFits head → TraceFits head lines
    → widths ((trace_lines head).items lines) ≤ 131071 * 90
trace_width head lines fits trace =
    let few : length lines ≤ 131071 =
    omega (arith, trace.count, div-le_self (head.rounds + head.every - 1) head.every, fits.rounds, fits.every.1) in
    omega (
      arith,
      few,
      each_width TraceLine (λ k. line_of_round (round_of_evaluation head k)) line_size (length lines) 1 lines
          (omega arith) (λ k line low j up. trace_line_width (round_of_evaluation head j) (get_or lines k line)
          (small_lines head lines fits trace k line low)),
      nat_sum_over-bounded line_size 90 lines (λ k line low. omega arith),
    )

-- ---- plans and replies
abbrev weights_size : List ℕ → ℕ
weights_size ws = 16 + 12 * length ws

weights_sizes : (wss : List (List ℕ)) → nat_sum_over weights_size wss ≡ 16 * length wss + 12 * length (joined wss)
weights_sizes [] = refl
weights_sizes (ws ∷ wss) = omega (arith, weights_sizes wss, length-append ws (joined wss))

-- a plan has a number for each sequence
few_weights : (sets : List InformationSet) (plan : PrintedPlan) → IsPlan sets plan.root (printed_numbers plan)
    → sequence_count sets ≤ 2 ^ 20 → length (joined plan.weights) ≤ 2 ^ 20
few_weights sets plan is few = omega (arith, is.all_sequences, few)

plan_width : (player : List ℕ) (sets : ℕ) (plan : PrintedPlan) → length player ≡ 1 → sets ≤ 2 ^ 20 → PlanFits sets plan
    → length (joined plan.weights) ≤ 2 ^ 20 → widths ((plan_lines player sets).items plan) ≤ 19 + 28 * 2 ^ 20
plan_width player sets plan one small fits few =
    omega (
      arith,
      one,
      small,
      few,
      few_digits 11 plan.root (omega arith) (omega (arith, fits.root.1)) (omega (arith, fits.root.1)),
      fits.count,
      each_width (List ℕ) weights_line weights_size sets 1 plan.weights (omega (arith, fits.count))
          (λ k ws low j up. weights_width j (get_or plan.weights k ws) (omega (arith, up, small)) (fits.each k ws low)),
      weights_sizes plan.weights,
    )

abbrev value_size : SetReply → ℕ
value_size reply = 52

reply_width : (player : List ℕ) (sets : ℕ) (reply : Reply) → length player ≡ 1 → sets ≤ 2 ^ 20 → ReplyFits sets reply
    → widths ((reply_lines player sets).items reply) ≤ 41 + 52 * 2 ^ 20
reply_width player sets reply one small fits =
    omega (
      arith,
      one,
      small,
      few_signed reply.total fits.total,
      fits.count,
      each_width SetReply value_line value_size sets 1 reply.sets (omega (arith, fits.count))
          (λ k r low j up. value_width j (get_or reply.sets k r) (omega (arith, up, small)) (fits.values k r low)
          (fits.choices k r low).1),
      nat_sum_over-bounded value_size 52 reply.sets (λ k r low. omega arith),
    )

-- ---- all of it
bounds_width : (head : Head) (b : PrintedBounds) → HeadFits head → BoundsFit head b
    → length (joined b.plan_one.weights) ≤ 2 ^ 20 → length (joined b.plan_two.weights) ≤ 2 ^ 20
    → widths ((bounds_lines head).items b) ≤ 180000000
bounds_width head b fits below few_one few_two =
    let trace = (trace_lines head).items b.trace in
    let plan_one = (plan_lines (codes "1") head.sets_one).items b.plan_one in
    let reply_two = (reply_lines (codes "2") head.sets_two).items b.reply_two in
    let plan_two = (plan_lines (codes "2") head.sets_two).items b.plan_two in
    let reply_one = (reply_lines (codes "1") head.sets_one).items b.reply_one in
    let last = bracket_line.items (b.low, b.high) in
    omega (
      arith,
      widths-append trace (plan_one ++ (reply_two ++ (plan_two ++ (reply_one ++ last)))),
      widths-append plan_one (reply_two ++ (plan_two ++ (reply_one ++ last))),
      widths-append reply_two (plan_two ++ (reply_one ++ last)),
      widths-append plan_two (reply_one ++ last),
      widths-append reply_one last,
      trace_width head b.trace fits below.trace,
      plan_width (codes "1") head.sets_one b.plan_one refl fits.sets_one below.plan_one few_one,
      reply_width (codes "2") head.sets_two b.reply_two refl fits.sets_two below.reply_two,
      plan_width (codes "2") head.sets_two b.plan_two refl fits.sets_two below.plan_two few_two,
      reply_width (codes "1") head.sets_one b.reply_one refl fits.sets_one below.reply_one,
      bracket_width b.low b.high below.low below.high,
    )

-- the lines behind the bounds
last_width : (v : TextVersion) (head : Head) (bounds : Option PrintedBounds) (second : Option PrintedBracket)
    → SecondFits v bounds second → widths ((last_lines v head).items (second, tt)) ≤ 142
last_width v head bounds None fits = omega arith
last_width versions.One head bounds (Some second) fits = absurd cc
last_width versions.Two head None (Some second) fits = absurd cc
last_width versions.Two head (Some b) (Some second) fits =
    omega (arith, second_width second fits.0 fits.1, widths-append (second_line.items second) end_items)

-- the bounds have this width, where there are any
abbrev HasFewWeights : Option PrintedBounds → Type 0
HasFewWeights None = Unit {0}
HasFewWeights (Some b) = (length (joined b.plan_one.weights) ≤ 2 ^ 20) × (length (joined b.plan_two.weights) ≤ 2 ^ 20)

middle_width : (head : Head) (bounds : Option PrintedBounds) → HeadFits head → FitsBelowHead head bounds
    → HasFewWeights bounds → widths (asked_items (bounds_lines head) bounds) ≤ 180000000
middle_width head None fits below few = omega arith
middle_width head (Some b) fits below few = bounds_width head b fits below few.0 few.1

short : (v : TextVersion) (head : Head) (bounds : Option PrintedBounds) (second : Option PrintedBracket)
    → VersionedFits (record { version = v; certificate = record { head = head; bounds = bounds }; second = second })
    → HasFewWeights bounds
    → length (versioned_text (record { version = v; certificate = record { head = head; bounds = bounds }; second = second }))
    < most_cert_bytes
short v head bounds second fits few =
    let middle = asked_items (bounds_lines head) bounds in
    let last = (last_lines v head).items (second, tt) in
    omega (
      arith,
      text_width (versioned_certificate.items (record { version = v; certificate = record { head = head; bounds = bounds }; second = second })),
      version_width v,
      widths-append (version_field.items v) ((head_lines_of v).items head ++ (middle ++ last)),
      head_width v head fits.certificate.head,
      widths-append ((head_lines_of v).items head) (middle ++ last),
      middle_width head bounds fits.certificate.head fits.certificate.below few,
      widths-append middle last,
      last_width v head bounds second fits.second,
    )

shown_short : (game : WeighedGame) (bytes : List ℕ) (shown : Verdict) → Shows game bytes shown
    → length bytes < most_cert_bytes
shown_short game bytes head_only shows =
    omega (arith, ap length shows.text, short shows.version shows.head None None shows.fits tt)
shown_short game bytes (bracket low high) shows =
    let c = shows.certificate in
    let fits = shows.fits.certificate.head in
    let b = shows.bounds in
    let few_one = few_weights game.form.sets_one b.plan_one shows.shows.plan_one
    (omega (arith, shows.head_is.sequences_one, fits.sequences_one.1)) in
    let few_two = few_weights game.form.sets_two b.plan_two shows.shows.plan_two
    (omega (arith, shows.head_is.sequences_two, fits.sequences_two.1)) in
    omega (
      arith,
      ap length shows.text,
      short c.version c.certificate.head c.certificate.bounds c.second shows.fits
          (subst HasFewWeights (sym shows.bounds_are) (few_one, few_two)),
    )

-- no accepted certificate is too long
pub accepted_short : AcceptedTextsAreShort
accepted_short file bytes shown short is =
    let found = checks_show file bytes shown short is in
    shown_short (weighed_game found.game) bytes shown found.shows
