-- What can be written, and the texts of its parts.
use Rattle.std.specs.Prelude.{ℕ, ◌*◌, ◌≤◌, List, [], ◌++◌, codes, length, unsigned_abs, Option, Some}
use Rattle.std.specs.Prelude.{None}
use Rattle.std.specs.Int.{◌∣◌}
use Rattle.def_fraction.specs.Fraction.{Fraction, most}
use Rattle.def_game_scale.specs.Scale.{weight_of}
use Rattle.def_tree.specs.declared.Player.{Player}
use Rattle.def_tree.specs.declared.Player.TheVariants.{One, Two}
use Rattle.def_sums.specs.Limits.{most_root, most_row}
use Rattle.def_reply.specs.Reply.{Reply}
use Rattle.def_reply.specs.Outcome.{Head, End}
use Rattle.def_cert_verdict.specs.Certificate.{PrintedPlan, PrintedBounds}
use Rattle.def_cert_verdict.specs.Ranges.{IsFromTo}
use Rattle.def_cert_accepted.specs.OfOutcome.{printed_bounds}
use Rattle.def_cert_accepted.specs.Writable.{IsEndOf}
use Rattle.def_cert_text.specs.Fields.{items_text}
use Rattle.def_cert_text.specs.Formats.{text_of, each_items}
use Rattle.def_cert_text.specs.declared.version.TextVersion.TheVariants as versions
use Rattle.def_cert_text.specs.CertText.{line_of_round, plan_lines, reply_lines, bracket_line}
use Rattle.def_cert_text.specs.CertText.{first_text_of, head_text_of, asked_text, second_text, versioned_text}
use Rattle.def_cert_text.specs.PlusText.{plus_line, plus_text}
use Rattle.def_cert_text.specs.Versions.{VersionedCertificate}
use Rattle.def_game_numbers.specs.WholeSums.{IsWholeIn}
use Rattle.def_cert_versions.specs.Verdict.{second_bracket}
use Rattle.xg_cert.specs.declared.bounds.FormBounds.{FormBounds}
use Rattle.xg_cert.specs.declared.cert_lines.FirstLine.{FirstLine}
use Rattle.xg_cert.specs.declared.cert_lines.FirstLine.TheVariants as openings
use Rattle.xg_outcome.specs.Outcome.{end_seen}

-- ---- outcomes
-- the ends of an outcome with the form of its game
abbrev pub end_in : Player → FormBounds → End
end_in One b = end_seen b.lower.now
end_in Two b = end_seen b.upper.now

abbrev pub reply_end_in : Player → FormBounds → End
reply_end_in One b = end_seen b.upper.now
reply_end_in Two b = end_seen b.lower.now

abbrev pub form_bounds : FormBounds → PrintedBounds
form_bounds b =
    printed_bounds b.form.now b.unit b.trace.now
    (record { lower = end_seen b.lower.now; upper = end_seen b.upper.now })

pub record AreFormBounds (b : FormBounds) : Type 0 where
  pub unit : IsFromTo 1 most b.unit
  pub lower : IsEndOf b.form.now.sets_one b.form.now.sets_two (end_seen b.lower.now)
  pub upper : IsEndOf b.form.now.sets_two b.form.now.sets_one (end_seen b.upper.now)

-- ---- the second bracket
-- an end times the unit and the root of its plan is whole, and of a total's size
pub record IsWholeEnd (unit root : ℕ) (end : Fraction) : Type 0 where
  pub of_root : IsFromTo 1 most_root root
  pub some : 1 ≤ end.den
  pub whole : end.den ∣ unit * root
  pub small : unsigned_abs (weight_of (unit * root) end) ≤ most_row

-- what the sum leaves of both ends can be worked out
pub record LeavesSecond (head : Head) (b : PrintedBounds) : Type 0 where
  pub unit : IsFromTo 1 most head.unit
  pub sum_is : IsWholeIn head.unit head.sum
  pub low : IsWholeEnd head.unit b.plan_one.root b.low
  pub high : IsWholeEnd head.unit b.plan_two.root b.high

-- ---- texts
abbrev pub plan_text : List ℕ → PrintedPlan → List ℕ
plan_text digit plan = text_of (plan_lines digit (length plan.weights)) plan

abbrev pub reply_text : List ℕ → Reply → List ℕ
reply_text digit reply = text_of (reply_lines digit (length reply.sets)) reply

-- a plan with the reply to it, by the digits of their players
abbrev pub end_text : List ℕ → List ℕ → PrintedPlan → Reply → List ℕ
end_text digit other plan reply = plan_text digit plan ++ reply_text other reply

-- from the trace to the bracket
abbrev pub ends_text : PrintedBounds → List ℕ
ends_text b =
    items_text (each_items line_of_round 1 b.trace) ++ (end_text (codes "1") (codes "2") b.plan_one b.reply_two
    ++ (end_text (codes "2") (codes "1") b.plan_two b.reply_one ++ text_of bracket_line (b.low, b.high)))

abbrev pub below_text : Fraction → Option PrintedBounds → List ℕ
below_text sum None = []
below_text sum (Some b) = ends_text b ++ second_text (second_bracket sum b)

unfoldable pub opening_line : FirstLine → List ℕ
opening_line openings.Certificate = first_text_of versions.Two
opening_line openings.Plus = plus_line

abbrev pub above_text : FirstLine → Head → List ℕ
above_text first head = opening_line first ++ (head_text_of versions.Two head ++ asked_text head)

-- the whole, as the first line says
abbrev pub text_under : FirstLine → VersionedCertificate → List ℕ
text_under openings.Certificate c = versioned_text c
text_under openings.Plus c = plus_text c
