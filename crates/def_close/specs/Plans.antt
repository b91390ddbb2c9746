-- The certificate of two plans, whoever made them, and the best replies to them. Its trace has one line, of all rounds
-- that a certificate can have at the greatest scale: so both plans have the greatest root.
--     ends_of_plans form one two     both plans with the other player's best reply to each
--     one_line head ends             what is printed of them: one line of trace, and both ends
--     pair_text game one two         the text of their certificate, in version 2
--     IsBracketText file text low high
--                                    a check of the file accepts the text with this bracket, and all of its bounds hold
use Rattle.std.specs.Prelude.{◌≡◌, ℕ, ◌<◌, List, [], ◌∷◌, length, Some, Ok}
use Rattle.def_sums.specs.Limits.{most_rounds, most_scale}
use Rattle.def_tree.specs.declared.Player.TheVariants.{One, Two}
use Rattle.def_fraction.specs.Fraction.{Fraction}
use Rattle.def_file.specs.Content.{GameFile}
use Rattle.def_plan.specs.Form.{SequenceForm}
use Rattle.def_plan.specs.Plan.{IsPlan}
use Rattle.def_reply.specs.Reply.{best_reply_to}
use Rattle.def_reply.specs.declared.TraceLine.{TraceLine}
use Rattle.def_reply.specs.Outcome.{Head, Outcome, OutcomeEnds}
use Rattle.def_cert_verdict.specs.Verdict.{bracket}
use Rattle.def_cert_accepted.specs.OfOutcome.{certificate_of, printed_bound}
use Rattle.def_cert_text.specs.Versions.{VersionedCertificate}
use Rattle.def_cert_text.specs.declared.version.TextVersion.TheVariants as versions
use Rattle.def_cert_text.specs.CertText.{versioned_text}
use Rattle.def_cert_versions.specs.Verdict.{in_version_two}
use Rattle.def_check.specs.Check.{most_cert_bytes}
use Rattle.def_check.specs.Checking.{Checks}
use Rattle.def_command.specs.declared.Settings.{Settings}
use Rattle.def_game_numbers.specs.Weighed.{weighed_game}
use Rattle.def_cert_accepted.specs.Bounds.{BoundsHold}
use Rattle.def_program.specs.Checked.{HoldsOfFile}
use Rattle.def_program.specs.Text.{form_of_file, game_head}

-- ---- the plans
pub record ArePlansOf (form : SequenceForm) (root : ℕ) (one two : List ℕ) : Type 0 where
  pub of_one : IsPlan form.sets_one root one
  pub of_two : IsPlan form.sets_two root two

abbrev pub ends_of_plans : SequenceForm → List ℕ → List ℕ → OutcomeEnds
ends_of_plans form one two = record {
  lower = record { plan = one; reply = best_reply_to form Two one };
  upper = record { plan = two; reply = best_reply_to form One two };
}

-- ---- what is printed of both ends
-- the line of a round after which both ends stood
abbrev pub line_of_ends : ℕ → OutcomeEnds → TraceLine
line_of_ends round ends = record {
  round = round;
  low_round = round;
  low = ends.lower.reply.total;
  high_round = round;
  high = ends.upper.reply.total;
}

abbrev pub one_line : Head → OutcomeEnds → Outcome
one_line head ends = record { head = head; trace = line_of_ends head.rounds ends ∷ []; ends = Some ends }

-- all rounds in one line, at the greatest scale
abbrev pub whole_line : Settings
whole_line = record { rounds = most_rounds; every = most_rounds; scale = most_scale }

abbrev pub pair_certificate : GameFile → List ℕ → List ℕ → VersionedCertificate
pair_certificate game one two =
    let form = form_of_file game in
    in_version_two (certificate_of form (one_line (game_head game whole_line) (ends_of_plans form one two)))

abbrev pub pair_text : GameFile → List ℕ → List ℕ → List ℕ
pair_text game one two = versioned_text (pair_certificate game one two)

-- LOW and HIGH: the totals of both replies over the unit times the root of the plans
abbrev pub pair_low : GameFile → List ℕ → List ℕ → Fraction
pair_low game one two = printed_bound (weighed_game game).unit (ends_of_plans (form_of_file game) one two).lower

abbrev pub pair_high : GameFile → List ℕ → List ℕ → Fraction
pair_high game one two = printed_bound (weighed_game game).unit (ends_of_plans (form_of_file game) one two).upper

-- ---- what holds of the text
-- the certificate is one of version 2, and its head asks for one line of trace at the greatest scale
pub record HasOneLine (certificate : VersionedCertificate) : Type 0 where
  pub version : certificate.version ≡ versions.Two
  pub rounds : certificate.certificate.head.rounds ≡ 65536
  pub every : certificate.certificate.head.every ≡ 65536
  pub scale : certificate.certificate.head.scale ≡ 1048576

-- The text is that of such a certificate. A check of the file accepts it with this bracket, and what its bounds say
-- holds of the file's game. It isn't too long for a certificate.
pub record IsBracketText (file text : List ℕ) (low high : Fraction) : Type 0 where
  pub checks : Checks file text (Ok (bracket low high))
  pub holds : HoldsOfFile file text (λ certificate verdict. (verdict ≡ bracket low high) × HasOneLine certificate)
      BoundsHold
  pub short : length text < most_cert_bytes
