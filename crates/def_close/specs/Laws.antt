-- What holds of certificates of two plans, and of widths. Each law is the contract of a function of this crate.
use Rattle.std.specs.Prelude.{◌≡◌, ◌↔◌, ℕ, ◌*◌, ◌≤◌, ℤ, List, All, Ok}
use Rattle.def_sums.specs.Limits.{most_root}
use Rattle.def_tree.specs.Rules.{most_actions}
use Rattle.def_fraction.specs.Fraction.{Fraction, fraction_of}
use Rattle.def_file.specs.Content.{GameFile}
use Rattle.def_plan.specs.Form.{AreInOrder}
use Rattle.def_plan.specs.Weighed.{WeighedGame}
use Rattle.def_reply.specs.Outcome.{Head}
use Rattle.def_cert_verdict.specs.Laws.{IsHeadOf}
use Rattle.def_cert_verdict.specs.Ranges.{CertificateFits, HeadFits}
use Rattle.def_cert_verdict.specs.Verdict.{bracket, verdict}
use Rattle.def_cert_accepted.specs.OfOutcome.{certificate_of, printed_bound}
use Rattle.def_check.specs.Accepted.{IsAccepted}
use Rattle.def_program.specs.Text.{form_of_file}
use Rattle.def_close.specs.Plans.{ArePlansOf, IsBracketText, ends_of_plans, one_line, pair_high, pair_low, pair_text}
use Rattle.def_close.specs.Narrow.{AreAsNarrow, IsAsNarrow}

-- whatever plans they are, with the game's head their certificate is accepted and shows the totals in payoff units
abbrev pub CertificatesOfPlansAreAccepted : Type 0
CertificatesOfPlansAreAccepted = (game : WeighedGame) (head : Head) (one two : List ℕ) → AreInOrder game.form.sets_one
    → AreInOrder game.form.sets_two → IsHeadOf game head → ArePlansOf game.form (head.rounds * head.scale) one two
    → let ends = ends_of_plans game.form one two in
    verdict game (certificate_of game.form (one_line head ends))
    ≡ Ok (bracket (printed_bound game.unit ends.lower) (printed_bound game.unit ends.upper))

-- and its numbers are within their ranges, where those of the head are and no set has too many actions
abbrev pub CertificatesOfPlansFit : Type 0
CertificatesOfPlansFit = (game : WeighedGame) (head : Head) (one two : List ℕ) → AreInOrder game.form.sets_one
    → AreInOrder game.form.sets_two
    → All (λ h. h.actions ≤ most_actions) game.form.sets_one → All (λ h. h.actions ≤ most_actions) game.form.sets_two
    → IsHeadOf game head → HeadFits head → 1 ≤ head.rounds → head.every ≡ head.rounds
    → ArePlansOf game.form (head.rounds * head.scale) one two
    → CertificateFits (certificate_of game.form (one_line head (ends_of_plans game.form one two)))

-- of an accepted file's game, the text of any two plans of the greatest root is one that a check of the file accepts,
-- with the totals of their best replies in payoff units, and what its bounds say holds
abbrev pub TextsOfPlansHold : Type 0
TextsOfPlansHold = (file : List ℕ) (game : GameFile) (one two : List ℕ) → IsAccepted file game
    → ArePlansOf (form_of_file game) most_root one two
    → IsBracketText file (pair_text game one two) (pair_low game one two) (pair_high game one two)

-- two totals over one scale are as narrow as the bracket of both in lowest terms
abbrev pub NarrowTotalsAreNarrow : Type 0
NarrowTotalsAreNarrow = (width : Fraction) (scale : ℕ) (low high : ℤ) → 1 ≤ scale
    → IsAsNarrow width (fraction_of low scale) (fraction_of high scale) ↔ AreAsNarrow width scale low high
