-- What an accepted certificate shows of a game, whoever wrote it.
use Rattle.std.specs.Prelude.{◌≡◌, ℕ, List, Some, None}
use Rattle.def_fraction.specs.Fraction.{Fraction}
use Rattle.def_file.specs.Content.{GameFile}
use Rattle.def_file_form.specs.Laws.{StandsFor}
use Rattle.def_game_numbers.specs.Numbers.{game_file_fault}
use Rattle.def_reply.specs.Outcome.{Head}
use Rattle.def_cert_verdict.specs.Certificate.{PrintedBounds}
use Rattle.def_plan.specs.Weighed.{WeighedGame}
use Rattle.def_cert_verdict.specs.Verdict.{Verdict, bracket, head_only}
use Rattle.def_cert_verdict.specs.Laws.{IsHeadOf, ShowsItsBounds}
use Rattle.def_cert_text.specs.declared.version.TextVersion.{TextVersion}
use Rattle.def_cert_text.specs.Versions.{VersionedCertificate, VersionedFits}
use Rattle.def_cert_text.specs.CertText.{versioned_text}
use Rattle.def_cert_text.specs.Laws.{versioned_head}
use Rattle.def_cert_versions.specs.Laws.{HasItsSecond}
use Rattle.def_game_numbers.specs.Weighed.{weighed_game}

-- the bytes are the text of a certificate of the game without a round, in one of the versions
pub record ShowsHead (game : WeighedGame) (cert_bytes : List ℕ) : Type 0 where
  pub version : TextVersion
  pub head : Head
  pub fits : VersionedFits (versioned_head version head)
  pub text : cert_bytes ≡ versioned_text (versioned_head version head)
  pub head_is : IsHeadOf game head
  pub no_round : head.rounds ≡ 0

-- the bytes are the text of a certificate of the game, whose bounds are these and are shown: both plans are plans, low
-- and high are their attained floor and ceiling in payoff units, and no line of the trace is wider than the one before;
-- in version 2 its second bracket is what the sum leaves of these bounds
pub record ShowsBounds (game : WeighedGame) (cert_bytes : List ℕ) (low high : Fraction) : Type 0 where
  pub certificate : VersionedCertificate
  pub bounds : PrintedBounds
  pub bounds_are : certificate.certificate.bounds ≡ Some bounds
  pub fits : VersionedFits certificate
  pub text : cert_bytes ≡ versioned_text certificate
  pub head_is : IsHeadOf game certificate.certificate.head
  pub second : HasItsSecond certificate
  pub low_is : low ≡ bounds.low
  pub high_is : high ≡ bounds.high
  pub shows : ShowsItsBounds game bounds

abbrev pub Shows : WeighedGame → List ℕ → Verdict → Type 0
Shows game cert_bytes head_only = ShowsHead game cert_bytes
Shows game cert_bytes (bracket low high) = ShowsBounds game cert_bytes low high

-- the same of the game of a file without a fault
pub record ShowsOfFile (game_bytes cert_bytes : List ℕ) (verdict : Verdict) : Type 0 where
  pub game : GameFile
  pub stands : StandsFor game_bytes game
  pub faultless : game_file_fault game ≡ None
  pub shows : Shows (weighed_game game) cert_bytes verdict
