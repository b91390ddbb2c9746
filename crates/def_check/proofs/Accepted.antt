-- What an accepted certificate shows.
use Rattle.std.proofs.Common.{◌≡◌, ◌↔◌, ◌≤◌, Option, Some, None, Ok, refl, ap, subst}
use Rattle.def_plan.specs.Form.{AreInOrder}
use Rattle.def_plan.specs.Weighed.{WeighedGame}
use Rattle.def_reply.specs.Outcome.{Head}
use Rattle.def_cert_verdict.specs.Certificate.{PrintedBounds}
use Rattle.def_cert_verdict.specs.Verdict.{Verdict, bracket, head_only, verdict}
use Rattle.def_cert_verdict.proofs.Sizes.{heads}
use Rattle.def_cert_verdict.proofs.VerdictIsExact.{exact}
use Rattle.def_cert_verdict.proofs.Shown.{accepted}
use Rattle.def_cert_text.specs.declared.version.TextVersion.{TextVersion}
use Rattle.def_cert_text.specs.declared.version.TextVersion.TheVariants as versions
use Rattle.def_cert_text.specs.Versions.{PrintedBracket, SecondFits, VersionedCertificate, VersionedFits}
use Rattle.def_cert_text.specs.CertText.{versioned_text}
use Rattle.def_cert_text.proofs.TextLaws.{versioned_tell}
use Rattle.def_cert_versions.specs.Laws.{HasItsSecond}
use Rattle.def_cert_versions.proofs.VersionedVerdict.{accept_alike}
use Rattle.def_check.specs.Laws.{HeadAloneExactlyWithoutRounds, WhatIsAcceptedIsShown}
use Rattle.def_check.specs.Shown.{Shows}

-- without bounds there is no second bracket in either version
no_second : (v : TextVersion) (second : Option PrintedBracket) → SecondFits v None second → second ≡ None
no_second versions.One second fits = fits
no_second versions.Two second fits = fits

abbrev made : TextVersion → Head → Option PrintedBounds → Option PrintedBracket → VersionedCertificate
made v head bounds second =
    record { version = v; certificate = record { head = head; bounds = bounds }; second = second }

shows_at : (game : WeighedGame) (v : TextVersion) (head : Head) (bounds : Option PrintedBounds) (second : Option PrintedBracket)
    (shown : Verdict) → AreInOrder game.form.sets_one → AreInOrder game.form.sets_two → 1 ≤ game.unit
    → VersionedFits (made v head bounds second) → verdict game (record { head = head; bounds = bounds }) ≡ Ok shown
    → HasItsSecond (made v head bounds second) → Shows game (versioned_text (made v head bounds second)) shown
shows_at game v head None second head_only one two unit fits e has =
    let none : second ≡ None = no_second v second fits.second in
    record {
      version = v;
      head = head;
      fits = subst (λ (o : Option PrintedBracket). VersionedFits (made v head None o)) none fits;
      text = ap (λ (o : Option PrintedBracket). versioned_text (made v head None o)) none;
      head_is = (exact.head_alone game head).0 e;
      no_round = fits.certificate.below;
    }
shows_at game v head None second (bracket low high) one two unit fits e has = absurd (exact.no_bracket game head low high e)
shows_at game v head (Some b) second head_only one two unit fits e has = absurd (exact.not_head_alone game head b e)
shows_at game v head (Some b) second (bracket low high) one two unit fits e has =
    let all = accepted game head b low high one two unit e in
    record {
      certificate = made v head (Some b) second;
      bounds = b;
      bounds_are = refl;
      fits = fits;
      text = refl;
      head_is = ((exact.with_bracket game head b low high).0 e).0;
      second = has;
      low_is = all.0;
      high_is = all.1;
      shows = all.2;
    }

-- where a game's sets are in order and its unit isn't 0, an accepted certificate that fits shows what the verdict says
pub what_is_shown : WhatIsAcceptedIsShown
what_is_shown game c shown one two unit fits e =
    let parts = (accept_alike game c shown).0 e in
    shows_at game c.version c.certificate.head c.certificate.bounds c.second shown one two unit fits parts.0 parts.1

-- the verdict that accepts is the head alone exactly where the certificate that the text says has no round
pub alone_without_rounds : HeadAloneExactlyWithoutRounds
alone_without_rounds game c shown fits e d fits' same =
    let told : c ≡ d = versioned_tell c d fits fits' same in
    subst (λ (x : VersionedCertificate). (shown ≡ head_only) ↔ (x.certificate.head.rounds ≡ 0)) told
    (heads game c.certificate shown fits.certificate ((accept_alike game c shown).0 e).0)
