-- What an accepted certificate shows, from what the verdict says.
use Rattle.std.proofs.Common.{◌≡◌, ◌↔◌, ◌≤◌, ℕ, List, Result, Ok, Err, None, refl, subst, sym, ◌∙◌}
use Rattle.std.specs.Prelude.{IfOk}
use Rattle.def_file.specs.Content.{GameFile}
use Rattle.def_file_form.specs.Laws.{StandsFor}
use Rattle.def_game_numbers.specs.Numbers.{game_file_fault}
use Rattle.def_plan.specs.Form.{AreInOrder}
use Rattle.def_cert_verdict.specs.declared.fault.TestFault.{TestFault}
use Rattle.def_cert_verdict.specs.Verdict as def
use Rattle.def_plan.specs.Weighed.{WeighedGame}
use Rattle.def_cert_text.specs.Versions.{VersionedCertificate, VersionedFits}
use Rattle.def_cert_text.specs.CertText.{versioned_text}
use Rattle.def_cert_versions.specs.Upgrade.{IsUpgradable}
use Rattle.def_cert_versions.specs.Verdict.{versioned_verdict}
use Rattle.def_cert_versions.proofs.Upgrades.{upgradable}
use Rattle.def_check.specs.Check.{by_tests}
use Rattle.def_game_numbers.specs.Weighed.{weighed_game}
use Rattle.def_game_numbers.specs.WholeSums.{HasWholeSum}
use Rattle.def_check.specs.Shown.{Shows, ShowsOfFile}
use Rattle.def_check.proofs.Accepted.{alone_without_rounds, what_is_shown}
use Rattle.xg_check.specs.declared.verdict.Accepted.{Accepted}
use Rattle.xg_check.specs.declared.verdict.Verdict.{Verdict}
use Rattle.xg_check.specs.declared.verdict.Verdict.TheVariants.{Bounds, HeadOnly}
use Rattle.xg_check.specs.declared.verdict.CheckFault.{CheckFault}
use Rattle.xg_check.specs.Answers.{IsHeadOnlyWithoutRounds, IsOpened, verdict_of}
use Rattle.xg_game.specs.declared.fault.Refused.{Refused}

passed : (t : Result def.Verdict TestFault) (v : def.Verdict) → by_tests t ≡ Ok v → t ≡ Ok v
passed (Ok s) v e = cc
passed (Err f) v e = absurd cc

-- what holds before the verdict
pub record HoldsBeforeVerdict (game : WeighedGame) (cert_bytes : List ℕ) (c : VersionedCertificate) : Type 0 where
  pub order_one : AreInOrder game.form.sets_one
  pub order_two : AreInOrder game.form.sets_two
  pub some_unit : 1 ≤ game.unit
  pub whole_sum : HasWholeSum game
  pub fits : VersionedFits c
  pub text : cert_bytes ≡ versioned_text c

alone : (v : Verdict) → (v ≡ HeadOnly) ↔ (verdict_of v ≡ def.head_only)
alone HeadOnly = (λ e. refl, λ e. refl)
alone (Bounds low high) = (λ e. absurd cc, λ e. absurd cc)

-- of a certificate within its ranges that the tests accept with a verdict
module _ (v : Verdict) (game : WeighedGame) (bytes : List ℕ) (c : VersionedCertificate) (ready : HoldsBeforeVerdict game bytes c)
    (e : by_tests (versioned_verdict game c) ≡ Ok (verdict_of v)) where
  -- the verdict is what the bytes show of the game
  pub judged_shows : Shows game bytes (verdict_of v)
  judged_shows =
      subst (λ (bs : List ℕ). Shows game bs (verdict_of v)) (sym ready.text)
      (what_is_shown game c (verdict_of v) ready.order_one ready.order_two ready.some_unit ready.fits (passed (versioned_verdict game c) (verdict_of v) e))

  -- it is the head alone exactly where the certificate's head has no round
  pub judged_alone : IsHeadOnlyWithoutRounds bytes v
  judged_alone d fits same =
      let same_text : versioned_text c ≡ versioned_text d = sym ready.text ∙ same in
      let both = alone_without_rounds game c (verdict_of v) ready.fits (passed (versioned_verdict game c) (verdict_of v) e) d fits same_text in
      let here = alone v in
      (λ only. both.0 (here.0 only), λ none. here.1 (both.1 none))

  -- and it can be upgraded
  pub judged_upgradable : IsUpgradable c
  judged_upgradable =
      upgradable game c (verdict_of v) ready.order_one ready.order_two ready.some_unit ready.whole_sum ready.fits
      (passed (versioned_verdict game c) (verdict_of v) e)

pub opened_as : (r : Result WeighedGame Refused) (bytes : List ℕ) (game : GameFile) → StandsFor bytes game
    → IfOk r (λ numbers. numbers ≡ weighed_game game) → IfOk r (λ _. game_file_fault game ≡ None)
    → IfOk r (IsOpened bytes)
opened_as (Ok numbers) bytes game stands is none = record { game = game; stands = stands; faultless = none; numbers_are = is }
opened_as (Err f) bytes game stands is none = tt

-- what a certificate shows of the numbers of an opened file, it shows of the file's game
pub shown_of_file : (r : Result Accepted CheckFault) (game_bytes cert_bytes : List ℕ) (numbers : WeighedGame)
    → IsOpened game_bytes numbers → IfOk r (λ a. Shows numbers cert_bytes (verdict_of a.verdict))
    → IfOk r (λ a. ShowsOfFile game_bytes cert_bytes (verdict_of a.verdict))
shown_of_file (Ok a) game_bytes cert_bytes numbers opened shows = record {
  game = opened.game;
  stands = opened.stands;
  faultless = opened.faultless;
  shows = subst (λ (g : WeighedGame). Shows g cert_bytes (verdict_of a.verdict)) opened.numbers_are shows;
}
shown_of_file (Err f) game_bytes cert_bytes numbers opened shows = tt
