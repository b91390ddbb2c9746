-- What is asked of an offer, and of a certificate that can be upgraded.
use Rattle.std.specs.Prelude.{◌≡◌, ◌↔◌, ℕ, ◌*◌, ◌<◌, ◌≤◌}
use Rattle.def_tree.specs.declared.Player.TheVariants.{One, Two}
use Rattle.def_plan.specs.Form.{SequenceForm}
use Rattle.def_plan.specs.Plan.{IsPlan}
use Rattle.def_reply.specs.Offers.{IsFair, Offer}
use Rattle.def_reply.specs.Reply.{best_reply_to}
use Rattle.def_game_numbers.specs.WholeSums.{IsWholeIn}
use Rattle.def_cert_text.specs.Versions.{VersionedCertificate}
use Rattle.def_cert_versions.specs.Laws.{HasItsSecond}
use Rattle.def_cert_versions.specs.Upgrade.{EndsTurn, IsUpgradable}

-- a round later than the last one, two plans of one root, which is the divisor times a scale, and the best reply to
-- each
pub record IsOffered (form : SequenceForm) (last : ℕ) (offer : Offer) : Type 0 where
  pub scale : ℕ
  pub later : last < offer.round
  pub few_rounds : offer.round ≤ 65536
  pub some_divisor : 1 ≤ offer.divisor
  pub small_divisor : offer.divisor ≤ 4194304
  pub some_scale : 1 ≤ scale
  pub small_root : offer.divisor * scale ≤ 68719476736
  pub plan_one : IsPlan form.sets_one (offer.divisor * scale) offer.plan_one
  pub plan_two : IsPlan form.sets_two (offer.divisor * scale) offer.plan_two
  pub against_one : offer.against_one ≡ best_reply_to form Two offer.plan_one
  pub against_two : offer.against_two ≡ best_reply_to form One offer.plan_two

-- so a round that was offered isn't offered again
pub record OffersAreRead : Type 0 where
  pub fair : (form : SequenceForm) (last : ℕ) (offer : Offer) → IsFair form last offer ↔ IsOffered form last offer
  pub not_again : (form : SequenceForm) (offer : Offer) → IsFair form offer.round offer → ⊥

pub record CanBeUpgraded (c : VersionedCertificate) : Type 0 where
  pub sum_is : IsWholeIn c.certificate.head.unit c.certificate.head.sum
  pub ends : EndsTurn c.certificate.head.unit c.certificate.bounds
  pub second : HasItsSecond c

abbrev pub UpgradablesAreRead : Type 0
UpgradablesAreRead = (c : VersionedCertificate) → IsUpgradable c ↔ CanBeUpgraded c
