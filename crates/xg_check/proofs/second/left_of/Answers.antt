use Rattle.std.proofs.Common.{◌≡◌, ℕ, refl, sym, ap, subst, ◌∙◌}
use Rattle.def_fraction.specs.Fraction.{Fraction, most}
use Rattle.def_tree.specs.declared.Player.{Player}
use Rattle.def_tree.specs.Opponent.{opponent}
use Rattle.def_reply.specs.Outcome.{Head}
use Rattle.def_cert_verdict.specs.Ranges.{IsFromTo}
use Rattle.def_cert_text.specs.Versions.{VersionedFits, in_version_one}
use Rattle.def_game_numbers.specs.WholeSums.{IsWholeIn}
use Rattle.xg_cert.specs.Printed.{bounds_in, plan_in}
use Rattle.xg_cert.specs.Writable.{IsWholeEnd}
use Rattle.xg_cert.proofs.Seconds.{upgrade_leaves}
use Rattle.xg_check.proofs.SecondTests.{whole_bound}
use Rattle.xg_check.proofs.second.left_of.Goals as goal

pub second_end-requires-clause-unit : goal.second_end-requires-clause-unit
second_end-requires-clause-unit c =
    subst (λ (head : Head). IsFromTo 1 most head.unit) (sym c.head-head.ensures.value) c.facts.ensures.within.certificate.head.unit

pub second_end-requires-clause-sum : goal.second_end-requires-clause-sum
second_end-requires-clause-sum c =
    subst (λ (head : Head). IsWholeIn head.unit head.sum) (sym c.head-head.ensures.value) c.requires.upgradable.sum_is

pub second_end-requires-clause-end : goal.second_end-requires-clause-end
second_end-requires-clause-end c =
    let cert = c.args.cert.now.certificate in
    let b = bounds_in cert in
    let other = opponent c.args.player in
    let fits : VersionedFits (in_version_one cert) = record { certificate = c.facts.ensures.within.certificate; second = refl } in
    let leaves = upgrade_leaves (in_version_one cert) fits c.requires.upgradable c.requires.asked in
    let root_is : c.root-root.result ≡ (plan_in other b).root = c.root-root.ensures ∙ ap (λ (player : Player). (plan_in player b).root) c.opponent.ensures in
    subst (λ (head : Head). IsWholeEnd head.unit c.root-root.result c.bound_in.result) (sym c.head-head.ensures.value)
    (subst (λ (root : ℕ). IsWholeEnd cert.head.unit root c.bound_in.result) (sym root_is)
    (subst (λ (end : Fraction). IsWholeEnd cert.head.unit (plan_in other b).root end) (sym c.bound_in.ensures) (whole_bound c.args.player cert.head b leaves)))
