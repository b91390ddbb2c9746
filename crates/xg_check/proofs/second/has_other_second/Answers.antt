use Rattle.std.proofs.Common.{◌≤◌, ap, subst, sym, arith, ◌∙◌}
use Rattle.def_reply.specs.Outcome.{Head}
use Rattle.def_cert_versions.specs.Verdict.{is_same_bracket, second_of}
use Rattle.std.specs.Prelude.{not}
use Rattle.xg_check.proofs.SecondTests.{other-in_one, other-in_two, other-without_bounds}
use Rattle.xg_check.proofs.second.has_other_second.Goals as goal

pub returns-then-head-eq0 : goal.returns-then-head-eq0
returns-then-head-eq0 c =
    let none = sym (ap (λ (h : Head). h.rounds) c.head.ensures.value) ∙ c.if-head-eq0.true in
    other-without_bounds c.args.cert.now c.head.ensures.within (c.head.ensures.alone none)

pub returns-in-Some : goal.returns-in-Some
returns-in-Some c =
    let some : 1 ≤ c.head.result.now.rounds = omega (arith, c.if-head-eq0.false) in
    let asked : 1 ≤ c.args.cert.now.certificate.head.rounds = subst (λ (h : Head). 1 ≤ h.rounds) c.head.ensures.value some in
    other-in_two c.args.cert.now c.second.result c.in-Some.printed c.left_of-low.result c.left_of-high.result c.is_bracket.result c.in-Some.is
    c.second.ensures.value c.second.ensures.version (c.head.ensures.bounds asked) c.left_of-low.ensures c.left_of-high.ensures c.is_bracket.ensures

pub returns-in-None : goal.returns-in-None
returns-in-None c =
    other-in_one c.args.cert.now.version (not (is_same_bracket c.args.cert.now.second (second_of c.args.cert.now.certificate)))
    (c.second.ensures.version.0 c.in-None.is)
