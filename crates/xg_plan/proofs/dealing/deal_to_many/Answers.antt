use Rattle.std.proofs.Common.{◌≡◌, ◌+◌, ◌∙◌, arith, get_or, refl, sym}
use Rattle.def_round.specs.Shares.{prefix_share}
use Rattle.xg_plan.proofs.ShareLemmas.{DealStep, dealt_is_shares, dealt_more, step_of}
use Rattle.xg_plan.proofs.dealing.deal_to_many.Goals as goal

pub overflow_add-units_upto : goal.overflow_add-units_upto
overflow_add-units_upto c =
    omega (
      arith,
      (step_of c.args.n c.args.units.now c.loop-i.i c.loop-i.units_upto (get_or c.args.units.now c.loop-i.i 0) 65536 (omega arith) (omega arith)
          (sym c.requires.whole) c.loop-i.invariant.0 refl).within,
    )

pub part-upto-requires-clause-part : goal.part-upto-requires-clause-part
part-upto-requires-clause-part c =
    (step_of c.args.n c.args.units.now c.loop-i.i c.loop-i.units_upto (get_or c.args.units.now c.loop-i.i 0) 65536 (omega arith) (omega arith)
    (sym c.requires.whole) c.loop-i.invariant.0 refl).within

pub overflow_sub-out : goal.overflow_sub-out
overflow_sub-out c =
    omega (
      arith,
      (step_of c.args.n c.args.units.now c.loop-i.i c.loop-i.units_upto (get_or c.args.units.now c.loop-i.i 0) 65536 (omega arith) (omega arith)
          (sym c.requires.whole) c.loop-i.invariant.0 refl).grows,
      c.part-upto.ensures,
      c.loop-i.invariant.1,
    )

pub loop-i-preserved : goal.loop-i-preserved
loop-i-preserved c =
    let step : DealStep c.args.n c.args.units.now c.loop-i.i (c.loop-i.units_upto + get_or c.args.units.now c.loop-i.i 0) 65536 =
    step_of c.args.n c.args.units.now c.loop-i.i c.loop-i.units_upto (get_or c.args.units.now c.loop-i.i 0) 65536 (omega arith) (omega arith)
    (sym c.requires.whole) c.loop-i.invariant.0 refl in
    let next : c.part-upto.result ≡ prefix_share c.args.n c.args.units.now (c.loop-i.i + 1) = c.part-upto.ensures ∙ step.share_next in (
      step.next,
      next,
      dealt_more (λ k. prefix_share c.args.n c.args.units.now k) c.loop-i.out c.loop-i.i _ (omega arith)
          (omega (arith, step.grows, c.part-upto.ensures, next, c.loop-i.invariant.1)) c.loop-i.invariant.2,
    )

pub returns : goal.returns
returns c = dealt_is_shares c.args.n c.args.units.now c.loop-i.out (omega arith) (omega (arith, c.requires.whole))
    (λ k below. c.loop-i.invariant.2 k (omega arith))
