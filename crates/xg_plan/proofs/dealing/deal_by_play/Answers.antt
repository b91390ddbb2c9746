use Rattle.std.proofs.Common.{arith, length, ◌≤◌}
use Rattle.std.proofs.lemmas.List.{get_or-set_same, length-set}
use Rattle.xg_plan.proofs.ShareLemmas.{one_share, some_weigh}
use Rattle.xg_plan.proofs.dealing.deal_by_play.Goals as goal

pub returns-then-out-lt2 : goal.returns-then-out-lt2
returns-then-out-lt2 c =
    let some : 1 ≤ length c.args.units.now = some_weigh c.args.units.now (omega (arith, c.requires.whole)) in
    one_share c.args.n c.args.units.now _ (omega (arith, some)) (omega (arith, some, length-set c.args.out.now 0 c.args.n)) (omega (arith, c.requires.whole))
    (get_or-set_same c.args.out.now 0 c.args.n 0 (omega (arith, some)))
