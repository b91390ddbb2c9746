use Rattle.std.proofs.Common.{Err, subst}
use Rattle.xg_game.specs.declared.fault.Refused.{Refused}
use Rattle.xg_load.specs.Accepted.{Opens}
use Rattle.xg_load.proofs.Poker.{poker_is_opened}
use Rattle.xg_load.proofs.made.accepted_poker.Goals as goal

pub unreachable-requires : goal.unreachable-requires
unreachable-requires c =
    let arm = c.in-Err-File in
    poker_is_opened c.args.cards c.requires.low c.requires.high c.in_ok-game.game _ c.in_ok-game.ensures
    (subst (λ (x : Refused). Opens c.in_ok-game.game (Err x)) arm.field-0-is arm.ensures)
