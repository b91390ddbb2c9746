use Rattle.xg_check.proofs.Acceptance.{shown_of_file}
use Rattle.xg_check.proofs.checking.accept.Goals as goal

pub returns-in-Ok-clause-shown : goal.returns-in-Ok-clause-shown
returns-in-Ok-clause-shown c =
    shown_of_file c.accept_bytes.result c.args.game_bytes.now c.args.cert_bytes.now c.in-Ok.numbers c.in-Ok.ensures.opened c.accept_bytes.ensures.shown
