use Rattle.std.proofs.Common.{◌+◌, arith, rules}
use Rattle.std.proofs.lemmas.Result.{on_err_weaker}
use Rattle.xg_io.proofs.Pages.{still_waiting, waiting_length}
use Rattle.xg_io.proofs.page.Page.turn.Goals as goal

pub returns-else-is_ok-clause-same_written : goal.returns-else-is_ok-clause-same_written
returns-else-is_ok-clause-same_written g c =
    still_waiting _ _ c.args.self.now.bytes c.args.self.now.start c.args.self.now.end c.write_part-taken.result.0 c.write_part-taken.ensures.count
    c.write_part-taken.ensures.appended

pub returns-else-is_ok-clause-some_wait : goal.returns-else-is_ok-clause-some_wait
returns-else-is_ok-clause-some_wait g c =
    on_err_weaker c.write_part-taken.result.1 (λ some. omega (
      arith,
      some,
      waiting_length c.args.self.now.bytes (c.args.self.now.start + c.write_part-taken.result.0) c.args.self.now.end (search rules),
    ))
    c.write_part-taken.ensures.some_left
