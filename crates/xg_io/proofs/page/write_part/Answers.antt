use Rattle.std.proofs.Common.{◌-◌, length, drop, arith, ◌∙◌}
use Rattle.std.proofs.lemmas.List.{length-take}
use Rattle.xg_io.specs.Waiting.{waiting_in}
use Rattle.xg_io.proofs.Pages.{written_more}
use Rattle.xg_io.proofs.page.write_part.Goals as goal

pub loop-taken-preserved : goal.loop-taken-preserved
loop-taken-preserved g c =
    let part = waiting_in c.args.bytes.now c.args.start c.args.end in
    record {
      within = omega (
        arith,
        c.in-Ok.ensures.count,
        length-take (length part - c.loop-taken.taken) (drop c.loop-taken.taken part),
        c.loop-taken.invariant.within,
      );
      appended = written_more _ _ _ part c.loop-taken.taken c.in-Ok.n c.loop-taken.invariant.appended c.in-Ok.ensures.appended;
      blameless = c.in-Ok.ensures.cause ∙ c.loop-taken.invariant.blameless;
    }
