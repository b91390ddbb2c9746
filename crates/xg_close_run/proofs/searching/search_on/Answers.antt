use Rattle.std.proofs.Common.{Bool, refl, ◌∙◌, subst, arith}
use Rattle.std.specs.Prelude.{true}
use Rattle.xg_io.specs.Calls.{sink_call}
use Rattle.xg_close_run.specs.Said.{SaysProgress}
use Rattle.xg_close_run.specs.Searched.{IsTrueOf}
use Rattle.xg_close_run.proofs.Spoken.{nothing_said, progress_after}
use Rattle.xg_close_run.proofs.searching.search_on.Goals as goal

pub loop-left-init : goal.loop-left-init
loop-left-init g c = record {
  search = c.requires.search;
  few = omega arith;
  said = nothing_said (IsTrueOf c.args.game.now c.args.asked.now.width) c.args.asked.now.quiet true
      (sink_call g.E.Sink c.args.err.now c.args.err.now) refl refl refl;
  quiet = λ _. refl;
}

pub loop-left-preserved-then-is_heard : goal.loop-left-preserved-then-is_heard
loop-left-preserved-then-is_heard g c = record {
  search = c.advance-left.ensures.search;
  few = omega (arith, c.loop-left.invariant.few);
  said = progress_after g.E.Sink c.args.err.now c.loop-left.err c.tell-is_heard.new.err
      (IsTrueOf c.args.game.now c.args.asked.now.width) c.args.asked.now.quiet c.tell-is_heard.result
      (subst (λ (heard : Bool). SaysProgress (IsTrueOf c.args.game.now c.args.asked.now.width) c.args.asked.now.quiet heard
      (sink_call g.E.Sink c.args.err.now c.loop-left.err)) c.if-is_heard.true c.loop-left.invariant.said)
      c.tell-is_heard.ensures.said;
  quiet = λ silent. c.tell-is_heard.ensures.quiet silent ∙ c.loop-left.invariant.quiet silent;
}
