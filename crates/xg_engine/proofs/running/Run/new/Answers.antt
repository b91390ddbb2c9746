use Rattle.std.proofs.Common.{ap, subst, sym, ◌∙◌, true≢false, arith}
use Rattle.def_reply.specs.Offers.{Board}
use Rattle.xg_bracket.specs.Board.{last_round}
use Rattle.xg_engine.specs.Evaluations.{CanEvaluate}
use Rattle.xg_engine.proofs.Growing.{limits_within}
use Rattle.xg_engine.proofs.TurnsFollowRounds.{ready}
use Rattle.xg_engine.proofs.running.Run.new.Goals as goal

pub evaluation_count-count-requires : goal.evaluation_count-count-requires
evaluation_count-count-requires c = record { limits = limits_within c.args.variant c.args.settings c.requires.limits }

pub returns : goal.returns
returns c =
    let evaluator = c.in-Ok-new.evaluator in
    record {
      players = ready c.args.variant c.args.form.now c.args.settings.scale 0 c.in-Ok.players c.in-Ok.ensures.no_plans
          (c.in-Ok.ensures.stand c.args.variant c.args.settings.scale);
      goes_on = λ have_plans. absurd (true≢false (sym have_plans ∙ c.in-Ok.ensures.no_plans));
      room = subst (λ n. CanEvaluate c.args.variant c.args.form.now n evaluator) c.evaluation_count-count.ensures c.in-Ok-new.ensures.room;
      board = c.in-Ok-new.ensures.board;
      last = omega (arith, ap (λ (b : Board). last_round b.trace) c.in-Ok-new.ensures.board);
    }
