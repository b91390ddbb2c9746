use Rattle.std.proofs.Common.{◌≡◌, subst, arith}
use Rattle.std.proofs.lemmas.Bool.{false_from_ne_true}
use Rattle.xg_engine.specs.Players.{StandAfter}
use Rattle.xg_engine.proofs.TurnsFollowRounds.{stands}
use Rattle.xg_engine.proofs.running.Run.play_rounds.Goals as goal

pub returns-clause-stand : goal.returns-clause-stand
returns-clause-stand g c =
    let form = c.args.source.now.form.now in
    let scale = c.args.settings.scale in
    let players = c.loop-so_far.self.players in
    let run = c.loop-so_far.invariant in
    let all : c.loop-so_far.so_far ≡ c.args.settings.rounds = omega (arith, c.loop-so_far-test.false, c.loop-so_far.auto.so_far-end) in
    subst (λ n. StandAfter c.args.variant form scale n players) all
    (stands c.args.variant form scale c.loop-so_far.so_far players
    (false_from_ne_true _ (λ have. absurd (omega (arith, all, run.goes_on have)))) run.players)
