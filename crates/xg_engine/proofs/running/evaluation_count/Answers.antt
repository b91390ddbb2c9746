use Rattle.std.proofs.Common.{◌+◌, ◌*◌, ◌-◌, ◌/◌, length, min, ap, sym, ◌∙◌}
use Rattle.std.proofs.lemmas.List.FromFn.{length-map-range_with_len}
use Rattle.def_reply.proofs.EvaluatedRounds.{rounds}
use Rattle.xg_engine.proofs.running.evaluation_count.Goals as goal

pub returns : goal.returns
returns c =
    let every = c.args.settings.every in
    let last = c.args.settings.rounds in
    sym (ap length (rounds.one_by_one every last c.requires.limits.some_every)
    ∙ length-map-range_with_len (λ i. min (i * every) last) 1 ((last + every - 1) / every))
