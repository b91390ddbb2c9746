use Rattle.std.proofs.Common.{◌≡◌, length, FitsSigned, rules, arith, ◌∙◌}
use mir.Syntax.{w128}
use Rattle.std.proofs.lemmas.Int.{to_z-of_z}
use Rattle.xg_bracket.proofs.Copies.{copied_all}
use Rattle.xg_search.proofs.keeping.copy_reply.Goals as goal

pub returns : goal.returns
returns c =
    let all : c.loop-set.set ≡ length c.args.reply.now.reply.sets = omega (arith, c.requires.from) in
    let fits : FitsSigned w128 c.total.result = search rules in
    let total = c.put_total.ensures.total ∙ to_z-of_z w128 c.total.result fits ∙ c.total.ensures in
    let loop = c.loop-set in
    let sets =
    c.put_total.ensures.sets
    ∙ copied_all c.args.reply.now.reply.sets loop.set loop.into.reply.sets all loop.invariant in
    λ i. record { total = total i; sets = sets i }
