use Rattle.std.proofs.Common.{◌≡◌, List, ℤ, pos, length, map, replicate, arith, sym, ◌∙◌}
use Rattle.std.proofs.lemmas.List.{ext_get_or, length-map, length-replicate}
use Rattle.xg_jobs.proofs.TwoParts.{zeros_at}
use Rattle.xg_jobs.proofs.adding.clear.Goals as goal

pub returns : goal.returns
returns g c =
    let rows : List ℤ = map g.R.Row.amount c.loop-b.rows in
    let zeros : List ℤ = replicate (length c.args.rows.now) (pos 0) in
    let count : length rows ≡ length c.args.rows.now = length-map c.loop-b.rows g.R.Row.amount ∙ c.loop-b.auto.rows in
    ext_get_or (pos 0) rows zeros (count ∙ sym (length-replicate (length c.args.rows.now) (pos 0)))
    (λ b low. c.loop-b.invariant b (omega (arith, low, count, c.loop-b-test.false)) ∙ sym (zeros_at (length c.args.rows.now) b))
