use Rattle.std.proofs.Common.{◌≡◌, length, sym, ◌∙◌, subst, refl, arith}
use Rattle.xg_words.specs.Holdings.{AreLeft}
use Rattle.xg_words.proofs.Left.{left_start, left_end}
use Rattle.xg_words.proofs.board.WordBoard.add.Goals as goal

pub loop-i-init : goal.loop-i-init
loop-i-init g c =
    let left = left_start g.N.RowName.amount g.N.RowName.rows c.args.packet.now.job c.args.packet.now.entries.list c.requires.packet in
    record {
      table = refl;
      numbers = refl;
      left = subst (AreLeft g.N.RowName.amount g.N.RowName.rows c.args.packet.now.job c.args.packet.now.entries.list 0) (sym c.requires.none_added) left;
    }

pub returns-clause-complete : goal.returns-clause-complete
returns-clause-complete g c =
    let entries = c.args.packet.now.entries.list in
    let all : c.loop-i.i ≡ length entries = omega (arith, c.loop-i-test.false, c.len-i-end.ensures, c.loop-i.auto.i-end) in
    let left = subst (λ i. AreLeft g.N.RowName.amount g.N.RowName.rows c.args.packet.now.job entries i c.loop-i.worker.reached) all c.loop-i.invariant.left in
    left_end g.N.RowName.jobs g.N.RowName.amount g.N.RowName.rows c.args.packet.now.job entries c.loop-i.worker.reached c.loop-i.worker.numbers
    c.requires.last.0 left (c.loop-i.invariant.numbers ∙ c.requires.last.1)
