use Rattle.std.proofs.Common.{ap, arith}
use Rattle.xg_rowcore.specs.Packets.{Listed}
use Rattle.xg_rowcore.proofs.Viewed.{counted}
use Rattle.xg_rowcore.proofs.entries.RowEntries.group.Goals.{else-self-stripes-via-then-self-stripes+else-len, else-self-stripes-via-else-self-stripes}
use Rattle.xg_rowcore.proofs.entries.RowEntries.group.Goals as goal

pub returns-else-self-stripes-clause-chained : goal.returns-else-self-stripes-clause-chained
returns-else-self-stripes-clause-chained c few =
    let count = counted _ _ c.self.invariant.0 c.self.view_is in
    let chained = ap (λ (l : Listed). l.chained) c.self.view_is in
    elim c.else-self-stripes.branch [
      | else-self-stripes-via-then-self-stripes+else-len w ↦
          absurd (omega (arith, count, few, w.len.ensures, w.if-len.false, c.self.inside.rows.ok.0))
      | else-self-stripes-via-else-self-stripes w ↦ omega (arith, chained, w.if-self-stripes.false)
    ]
