use Rattle.std.proofs.Common.{◌∙◌}
use Rattle.xg_rowcore.proofs.Viewed.{counted}
use Rattle.xg_rowcore.proofs.entries.RowEntries.len.Goals as goal

pub returns : goal.returns
returns c =
    c.len.ensures ∙ c.self.inside.rows.ok.0 ∙ counted _ _ c.self.invariant.0 c.self.view_is
