use Rattle.std.proofs.Common.{length, ap, sym, ◌∙◌}
use Rattle.xg_game.proofs.ZipLemmas.{zip-length}
use Rattle.xg_game.proofs.table.NumberTable.len.Goals as goal

pub returns : goal.returns
returns g c = c.len.ensures ∙ sym (zip-length c.self.inside.numbers c.self.inside.known.items c.self.invariant) ∙ ap length c.self.view_is
