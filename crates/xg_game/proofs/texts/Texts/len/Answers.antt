use Rattle.std.proofs.Common.{List, ℕ, length, ap, arith}
use Rattle.xg_game.proofs.TextLemmas.{length-cut_from}
use Rattle.xg_game.proofs.texts.Texts.len.Goals as goal

pub returns : goal.returns
returns c =
    omega (arith, c.len.ensures, length-cut_from 0 c.self.inside.ends.items c.self.inside.bytes.items, ap (length {A = List ℕ}) c.self.view_is)
