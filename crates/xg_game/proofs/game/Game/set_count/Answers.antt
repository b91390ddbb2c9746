use Rattle.std.proofs.Common.{◌≡◌, ◌≤◌, length, ap, ◌∙◌, arith}
use Rattle.def_tree.specs.Tree.{prefix}
use Rattle.def_file.specs.Content.{SetEntry, sets_of_kind}
use Rattle.def_file.proofs.WholeGame.{sets_short}
use Rattle.xg_game.proofs.game.Game.set_count.Goals as goal

pub overflow_cast-result : goal.overflow_cast-result
overflow_cast-result c =
    let short : length (sets_of_kind c.args.kind c.self.inside.sets) ≤ 1048576 = sets_short (prefix c.self.inside.tree) c.self.inside.names c.self.inside.sets
    c.self.inside.outcomes c.self.invariant.together c.args.kind in
    let same : c.len.result ≡ length (sets_of_kind c.args.kind c.self.inside.sets) = c.len.ensures ∙ ap (length {A = SetEntry}) c.of.ensures in
    omega (arith, short, same)
