use Rattle.std.proofs.Common.{◌≡◌, ◌-◌, ◌<◌, ◌≤◌, ap, arith, List, length}
use Rattle.def_tree.specs.Tree.{prefix}
use Rattle.def_file.specs.Content as content
use Rattle.def_file.specs.Content.{GameFile, SetEntry, sets_of_kind}
use Rattle.def_file.specs.Faults.{set_at}
use Rattle.def_file.proofs.WholeGame.{set_few}
use Rattle.xg_game.proofs.game.Game.set.Goals as goal

pub returns-clause-few : goal.returns-clause-few
returns-clause-few c =
    let table : List SetEntry = sets_of_kind c.args.kind c.self.inside.sets in
    let same : table ≡ sets_of_kind c.args.kind c.args.self.now.sets = ap (λ (game : GameFile). sets_of_kind c.args.kind game.sets) c.self.view_is in
    let from_one : 1 ≤ c.args.set = c.requires.from_one in
    let there : c.args.set ≤ length (sets_of_kind c.args.kind c.args.self.now.sets) = c.requires.there in
    let within : c.args.set - 1 < length table = omega (arith, ap (length {A = SetEntry}) same) in
    let few = set_few (prefix c.self.inside.tree) c.self.inside.names c.self.inside.sets c.self.inside.outcomes c.self.invariant.together c.args.kind
    c.requires.kind (c.args.set - 1) within in
    omega (arith, few.1, ap (length {A = content.Action}) c.get.ensures.actions, ap (λ t. length (set_at t (c.args.set - 1)).actions) c.of.ensures)
