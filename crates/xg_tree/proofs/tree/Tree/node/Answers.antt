use Rattle.std.proofs.Common.{◌≡◌, ◌≤◌, ◌-◌, ap, length, arith}
use Rattle.std.specs.Vec.{vec_len}
use Rattle.def_tree.specs.Tree.{node_count}
use Rattle.xg_tree.proofs.KeptLemmas.{node_seen, prefix_seen}
use Rattle.xg_tree.proofs.tree.Tree.node.Goals as goal

pub index-requires : goal.index-requires
index-requires c =
    let same : node_count c.args.self.now ≡ length c.self.inside.nodes.items = ap length
    (prefix_seen c.self.inside.nodes.items c.args.self.now c.self.view_is) in
    let there : c.args.k ≤ node_count c.args.self.now = c.requires.there in
    let from_one : 1 ≤ c.args.k = c.requires.from_one in
    let long : vec_len c.self.inside.nodes ≡ length c.self.inside.nodes.items = c.self.inside.nodes.ok.0 in
    omega arith

pub returns : goal.returns
returns c =
    let same : node_count c.args.self.now ≡ length c.self.inside.nodes.items = ap length
    (prefix_seen c.self.inside.nodes.items c.args.self.now c.self.view_is) in
    let there : c.args.k ≤ node_count c.args.self.now = c.requires.there in
    let from_one : 1 ≤ c.args.k = c.requires.from_one in
    node_seen c.self.inside.nodes.items c.args.self.now (c.args.k - 1) c.index.result.now c.self.view_is (omega arith) c.index.ensures
