use Rattle.std.proofs.Common.{◌≡◌, Bool, true, cond, [], ◌∷◌, ◌++◌, Some, subst, sym}
use Rattle.def_tree.specs.Tree.{is_leaf_kind}
use Rattle.xg_scale.specs.Range.{IsRangeOf}
use Rattle.xg_scale.proofs.leaf.Expected.judge.Goals as goal

pub returns-clause-range : goal.returns-clause-range
returns-clause-range c = λ payoffs is.
    let leaf : is_leaf_kind c.args.node.kind ≡ true = cc in
    subst (λ (b : Bool). IsRangeOf (payoffs ++ cond b (c.args.numbers.now.one ∷ []) []) (Some c.range_with.result)) (sym leaf) (c.range_with.ensures payoffs is)
