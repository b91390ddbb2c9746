use Rattle.std.proofs.Common.{◌≡◌, ◌+◌, ◌-◌, ◌++◌, ◌∷◌, [], ◌<◌, ◌∙◌, Some, true, ap, arith, rules, get_or, length, refl, slice_get, sym}
use Rattle.std.specs.Prelude.{unsigned_abs, ◌^◌}
use Rattle.std.specs.Int.{w64}
use Rattle.std.proofs.lemmas.Int.{fits_signed_from_abs, to_z-of_z}
use Rattle.def_tree.specs.Tree.{is_leaf_kind, prefix}
use Rattle.def_file.specs.declared.FileFault.TheVariants as faults
use Rattle.def_game_numbers.specs.Numbers.{tables_of}
use Rattle.def_game_paths.specs.Coming.{visit_after}
use Rattle.def_fraction.specs.Fraction.{Fraction}
use Rattle.def_game_scale.specs.Scale.{expected}
use Rattle.xg_game.specs.declared.fault.Refused.TheVariants.{File}
use Rattle.xg_scale.proofs.GameLemmas.{tree_rules}
use Rattle.xg_scale.proofs.WeighLemmas.{fraction_is, fraction_there, weighed_inner, weighed_leaf, weighed_past}
use Rattle.xg_scale.proofs.weights.Weighed.enter.Goals as goal

pub returns-then-not-is_leaf-clause-ok : goal.returns-then-not-is_leaf-clause-ok
returns-then-not-is_leaf-clause-ok c =
    let game = c.args.game.now in
    let k = c.args.k in
    let read : slice_get (prefix game.tree) (k + 1 - 1) ≡ Some c.node.result = ap (λ t. slice_get (prefix t) (k + 1 - 1)) (sym c.tree.ensures.tree)
    ∙ c.node.ensures in
    weighed_inner (tables_of game) c.requires.lowest game.tree (tree_rules game c.tree.ensures.whole) k c.requires.there c.node.result read c.args.expected.now
    c.requires.expected c.args.self.now c.requires.weighed
    (sym c.is_leaf.ensures ∙ c.if-not-is_leaf.true)

pub index-fraction-requires : goal.index-fraction-requires
index-fraction-requires c =
    let game = c.args.game.now in
    let k = c.args.k in
    let read : slice_get (prefix game.tree) (k + 1 - 1) ≡ Some c.node.result = ap (λ t. slice_get (prefix t) (k + 1 - 1)) (sym c.tree.ensures.tree)
    ∙ c.node.ensures in
    let there =
    fraction_there (tables_of game) c.requires.lowest game.tree (tree_rules game c.tree.ensures.whole) k c.requires.there c.node.result read c.args.expected.now
    c.requires.expected c.args.self.now c.requires.weighed
    (sym c.is_leaf.ensures ∙ c.if-not-is_leaf.false) in
    search (there, rules)

pub returns-in_default-clause-err : goal.returns-in_default-clause-err
returns-in_default-clause-err c =
    let game = c.args.game.now in
    let k = c.args.k in
    let leaf : is_leaf_kind c.node.result.kind ≡ true = sym c.is_leaf.ensures ∙ c.if-not-is_leaf.false in
    let read : slice_get (prefix game.tree) (k + 1 - 1) ≡ Some c.node.result = ap (λ t. slice_get (prefix t) (k + 1 - 1)) (sym c.tree.ensures.tree)
    ∙ c.node.ensures in
    let items = c.args.expected.now.fractions.items in
    let fraction : Fraction = c.index-fraction.result.now in
    let place : length c.args.self.now.leaves.items ≡ c.len.result = omega (arith, c.len.ensures) in
    let pays : expected (tables_of game) (visit_after game.tree k) ≡ fraction =
    fraction_is (tables_of game) c.requires.lowest game.tree (tree_rules game c.tree.ensures.whole) k c.requires.there c.node.result read c.args.expected.now
    c.requires.expected c.args.self.now c.requires.weighed
    leaf fraction fraction (ap (λ n. get_or items n fraction) place ∙ sym c.index-fraction.ensures) in
    weighed_past (tables_of game) c.requires.lowest game.tree (tree_rules game c.tree.ensures.whole) k c.requires.there c.node.result read c.args.expected.now
    c.requires.expected c.args.self.now c.requires.weighed
    leaf fraction pays c.in_default.ensures.err (File (faults.Scale (k + 1))) refl

pub returns-clause-ok : goal.returns-clause-ok
returns-clause-ok c =
    let game = c.args.game.now in
    let k = c.args.k in
    let leaf : is_leaf_kind c.node.result.kind ≡ true = sym c.is_leaf.ensures ∙ c.if-not-is_leaf.false in
    let read : slice_get (prefix game.tree) (k + 1 - 1) ≡ Some c.node.result = ap (λ t. slice_get (prefix t) (k + 1 - 1)) (sym c.tree.ensures.tree)
    ∙ c.node.ensures in
    let items = c.args.expected.now.fractions.items in
    let fraction : Fraction = c.index-fraction.result.now in
    let place : length c.args.self.now.leaves.items ≡ c.len.result = omega (arith, c.len.ensures) in
    let pays : expected (tables_of game) (visit_after game.tree k) ≡ fraction =
    fraction_is (tables_of game) c.requires.lowest game.tree (tree_rules game c.tree.ensures.whole) k c.requires.there c.node.result read c.args.expected.now
    c.requires.expected c.args.self.now c.requires.weighed
    leaf fraction fraction (ap (λ n. get_or items n fraction) place ∙ sym c.index-fraction.ensures) in
    let small : unsigned_abs c.in-Ok.leaf.weight < 2 ^ 63 = omega (arith, c.in-Ok.ensures.limit, ap unsigned_abs c.in-Ok.ensures.ok.weight_is) in
    weighed_leaf (tables_of game) c.requires.lowest game.tree (tree_rules game c.tree.ensures.whole) k c.requires.there c.node.result read c.args.expected.now
    c.requires.expected c.args.self.now c.requires.weighed
    leaf fraction pays c.in-Ok.ensures.limit (record { mass = c.in-Ok.leaf.mass; leaves = c.push.new.self }) c.in-Ok.ensures.ok.mass_is
    (c.in-Ok-push.ensures.items ∙ ap (λ w. c.args.self.now.leaves.items ++ w ∷ [])
    (to_z-of_z w64 c.in-Ok.leaf.weight (fits_signed_from_abs w64 c.in-Ok.leaf.weight small) ∙ c.in-Ok.ensures.ok.weight_is))
