-- Each game tree has a leaf.
use Rattle.std.proofs.Common.{◌≡◌, ℕ, ◌≤◌, cond, true, false, List, ◌++◌, get_or, take, All, Bool, refl, sym, ap, subst, arith}
use Rattle.std.proofs.lemmas.List.Elements.{All-head, All-tail}
use Rattle.std.proofs.lemmas.List.Sums.{sum_by-append, sum_by-cons}
use Rattle.def_tree.specs.declared.Kind.{Kind}
use Rattle.def_tree.specs.declared.Kind.TheVariants.{Chance, One, Two, Leaf}
use Rattle.def_tree.specs.declared.Node.{Node}
use Rattle.def_tree.specs.Tree.{Forest, bare, grown, prefix, leaf_count, is_leaf_kind, tree_count, is_leaf_node, HasItsChildren}
use Rattle.def_tree.specs.Rules.{FitsAs, KeepRules}
use Rattle.def_tree.proofs.Fronts.{All-front}

-- a node that isn't a leaf has children
abbrev HasChildren : Node → Type 0
HasChildren node = is_leaf_kind node.kind ≡ false → 1 ≤ node.children

joined_set : (kind : Kind) (before : List Node) (node : Node) → FitsAs kind before node → is_leaf_kind kind ≡ false
    → 1 ≤ node.children
joined_set Chance before node fits inner = fits.some
joined_set One before node fits inner = fits.some
joined_set Two before node fits inner = fits.some
joined_set Leaf before node fits inner = absurd cc

pub have_children : (nodes : List Node) → KeepRules nodes → All HasChildren nodes
have_children nodes rules k d low inner =
    joined_set (get_or nodes k d).kind (take k nodes) (get_or nodes k d) (rules k d low) inner

bare_is_leaf : (kind : Kind) (children : ℕ) → children ≡ 0 → (is_leaf_kind kind ≡ false → 1 ≤ children)
    → is_leaf_kind kind ≡ true
bare_is_leaf Leaf children none some = refl
bare_is_leaf Chance children none some = absurd (omega (arith, none, some refl))
bare_is_leaf One children none some = absurd (omega (arith, none, some refl))
bare_is_leaf Two children none some = absurd (omega (arith, none, some refl))

abbrev one_if_leaf : Node → ℕ
one_if_leaf node = cond (is_leaf_node node) 1 0

-- there is a leaf in each tree
pub has_leaf : (trees : Forest) → HasItsChildren trees → 1 ≤ tree_count trees → All HasChildren (prefix trees)
    → 1 ≤ leaf_count (prefix trees)
has_leaf bare children some all = absurd (omega (arith, some))
has_leaf (grown node bare beside) children some all =
    let is : is_leaf_kind node.kind ≡ true = bare_is_leaf node.kind node.children (sym children.0)
    (All-head HasChildren node (prefix beside) all) in
    omega (arith, sum_by-cons one_if_leaf node (prefix beside), ap {B = ℕ} (λ (b : Bool). cond b 1 0) is)
has_leaf (grown node (grown first under next) beside) children some all =
    let below = grown first under next in
    let inner = has_leaf (grown first under next) children.1 (omega arith)
    (All-front HasChildren (prefix below) (prefix beside)
    (All-tail HasChildren node (prefix below ++ prefix beside) all)) in
    omega (
      arith,
      inner,
      sum_by-cons one_if_leaf node (prefix below ++ prefix beside),
      sum_by-append one_if_leaf (prefix below) (prefix beside),
    )
