-- What a tree is, by what is kept of its nodes.
use Rattle.std.proofs.Common.{◌≡◌, ℕ, zero, suc, ◌+◌, ◌-◌, ◌<◌, ◌≤◌, List, [], ◌∷◌, ◌++◌, map, length, get_or, refl, ap, sym, subst, ◌∙◌, arith, Some}
use Rattle.std.proofs.Common.{slice_get}
use Rattle.std.proofs.lemmas.List.{map-append}
use Rattle.std.proofs.lemmas.Option.{slice_get_read}
use Rattle.def_tree.specs.declared.Node.{Node}
use Rattle.def_tree.specs.Tree.{Forest, bare, grown, forest_of, prefix, node_count, IsTree}
use Rattle.def_tree.specs.Rules.{IsGameTree, KeepRules}
use Rattle.def_tree.specs.Links.{NodeLinks, first_child_of, links as links_of_nodes, links_from, links_of, next_sibling_of, no_links, parent_of, roots_from}
use Rattle.def_tree.proofs.Forests.{prefix-forest_of}
use Rattle.def_tree.proofs.Lists.{tree_of_whole}
use Rattle.xg_tree.specs.declared.links.Links.{Links}
use Rattle.xg_tree.specs.Linked.{first_root, link_numbers, links_at, numbered, stored, stored_from}
use Rattle.xg_tree.specs.Kept.{IsKeptTree}
use Rattle.xg_tree.proofs.LinkedLemmas.{length-stored_from}

-- the tree that some nodes make has these nodes in prefix order
pub prefix_seen : (nodes : List Node) (tree : Forest) → forest_of nodes ≡ tree → prefix tree ≡ nodes
prefix_seen nodes tree e = ap prefix (sym e) ∙ prefix-forest_of nodes

-- the tree that kept nodes make is one of a game
pub game_tree_seen : (nodes : List Node) (links : List Links) (ended : ℕ) (tree : Forest) → forest_of nodes ≡ tree → IsKeptTree nodes links ended
    → IsGameTree tree
game_tree_seen nodes links ended tree e h =
    let same : prefix tree ≡ nodes = prefix_seen nodes tree e in
    let limit : length nodes ≤ 1048576 = h.limit in
    record {
      tree = subst IsTree e (tree_of_whole nodes h.whole);
      rules = subst KeepRules (sym same) h.rules;
      limit = omega (arith, ap length same);
    }

-- the node at a place of the list is the node there of the tree in prefix order
pub node_seen : (nodes : List Node) (tree : Forest) (k : ℕ) (node : Node) → forest_of nodes ≡ tree → k < length nodes
    → node ≡ get_or nodes k node → slice_get (prefix tree) k ≡ Some node
node_seen nodes tree k node e there is = ap (λ xs. slice_get xs k) (prefix_seen nodes tree e) ∙ slice_get_read nodes (length nodes) k node refl there is

-- the links of the nodes that links stand for
abbrev node_links : Links → NodeLinks
node_links l = record { parent = numbered l.parent; first_child = numbered l.first_child; next_sibling = numbered l.next_sibling }

first_root-numbered : (k : ℕ) (trees : Forest) → 1 ≤ k → numbered (first_root k trees) ≡ slice_get (roots_from k trees) 0
first_root-numbered k bare some = refl
first_root-numbered zero (grown node below beside) some = absurd (omega arith)
first_root-numbered (suc i) (grown node below beside) some = refl

numbered-some : (k : ℕ) → 1 ≤ k → numbered k ≡ Some k
numbered-some zero some = absurd (omega arith)
numbered-some (suc i) some = refl

-- the links that are kept stand for those of the trees
node_links-stored : (parent k : ℕ) (trees : Forest) → 1 ≤ k
    → map node_links (stored_from parent k trees) ≡ links_from (numbered parent) k trees
node_links-stored parent k bare some = refl
node_links-stored parent k (grown node below beside) some =
    let after : ℕ = k + 1 + node_count below in
    let under : map node_links (stored_from k (k + 1) below) ≡ links_from (Some k) (k + 1) below = node_links-stored k (k + 1) below (omega arith)
    ∙ ap (λ n. links_from n (k + 1) below) (numbered-some k some) in
    let behind : map node_links (stored_from parent after beside) ≡ links_from (numbered parent) after beside = node_links-stored parent after beside
    (omega arith) in
    let first : numbered (first_root (k + 1) below) ≡ slice_get (roots_from (k + 1) below) 0 = first_root-numbered (k + 1) below (omega arith) in
    let next : numbered (first_root after beside) ≡ slice_get (roots_from after beside) 0 = first_root-numbered after beside (omega arith) in
    (λ i. record { parent = numbered parent; first_child = first i; next_sibling = next i }
    ∷ map-append node_links (stored_from k (k + 1) below) (stored_from parent after beside) i)
    ∙ (λ i. record { parent = numbered parent; first_child = slice_get (roots_from (k + 1) below) 0; next_sibling = slice_get (roots_from after beside) 0 }
    ∷ (under i ++ behind i))

get_or-node_links : (links : List Links) (i : ℕ) → node_links (get_or links i (link_numbers 0 0 0)) ≡ get_or (map node_links links) i no_links
get_or-node_links [] i = refl
get_or-node_links (l ∷ links) zero = refl
get_or-node_links (l ∷ links) (suc i) = get_or-node_links links i

links_seen : (nodes : List Node) (links : List Links) (ended : ℕ) (tree : Forest) (k : ℕ) → forest_of nodes ≡ tree
    → IsKeptTree nodes links ended → 1 ≤ k → node_links (links_at links k) ≡ links_of tree k
links_seen nodes links ended tree zero e kept some = absurd (omega arith)
links_seen nodes links ended tree (suc i) e kept some =
    let is : map node_links links ≡ links_of_nodes tree = ap (map node_links) (kept.stored ∙ ap stored e) ∙ node_links-stored 0 1 tree (omega arith) in
    let place : i ≡ suc i - 1 = omega arith in
    get_or-node_links links i ∙ ap (λ l. get_or l i no_links) is ∙ ap (λ n. get_or (links_of_nodes tree) n no_links) place

pub parent_seen : (nodes : List Node) (links : List Links) (ended : ℕ) (tree : Forest) (k : ℕ) → forest_of nodes ≡ tree
    → IsKeptTree nodes links ended → 1 ≤ k → numbered (links_at links k).parent ≡ parent_of tree k
parent_seen nodes links ended tree k e kept some = ap (λ l. l.parent) (links_seen nodes links ended tree k e kept some)

pub first_child_seen : (nodes : List Node) (links : List Links) (ended : ℕ) (tree : Forest) (k : ℕ) → forest_of nodes ≡ tree
    → IsKeptTree nodes links ended → 1 ≤ k → numbered (links_at links k).first_child ≡ first_child_of tree k
first_child_seen nodes links ended tree k e kept some = ap (λ l. l.first_child) (links_seen nodes links ended tree k e kept some)

pub next_sibling_seen : (nodes : List Node) (links : List Links) (ended : ℕ) (tree : Forest) (k : ℕ) → forest_of nodes ≡ tree
    → IsKeptTree nodes links ended → 1 ≤ k → numbered (links_at links k).next_sibling ≡ next_sibling_of tree k
next_sibling_seen nodes links ended tree k e kept some = ap (λ l. l.next_sibling) (links_seen nodes links ended tree k e kept some)

-- a node of the tree has links
pub links_there : (nodes : List Node) (links read : List Links) (ended : ℕ) (tree : Forest) (k : ℕ) → forest_of nodes ≡ tree
    → IsKeptTree nodes links ended → read ≡ links → k ≤ node_count tree → k ≤ length read
links_there nodes links read ended tree k e kept same there =
    omega (arith, ap length same, ap length (kept.stored ∙ ap stored e), length-stored_from 0 1 tree)
