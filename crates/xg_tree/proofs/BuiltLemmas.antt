-- A builder with one node more.
use Rattle.std.proofs.Common.{◌≡◌, ℕ, cond, ◌+◌, ◌-◌, ◌*◌, ◌^◌, ◌<◌, ◌≤◌, ◌≢◌, List, [], ◌∷◌, ◌++◌, length, get_or, take, refl, ap, sym, subst, ◌∙◌, arith}
use Rattle.std.proofs.Common.{length-append}
use Rattle.std.specs.List.{All}
use Rattle.std.proofs.lemmas.List.Elements.{All-head, All-tail}
use Rattle.std.proofs.lemmas.List.Sums.{sum_by_push}
use Rattle.def_tree.specs.declared.Kind.TheVariants.{Chance, One, Two}
use Rattle.def_tree.specs.declared.Node.{Node}
use Rattle.def_tree.specs.Tree.{is_leaf_kind, leaf_count, wanted}
use Rattle.def_tree.specs.Rules.{Fits, KeepRules}
use Rattle.def_tree.proofs.Sets.{KeepRules-push, children-le}
use Rattle.def_tree.proofs.Lists.{wanted-append, Begins-append}
use Rattle.xg_tree.specs.Sizes.{SizeLists, with_size}
use Rattle.xg_tree.specs.declared.links.Links.{Links}
use Rattle.xg_tree.specs.Linked.{ComeAfterParents, linked_next}
use Rattle.xg_tree.specs.Built.{IsBuilt}
use Rattle.xg_tree.specs.Kept.{IsKeptTree}
use Rattle.xg_tree.proofs.LinkedLemmas.{ComeAfterParents-on, length-linked_on, linked_on-append, none_in_order}
use Rattle.xg_tree.proofs.JoinedLemmas.{linked-whole}
use Rattle.xg_tree.proofs.SizesLemmas.{HoldSizes-push, no_sizes}

pub all_few : (nodes : List Node) → KeepRules nodes → All (λ node. node.children ≤ 1024) nodes
all_few nodes keep k d there = children-le (take k nodes) (get_or nodes k d) (keep k d there)

pub wanted-le : (n : ℕ) (nodes : List Node) → All (λ node. node.children ≤ 1024) nodes
    → wanted n nodes ≤ n + 1024 * length nodes
wanted-le n [] few = omega arith
wanted-le n (x ∷ xs) few =
    let this : x.children ≤ 1024 = All-head (λ node. node.children ≤ 1024) x xs few in
    let rest : wanted (n + x.children - 1) xs ≤ (n + x.children - 1) + 1024
    * length xs = wanted-le (n + x.children - 1) xs (All-tail (λ node. node.children ≤ 1024) x xs few) in
    omega arith

-- what is still wanted is a 32-bit number
pub wanted_fits : (nodes : List Node) (node : Node) → KeepRules nodes → Fits nodes node → length nodes < 1048576
    → wanted 1 nodes - 1 + node.children < 2 ^ 32
wanted_fits nodes node keep fits short =
    let bound : wanted 1 nodes ≤ 1 + 1024 * length nodes = wanted-le 1 nodes (all_few nodes keep) in
    let few : node.children ≤ 1024 = children-le nodes node fits in
    omega arith

-- one node more, where one is wanted and it fits, takes its place and opens one for each child
pub IsBuilt-push : (nodes : List Node) (links : List Links) (wanting ended : ℕ) (sizes : SizeLists) (node : Node)
    → IsBuilt nodes links wanting ended sizes → wanting ≢ 0 → Fits nodes node → length nodes < 1048576
    → IsBuilt (nodes ++ node ∷ []) (linked_next links node.children) (wanting - 1 + node.children) (ended + leaf_count (node ∷ [])) (with_size sizes node)
IsBuilt-push nodes links wanting ended sizes node built some fits short =
    let wants : wanting ≡ wanted 1 nodes = built.wants in
    let ends : ended ≡ leaf_count nodes = built.ends in
    let pushed : leaf_count (nodes ++ node ∷ []) ≡ leaf_count nodes + cond (is_leaf_kind node.kind) 1 0 = sum_by_push (λ x. cond (is_leaf_kind x.kind) 1 0)
    nodes node in
    let open_place : 0 < wanted 1 nodes = omega arith in
    let more : wanted 1 (nodes ++ node ∷ []) ≡ wanted 1 nodes + node.children - 1 = wanted-append 1 nodes (node ∷ []) in
    let long : length (nodes ++ node ∷ []) ≡ length nodes + 1 = length-append nodes (node ∷ []) in
    record {
      begins = Begins-append 1 nodes (node ∷ []) built.begins (open_place, tt);
      rules = KeepRules-push nodes node built.rules fits;
      limit = omega arith;
      wants = omega arith;
      ends = omega (arith, pushed);
      linked = ap (λ l. linked_next l node.children) built.linked ∙ sym (linked_on-append [] nodes (node ∷ []));
      joins = HoldSizes-push nodes sizes node built.joins fits;
    }

pub no_nodes : IsBuilt [] [] 1 0 (record { chance = []; one = []; two = [] })
no_nodes = record {
  begins = tt;
  rules = λ k d there. absurd (omega arith);
  limit = omega arith;
  wants = refl;
  ends = refl;
  linked = refl;
  joins = record { chance = no_sizes Chance; one = no_sizes One; two = no_sizes Two };
}

-- where no node is wanted any more, the nodes are a tree's
pub kept_of_built : (nodes : List Node) (links : List Links) (wanting ended : ℕ) (sizes : SizeLists) → IsBuilt nodes links wanting ended sizes
    → wanted 1 nodes ≡ 0 → IsKeptTree nodes links ended
kept_of_built nodes links wanting ended sizes built none = record {
  whole = record { begins = built.begins; ends = none };
  rules = built.rules;
  limit = built.limit;
  stored = built.linked ∙ linked-whole nodes (record { begins = built.begins; ends = none });
  ends = built.ends;
}

-- what is built of some nodes is built of equal ones, with equal counts of leaves and equal sizes
pub IsBuilt-same : (xs ys : List Node) (ks ls : List Links) (wanting l m : ℕ) (s t : SizeLists) → xs ≡ ys → ks ≡ ls → l ≡ m → s ≡ t
    → IsBuilt ys ls wanting m t → IsBuilt xs ks wanting l s
IsBuilt-same xs ys ks ls wanting l m s t nodes links ends sizes built =
    subst (λ v. IsBuilt v ks wanting l s) (sym nodes) (subst (λ v. IsBuilt ys v wanting l s) (sym links)
    (subst (λ v. IsBuilt ys ls wanting v s) (sym ends) (subst (IsBuilt ys ls wanting m) (sym sizes) built)))

-- there are links of each node
pub links_as_nodes : (nodes : List Node) (links : List Links) (wanting ended : ℕ) (sizes : SizeLists)
    → IsBuilt nodes links wanting ended sizes → length links ≡ length nodes
links_as_nodes nodes links wanting ended sizes built = omega (arith, ap length built.linked, length-linked_on [] nodes)

-- and each node comes after its parent
pub links_in_order : (nodes : List Node) (links : List Links) (wanting ended : ℕ) (sizes : SizeLists)
    → IsBuilt nodes links wanting ended sizes → ComeAfterParents links
links_in_order nodes links wanting ended sizes built = subst ComeAfterParents (sym built.linked) (ComeAfterParents-on [] nodes none_in_order)
