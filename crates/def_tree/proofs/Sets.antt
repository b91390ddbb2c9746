-- The rules of sets, with one node more.
use Rattle.std.proofs.Common.{◌≡◌, ℕ, suc, zero, ◌+◌, ◌<◌, ◌≤◌, max, Bool, true, false, cond, List, [], ◌∷◌, ◌++◌, length, get_or, take, refl, ap, sym, subst}
use Rattle.std.proofs.Common.{◌∙◌, arith, inl, inr, length-append}
use Rattle.std.specs.List.{Contains}
use Rattle.std.proofs.lemmas.Bool.{cases_lt}
use Rattle.std.proofs.lemmas.List.{take-append-le}
use Rattle.std.proofs.lemmas.List.Elements.{Contains-get_or}
use Rattle.std.proofs.Math.ListN.{get_or-append}
use Rattle.std.proofs.Math.Seq.{get_or-append_seam, take-append_seam, take-length, take-suc}
use Rattle.def_tree.specs.declared.Kind.{Kind}
use Rattle.def_tree.specs.declared.Kind.TheVariants.{Chance, One, Two, Leaf}
use Rattle.def_tree.specs.declared.Node.{Node}
use Rattle.def_tree.specs.Rules.{is_same_kind, set_count, Fits, FitsAs, KeepRules, EachSetAppears}

-- a kind passes the test of sameness with itself
pub is_same_kind_refl : (kind : Kind) → is_same_kind kind kind ≡ true
is_same_kind_refl Chance = refl
is_same_kind_refl One = refl
is_same_kind_refl Two = refl
is_same_kind_refl Leaf = refl

-- a kind passes the test of sameness with one that is equal to it
pub is_same_kind_self : (kind other : Kind) → other ≡ kind → is_same_kind kind other ≡ true
is_same_kind_self kind other e = ap (is_same_kind kind) e ∙ is_same_kind_refl kind

max_max : (b : Bool) (a r m s : ℕ) → m ≡ max s r → cond b (max a m) m ≡ max s (cond b (max a r) r)
max_max true a r m s e = omega arith
max_max false a r m s e = e

-- one more node of a kind makes its set the kind's last one, where none with a greater number came before
pub set_count-push_same : (kind : Kind) (nodes : List Node) (node : Node) → is_same_kind kind node.kind ≡ true
    → set_count kind (nodes ++ node ∷ []) ≡ max node.set (set_count kind nodes)
set_count-push_same kind [] node same = ap (λ b. cond b (max node.set 0) 0) same
set_count-push_same kind (x ∷ xs) node same =
    max_max (is_same_kind kind x.kind) x.set (set_count kind xs) (set_count kind (xs ++ node ∷ [])) node.set (set_count-push_same kind xs node same)

-- one more node of another kind adds no set to a kind
pub set_count-push_other : (kind : Kind) (nodes : List Node) (node : Node) → is_same_kind kind node.kind ≡ false
    → set_count kind (nodes ++ node ∷ []) ≡ set_count kind nodes
set_count-push_other kind [] node other = ap (λ b. cond b (max node.set 0) 0) other
set_count-push_other kind (x ∷ xs) node other = ap (λ n. cond (is_same_kind kind x.kind) (max x.set n) n) (set_count-push_other kind xs node other)

-- nodes that keep the rules keep them with one node more that fits behind them
pub KeepRules-push : (nodes : List Node) (node : Node) → KeepRules nodes → Fits nodes node
    → KeepRules (nodes ++ node ∷ [])
KeepRules-push nodes node keep fits k d there =
    let long : length (nodes ++ node ∷ []) ≡ length nodes + 1 = length-append nodes (node ∷ []) in
    elim (cases_lt k (length nodes)) [
      | inl before ↦
          let at : get_or (nodes ++ node ∷ []) k d ≡ get_or nodes k d = get_or-append nodes (node ∷ []) d k before in
          let front : take k (nodes ++ node ∷ []) ≡ take k nodes = take-append-le k nodes (node ∷ []) (omega arith) in
          subst (λ xs. Fits xs (get_or (nodes ++ node ∷ []) k d)) (sym front) (subst (Fits (take k nodes)) (sym at) (keep k d before))
      | inr past ↦
          let e : k ≡ length nodes = omega arith in
          let at : get_or (nodes ++ node ∷ []) k d ≡ node = ap (λ n. get_or (nodes ++ node ∷ []) n d) e ∙ get_or-append_seam nodes node [] d in
          let front : take k (nodes ++ node ∷ []) ≡ nodes = ap (λ n. take n (nodes ++ node ∷ [])) e ∙ take-append_seam nodes (node ∷ []) in
          subst (λ xs. Fits xs (get_or (nodes ++ node ∷ []) k d)) (sym front) (subst (Fits nodes) (sym at) fits)
    ]

few_as : (kind : Kind) (nodes : List Node) (node : Node) → FitsAs kind nodes node → node.children ≤ 1024
few_as Chance nodes node fits = fits.limit
few_as One nodes node fits = fits.limit
few_as Two nodes node fits = fits.limit
few_as Leaf nodes node fits = let e : node.children ≡ 0 = fits.children in omega arith

-- a node that keeps the rules has at most 1,024 children
pub children-le : (nodes : List Node) (node : Node) → Fits nodes node → node.children ≤ 1024
children-le nodes node fits = few_as node.kind nodes node fits

-- two kinds that pass the test of sameness are equal
pub is_same_kind-true : (kind other : Kind) → is_same_kind kind other ≡ true → other ≡ kind
is_same_kind-true Chance Chance e = refl
is_same_kind-true One One e = refl
is_same_kind-true Two Two e = refl
is_same_kind-true Leaf Leaf e = refl
is_same_kind-true Chance One e = cc
is_same_kind-true Chance Two e = cc
is_same_kind-true Chance Leaf e = cc
is_same_kind-true One Chance e = cc
is_same_kind-true One Two e = cc
is_same_kind-true One Leaf e = cc
is_same_kind-true Two Chance e = cc
is_same_kind-true Two One e = cc
is_same_kind-true Two Leaf e = cc
is_same_kind-true Leaf Chance e = cc
is_same_kind-true Leaf One e = cc
is_same_kind-true Leaf Two e = cc

next_as : (kind : Kind) (nodes : List Node) (node : Node) → node.kind ≡ kind → FitsAs kind nodes node
    → node.set ≤ set_count kind nodes + 1
next_as Chance nodes node is fits = subst (λ k. node.set ≤ set_count k nodes + 1) is fits.next
next_as One nodes node is fits = subst (λ k. node.set ≤ set_count k nodes + 1) is fits.next
next_as Two nodes node is fits = subst (λ k. node.set ≤ set_count k nodes + 1) is fits.next
next_as Leaf nodes node is fits = let e : node.set ≡ 0 = fits.set in omega arith

-- the set number of a node that keeps the rules is at most one more than its kind had sets before
pub set-le-next : (nodes : List Node) (node : Node) → Fits nodes node → node.set ≤ set_count node.kind nodes + 1
set-le-next nodes node fits = next_as node.kind nodes node refl fits

appears_before : (kind : Kind) (nodes : List Node) (n : ℕ) (d : Node) → KeepRules nodes → n ≤ length nodes → (i : ℕ)
    → 1 ≤ i → i ≤ set_count kind (take n nodes) →
    (node : Node) × (Contains nodes node × ((node.kind ≡ kind) × (node.set ≡ i)))
appears_before kind nodes zero d keep short i low high = absurd (omega arith)
appears_before kind nodes (suc n) d keep short i low high =
    let there : n < length nodes = omega arith in
    let node : Node = get_or nodes n d in
    let cut : take (suc n) nodes ≡ take n nodes ++ node ∷ [] = take-suc nodes n d there in
    let fits : Fits (take n nodes) node = keep n d there in
    elim (is_same_kind kind node.kind) as (λ b. is_same_kind kind node.kind ≡ b → (found : Node)
    × (Contains nodes found × ((found.kind ≡ kind) × (found.set ≡ i)))) [
      | true ↦ λ same.
          let is : node.kind ≡ kind = is_same_kind-true kind node.kind same in
          let count : set_count kind (take (suc n) nodes) ≡ max node.set (set_count kind (take n nodes)) = ap (set_count kind) cut
          ∙ set_count-push_same kind (take n nodes) node same in
          let next : node.set ≤ set_count kind (take n nodes) + 1 = subst (λ k. node.set ≤ set_count k (take n nodes) + 1) is
          (set-le-next (take n nodes) node fits) in
          elim (cases_lt (set_count kind (take n nodes)) i) [
            | inl beyond ↦ (node, (Contains-get_or nodes n d there, (is, omega arith)))
            | inr within ↦ appears_before kind nodes n d keep (omega arith) i low within
          ]
      | false ↦ λ other.
          let count : set_count kind (take (suc n) nodes) ≡ set_count kind (take n nodes) = ap (set_count kind) cut
          ∙ set_count-push_other kind (take n nodes) node other in
          appears_before kind nodes n d keep (omega arith) i low (omega arith)
    ] refl

-- by the rules, each number of a kind's sets is that of a node
pub each_set_appears : EachSetAppears
each_set_appears nodes keep kind i low high =
    appears_before kind nodes (length nodes) (record { kind = Leaf; set = 0; outcome = 0; children = 0 }) keep (omega arith) i low
    (subst (λ xs. i ≤ set_count kind xs) (sym (take-length nodes)) high)
