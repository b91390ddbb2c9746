-- What a game whose tables go with its tree has: the next node fits, and its tables are small.
use Rattle.std.proofs.Common.{◌≡◌, ◌≢◌, ℕ, zero, suc, ◌+◌, ◌<◌, ◌≤◌, Bool, true, false, List, [], ◌∷◌, ◌++◌, length, get_or, take, None, refl, ap, subst, arith}
use Rattle.std.proofs.Common.{length-append}
use Rattle.std.proofs.Math.Seq.{get_or-append_seam, take-append_seam, take-length, take-suc}
use Rattle.def_tree.specs.declared.Kind.{Kind}
use Rattle.def_tree.specs.declared.Kind.TheVariants as movers
use Rattle.def_tree.specs.declared.Node.{Node}
use Rattle.def_tree.specs.Rules.{most_actions, most_nodes, is_same_kind, set_count, Fits, KeepRules}
use Rattle.def_tree.proofs.Sets.{set_count-push_same, set_count-push_other, is_same_kind-true, set-le-next}
use Rattle.def_file.specs.Content.{SetEntry, OutcomeEntry, SetTables, Record, Contents, sets_of_kind}
use Rattle.def_file.specs.Faults.{set_at, no_set, record_fault}
use Rattle.def_file.specs.Adding.{node_with}
use Rattle.def_file.specs.Game.{AreSetsOf, GoTogether, AreTogether}
use Rattle.def_file.proofs.TablesGoWithNodes.{together_with}

fits_last : (nodes : List Node) (node : Node) → KeepRules (nodes ++ node ∷ []) → Fits nodes node
fits_last nodes node keep =
    let long : length (nodes ++ node ∷ []) ≡ length nodes + 1 = length-append nodes (node ∷ []) in
    let within : length nodes < length (nodes ++ node ∷ []) = omega arith in
    subst (Fits nodes) (get_or-append_seam nodes node [] node)
    (subst (λ xs. Fits xs (get_or (nodes ++ node ∷ []) (length nodes) node)) (take-append_seam nodes (node ∷ [])) (keep (length nodes) node within))

-- the node of an entry without a fault fits those before it
pub node_fits : (contents : Contents) (r : Record) → AreTogether contents → record_fault contents r ≡ None
    → Fits contents.nodes (node_with contents r)
node_fits contents r held none = fits_last contents.nodes (node_with contents r) (together_with contents r held none).rules

count_step : (kind : Kind) (nodes : List Node) (node : Node) (n : ℕ) (b : Bool) → is_same_kind kind node.kind ≡ b
    → Fits nodes node → set_count kind nodes ≤ n → set_count kind (nodes ++ node ∷ []) ≤ n + 1
count_step kind nodes node n true e fits within =
    let pushed = set_count-push_same kind nodes node e in
    let same : node.kind ≡ kind = is_same_kind-true kind node.kind e in
    let next : node.set ≤ set_count kind nodes + 1 = subst (λ k. node.set ≤ set_count k nodes + 1) same (set-le-next nodes node fits) in
    omega (arith, pushed, next, within)
count_step kind nodes node n false e fits within = let pushed = set_count-push_other kind nodes node e in omega (arith, pushed, within)

count_below : (kind : Kind) (nodes : List Node) (d : Node) → KeepRules nodes → (n : ℕ) → n ≤ length nodes
    → set_count kind (take n nodes) ≤ n
count_below kind nodes d keep zero within = omega arith
count_below kind nodes d keep (suc n) within =
    let there : n < length nodes = omega arith in
    let node = get_or nodes n d in
    let before : set_count kind (take n nodes) ≤ n = count_below kind nodes d keep n (omega arith) in
    let pushed : set_count kind (take n nodes ++ node ∷ []) ≤ n + 1 = count_step kind (take n nodes) node n (is_same_kind kind node.kind) refl (keep n d there)
    before in
    let more : take (suc n) nodes ≡ take n nodes ++ node ∷ [] = take-suc nodes n d there in
    let same = ap (set_count kind) more in
    omega (arith, pushed, same)

-- there are no more sets of a kind than nodes
count_within : (kind : Kind) (nodes : List Node) → KeepRules nodes → set_count kind nodes ≤ length nodes
count_within kind nodes keep =
    subst (λ ns. set_count kind ns ≤ length nodes) (take-length nodes)
    (count_below kind nodes (record { kind = movers.Leaf; set = 0; outcome = 0; children = 0 }) keep (length nodes) (omega arith))

module _ (nodes : List Node) (names : List (List ℕ)) (sets : SetTables) (outcomes : List OutcomeEntry)
    (held : GoTogether nodes names sets outcomes) where
  sets_of : (kind : Kind) → kind ≢ movers.Leaf → AreSetsOf kind nodes (sets_of_kind kind sets)
  sets_of movers.Chance apart = held.chance
  sets_of movers.One apart = held.one
  sets_of movers.Two apart = held.two
  sets_of movers.Leaf apart = absurd (apart refl)

  short : (kind : Kind) (table : List SetEntry) → AreSetsOf kind nodes table → length table ≤ most_nodes
  short kind table is =
      let count = is.count in
      let within = count_within kind nodes held.rules in
      let limit = held.limit in
      omega (arith, count, within, limit)

  -- no table is longer than a game has nodes
  pub sets_short : (kind : Kind) → length (sets_of_kind kind sets) ≤ most_nodes
  sets_short movers.Chance = short movers.Chance sets.chance held.chance
  sets_short movers.One = short movers.One sets.one held.one
  sets_short movers.Two = short movers.Two sets.two held.two
  sets_short movers.Leaf = omega arith

  -- nor are there more outcomes
  pub outcomes_short : length outcomes ≤ most_nodes
  outcomes_short = let few = held.few_outcomes in let limit = held.limit in omega (arith, few, limit)

  -- each set has 1 to 1,024 actions
  pub set_few : (kind : Kind) → kind ≢ movers.Leaf → (i : ℕ) → i < length (sets_of_kind kind sets)
      → (1 ≤ length (set_at (sets_of_kind kind sets) i).actions)
      × (length (set_at (sets_of_kind kind sets) i).actions ≤ most_actions)
  set_few kind apart i there = (sets_of kind apart).few i no_set there
