-- The jobs of small games, and of games at the limits.
use Rattle.std.specs.Prelude.{◌≡◌, ℕ, zero, suc, List, [], ◌∷◌, ◌++◌, map, replicate}
use Rattle.def_tree.specs.declared.Kind.TheVariants.{Chance, One}
use Rattle.def_tree.specs.declared.Node.{Node}
use Rattle.def_tree.specs.Tree.{Forest, bare, grown, forest_of, prefix, leaf_count}
use Rattle.def_tree.specs.Rules.{inner_node, leaf_node, matching_pennies}
use Rattle.def_history.specs.Jobs.{jobs_within, leaf_counts, most_jobs}

-- so many trees of one shape side by side, and then others
abbrev pub repeated : ℕ → Node → Forest → Forest → Forest
repeated zero node below others = others
repeated (suc n) node below others = grown node below (repeated n node below others)

-- so many leaves, and then others
abbrev pub leaves : ℕ → Forest → Forest
leaves n others = repeated n (leaf_node 0) bare others

-- so many chance nodes over so many leaves each, and then others
abbrev pub draws : ℕ → ℕ → Forest → Forest
draws n children others = repeated n (inner_node Chance 1 children) (leaves children bare) others

-- a chance node over these trees
abbrev pub drawn : ℕ → Forest → Forest
drawn children below = grown (inner_node Chance 1 children) below bare

-- so many chance nodes with one child each, one below the other, over a tree
abbrev pub chance_chain : ℕ → Forest → Forest
chance_chain zero tree = tree
chance_chain (suc n) tree = drawn 1 (chance_chain n tree)

pub record LeafCountRows : Type 0 where
  pub chance : leaf_counts (forest_of (inner_node Chance 1 2 ∷ inner_node One 1 2 ∷ leaf_node 0 ∷ leaf_node 0
      ∷ leaf_node 0 ∷ []))
      ≡ 2 ∷ 1 ∷ []
  pub pennies : leaf_counts matching_pennies ≡ 4 ∷ []
  pub one_leaf : leaf_counts (forest_of (leaf_node 0 ∷ [])) ≡ 1 ∷ []
  pub player_over_chance : leaf_counts (forest_of (inner_node One 1 2 ∷ inner_node Chance 1 2 ∷ leaf_node 0
      ∷ leaf_node 0 ∷ leaf_node 0 ∷ [])) ≡ 3 ∷ []
  pub chance_over_chance :
      leaf_counts (forest_of (inner_node Chance 1 3 ∷ inner_node Chance 2 2 ∷ leaf_node 0 ∷ leaf_node 0 ∷ leaf_node 0
      ∷ inner_node Chance 3 2 ∷ inner_node Chance 4 2 ∷ leaf_node 0 ∷ leaf_node 0 ∷ leaf_node 0 ∷ []))
      ≡ 1 ∷ 1 ∷ 1 ∷ 1 ∷ 1 ∷ 1 ∷ []
  pub chance_under_a_player : leaf_counts (forest_of (inner_node Chance 1 2 ∷ inner_node One 1 2 ∷ inner_node Chance 2 2
      ∷ leaf_node 0 ∷ leaf_node 0 ∷ leaf_node 0 ∷ leaf_node 0 ∷ [])) ≡ 3 ∷ 1 ∷ []
  pub last_pass : leaf_counts (chance_chain 63 (drawn 2 (leaves 2 bare))) ≡ 1 ∷ 1 ∷ []
  pub past_the_last_pass : leaf_counts (chance_chain 64 (drawn 2 (leaves 2 bare))) ≡ 2 ∷ []

-- how many leaves each job has after so many passes within a limit
abbrev pub counts_within : ℕ → ℕ → Forest → List ℕ
counts_within limit n tree = map (λ job. leaf_count (prefix job)) (jobs_within limit n tree)

-- the limit in small: exactly as many jobs as it lets, more trees than can be cut,
-- and a small tree behind one that is too large
pub record SmallLimitRows : Type 0 where
  pub at_the_limit : counts_within 16 64 (drawn 4 (draws 4 4 bare)) ≡ replicate 16 1
  pub past_the_limit : counts_within 16 64 (drawn 4 (draws 4 5 bare)) ≡ replicate 15 1 ++ (5 ∷ [])
  pub smaller_one_behind : counts_within 16 64 (drawn 6 (draws 1 6 (draws 1 8 (draws 1 6 (leaves 3 bare)))))
      ≡ replicate 6 1 ++ (8 ∷ replicate 9 1)

-- the limit of 4,096 itself: a chance node over as many leaves gives way, and one over one leaf too many doesn't
pub record JobLimitRows : Type 0 where
  pub at_the_limit : counts_within most_jobs 2 (drawn 2 (draws 1 4095 (leaves 1 bare))) ≡ replicate 4096 1
  pub past_the_limit : counts_within most_jobs 2 (drawn 2 (draws 1 4096 (leaves 1 bare))) ≡ 4096 ∷ 1 ∷ []
