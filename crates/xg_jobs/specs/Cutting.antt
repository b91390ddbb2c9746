-- Jobs by their top nodes' numbers.
use Rattle.std.specs.Prelude.{◌≡◌, ℕ, ◌+◌, ◌-◌, ◌≤◌, List, [], ◌∷◌, ◌++◌, take, drop}
use Rattle.def_tree.specs.declared.Node.{Node}
use Rattle.def_tree.specs.Links.{children, children_from}
use Rattle.def_tree.specs.Tree.{Forest, HasItsChildren, leaf_count, node_count, prefix, tree_count}

-- how many leaves come before node k
abbrev pub leaf_count_before : Forest → ℕ → ℕ
leaf_count_before tree k = leaf_count (take (k - 1) (prefix tree))

-- trees stand in the tree from node k on
pub record StandAt (tree : Forest) (k : ℕ) (trees : Forest) : Type 0 where
  pub from_one : 1 ≤ k
  pub later_nodes : List Node
  pub nodes : drop (k - 1) (prefix tree) ≡ prefix trees ++ later_nodes
  pub later_children : List (List ℕ)
  pub children_are : drop (k - 1) (children tree) ≡ children_from k trees ++ later_children
  pub whole : HasItsChildren trees

-- from node k up to before another there is no leaf
pub record NoLeafBetween (tree : Forest) (k next : ℕ) : Type 0 where
  pub ordered : k ≤ next
  pub no_leaf : leaf_count_before tree k ≡ leaf_count_before tree next

-- the job's top node is node k, and from an earlier node on no leaf comes before it
pub record IsJob (tree : Forest) (earlier k : ℕ) (job : Forest) : Type 0 where
  pub one : tree_count job ≡ 1
  pub there : StandAt tree k job
  pub before : NoLeafBetween tree earlier k

-- each node is that of a job, and all leaves from one node up to before another are those of the jobs
abbrev pub AreJobsFrom : Forest → ℕ → ℕ → List ℕ → List Forest → Type 0
AreJobsFrom tree k end [] [] = NoLeafBetween tree k end
AreJobsFrom tree k end (node ∷ nodes) (job ∷ jobs) =
    IsJob tree k node job × AreJobsFrom tree (node + node_count job) end nodes jobs
AreJobsFrom tree k end [] (job ∷ jobs) = ⊥
AreJobsFrom tree k end (node ∷ nodes) [] = ⊥

-- the same of all leaves of the tree
abbrev pub AreJobs : Forest → List ℕ → List Forest → Type 0
AreJobs tree nodes jobs = AreJobsFrom tree 1 (node_count tree + 1) nodes jobs
