-- The jobs after some passes.
use Rattle.std.proofs.Common.{◌≡◌, ℕ, zero, suc, ◌+◌, ◌-◌, ◌≤◌, [], ◌∷◌, sym, ap, subst, ◌∙◌, arith}
use Rattle.std.proofs.lemmas.List.{append-nil}
use Rattle.def_history.specs.Jobs.{jobs_within, pass}
use Rattle.def_history.proofs.Passes.{passes-suc}
use Rattle.def_tree.specs.Links.{children}
use Rattle.def_tree.specs.Tree.{Forest, IsTree, node_count, prefix}
use Rattle.xg_jobs.specs.Cutting.{AreJobs, NoLeafBetween}
use Rattle.xg_jobs.proofs.StandingTrees.{same_node}

-- the jobs after one more pass are those that a pass makes of the jobs before it
pub within_more : (limit n : ℕ) (tree : Forest) → jobs_within limit (n + 1) tree ≡ pass limit (jobs_within limit n tree)
within_more limit n tree = let e : n + 1 ≡ suc n = omega arith in ap (λ m. jobs_within limit m tree) e ∙ passes-suc limit n (tree ∷ [])

keeps : (limit n k : ℕ) (tree : Forest) → pass limit (jobs_within limit n tree) ≡ jobs_within limit n tree
    → jobs_within limit (n + k) tree ≡ jobs_within limit n tree
keeps limit n zero tree same = let e : n + 0 ≡ n = omega arith in ap (λ m. jobs_within limit m tree) e
keeps limit n (suc k) tree same =
    let e : n + suc k ≡ n + k + 1 = omega arith in
    ap (λ m. jobs_within limit m tree) e ∙ within_more limit (n + k) tree ∙ ap (pass limit) (keeps limit n k tree same) ∙ same

-- a pass that replaces nothing is the last that matters
pub within_end : (limit n m : ℕ) (tree : Forest) → n ≤ m
    → pass limit (jobs_within limit n tree) ≡ jobs_within limit n tree
    → jobs_within limit n tree ≡ jobs_within limit m tree
within_end limit n m tree h same = let e : n + (m - n) ≡ m = omega arith in sym (keeps limit n (m - n) tree same) ∙ ap (λ k. jobs_within limit k tree) e

-- at first the whole tree is one job
pub whole_job : (tree : Forest) → IsTree tree → AreJobs tree (1 ∷ []) (tree ∷ [])
whole_job tree is = (
  record {
    one = is.one;
    there = record {
      from_one = omega arith;
      later_nodes = [];
      nodes = sym (append-nil (prefix tree));
      later_children = [];
      children_are = sym (append-nil (children tree));
      whole = is.children;
    };
    before = same_node tree 1;
  },
  subst (λ n. NoLeafBetween tree n (node_count tree + 1)) behind (same_node tree (node_count tree + 1)),
)
  where
    behind : node_count tree + 1 ≡ 1 + node_count tree
    behind = omega arith
