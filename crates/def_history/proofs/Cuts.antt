-- Cutting jobs loses no leaf, and keeps within the limit.
use Rattle.std.proofs.Common.{◌≡◌, ℕ, zero, suc, ◌+◌, ◌≤◌, true, false, cond, List, [], ◌∷◌, ◌++◌, length, refl, ap, sym, ◌∙◌, arith, append-nil, length-append}
use Rattle.std.specs.List.{flat_map, filter}
use Rattle.std.specs.Prelude.{nat_le}
use Rattle.std.proofs.lemmas.List.Elements.{filter-append}
use Rattle.std.proofs.lemmas.Grind.{flat_map-append}
use Rattle.std.proofs.lemmas.Bool.{and_parts, leb-true}
use Rattle.def_tree.specs.declared.Kind.{Kind}
use Rattle.def_tree.specs.declared.Kind.TheVariants.{Chance, One, Two, Leaf}
use Rattle.def_tree.specs.Tree.{Forest, bare, grown, prefix, is_leaf_kind, tree_count, is_leaf_node}
use Rattle.def_tree.specs.Rules.{is_same_kind}
use Rattle.def_history.specs.Jobs.{each_tree, subtrees, is_chance_job, is_cut, count_after, cut_each, pass, passes, jobs_of, leaves_in}

-- side by side, the leaves of each tree
leaves-each_tree : (trees : Forest) → flat_map leaves_in (each_tree trees) ≡ leaves_in trees
leaves-each_tree bare = refl
leaves-each_tree (grown node below beside) =
    (λ i. filter is_leaf_node (node ∷ append-nil (prefix below) i) ++ leaves-each_tree beside i)
    ∙ sym (filter-append is_leaf_node (node ∷ prefix below) (prefix beside))

not_leaf : (kind : Kind) → is_same_kind Chance kind ≡ true → is_leaf_kind kind ≡ false
not_leaf Chance e = refl
not_leaf One e = refl
not_leaf Two e = refl
not_leaf Leaf e = cc

-- a tree of its own
abbrev pub IsSingle : Forest → Type 0
IsSingle bare = Unit {0}
IsSingle (grown _ _ beside) = beside ≡ bare

pub single : (tree : Forest) → tree_count tree ≡ 1 → IsSingle tree
single bare one = tt
single (grown node below bare) one = refl
single (grown node below (grown n b s)) one = absurd (omega arith)

abbrev pub AreSingle : List Forest → Type 0
AreSingle [] = Unit {0}
AreSingle (job ∷ rest) = IsSingle job × AreSingle rest

AreSingle-append : (xs ys : List Forest) → AreSingle xs → AreSingle ys → AreSingle (xs ++ ys)
AreSingle-append [] ys h k = k
AreSingle-append (x ∷ xs) ys h k = (h.0, AreSingle-append xs ys h.1 k)

AreSingle-each_tree : (trees : Forest) → AreSingle (each_tree trees)
AreSingle-each_tree bare = tt
AreSingle-each_tree (grown node below beside) = (refl, AreSingle-each_tree beside)

AreSingle-subtrees : (job : Forest) → AreSingle (subtrees job)
AreSingle-subtrees bare = tt
AreSingle-subtrees (grown node below beside) = AreSingle-each_tree below

-- below a chance node are all its leaves
leaves-subtrees : (job : Forest) → IsSingle job → is_chance_job job ≡ true
    → flat_map leaves_in (subtrees job) ≡ leaves_in job
leaves-subtrees bare h e = refl
leaves-subtrees (grown node below beside) h e =
    leaves-each_tree below
    ∙ ap (λ b. cond b (node ∷ filter is_leaf_node (prefix below)) (filter is_leaf_node (prefix below))) (sym (not_leaf node.kind e))
    ∙ ap (λ xs. filter is_leaf_node (node ∷ xs)) (sym (append-nil (prefix below)))
    ∙ ap (λ f. filter is_leaf_node (node ∷ (prefix below ++ prefix f))) (sym h)

-- where a job gives way to its subtrees, there are no more jobs than the limit allows
pub within_if_cut : (limit count : ℕ) (job : Forest) → is_cut limit count job ≡ true → count_after count job ≤ limit
within_if_cut limit count job cut = leb-true (count_after count job) limit (and_parts (is_chance_job job) (nat_le (count_after count job) limit) cut).1

module _ (limit : ℕ) where
  AreSingle-cut_each : (count : ℕ) (jobs : List Forest) → AreSingle jobs → AreSingle (cut_each limit count jobs)
  AreSingle-cut_each count [] h = tt
  AreSingle-cut_each count (job ∷ rest) h =
      elim (is_cut limit count job) as (λ b.
      AreSingle (cond b (subtrees job ++ cut_each limit (count_after count job) rest) (job ∷ cut_each limit count rest))) [
        | true ↦ AreSingle-append (subtrees job) (cut_each limit (count_after count job) rest) (AreSingle-subtrees job)
            (AreSingle-cut_each (count_after count job) rest h.1)
        | false ↦ (h.0, AreSingle-cut_each count rest h.1)
      ]

  leaves-cut_each : (count : ℕ) (jobs : List Forest) → AreSingle jobs
      → flat_map leaves_in (cut_each limit count jobs) ≡ flat_map leaves_in jobs
  leaves-cut_each count [] h = refl
  leaves-cut_each count (job ∷ rest) h =
      elim (is_cut limit count job) as (λ b. is_cut limit count job ≡ b →
      flat_map leaves_in (cond b (subtrees job ++ cut_each limit (count_after count job) rest) (job ∷ cut_each limit count rest)) ≡ leaves_in job
      ++ flat_map leaves_in rest) [
        | true ↦ λ cut.
            flat_map-append leaves_in (subtrees job) (cut_each limit (count_after count job) rest)
            ∙ (λ i. leaves-subtrees job h.0 (and_parts (is_chance_job job) (nat_le (count_after count job) limit) cut).0 i
            ++ leaves-cut_each (count_after count job) rest h.1 i)
        | false ↦ λ cut. ap (λ xs. leaves_in job ++ xs) (leaves-cut_each count rest h.1)
      ] refl

  leaves-passes : (n : ℕ) (jobs : List Forest) → AreSingle jobs
      → flat_map leaves_in (passes limit n jobs) ≡ flat_map leaves_in jobs
  leaves-passes zero jobs h = refl
  leaves-passes (suc n) jobs h = leaves-passes n (pass limit jobs) (AreSingle-cut_each (length jobs) jobs h) ∙ leaves-cut_each (length jobs) jobs h

  -- so many jobs have been passed over, and with those that come there are `count`
  length-cut_each : (jobs : List Forest) (before count : ℕ) → count ≡ before + length jobs → count ≤ limit
      → before + length (cut_each limit count jobs) ≤ limit
  length-cut_each [] before count e h = omega arith
  length-cut_each (job ∷ rest) before count e h =
      elim (is_cut limit count job) as (λ b. is_cut limit count job ≡ b → before
      + length (cond b (subtrees job ++ cut_each limit (count_after count job) rest) (job ∷ cut_each limit count rest)) ≤ limit) [
        | true ↦ λ cut.
            let within : count_after count job ≤ limit = within_if_cut limit count job cut in
            let many : length (subtrees job ++ cut_each limit (count_after count job) rest) ≡ length (subtrees job)
            + length (cut_each limit (count_after count job) rest) = length-append (subtrees job) (cut_each limit (count_after count job) rest) in
            let later : (before + length (subtrees job)) + length (cut_each limit (count_after count job) rest)
            ≤ limit = length-cut_each rest (before + length (subtrees job)) (count_after count job) (omega arith) within in
            omega arith
        | false ↦ λ cut.
            let later : (before + 1) + length (cut_each limit count rest) ≤ limit = length-cut_each rest (before + 1) count (omega arith) h in
            omega arith
      ] refl

  length-passes : (n : ℕ) (jobs : List Forest) → length jobs ≤ limit → length (passes limit n jobs) ≤ limit
  length-passes zero jobs h = h
  length-passes (suc n) jobs h =
      length-passes n (pass limit jobs) (let few : 0 + length (cut_each limit (length jobs) jobs)
      ≤ limit = length-cut_each jobs 0 (length jobs) (omega arith) h in omega arith)

  -- jobs that one pass leaves as they are stay so after any number of passes
  pub passes-pass : (jobs : List Forest) (n : ℕ) → pass limit jobs ≡ jobs → passes limit n jobs ≡ jobs
  passes-pass jobs zero e = refl
  passes-pass jobs (suc n) e = ap (passes limit n) e ∙ passes-pass jobs n e

-- the leaves of the jobs, one job after another, are those of the tree
pub leaves-jobs_of : (tree : Forest) → tree_count tree ≡ 1 → flat_map leaves_in (jobs_of tree) ≡ leaves_in tree
leaves-jobs_of tree one = leaves-passes 4096 64 (tree ∷ []) (single tree one, tt) ∙ append-nil (leaves_in tree)

-- a tree has at most 4,096 jobs
pub length-jobs_of : (tree : Forest) → length (jobs_of tree) ≤ 4096
length-jobs_of tree = length-passes 4096 64 (tree ∷ []) (omega arith)
