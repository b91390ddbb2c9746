-- One pass over the jobs, by the numbers of their top nodes.
use Rattle.std.proofs.Common.{◌≡◌, ℕ, suc, ◌+◌, ◌-◌, ◌≤◌, Bool, true, false, cond, ◌&&◌, nat_le, List, [], ◌∷◌, ◌++◌, length, drop, refl, sym, ap, subst, ◌∙◌}
use Rattle.std.proofs.Common.{arith, Some, slice_get}
use Rattle.std.proofs.lemmas.List.{append_assoc, append-nil}
use Rattle.std.proofs.lemmas.Bool.Decides.{nat_tests}
use Rattle.def_history.specs.Jobs.{count_after, cut_each, each_tree, is_chance_job, is_cut, most_jobs, pass, subtrees}
use Rattle.def_tree.specs.declared.Kind.TheVariants.{Chance}
use Rattle.def_tree.specs.declared.Node.{Node}
use Rattle.def_tree.specs.Links.{children_of, roots_from}
use Rattle.def_tree.specs.Rules.{is_same_kind}
use Rattle.def_tree.specs.Tree.{Forest, bare, grown, node_count, prefix, tree_count}
use Rattle.xg_jobs.specs.Cutting.{AreJobs, AreJobsFrom, IsJob, NoLeafBetween, StandAt}
use Rattle.xg_jobs.proofs.StandingTrees.{append_jobs, begin_earlier, chance_no_leaf, children_at, each_job, over, same_node, stand_below, stand_there, top_is}

abbrev is_chance : Node → Bool
is_chance node = is_same_kind Chance node.kind

-- what the top node tells of a job
pub record TellsJob (tree : Forest) (earlier k : ℕ) (job : Forest) (top : Node) : Type 0 where
  pub chance : is_chance top ≡ is_chance_job job
  pub children : top.children ≡ length (subtrees job)
  pub count : length (children_of tree k) ≡ top.children
  pub below : is_chance top ≡ true → AreJobsFrom tree earlier (k + node_count job) (children_of tree k) (subtrees job)

trees_counted : (trees : Forest) → length (each_tree trees) ≡ tree_count trees
trees_counted bare = refl
trees_counted (grown node below beside) = ap suc (trees_counted beside)

roots_counted : (k : ℕ) (trees : Forest) → length (roots_from k trees) ≡ tree_count trees
roots_counted k bare = refl
roots_counted k (grown node below beside) = ap suc (roots_counted (k + 1 + node_count below) beside)

known : (tree : Forest) (earlier k : ℕ) (node : Node) (below : Forest)
    → StandAt tree k (grown node below bare) → NoLeafBetween tree earlier k
    → TellsJob tree earlier k (grown node below bare) node
known tree earlier k node below s before =
    let children = children_at tree k node below bare s in
    let count : tree_count below ≡ node.children = s.whole.0 in
    let end : ℕ = k + node_count (grown node below bare) in
    let all : k + 1 + node_count below ≡ end = omega (arith, ap length (append-nil (prefix below))) in
    record {
      chance = refl;
      children = sym count ∙ sym (trees_counted below);
      count = ap length children ∙ roots_counted (k + 1) below ∙ count;
      below = λ chance.
          subst (λ ks. AreJobsFrom tree earlier end ks (each_tree below)) (sym children)
          (subst (λ n. AreJobsFrom tree earlier n (roots_from (k + 1) below) (each_tree below)) all
          (begin_earlier tree earlier (k + 1) (k + 1 + node_count below) (roots_from (k + 1) below) (each_tree below)
          (over tree earlier k (k + 1) before (chance_no_leaf tree k node below bare s chance))
          (each_job tree (k + 1) below (stand_below tree k node below bare s))));
    }

tells : (tree : Forest) (earlier k : ℕ) (job : Forest) (top : Node) → tree_count job ≡ 1 → StandAt tree k job
    → NoLeafBetween tree earlier k → slice_get (prefix tree) (k - 1) ≡ Some top → TellsJob tree earlier k job top
tells tree earlier k bare top one s before read = absurd (omega (arith, one))
tells tree earlier k (grown node below bare) top one s before read =
    let is = top_is tree k node below bare top s read in
    subst (λ (t : Node). TellsJob tree earlier k (grown node below bare) t) (sym is)
    (known tree earlier k node below s before)
tells tree earlier k (grown node below (grown n b s')) top one s before read = absurd (omega (arith, one))

-- the node that is read at a job's number tells of this job
pub tells_job : (tree : Forest) (earlier k : ℕ) (job : Forest) (top : Node) → IsJob tree earlier k job
    → slice_get (prefix tree) (k - 1) ≡ Some top → TellsJob tree earlier k job top
tells_job tree earlier k job top is read = tells tree earlier k job top is.one is.there is.before read

inside_as : (tree : Forest) (k : ℕ) (job : Forest) → tree_count job ≡ 1 → StandAt tree k job
    → k + node_count job ≤ node_count tree + 1
inside_as tree k bare one s = absurd (omega (arith, one))
inside_as tree k (grown node below beside) one s = stand_there tree k node below beside s

-- a job's nodes are nodes of the tree
job_inside : (tree : Forest) (earlier k : ℕ) (job : Forest) → IsJob tree earlier k job
    → k + node_count job ≤ node_count tree + 1
job_inside tree earlier k job is = inside_as tree k job is.one is.there

some_nodes : (job : Forest) → tree_count job ≡ 1 → 1 ≤ node_count job
some_nodes bare one = absurd (omega (arith, one))
some_nodes (grown node below beside) one = omega arith

-- a job's top node is a node of the tree
pub top_inside : (tree : Forest) (earlier k : ℕ) (job : Forest) → IsJob tree earlier k job → k ≤ node_count tree
top_inside tree earlier k job is = omega (arith, job_inside tree earlier k job is, some_nodes job is.one)

-- the first of the nodes is that of the first job
pub record FirstJob (tree : Forest) (earlier end node : ℕ) (nodes : List ℕ) (jobs : List Forest) : Type 0 where
  pub job : Forest
  pub rest : List Forest
  pub is : IsJob tree earlier node job
  pub are : AreJobsFrom tree (node + node_count job) end nodes rest
  pub jobs_are : jobs ≡ job ∷ rest

first : (tree : Forest) (earlier end node : ℕ) (nodes : List ℕ) (jobs : List Forest)
    → AreJobsFrom tree earlier end (node ∷ nodes) jobs → FirstJob tree earlier end node nodes jobs
first tree earlier end node nodes [] are = absurd are
first tree earlier end node nodes (job ∷ rest) are =
    record { job = job; rest = rest; is = are.0; are = are.1; jobs_are = refl }

-- where there is a first node, there is a first job, whose top node it is, and the other nodes are those of the others
pub first_job : (tree : Forest) (earlier end node : ℕ) (all nodes : List ℕ) (jobs : List Forest)
    → all ≡ node ∷ nodes → AreJobsFrom tree earlier end all jobs → FirstJob tree earlier end node nodes jobs
first_job tree earlier end node all nodes jobs is are =
    first tree earlier end node nodes jobs (subst (λ ks. AreJobsFrom tree earlier end ks jobs) is are)

-- where there is no node, there is no job
pub none_left : (tree : Forest) (earlier end : ℕ) (nodes : List ℕ) (jobs : List Forest) → nodes ≡ []
    → AreJobsFrom tree earlier end nodes jobs → (jobs ≡ []) × NoLeafBetween tree earlier end
none_left tree earlier end [] [] is are = (refl, are)
none_left tree earlier end [] (x ∷ xs) is are = absurd are
none_left tree earlier end (k ∷ ks) jobs is are = cc is

-- the jobs before a place have been passed over
pub record PassSome (tree : Forest) (nodes : List ℕ) (jobs : List Forest) (after : List ℕ) (count : ℕ)
    (cut : Bool) (k : ℕ) : Type 0 where
  pub next : ℕ
  pub made : List Forest
  pub rest : List Forest
  pub to_come : AreJobsFrom tree next (node_count tree + 1) (drop k nodes) rest
  pub done : AreJobsFrom tree 1 next after made
  pub whole : made ++ cut_each most_jobs count rest ≡ pass most_jobs jobs
  pub same : cut ≡ false → made ++ rest ≡ jobs

-- at first no job has been passed over, all are to come, and none was cut
pub none_passed : (tree : Forest) (nodes : List ℕ) (jobs : List Forest) → AreJobs tree nodes jobs
    → PassSome tree nodes jobs [] (length jobs) false 0
none_passed tree nodes jobs are =
    record { next = 1; made = []; rest = jobs; to_come = are; done = same_node tree 1; whole = refl; same = λ _. refl }

-- the next job
pub next_job : (tree : Forest) (nodes : List ℕ) (jobs : List Forest) (after : List ℕ) (count : ℕ) (cut : Bool)
    (k node : ℕ) (some : PassSome tree nodes jobs after count cut k) → drop k nodes ≡ node ∷ drop (k + 1) nodes
    → FirstJob tree some.next (node_count tree + 1) node (drop (k + 1) nodes) some.rest
next_job tree nodes jobs after count cut k node some is =
    first_job tree some.next (node_count tree + 1) node (drop k nodes) (drop (k + 1) nodes) some.rest is some.to_come

-- a job gives way where the test of its top node says so
cut_as : (tree : Forest) (earlier k : ℕ) (job : Forest) (top : Node) (count : ℕ) (b : Bool)
    → TellsJob tree earlier k job top → (is_chance top && nat_le (count - 1 + top.children) most_jobs) ≡ b
    → is_cut most_jobs count job ≡ b
cut_as tree earlier k job top count b tells test =
    ap (λ b. b && nat_le (count - 1 + length (subtrees job)) most_jobs) (sym tells.chance)
    ∙ ap (λ n. is_chance top && nat_le (count - 1 + n) most_jobs) (sym tells.children)
    ∙ test

-- what a pass makes of the first job, by whether it gives way
cut_first : (count : ℕ) (job : Forest) (rest : List Forest) (b : Bool) → is_cut most_jobs count job ≡ b
    → cut_each most_jobs count (job ∷ rest)
    ≡ cond b (subtrees job ++ cut_each most_jobs (count_after count job) rest) (job ∷ cut_each most_jobs count rest)
cut_first count job rest b is =
    let gone : List Forest = subtrees job ++ cut_each most_jobs (count_after count job) rest in
    let kept : List Forest = job ∷ cut_each most_jobs count rest in
    ap (λ b. cond b gone kept) is

-- where the next job gives way, and the top node's children are put, it has been passed over
pub pass_cut : (tree : Forest) (nodes : List ℕ) (jobs : List Forest) (after : List ℕ) (count : ℕ) (cut : Bool)
    (k node : ℕ) (top : Node)
    → PassSome tree nodes jobs after count cut k → drop k nodes ≡ node ∷ drop (k + 1) nodes
    → slice_get (prefix tree) (node - 1) ≡ Some top
    → (is_chance top && nat_le (count - 1 + top.children) most_jobs) ≡ true → is_chance top ≡ true
    → PassSome tree nodes jobs (after ++ children_of tree node) (count - 1 + top.children) true (k + 1)
pass_cut tree nodes jobs after count cut k node top some is read test chance =
    let first = next_job tree nodes jobs after count cut k node some is in
    let job : Forest = first.job in
    let tells = tells_job tree some.next node job top first.is read in
    let here = cut_as tree some.next node job top count true tells test in
    let counts : count_after count job ≡ count - 1 + top.children = ap (λ n. count - 1 + n) (sym tells.children) in
    record {
      next = node + node_count job;
      made = some.made ++ subtrees job;
      rest = first.rest;
      to_come = first.are;
      done = append_jobs tree 1 some.next (node + node_count job) after (children_of tree node) some.made (subtrees job)
          some.done (tells.below chance);
      whole = append_assoc some.made (subtrees job) (cut_each most_jobs (count - 1 + top.children) first.rest)
          ∙ ap (λ n. some.made ++ (subtrees job ++ cut_each most_jobs n first.rest)) (sym counts)
          ∙ ap (λ js. some.made ++ js) (sym (cut_first count job first.rest true here))
          ∙ ap (λ js. some.made ++ cut_each most_jobs count js) (sym first.jobs_are)
          ∙ some.whole;
      same = λ h. absurd (no h);
    }
  where
    no : true ≡ false → ⊥
    no h = grind arith

-- where the next job doesn't give way, and its own top node is put, it has been passed over
pub pass_kept : (tree : Forest) (nodes : List ℕ) (jobs : List Forest) (after : List ℕ) (count : ℕ) (cut : Bool)
    (k node : ℕ) (top : Node)
    → PassSome tree nodes jobs after count cut k → drop k nodes ≡ node ∷ drop (k + 1) nodes
    → slice_get (prefix tree) (node - 1) ≡ Some top
    → (is_chance top && nat_le (count - 1 + top.children) most_jobs) ≡ false
    → PassSome tree nodes jobs (after ++ node ∷ []) count cut (k + 1)
pass_kept tree nodes jobs after count cut k node top some is read test =
    let first = next_job tree nodes jobs after count cut k node some is in
    let job : Forest = first.job in
    let tells = tells_job tree some.next node job top first.is read in
    let here = cut_as tree some.next node job top count false tells test in
    let behind : ℕ = node + node_count job in
    record {
      next = behind;
      made = some.made ++ job ∷ [];
      rest = first.rest;
      to_come = first.are;
      done = append_jobs tree 1 some.next behind after (node ∷ []) some.made (job ∷ []) some.done
          (first.is, same_node tree behind);
      whole = append_assoc some.made (job ∷ []) (cut_each most_jobs count first.rest)
          ∙ ap (λ js. some.made ++ js) (sym (cut_first count job first.rest false here))
          ∙ ap (λ js. some.made ++ cut_each most_jobs count js) (sym first.jobs_are)
          ∙ some.whole;
      same = λ h. append_assoc some.made (job ∷ []) first.rest ∙ ap (λ js. some.made ++ js) (sym first.jobs_are)
          ∙ some.same h;
    }

-- all have been passed over
pub all_passed : (tree : Forest) (nodes : List ℕ) (jobs : List Forest) (after : List ℕ) (count : ℕ) (cut : Bool) (k : ℕ)
    → PassSome tree nodes jobs after count cut k → drop k nodes ≡ []
    → AreJobs tree after (pass most_jobs jobs) × (cut ≡ false → pass most_jobs jobs ≡ jobs)
all_passed tree nodes jobs after count cut k some past =
    let end : ℕ = node_count tree + 1 in
    let gone = none_left tree some.next end (drop k nodes) some.rest past some.to_come in
    let all : some.made ++ [] ≡ pass most_jobs jobs =
    ap (λ js. some.made ++ cut_each most_jobs count js) (sym gone.0) ∙ some.whole in (
      subst (λ ks. AreJobs tree ks (pass most_jobs jobs)) (append-nil after)
          (subst (λ js. AreJobs tree (after ++ []) js) all
          (append_jobs tree 1 some.next end after [] some.made [] some.done gone.1)),
      λ h. sym all ∙ ap (λ js. some.made ++ js) (sym gone.0) ∙ some.same h,
    )

-- there are as many nodes as jobs
pub jobs_counted : (tree : Forest) (k end : ℕ) (nodes : List ℕ) (jobs : List Forest)
    → AreJobsFrom tree k end nodes jobs → length nodes ≡ length jobs
jobs_counted tree k end [] [] are = refl
jobs_counted tree k end [] (y ∷ ys) are = absurd are
jobs_counted tree k end (x ∷ xs) [] are = absurd are
jobs_counted tree k end (x ∷ xs) (y ∷ ys) are = ap suc (jobs_counted tree (x + node_count y) end xs ys are.1)

-- where a test holds together with that of n being at most m, n is at most m
pub fits_in : (a : Bool) (n m : ℕ) → (a && nat_le n m) ≡ true → n ≤ m
fits_in true n m e = grind (arith, nat_tests)
fits_in false n m e = absurd (no e)
  where
    no : false ≡ true → ⊥
    no h = grind arith
