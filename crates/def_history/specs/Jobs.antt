-- The jobs into which the sum over a game's leaves is cut: subtrees below chance nodes near the root. The way of
-- cutting and its limits are this project's own.
use Rattle.std.specs.Prelude.{◌≡◌, ◌≢◌, ◌↔◌, ◌⊎◌, ℕ, zero, suc, ◌+◌, ◌-◌, ◌<◌, ◌≤◌, Bool, true, false, ◌&&◌, nat_le}
use Rattle.std.specs.Prelude.{if◌then◌else◌, List, [], ◌∷◌, ◌++◌, length, map, filter, flat_map, take, drop}
use Rattle.std.specs.Prelude.{slice_index_or, All}
use Rattle.def_tree.specs.declared.Kind.TheVariants.{Chance}
use Rattle.def_tree.specs.declared.Node.{Node}
use Rattle.def_tree.specs.Tree.{Forest, bare, grown, prefix, is_leaf_kind, leaf_count, tree_count}
use Rattle.def_tree.specs.Rules.{is_same_kind}
use Rattle.def_history.specs.declared.jobs.TheConstants.{MOST_JOBS, MOST_PASSES}

abbrev pub most_jobs : ℕ
most_jobs = MOST_JOBS

abbrev pub most_passes : ℕ
most_passes = MOST_PASSES

-- the trees that stand side by side, one by one
abbrev pub each_tree : Forest → List Forest
each_tree bare = []
each_tree (grown node below beside) = grown node below bare ∷ each_tree beside

-- the subtrees at a tree's root
abbrev pub subtrees : Forest → List Forest
subtrees bare = []
subtrees (grown _ below _) = each_tree below

abbrev pub is_chance_job : Forest → Bool
is_chance_job bare = false
is_chance_job (grown node _ _) = is_same_kind Chance node.kind

-- the number of jobs, of which this one is replaced by its subtrees
abbrev pub count_after : ℕ → Forest → ℕ
count_after count job = count - 1 + length (subtrees job)

-- the job gives way to its subtrees: its top is a chance node, and then there aren't too many jobs
abbrev pub is_cut : ℕ → ℕ → Forest → Bool
is_cut limit count job = is_chance_job job && nat_le (count_after count job) limit

-- one pass over these jobs, where there are so many in all
abbrev pub cut_each : ℕ → ℕ → List Forest → List Forest
cut_each limit count [] = []
cut_each limit count (job ∷ rest) =
    if is_cut limit count job then subtrees job ++ cut_each limit (count_after count job) rest else job
    ∷ cut_each limit count rest

abbrev pub pass : ℕ → List Forest → List Forest
pass limit jobs = cut_each limit (length jobs) jobs

abbrev pub passes : ℕ → ℕ → List Forest → List Forest
passes limit zero jobs = jobs
passes limit (suc n) jobs = passes limit n (pass limit jobs)

-- the jobs after so many passes within this limit; at first the whole tree is one job
abbrev pub jobs_within : ℕ → ℕ → Forest → List Forest
jobs_within limit n tree = passes limit n (tree ∷ [])

abbrev pub jobs_of : Forest → List Forest
jobs_of tree = jobs_within most_jobs most_passes tree

abbrev pub leaves_in : Forest → List Node
leaves_in trees = filter (λ node. is_leaf_kind node.kind) (prefix trees)

-- how many leaves each job has; a job's leaves stand behind those of the jobs before it
abbrev pub leaf_counts : Forest → List ℕ
leaf_counts tree = map (λ job. leaf_count (prefix job)) (jobs_of tree)

-- the jobs' leaves, one job after the other, are all leaves, each once
abbrev pub EachLeafInOneJob : Type 0
EachLeafInOneJob = (tree : Forest) → tree_count tree ≡ 1 → flat_map leaves_in (jobs_of tree) ≡ leaves_in tree

-- there are at most as many jobs as the limit
abbrev pub JobsAreFew : Type 0
JobsAreFew = (tree : Forest) → length (jobs_of tree) ≤ most_jobs

-- a pass that replaces nothing is the last that matters
abbrev pub LaterPassesKeep : Type 0
LaterPassesKeep = (limit : ℕ) (jobs : List Forest) (n : ℕ) → pass limit jobs ≡ jobs → passes limit n jobs ≡ jobs

-- The passes in words.

-- how many jobs there are once the job at a place gives way:
-- those that came of the jobs before it, its subtrees, and the jobs behind it
abbrev pub jobs_then : List Forest → List (List Forest) → ℕ → Forest → ℕ
jobs_then jobs parts place job = length (flat_map (λ part. part) (take place parts)) + length (subtrees job)
    + length (drop (suc place) jobs)

-- what became of the job at a place: its subtrees,
-- where it is a chance node's and there are then at most `limit` jobs, and else itself alone
pub record BecomesPart (limit : ℕ) (jobs : List Forest) (parts : List (List Forest)) (place : ℕ) (job : Forest)
    (part : List Forest) : Type 0 where
  pub cut : is_chance_job job ≡ true → jobs_then jobs parts place job ≤ limit → part ≡ subtrees job
  pub kept : (is_chance_job job ≡ true → limit < jobs_then jobs parts place job) → part ≡ job ∷ []

-- one pass: each job becomes a part, and the parts in the jobs' order are the jobs after it
pub record IsPass (limit : ℕ) (jobs after : List Forest) (parts : List (List Forest)) : Type 0 where
  pub count : length parts ≡ length jobs
  pub joined : after ≡ flat_map (λ part. part) parts
  pub each : (place : ℕ) (none : Forest) → place < length jobs →
      BecomesPart limit jobs parts place (slice_index_or jobs place none) (slice_index_or parts place [])

abbrev pub PassesReplace : Type 0
PassesReplace = (limit : ℕ) (jobs : List Forest)
    → (parts : List (List Forest)) × IsPass limit jobs (pass limit jobs) parts

-- the jobs of a tree: the whole tree, after 64 passes within 4,096 jobs
pub record JobsComeOfPasses : Type 0 where
  pub none_at_first : (limit : ℕ) (tree : Forest) → jobs_within limit 0 tree ≡ tree ∷ []
  pub one_more : (limit n : ℕ) (tree : Forest) → jobs_within limit (suc n) tree ≡ pass limit (jobs_within limit n tree)
  pub all : (tree : Forest) → jobs_of tree ≡ jobs_within most_jobs most_passes tree

-- no job can give way: where one is a chance node's, there would be too many
abbrev pub NoRoomToCut : ℕ → List Forest → Type 0
NoRoomToCut limit jobs = All (λ job. is_chance_job job ≡ true → limit < length jobs - 1 + length (subtrees job)) jobs

-- a pass changes nothing exactly where no job can give way
abbrev pub OnlyCutsChange : Type 0
OnlyCutsChange = (limit : ℕ) (jobs : List Forest) → (pass limit jobs ≡ jobs) ↔ NoRoomToCut limit jobs

-- in the end no job can give way, unless each of the 64 passes replaced some
abbrev pub CutsUntilNoRoom : Type 0
CutsUntilNoRoom = (tree : Forest) →
    NoRoomToCut most_jobs (jobs_of tree)
    ⊎ ((n : ℕ) → n < most_passes → jobs_within most_jobs (n + 1) tree ≢ jobs_within most_jobs n tree)
