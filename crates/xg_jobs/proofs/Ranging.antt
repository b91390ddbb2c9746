-- The jobs' ranges, one behind the other.
use Rattle.std.proofs.Common.{◌≡◌, ℕ, ◌+◌, ◌-◌, ◌<◌, ◌≤◌, List, [], ◌∷◌, ◌++◌, All, length, map, get_or, drop, take, refl, sym, ap, subst, ◌∙◌, arith}
use Rattle.std.proofs.Common.{length-append}
use Rattle.std.proofs.lemmas.List.{append_assoc, map-append, drop_more, get_or-drop, length-take}
use Rattle.std.proofs.lemmas.List.Elements.{All-append, All-cons}
use Rattle.std.proofs.lemmas.List.Sums.{count_by-le-length}
use Rattle.def_history.specs.Jobs.{jobs_of}
use Rattle.def_history.specs.Ranges.{LeafRange as RangeOfLeaves, job_ranges, ranges_from}
use Rattle.def_tree.specs.declared.Node.{Node}
use Rattle.def_tree.specs.Rules.{most_nodes}
use Rattle.def_tree.specs.Tree.{Forest, is_leaf_kind, leaf_count, node_count, prefix}
use Rattle.xg_jobs.specs.declared.table.LeafRange.{LeafRange}
use Rattle.xg_jobs.specs.Cutting.{AreJobs, AreJobsFrom, NoLeafBetween, leaf_count_before}
use Rattle.xg_jobs.specs.Ranges.{range_of}
use Rattle.xg_jobs.proofs.OnePassOverJobs.{FirstJob, first_job, top_inside}
use Rattle.xg_jobs.proofs.StandingTrees.{leaves_behind}

abbrev leaves_in : Forest → ℕ
leaves_in job = leaf_count (prefix job)

-- no more leaves come before a node than nodes
pub leaves_few : (tree : Forest) (k : ℕ) → leaf_count_before tree k ≤ k - 1
leaves_few tree k =
    let front : List Node = take (k - 1) (prefix tree) in
    omega (arith, count_by-le-length (λ node. is_leaf_kind node.kind) front, length-take (k - 1) (prefix tree))

-- the jobs before a place have their ranges, which end before the leaf `first`
pub record RangedSome (tree : Forest) (nodes : List ℕ) (ranges : List LeafRange) (first i : ℕ) : Type 0 where
  pub next : ℕ
  pub rest : List Forest
  pub to_come : AreJobsFrom tree next (node_count tree + 1) (drop i nodes) rest
  pub whole : map range_of ranges ++ ranges_from first (map leaves_in rest) ≡ job_ranges tree
  pub before : first ≡ leaf_count_before tree next
  pub inside : All (λ range. range.first ≤ most_nodes) ranges
  pub count : length ranges ≡ i

-- at first no job has its range, and the first one's begins at leaf 0
pub none_ranged : (tree : Forest) (nodes : List ℕ) → AreJobs tree nodes (jobs_of tree)
    → (ranges : List LeafRange) → ranges ≡ [] → RangedSome tree nodes ranges 0 0
none_ranged tree nodes are ranges none =
    subst (λ rs. RangedSome tree nodes rs 0 0) (sym none)
    (record {
      next = 1;
      rest = jobs_of tree;
      to_come = are;
      whole = refl;
      before = refl;
      inside = λ k d low. absurd (omega arith);
      count = refl;
    })

-- the node at which a job's leaves end: the next job's top node, or the number behind the last node
pub record Ends (tree : Forest) (behind to : ℕ) : Type 0 where
  pub no_leaf : NoLeafBetween tree behind to
  pub there : to ≤ node_count tree + 1

ends : (tree : Forest) (behind : ℕ) (nodes : List ℕ) (jobs : List Forest)
    → AreJobsFrom tree behind (node_count tree + 1) nodes jobs → Ends tree behind (get_or nodes 0 (node_count tree + 1))
ends tree behind [] [] are = record { no_leaf = are; there = omega arith }
ends tree behind [] (job ∷ jobs) are = absurd are
ends tree behind (k ∷ ks) [] are = absurd are
ends tree behind (k ∷ ks) (job ∷ jobs) are =
    record { no_leaf = are.0.before; there = omega (arith, top_inside tree behind k job are.0) }

-- one more has its range, whose leaves are those between two nodes
pub record RangedNext (tree : Forest) (nodes : List ℕ) (ranges : List LeafRange) (first i node to : ℕ) : Type 0 where
  pub from_one : 1 ≤ node
  pub ordered : node ≤ to
  pub there : to ≤ node_count tree + 1
  pub next : (count : ℕ) → leaf_count_before tree node + count ≡ leaf_count_before tree to → (r : LeafRange)
      → r ≡ record { first = first; count = count } → RangedSome tree nodes (ranges ++ r ∷ []) (first + count) (i + 1)

-- the next job's leaves are those up to where it ends, and with its range behind the others one more job has its own
pub range_more : (tree : Forest) (nodes : List ℕ) (ranges : List LeafRange) (first i node to : ℕ)
    → RangedSome tree nodes ranges first i → node_count tree ≤ most_nodes
    → i < length nodes → node ≡ get_or nodes i node → to ≡ get_or nodes (i + 1) (node_count tree + 1)
    → RangedNext tree nodes ranges first i node to
range_more tree nodes ranges first i node to some limit low read at = record {
  from_one = front.is.there.from_one;
  ordered = omega (arith, end.no_leaf.ordered);
  there = end.there;
  next = λ count counts r new.
      record {
        next = behind;
        rest = front.rest;
        to_come = front.are;
        whole = ap (λ rs. rs ++ later (first + count)) (map-append range_of ranges (r ∷ []))
            ∙ append_assoc (map range_of ranges) (range_of r ∷ []) (later (first + count))
            ∙ ap (λ (x : LeafRange). map range_of ranges ++ range_of x ∷ later (first + count)) new
            ∙ ap (λ n. map range_of ranges ++ ranges_from first (n ∷ map leaves_in front.rest)) (leaves_are count counts)
            ∙ ap (λ js. map range_of ranges ++ ranges_from first (map leaves_in js)) (sym front.jobs_are)
            ∙ some.whole;
        before = omega (arith, same, counts, end.no_leaf.no_leaf);
        inside = All-append (λ range. range.first ≤ most_nodes) ranges (r ∷ []) some.inside
            (single r (omega (arith, ap (λ (x : LeafRange). x.first) new, room count counts, limit)));
        count = omega (arith, some.count, length-append ranges (r ∷ []));
      };
}
  where
    last : ℕ
    last = node_count tree + 1

    front : FirstJob tree some.next last node (drop (i + 1) nodes) some.rest
    front = let is = drop_more nodes i node low ∙ ap (λ n. n ∷ drop (i + 1) nodes) (sym read) in
        first_job tree some.next last node (drop i nodes) (drop (i + 1) nodes) some.rest is some.to_come

    later : ℕ → List RangeOfLeaves
    later n = ranges_from n (map leaves_in front.rest)

    behind : ℕ
    behind = node + node_count front.job

    zero : i + 1 + 0 ≡ i + 1
    zero = omega arith

    end : Ends tree behind to
    end =
        let is : get_or (drop (i + 1) nodes) 0 last ≡ to =
        get_or-drop (i + 1) nodes 0 last ∙ ap (λ n. get_or nodes n last) zero ∙ sym at in
        subst (λ n. Ends tree behind n) is (ends tree behind (drop (i + 1) nodes) front.rest front.are)

    same : first ≡ leaf_count_before tree node
    same = some.before ∙ front.is.before.no_leaf

    leaves_are : (count : ℕ) → leaf_count_before tree node + count ≡ leaf_count_before tree to → count ≡ leaves_in front.job
    leaves_are count counts =
        omega (arith, counts, end.no_leaf.no_leaf, leaves_behind tree node front.job front.is.there)

    room : (count : ℕ) → leaf_count_before tree node + count ≡ leaf_count_before tree to → first + count ≤ node_count tree
    room count counts = omega (arith, same, counts, leaves_few tree to, end.there)

    single : (r : LeafRange) → r.first ≤ most_nodes → All (λ (range : LeafRange). range.first ≤ most_nodes) (r ∷ [])
    single r h = All-cons (λ (range : LeafRange). range.first ≤ most_nodes) r [] h (λ k d low. absurd (omega arith))
