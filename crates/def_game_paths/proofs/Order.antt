-- The sequence before a set comes before those that end at it:
-- what its player chose before was chosen at sets with smaller numbers.
use Rattle.std.proofs.Common.{◌≡◌, ℕ, zero, suc, ◌+◌, ◌-◌, ◌<◌, ◌≤◌, max, true, false, cond, ◌&&◌, List, [], ◌∷◌, ◌++◌, length, get_or, take, map, refl, ap}
use Rattle.std.proofs.Common.{sym, subst, ◌∙◌, arith, inl, inr, append_assoc, append-nil, length-append}
use Rattle.std.specs.Prelude.{nat_eq, sum, Contains}
use Rattle.std.proofs.lemmas.Bool.{and_parts, cases_lt, eqb-true, eq-eqb}
use Rattle.std.proofs.lemmas.List.{take-append-le, get_or-map, length-map}
use Rattle.std.proofs.lemmas.List.Elements.{All-contains, Contains-append_left, Contains-push, Contains-push_cases}
use Rattle.std.proofs.lemmas.List.Sums.{sum_by_more_le}
use Rattle.std.proofs.Math.ListN.{get_or-append}
use Rattle.std.proofs.Math.Seq.{get_or-append_seam, take-append_seam}
use Rattle.def_tree.specs.declared.Kind.{Kind}
use Rattle.def_tree.specs.declared.Kind.TheVariants.{Chance, One, Two, Leaf}
use Rattle.def_tree.specs.declared.Node.{Node}
use Rattle.def_tree.specs.Tree.{Forest, bare, grown, prefix, tree_count, HasItsChildren, is_leaf_kind}
use Rattle.def_tree.specs.Rules.{is_same_kind, set_count, AgreeOnSize, JoinsSet, Fits, FitsAs, KeepRules, IsGameTree}
use Rattle.def_tree.proofs.Sets.{is_same_kind-true, is_same_kind_self, set_count-push_same, set_count-push_other, KeepRules-push, each_set_appears}
use Rattle.def_game_paths.specs.Paths.{Move, Visit, visits_from, visits, own_choices}
use Rattle.def_game_paths.specs.Sequences.{set_firsts, set_sizes, first_sequence, sequence_number, sequence_at, sequences_before}
use Rattle.def_game_paths.proofs.Visits.{map-visits_from}

abbrev pub visited_node : Visit → Node
visited_node visit = visit.node

-- the path goes through these nodes, by actions that they have
abbrev StepIn : List Node → Move → Type 0
StepIn before step = Contains before step.node × ((1 ≤ step.action) × (step.action ≤ step.node.children))

abbrev PathIn : List Node → List Move → Type 0
PathIn before [] = Unit {0}
PathIn before (step ∷ rest) = StepIn before step × PathIn before rest

PathIn-append : (before more : List Node) (path : List Move) → PathIn before path → PathIn (before ++ more) path
PathIn-append before more [] h = tt
PathIn-append before more (step ∷ rest) h = ((Contains-append_left before more step.node h.0.0, h.0.1), PathIn-append before more rest h.1)

-- each path goes through nodes that were visited before
abbrev PathsIn : List Node → List Visit → Type 0
PathsIn before [] = Unit {0}
PathsIn before (v ∷ rest) = PathIn before v.path × PathsIn (before ++ v.node ∷ []) rest

PathsIn-append : (before : List Node) (xs ys : List Visit) → PathsIn before xs
    → PathsIn (before ++ map visited_node xs) ys
    → PathsIn before (xs ++ ys)
PathsIn-append before [] ys h k = subst (λ ns. PathsIn ns ys) (append-nil before) k
PathsIn-append before (x ∷ xs) ys h k =
    (h.0, PathsIn-append (before ++ x.node ∷ []) xs ys h.1 (subst (λ ns. PathsIn ns ys) (sym (append_assoc before (x.node ∷ []) (map visited_node xs))) k))

visits_in : (above : ℕ → List Move) (action : ℕ) (trees : Forest) (before : List Node) → HasItsChildren trees
    → ((a : ℕ) → action ≤ a → a < action + tree_count trees → PathIn before (above a))
    → PathsIn before (visits_from above action trees)
visits_in above action bare before has paths = tt
visits_in above action (grown node below beside) before has paths =
    let here : PathIn before (above action) = paths action (omega arith) (omega arith) in
    let count : tree_count below ≡ node.children = has.0 in
    let seen : List Node = before ++ node ∷ [] in
    let down : ℕ → List Move = λ next. record { node = node; action = next } ∷ above action in (
      here,
      PathsIn-append seen (visits_from down 1 below) (visits_from above (action + 1) beside)
          (visits_in down 1 below seen has.1 (λ a low high. (
            (Contains-push before node, (low, omega arith)),
            PathIn-append before (node ∷ []) (above action) here,
          )))
          (visits_in above (action + 1) beside (seen ++ map visited_node (visits_from down 1 below)) has.2
          (λ a low high. PathIn-append seen (map visited_node (visits_from down 1 below)) (above a)
          (PathIn-append before (node ∷ []) (above a) (paths a (omega arith) (omega arith))))),
    )

-- each of the later nodes keeps the rules after those before it
abbrev pub KeepFrom : List Node → List Node → Type 0
KeepFrom before [] = Unit {0}
KeepFrom before (x ∷ xs) = Fits before x × KeepFrom (before ++ x ∷ []) xs

-- where all nodes keep the rules, each of the later ones keeps them after those before it
pub KeepFrom-append : (before nodes : List Node) → KeepRules (before ++ nodes) → KeepFrom before nodes
KeepFrom-append before [] keep = tt
KeepFrom-append before (x ∷ xs) keep =
    let long : length (before ++ x ∷ xs) ≡ length before + length (x ∷ xs) = length-append before (x ∷ xs) in
    let at : get_or (before ++ x ∷ xs) (length before) x ≡ x = get_or-append_seam before x xs x in
    let front : take (length before) (before ++ x ∷ xs) ≡ before = take-append_seam before (x ∷ xs) in (
      subst (Fits before) at (subst (λ ns. Fits ns (get_or (before ++ x ∷ xs) (length before) x)) front (keep (length before) x (omega arith))),
      KeepFrom-append (before ++ x ∷ []) xs (subst KeepRules (sym (append_assoc before (x ∷ []) xs)) keep),
    )

-- a node of a kind with sets that keeps the rules is in one of those sets or in the next one
pub joins_of : (kind : Kind) (before : List Node) (node : Node) → is_leaf_kind kind ≡ false → node.kind ≡ kind
    → FitsAs kind before node → JoinsSet before node
joins_of Chance before node inner is fits = fits
joins_of One before node inner is fits = fits
joins_of Two before node inner is fits = fits
joins_of Leaf before node inner is fits = cc

-- the sizes of the sets of a kind that these nodes are in
pub record KnowsSizes (kind : Kind) (before : List Node) (done : List ℕ) : Type 0 where
  pub count : length done ≡ set_count kind before
  pub each : (x : Node) → Contains before x → x.kind ≡ kind
      → (1 ≤ x.set) × (x.set ≤ length done) × (get_or done (x.set - 1) 0 ≡ x.children)

knows_other : (kind : Kind) (before : List Node) (done : List ℕ) (node : Node) → is_same_kind kind node.kind ≡ false
    → KnowsSizes kind before done → KnowsSizes kind (before ++ node ∷ []) done
knows_other kind before done node other knows = record {
  count = knows.count ∙ sym (set_count-push_other kind before node other);
  each = λ x there is. elim (Contains-push_cases before node x there) [
    | inl old ↦ knows.each x old is
    | inr new ↦ let no : true ≡ false = sym (is_same_kind_self kind node.kind (ap (λ n. n.kind) new ∙ is)) ∙ other in cc no
  ];
}

knows_seen : (kind : Kind) (before : List Node) (done : List ℕ) (node : Node) → is_leaf_kind kind ≡ false
    → node.kind ≡ kind → KeepRules before → JoinsSet before node → node.set ≤ length done → KnowsSizes kind before done
    → KnowsSizes kind (before ++ node ∷ []) done
knows_seen kind before done node inner is keep joins low knows =
    let count : length done ≡ set_count kind before = knows.count in
    let more : set_count kind (before ++ node ∷ []) ≡ max node.set (set_count kind before) = set_count-push_same kind before node
    (is_same_kind_self kind node.kind is) in
    let counts : 1 ≤ node.set = joins.counts in
    let first = each_set_appears before keep kind node.set counts (omega arith) in
    let held = knows.each first.0 first.1.0 first.1.1.0 in
    let agrees : first.0.children ≡ node.children = All-contains (λ earlier. AgreeOnSize earlier node) before first.0 joins.agrees first.1.0
    (first.1.1.0 ∙ sym is) first.1.1.1 in
    let size : get_or done (node.set - 1) 0 ≡ node.children = ap (λ n. get_or done (n - 1) 0) (sym first.1.1.1) ∙ held.2 ∙ agrees in
    record {
      count = omega arith;
      each = λ x there kinds. elim (Contains-push_cases before node x there) [
        | inl old ↦ knows.each x old kinds
        | inr new ↦ subst (λ n. (1 ≤ n.set) × (n.set ≤ length done) × (get_or done (n.set - 1) 0 ≡ n.children)) new (counts, low, size)
      ];
    }

-- the first node of the next set adds its number of children to the known sizes
pub knows_new : (kind : Kind) (before : List Node) (done : List ℕ) (node : Node) → node.kind ≡ kind
    → node.set ≡ length done + 1 → KnowsSizes kind before done
    → KnowsSizes kind (before ++ node ∷ []) (done ++ node.children ∷ [])
knows_new kind before done node is next knows =
    let count : length done ≡ set_count kind before = knows.count in
    let more : set_count kind (before ++ node ∷ []) ≡ max node.set (set_count kind before) = set_count-push_same kind before node
    (is_same_kind_self kind node.kind is) in
    let long : length (done ++ node.children ∷ []) ≡ length done + 1 = length-append done (node.children ∷ []) in
    let index : node.set - 1 ≡ length done = omega arith in
    let size : get_or (done ++ node.children ∷ []) (node.set - 1) 0 ≡ node.children = ap (λ n. get_or (done ++ node.children ∷ []) n 0) index
    ∙ get_or-append_seam done node.children [] 0 in
    record {
      count = omega arith;
      each = λ x there kinds. elim (Contains-push_cases before node x there) [
        | inl old ↦
            let held = knows.each x old kinds in
            let low : 1 ≤ x.set = held.0 in
            let high : x.set ≤ length done = held.1 in
            (low, omega arith, get_or-append done (node.children ∷ []) 0 (x.set - 1) (omega arith) ∙ held.2)
        | inr new ↦ subst (λ n. (1 ≤ n.set) × (n.set ≤ length (done ++ node.children ∷ [])) × (get_or (done ++ node.children ∷ []) (n.set - 1) 0 ≡ n.children))
            new (omega arith, omega arith, size)
      ];
    }

-- the sequence of a path through these nodes has a smaller number than the first of the next set
number_below : (kind : Kind) (before : List Node) (done later : List ℕ) (path : List Move) → KnowsSizes kind before done
    → PathIn before path →
    sequence_number (done ++ later) (own_choices kind path) < 1 + sum (take (length done) (done ++ later))
number_below kind before done later [] knows paths = omega arith
number_below kind before done later (step ∷ rest) knows paths =
    elim (is_same_kind kind step.node.kind) as (λ b. is_same_kind kind step.node.kind ≡ b →
    sequence_number (done ++ later) (cond b (record { set = step.node.set; action = step.action } ∷ own_choices kind rest) (own_choices kind rest)) < 1
    + sum (take (length done) (done ++ later))) [
      | true ↦ λ same.
          let held = knows.each step.node paths.0.0 (is_same_kind-true kind step.node.kind same) in
          let low : 1 ≤ step.node.set = held.0 in
          let high : step.node.set ≤ length done = held.1 in
          let acts : 1 ≤ step.action = paths.0.1.0 in
          let most : step.action ≤ step.node.children = paths.0.1.1 in
          let size : get_or done (step.node.set - 1) 0 ≡ step.node.children = held.2 in
          let front : take (step.node.set - 1) (done ++ later) ≡ take (step.node.set - 1) done = take-append-le (step.node.set - 1) done later (omega arith) in
          let whole : take (length done) (done ++ later) ≡ done = take-append_seam done later in
          let part : sum (take (step.node.set - 1) done) + get_or done (step.node.set - 1) 0
          ≤ sum done = sum_by_more_le (λ x. x) done (step.node.set - 1) 0 (omega arith) in
          omega (arith, ap sum front, ap sum whole)
      | false ↦ λ other. number_below kind before done later rest knows paths.1
    ] refl

-- what holds of 0 and of each number after another holds of every natural number
pub nat_cases : (P : ℕ → Type 0) → P zero → ((i : ℕ) → P (suc i)) → (i : ℕ) → P i
nat_cases P first later zero = first
nat_cases P first later (suc i) = later i

-- a node that isn't the first of its set leaves the sizes as they are
pub knows_later : (kind : Kind) (before : List Node) (done : List ℕ) (node : Node) → is_leaf_kind kind ≡ false
    → KeepRules before → Fits before node → is_same_kind kind node.kind && nat_eq node.set (length done + 1) ≡ false →
    KnowsSizes kind before done → KnowsSizes kind (before ++ node ∷ []) done
knows_later kind before done node inner keep fits other knows =
    elim (is_same_kind kind node.kind) as (λ b. is_same_kind kind node.kind ≡ b → b && nat_eq node.set (length done + 1) ≡ false
    → KnowsSizes kind (before ++ node ∷ []) done) [
      | true ↦ λ same not_next.
          let is : node.kind ≡ kind = is_same_kind-true kind node.kind same in
          let joins = joins_of kind before node inner is (subst (λ k. FitsAs k before node) is fits) in
          let count : length done ≡ set_count kind before = knows.count in
          let next : node.set ≤ set_count kind before + 1 = subst (λ k. node.set ≤ set_count k before + 1) is joins.next in
          elim (cases_lt (length done) node.set) [
            | inl beyond ↦ let no : true ≡ false = sym (eq-eqb node.set (length done + 1) (omega arith)) ∙ not_next in absurd (apart no)
            | inr low ↦ knows_seen kind before done node inner is keep joins low knows
          ]
      | false ↦ λ differs not_next. knows_other kind before done node differs knows
    ] refl other
  where
    apart : true ≡ false → ⊥
    apart e = cc e

in_order : (kind : Kind) (vs : List Visit) (before : List Node) (done sizes : List ℕ) (seen : ℕ) (d : Visit)
    → is_leaf_kind kind ≡ false → seen ≡ length done → KeepRules before → KeepFrom before (map visited_node vs)
    → PathsIn before vs → KnowsSizes kind before done →
    sizes ≡ done ++ map (λ (v : Visit). v.node.children) (set_firsts kind seen vs) →
    (i : ℕ) → i < length (set_firsts kind seen vs)
    → sequence_number sizes (own_choices kind (get_or (set_firsts kind seen vs) i d).path) < first_sequence sizes (seen + i + 1)
in_order kind [] before done sizes seen d inner many keep fits paths knows = λ all i h. absurd (omega arith)
in_order kind (v ∷ rest) before done sizes seen d inner many keep fits paths knows =
    let more : List Node = before ++ v.node ∷ [] in
    let kept : KeepRules more = KeepRules-push before v.node keep fits.0 in
    elim (is_same_kind kind v.node.kind && nat_eq v.node.set (seen + 1)) as (λ b. is_same_kind kind v.node.kind && nat_eq v.node.set (seen + 1) ≡ b →
    sizes ≡ done ++ map (λ (w : Visit). w.node.children) (cond b (v ∷ set_firsts kind (seen + 1) rest) (set_firsts kind seen rest)) →
    (i : ℕ) → i < length (cond b (v ∷ set_firsts kind (seen + 1) rest) (set_firsts kind seen rest)) →
    sequence_number sizes (own_choices kind (get_or (cond b (v ∷ set_firsts kind (seen + 1) rest) (set_firsts kind seen rest)) i d).path)
    < first_sequence sizes (seen + i + 1)) [
      | true ↦ λ first all.
          let parts = and_parts (is_same_kind kind v.node.kind) (nat_eq v.node.set (seen + 1)) first in
          let is : v.node.kind ≡ kind = is_same_kind-true kind v.node.kind parts.0 in
          let number : v.node.set ≡ seen + 1 = eqb-true v.node.set (seen + 1) parts.1 in
          let later : List ℕ = map (λ (w : Visit). w.node.children) (v ∷ set_firsts kind (seen + 1) rest) in
          nat_cases (λ i. i < length (v ∷ set_firsts kind (seen + 1) rest)
          → sequence_number sizes (own_choices kind (get_or (v ∷ set_firsts kind (seen + 1) rest) i d).path) < first_sequence sizes (seen + i + 1))
          (λ h.
          let index : length done ≡ seen + 0 + 1 - 1 = omega arith in
          subst (λ n. sequence_number sizes (own_choices kind v.path) < 1 + sum (take n sizes)) index
          (subst (λ xs. sequence_number xs (own_choices kind v.path) < 1 + sum (take (length done) xs)) (sym all)
          (number_below kind before done later v.path knows paths.0)))
          (λ i h.
          let index : seen + 1 + i + 1 ≡ seen + suc i + 1 = omega arith in
          let long : seen + 1 ≡ length (done ++ v.node.children ∷ []) = omega (arith, length-append done (v.node.children ∷ [])) in
          subst (λ n. sequence_number sizes (own_choices kind (get_or (set_firsts kind (seen + 1) rest) i d).path) < first_sequence sizes n) index
          (in_order kind rest more (done ++ v.node.children ∷ []) sizes (seen + 1) d inner long kept fits.1 paths.1
          (knows_new kind before done v.node is (omega arith) knows)
          (all ∙ sym (append_assoc done (v.node.children ∷ []) (map (λ (w : Visit). w.node.children) (set_firsts kind (seen + 1) rest))))
          i (omega arith)))
      | false ↦ λ other all i h.
          let test : is_same_kind kind v.node.kind && nat_eq v.node.set (length done + 1)
          ≡ false = ap (λ n. is_same_kind kind v.node.kind && nat_eq v.node.set (n + 1)) (sym many) ∙ other in
          in_order kind rest more done sizes seen d inner many kept fits.1 paths.1 (knows_later kind before done v.node inner keep fits.0 test knows) all i h
    ] refl

-- the sequence before a set has a smaller number than those that end at the set
pub sets_in_order : (tree : Forest) → IsGameTree tree → (kind : Kind) → is_leaf_kind kind ≡ false → (i : ℕ)
    → i < length (sequences_before kind tree) →
    get_or (sequences_before kind tree) i 0 < first_sequence (set_sizes kind tree) (i + 1)
sets_in_order tree game kind inner i h =
    let d : Visit = record { path = []; node = record { kind = Leaf; set = 0; outcome = 0; children = 0 } } in
    let firsts : List Visit = set_firsts kind 0 (visits tree) in
    let long : length (sequences_before kind tree) ≡ length firsts = length-map firsts (sequence_at kind tree) in
    let nodes : map visited_node (visits tree) ≡ prefix tree = map-visits_from (λ _. []) 1 tree in
    let keep : KeepFrom [] (map visited_node (visits tree)) = subst (KeepFrom []) (sym nodes) (KeepFrom-append [] (prefix tree) game.rules) in
    let paths : PathsIn [] (visits tree) = visits_in (λ _. []) 1 tree [] game.tree.children (λ a low high. tt) in
    let knows : KnowsSizes kind [] [] = record { count = refl; each = λ x there is. absurd (nothing_in x there) } in
    let below : sequence_number (set_sizes kind tree) (own_choices kind (get_or firsts i d).path) < first_sequence (set_sizes kind tree) (0 + i + 1) =
    in_order kind (visits tree) [] [] (set_sizes kind tree) 0 d inner refl (λ k e there. absurd (omega arith)) keep paths knows refl i (omega arith) in
    let index : 0 + i + 1 ≡ i + 1 = omega arith in
    subst (λ n. n < first_sequence (set_sizes kind tree) (i + 1)) (sym (get_or-map (sequence_at kind tree) firsts i d 0 (omega arith)))
    (subst (λ n. sequence_number (set_sizes kind tree) (own_choices kind (get_or firsts i d).path) < first_sequence (set_sizes kind tree) n) index below)
  where
    nothing_in : (x : Node) → Contains [] x → ⊥
    nothing_in x there = let h : there.0 < 0 = there.1 in absurd (omega arith)
