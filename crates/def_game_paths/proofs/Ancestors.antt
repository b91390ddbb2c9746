-- The nodes on a path are visited before, each with the rest of the path;
-- so the numbers of sequences tell a player's choices.
use Rattle.std.proofs.Common.{◌≡◌, ℕ, zero, suc, ◌+◌, ◌-◌, ◌<◌, ◌≤◌, min, true, false, cond, ◌&&◌, List, [], ◌∷◌, ◌++◌, length, get_or, take, map, refl, ap}
use Rattle.std.proofs.Common.{sym, subst, ◌∙◌, arith, inl, inr, ◌⊎◌, append_assoc, append-nil, length-append}
use Rattle.std.specs.Prelude.{nat_eq, sum, Contains, AllPairs, ◌↔◌}
use Rattle.std.proofs.lemmas.Bool.{and_parts, cases_lt, eqb-true}
use Rattle.std.proofs.lemmas.List.{take-take, get_or-take, get_or-map, get_or_default, length-map, length-take}
use Rattle.std.proofs.lemmas.List.Elements.{Contains-append_left, Contains-push}
use Rattle.std.proofs.lemmas.List.Sums.{sum_by_more, sum_by-take-le}
use Rattle.def_tree.specs.declared.Kind.{Kind}
use Rattle.def_tree.specs.declared.Kind.TheVariants.{Chance, One, Two, Leaf}
use Rattle.def_tree.specs.declared.Node.{Node}
use Rattle.def_tree.specs.Tree.{Forest, bare, grown, prefix, tree_count, HasItsChildren, is_leaf_kind}
use Rattle.def_tree.specs.Rules.{is_same_kind, KeepRules, IsGameTree}
use Rattle.def_tree.proofs.Sets.{is_same_kind-true, KeepRules-push}
use Rattle.def_game_paths.specs.Paths.{Move, Visit, visits_from, visits, Choice, own_choices, GoesThrough, ParentsComeBefore}
use Rattle.def_game_paths.specs.Recall.{is_personal, past, AgreeOnPast, HasPerfectRecall}
use Rattle.def_game_paths.specs.Sequences.{set_firsts, set_sizes, first_sequence, sequence_number, sequence_at}
use Rattle.def_game_paths.proofs.Visits.{map-visits_from}
use Rattle.def_game_paths.proofs.Order.{visited_node, KeepFrom, KeepFrom-append, KnowsSizes, knows_new, knows_later}

GoesThrough-append : (before more : List Visit) (path : List Move) → GoesThrough before path
    → GoesThrough (before ++ more) path
GoesThrough-append before more [] h = tt
GoesThrough-append before more (step ∷ rest) h = (
  (Contains-append_left before more (record { path = rest; node = step.node }) h.0.0, h.0.1),
  GoesThrough-append before more rest h.1,
)

abbrev pub EachSeen : List Visit → List Visit → Type 0
EachSeen before [] = Unit {0}
EachSeen before (v ∷ rest) = GoesThrough before v.path × EachSeen (before ++ v ∷ []) rest

EachSeen-append : (before xs ys : List Visit) → EachSeen before xs → EachSeen (before ++ xs) ys
    → EachSeen before (xs ++ ys)
EachSeen-append before [] ys h k = subst (λ vs. EachSeen vs ys) (append-nil before) k
EachSeen-append before (x ∷ xs) ys h k = (
  h.0,
  EachSeen-append (before ++ x ∷ []) xs ys h.1
      (subst (λ vs. EachSeen vs ys) (sym (append_assoc before (x ∷ []) xs)) k),
)

visits_seen : (above : ℕ → List Move) (action : ℕ) (trees : Forest) (before : List Visit) → HasItsChildren trees
    → ((a : ℕ) → action ≤ a → a < action + tree_count trees → GoesThrough before (above a))
    → EachSeen before (visits_from above action trees)
visits_seen above action bare before has paths = tt
visits_seen above action (grown node below beside) before has paths =
    let here : GoesThrough before (above action) = paths action (omega arith) (omega arith) in
    let count : tree_count below ≡ node.children = has.0 in
    let this : Visit = record { path = above action; node = node } in
    let seen : List Visit = before ++ this ∷ [] in
    let down : ℕ → List Move = λ next. record { node = node; action = next } ∷ above action in (
      here,
      EachSeen-append seen (visits_from down 1 below) (visits_from above (action + 1) beside)
          (visits_seen down 1 below seen has.1 (λ a low high. (
            (Contains-push before this, (low, omega arith)),
            GoesThrough-append before (this ∷ []) (above action) here,
          )))
          (visits_seen above (action + 1) beside (seen ++ visits_from down 1 below) has.2
          (λ a low high. GoesThrough-append seen (visits_from down 1 below) (above a)
          (GoesThrough-append before (this ∷ []) (above a) (paths a (omega arith) (omega arith))))),
    )

seen_at : (before xs : List Visit) (n : ℕ) (d : Visit) → EachSeen before xs → n < length xs
    → GoesThrough (before ++ take n xs) (get_or xs n d).path
seen_at before [] n d h there = absurd (omega arith)
seen_at before (x ∷ xs) zero d h there = GoesThrough-append before [] x.path h.0
seen_at before (x ∷ xs) (suc n) d h there = subst (λ vs. GoesThrough vs (get_or xs n d).path) (append_assoc before (x ∷ []) (take n xs))
    (seen_at (before ++ x ∷ []) xs n d h.1 (omega arith))

-- the path of a node is that of its parent with one move more, and the parent is visited before it
pub parents_come_before : ParentsComeBefore
parents_come_before tree is k d there = seen_at [] (visits tree) k d (visits_seen (λ _. []) 1 tree [] is.children (λ a low high. tt)) there

-- the last own choice on a path was made at a node of that set, and the choices before it are that node's past
pub record LastChoice (kind : Kind) (before : List Visit) (own : List Choice) (at : Visit) (action : ℕ) : Type 0 where
  pub there : Contains before at
  pub kinds : at.node.kind ≡ kind
  pub some : 1 ≤ action
  pub limit : action ≤ at.node.children
  pub made : own ≡ record { set = at.node.set; action = action } ∷ past at

-- a path has no own choice, or its last one is made at a node before and follows that node's past
pub last_choice : (kind : Kind) (before : List Visit) (path : List Move) → GoesThrough before path
    → (own_choices kind path ≡ [])
    ⊎ ((at : Visit) × ((action : ℕ) × LastChoice kind before (own_choices kind path) at action))
last_choice kind before [] h = inl refl
last_choice kind before (step ∷ rest) h =
    elim (is_same_kind kind step.node.kind) as (λ b. is_same_kind kind step.node.kind ≡ b →
    (cond b (record { set = step.node.set; action = step.action } ∷ own_choices kind rest) (own_choices kind rest) ≡ [])
    ⊎ ((at : Visit) × ((action : ℕ) × LastChoice kind before (cond b (record { set = step.node.set; action = step.action } ∷ own_choices kind rest)
    (own_choices kind rest)) at action))) [
      | true ↦ λ same.
          let is : step.node.kind ≡ kind = is_same_kind-true kind step.node.kind same in
          let choice : Choice = record { set = step.node.set; action = step.action } in
          inr (
            record { path = rest; node = step.node },
            (
              step.action,
              record {
                there = h.0.0;
                kinds = is;
                some = h.0.1.0;
                limit = h.0.1.1;
                made = ap (λ k. choice ∷ own_choices k rest) (sym is);
              },
            ),
          )
      | false ↦ λ other. last_choice kind before rest h.1
    ] refl

-- once all nodes are visited, the sizes of all sets are known
pub knows_all : (kind : Kind) (vs : List Visit) (before : List Node) (done : List ℕ) (seen : ℕ)
    → is_leaf_kind kind ≡ false → seen ≡ length done → KeepRules before → KeepFrom before (map visited_node vs)
    → KnowsSizes kind before done →
    KnowsSizes kind (before ++ map visited_node vs) (done ++ map (λ (v : Visit). v.node.children) (set_firsts kind seen vs))
knows_all kind [] before done seen inner many keep fits knows =
    subst (λ ns. KnowsSizes kind ns (done ++ [])) (sym (append-nil before)) (subst (KnowsSizes kind before) (sym (append-nil done)) knows)
knows_all kind (v ∷ rest) before done seen inner many keep fits knows =
    let more : List Node = before ++ v.node ∷ [] in
    let kept : KeepRules more = KeepRules-push before v.node keep fits.0 in
    let nodes : more ++ map visited_node rest ≡ before ++ map visited_node (v ∷ rest) = append_assoc before (v.node ∷ []) (map visited_node rest) in
    elim (is_same_kind kind v.node.kind && nat_eq v.node.set (seen + 1)) as (λ b. is_same_kind kind v.node.kind && nat_eq v.node.set (seen + 1) ≡ b →
    KnowsSizes kind (before ++ map visited_node (v ∷ rest)) (done ++ map (λ (w : Visit). w.node.children)
    (cond b (v ∷ set_firsts kind (seen + 1) rest) (set_firsts kind seen rest)))) [
      | true ↦ λ first.
          let parts = and_parts (is_same_kind kind v.node.kind) (nat_eq v.node.set (seen + 1)) first in
          let is : v.node.kind ≡ kind = is_same_kind-true kind v.node.kind parts.0 in
          let number : v.node.set ≡ seen + 1 = eqb-true v.node.set (seen + 1) parts.1 in
          let long : seen + 1 ≡ length (done ++ v.node.children ∷ []) = omega (arith, length-append done (v.node.children ∷ [])) in
          let later : List ℕ = map (λ (w : Visit). w.node.children) (set_firsts kind (seen + 1) rest) in
          subst (λ ns. KnowsSizes kind ns (done ++ v.node.children ∷ later)) nodes
          (subst (KnowsSizes kind (more ++ map visited_node rest)) (append_assoc done (v.node.children ∷ []) later)
          (knows_all kind rest more (done ++ v.node.children ∷ []) (seen + 1) inner long kept fits.1
          (knows_new kind before done v.node is (omega arith) knows)))
      | false ↦ λ other.
          let test : is_same_kind kind v.node.kind && nat_eq v.node.set (length done + 1)
          ≡ false = ap (λ n. is_same_kind kind v.node.kind && nat_eq v.node.set (n + 1)) (sym many) ∙ other in
          subst (λ ns. KnowsSizes kind ns (done ++ map (λ (w : Visit). w.node.children) (set_firsts kind seen rest))) nodes
          (knows_all kind rest more done seen inner many kept fits.1 (knows_later kind before done v.node inner keep fits.0 test knows))
    ] refl

-- the set sizes of a game tree are the numbers of children of its nodes, set by set
pub sizes_known : (tree : Forest) (kind : Kind) → IsGameTree tree → is_leaf_kind kind ≡ false
    → KnowsSizes kind (map visited_node (visits tree)) (set_sizes kind tree)
sizes_known tree kind game inner =
    let nodes : map visited_node (visits tree) ≡ prefix tree = map-visits_from (λ _. []) 1 tree in
    let keep : KeepFrom [] (map visited_node (visits tree)) = subst (KeepFrom []) (sym nodes) (KeepFrom-append [] (prefix tree) game.rules) in
    knows_all kind (visits tree) [] [] 0 inner refl (λ k e there. absurd (omega arith)) keep
    (record { count = refl; each = λ x there is. absurd (nothing_in x there) })
  where
    nothing_in : (x : Node) → Contains [] x → ⊥
    nothing_in x there = let h : there.0 < 0 = there.1 in absurd (omega arith)

sum-take-le : (xs : List ℕ) (i j : ℕ) → i ≤ j → sum (take i xs) ≤ sum (take j xs)
sum-take-le xs i j h = omega (arith, ap sum (take-take i j xs h), sum_by-take-le (λ x. x) (take j xs) i)

-- two sequences of one number end with one choice
pub record AreChoices (sizes : List ℕ) (set action : ℕ) : Type 0 where
  pub counts : 1 ≤ set
  pub known : set ≤ length sizes
  pub some : 1 ≤ action
  pub limit : action ≤ get_or sizes (set - 1) 0

below_next : (sizes : List ℕ) (s a t b : ℕ) → AreChoices sizes s a → AreChoices sizes t b → s < t
    → first_sequence sizes s + (a - 1) < first_sequence sizes t + (b - 1)
below_next sizes s a t b x y less =
    let counts : 1 ≤ s = x.counts in
    let known : s ≤ length sizes = x.known in
    let some : 1 ≤ a = x.some in
    let limit : a ≤ get_or sizes (s - 1) 0 = x.limit in
    let index : s - 1 + 1 ≡ s = omega arith in
    let block : sum (take (s - 1 + 1) sizes) ≡ sum (take (s - 1) sizes) + get_or sizes (s - 1) 0 = sum_by_more (λ n. n) sizes (s - 1) 0 (omega arith) in
    let upto : sum (take s sizes) ≤ sum (take (t - 1) sizes) = sum-take-le sizes s (t - 1) (omega arith) in
    omega (arith, ap (λ n. sum (take n sizes)) index)

pub same_choice : (sizes : List ℕ) (s a t b : ℕ) → AreChoices sizes s a → AreChoices sizes t b
    → first_sequence sizes s + (a - 1) ≡ first_sequence sizes t + (b - 1) → (s ≡ t) × (a ≡ b)
same_choice sizes s a t b x y same = elim (cases_lt s t) [
  | inl less ↦ absurd (omega (arith, below_next sizes s a t b x y less))
  | inr no_less ↦ elim (cases_lt t s) [
    | inl more ↦ absurd (omega (arith, below_next sizes t b s a y x more))
    | inr no_more ↦
        let sets : s ≡ t = omega arith in
        let some : 1 ≤ a = x.some in
        let some_too : 1 ≤ b = y.some in
        (sets, omega (arith, ap (λ n. sum (take (n - 1) sizes)) sets))
  ]
]

-- a node that was visited is a node of the tree
pub Contains-map : (xs : List Visit) (x : Visit) → Contains xs x → Contains (map visited_node xs) x.node
Contains-map xs x there =
    let h : there.0 < length xs = there.1 in
    (there.0, omega (arith, length-map xs visited_node), get_or-map visited_node xs there.0 x x.node h ∙ ap visited_node there.2)

-- the nodes before the n-th have the pasts that their sets ask for
abbrev pub RecallsUpTo : List Visit → ℕ → Type 0
RecallsUpTo all n = (p q : ℕ) (d : Visit) → p < q → q < n → q < length all → AgreeOnPast (get_or all p d) (get_or all q d)

record IsEarlierAt (all : List Visit) (i : ℕ) (v : Visit) (place : ℕ) : Type 0 where
  below : place < i
  there : place < length all
  is : get_or all place v ≡ v

place_in : (all : List Visit) (i : ℕ) (v : Visit) → Contains (take i all) v → (place : ℕ) × IsEarlierAt all i v place
place_in all i v there =
    let h : there.0 < length (take i all) = there.1 in
    let long : length (take i all) ≡ min i (length all) = length-take i all in
    (there.0, record { below = omega arith; there = omega arith; is = sym (get_or-take i all there.0 v (omega arith)) ∙ there.2 })

same_past : (all : List Visit) (n i j p q : ℕ) (v w : Visit) → RecallsUpTo all n → i ≤ n → j ≤ n → IsEarlierAt all i v p
    → IsEarlierAt all j w q → is_personal v.node.kind ≡ true → v.node.kind ≡ w.node.kind → v.node.set ≡ w.node.set
    → past v ≡ past w
same_past all n i j p q v w recall hi hj at_v at_w personal kinds sets =
    let below_v : p < i = at_v.below in
    let below_w : q < j = at_w.below in
    let is_w : get_or all q v ≡ w = get_or_default all q v w at_w.there ∙ at_w.is in
    let K : Visit → Visit → Type 0 = λ x y. is_personal x.node.kind ≡ true → x.node.kind ≡ y.node.kind → x.node.set ≡ y.node.set → past x ≡ past y in
    elim (cases_lt p q) [
      | inl before ↦ subst (λ y. K v y) is_w (subst (λ x. K x (get_or all q v)) at_v.is (recall p q v before (omega arith) at_w.there)) personal kinds sets
      | inr not_before ↦ elim (cases_lt q p) [
        | inl after ↦ sym (subst (λ y. K y v) is_w (subst (λ x. K (get_or all q v) x) at_v.is (recall q p v after (omega arith) at_v.there))
            (ap is_personal (sym kinds) ∙ personal) (sym kinds) (sym sets))
        | inr equal ↦
            let places : p ≡ q = omega arith in
            ap past (sym at_v.is ∙ ap (λ m. get_or all m v) places ∙ is_w)
      ]
    ]

-- a kind that is a player's isn't that of the leaves
pub inner_by : (kind : Kind) → is_personal kind ≡ true → is_leaf_kind kind ≡ false
inner_by Chance e = refl
inner_by One e = refl
inner_by Two e = refl
inner_by Leaf e = cc

-- a node that was visited is in a set that is known, with its size
pub size_held : (tree : Forest) (kind : Kind) → IsGameTree tree → is_leaf_kind kind ≡ false → (i : ℕ) (at : Visit)
    → Contains (take i (visits tree)) at → at.node.kind ≡ kind →
    (1 ≤ at.node.set) × (at.node.set ≤ length (set_sizes kind tree)) × (get_or (set_sizes kind tree) (at.node.set - 1) 0 ≡ at.node.children)
size_held tree kind game inner i at there is =
    let found = place_in (visits tree) i at there in (sizes_known tree kind game inner).each at.node
    (Contains-map (visits tree) at (found.0, found.1.there, found.1.is)) is

choice_known : (tree : Forest) (kind : Kind) → IsGameTree tree → is_leaf_kind kind ≡ false
    → (i : ℕ) (own : List Choice) (at : Visit) (action : ℕ) → LastChoice kind (take i (visits tree)) own at action
    → AreChoices (set_sizes kind tree) at.node.set action
choice_known tree kind game inner i own at action last =
    let held = size_held tree kind game inner i at last.there last.kinds in
    let size : get_or (set_sizes kind tree) (at.node.set - 1) 0 ≡ at.node.children = held.2 in
    let limit : action ≤ at.node.children = last.limit in
    record { counts = held.0; known = held.1; some = last.some; limit = omega arith }

-- where recall holds so far, equal numbers tell equal choices
pub choices_from_numbers : (tree : Forest) (kind : Kind) (n i j : ℕ) (d : Visit) → IsGameTree tree
    → is_personal kind ≡ true
    → RecallsUpTo (visits tree) n → i ≤ n → j ≤ n → i < length (visits tree) → j < length (visits tree) →
    sequence_at kind tree (get_or (visits tree) i d) ≡ sequence_at kind tree (get_or (visits tree) j d) → own_choices kind (get_or (visits tree) i d).path
    ≡ own_choices kind (get_or (visits tree) j d).path
choices_from_numbers tree kind n i j d game personal recall hi hj there_i there_j same =
    let all : List Visit = visits tree in
    let inner : is_leaf_kind kind ≡ false = inner_by kind personal in
    let seen : EachSeen [] all = visits_seen (λ _. []) 1 tree [] game.tree.children (λ a low high. tt) in
    shown (last_choice kind (take i all) (get_or all i d).path (seen_at [] all i d seen there_i))
    (last_choice kind (take j all) (get_or all j d).path (seen_at [] all j d seen there_j))
  where
    shown : (own_choices kind (get_or (visits tree) i d).path ≡ [])
        ⊎ ((at : Visit) × ((action : ℕ) × LastChoice kind (take i (visits tree)) (own_choices kind (get_or (visits tree) i d).path) at action))
        → (own_choices kind (get_or (visits tree) j d).path ≡ [])
        ⊎ ((at : Visit) × ((action : ℕ) × LastChoice kind (take j (visits tree)) (own_choices kind (get_or (visits tree) j d).path) at action))
        → own_choices kind (get_or (visits tree) i d).path ≡ own_choices kind (get_or (visits tree) j d).path
    shown (inl e) (inl f) = e ∙ sym f
    shown (inl e) (inr f) =
        let zero_is : sequence_at kind tree (get_or (visits tree) i d) ≡ 0 = ap (sequence_number (set_sizes kind tree)) e in
        let some : sequence_at kind tree (get_or (visits tree) j d) ≡ first_sequence (set_sizes kind tree) f.0.node.set
        + (f.1.0 - 1) = ap (sequence_number (set_sizes kind tree)) f.1.1.made in
        absurd (omega arith)
    shown (inr e) (inl f) =
        let zero_is : sequence_at kind tree (get_or (visits tree) j d) ≡ 0 = ap (sequence_number (set_sizes kind tree)) f in
        let some : sequence_at kind tree (get_or (visits tree) i d) ≡ first_sequence (set_sizes kind tree) e.0.node.set
        + (e.1.0 - 1) = ap (sequence_number (set_sizes kind tree)) e.1.1.made in
        absurd (omega arith)
    shown (inr e) (inr f) =
        let inner : is_leaf_kind kind ≡ false = inner_by kind personal in
        let number_i : sequence_at kind tree (get_or (visits tree) i d) ≡ first_sequence (set_sizes kind tree) e.0.node.set
        + (e.1.0 - 1) = ap (sequence_number (set_sizes kind tree)) e.1.1.made in
        let number_j : sequence_at kind tree (get_or (visits tree) j d) ≡ first_sequence (set_sizes kind tree) f.0.node.set
        + (f.1.0 - 1) = ap (sequence_number (set_sizes kind tree)) f.1.1.made in
        let one = same_choice (set_sizes kind tree) e.0.node.set e.1.0 f.0.node.set f.1.0
        (choice_known tree kind game inner i (own_choices kind (get_or (visits tree) i d).path) e.0 e.1.0 e.1.1)
        (choice_known tree kind game inner j (own_choices kind (get_or (visits tree) j d).path) f.0 f.1.0 f.1.1)
        (sym number_i ∙ same ∙ number_j) in
        let pasts : past e.0 ≡ past f.0 =
        same_past (visits tree) n i j (place_in (visits tree) i e.0 e.1.1.there).0 (place_in (visits tree) j f.0 f.1.1.there).0 e.0 f.0 recall hi hj
        (place_in (visits tree) i e.0 e.1.1.there).1 (place_in (visits tree) j f.0 f.1.1.there).1 (ap is_personal e.1.1.kinds ∙ personal)
        (e.1.1.kinds ∙ sym f.1.1.kinds) one.0 in
        e.1.1.made ∙ (λ k. record { set = one.0 k; action = one.1 k } ∷ pasts k) ∙ sym f.1.1.made

-- with perfect recall two sequences of a player have one number exactly where they are the same choices
pub numbers_tell : (tree : Forest) → IsGameTree tree → HasPerfectRecall tree → (kind : Kind) → is_personal kind ≡ true →
    AllPairs (λ v w. (sequence_at kind tree v ≡ sequence_at kind tree w) ↔ (own_choices kind v.path ≡ own_choices kind w.path)) (visits tree)
numbers_tell tree game recall kind personal i j d less there = (
  choices_from_numbers tree kind (length (visits tree)) i j d game personal (λ p q e before below within. recall p q e before within) (omega arith)
      (omega arith) (omega arith) there,
  ap (sequence_number (set_sizes kind tree)),
)
