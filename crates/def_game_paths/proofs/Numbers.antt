-- The nodes before a node tell the number of its sequence, and comparing numbers finds the first break of recall.
use Rattle.std.proofs.Common.{◌≡◌, ℕ, suc, ◌+◌, ◌-◌, ◌<◌, ◌≤◌, true, false, cond, not, ◌&&◌, List, [], ◌∷◌, ◌++◌, length, get_or, take, drop, map, refl, ap}
use Rattle.std.proofs.Common.{sym, subst, ◌∙◌, arith, inl, inr, ◌⊎◌, Some, None}
use Rattle.std.specs.Prelude.{Option, nat_eq, sum, Contains}
use Rattle.std.proofs.lemmas.Bool.{cases_lt, eq-eqb, ne_eqb}
use Rattle.std.proofs.lemmas.List.{get_or_default, map-append, take-append-drop, take-append-le}
use Rattle.def_tree.specs.declared.Kind.{Kind}
use Rattle.def_tree.specs.declared.Kind.TheVariants.{Leaf}
use Rattle.def_tree.specs.declared.Node.{Node}
use Rattle.def_tree.specs.Tree.{Forest, prefix, is_leaf_kind}
use Rattle.def_tree.specs.Rules.{is_same_kind, IsGameTree}
use Rattle.def_game_paths.specs.Paths.{Visit, visits, Choice, own_choices}
use Rattle.def_game_paths.specs.Recall.{AgreeOnPast, Numbered, RecallBreak, break_against, break_or, differ_in_past, first_break, first_of_set, is_personal}
use Rattle.def_game_paths.specs.Recall.{is_same_choices, is_same_set, past}
use Rattle.def_game_paths.specs.Sequences.{NumbersAreKnownOnTheWay, NumbersFindTheBreak, differ_in_number, sequence_at, sequence_number, set_firsts, set_sizes}
use Rattle.def_game_paths.specs.Sequences.{sizes_so_far}
use Rattle.def_game_paths.proofs.Visits.{map-visits_from}
use Rattle.def_game_paths.proofs.Order.{visited_node, KeepFrom, KeepFrom-append, KnowsSizes}
use Rattle.def_game_paths.proofs.Breaks.{HasFirst, first_found, is_same_choices_refl, is_same_set_by, no_break_some, same_choices, same_set}
use Rattle.def_game_paths.proofs.Ancestors.{Contains-map, LastChoice, RecallsUpTo, choices_from_numbers, knows_all, last_choice, parents_come_before}

-- Numbers that are known on the way.
pub set_firsts-append : (kind : Kind) (seen : ℕ) (xs ys : List Visit)
    → set_firsts kind seen (xs ++ ys)
    ≡ set_firsts kind seen xs ++ set_firsts kind (seen + length (set_firsts kind seen xs)) ys
set_firsts-append kind seen [] ys = let same : seen ≡ seen + 0 = omega arith in ap (λ n. set_firsts kind n ys) same
set_firsts-append kind seen (x ∷ xs) ys =
    elim (is_same_kind kind x.node.kind && nat_eq x.node.set (seen + 1)) as (λ b.
    cond b (x ∷ set_firsts kind (seen + 1) (xs ++ ys)) (set_firsts kind seen (xs ++ ys))
    ≡ cond b (x ∷ set_firsts kind (seen + 1) xs) (set_firsts kind seen xs)
    ++ set_firsts kind (seen + length (cond b (x ∷ set_firsts kind (seen + 1) xs) (set_firsts kind seen xs))) ys) [
      | true ↦
          let far : seen + 1 + length (set_firsts kind (seen + 1) xs) ≡ seen + suc (length (set_firsts kind (seen + 1) xs)) = omega arith in
          ap (λ vs. x ∷ vs) (set_firsts-append kind (seen + 1) xs ys ∙ ap (λ n. set_firsts kind (seen + 1) xs ++ set_firsts kind n ys) far)
      | false ↦ set_firsts-append kind seen xs ys
    ]

-- the sizes of the first nodes' sets stand first
pub sizes_front : (kind : Kind) (k : ℕ) (vs : List Visit)
    → (later : List ℕ) × (sizes_so_far kind vs ≡ sizes_so_far kind (take k vs) ++ later)
sizes_front kind k vs =
    let xs : List Visit = take k vs in
    let rest : List Visit = set_firsts kind (0 + length (set_firsts kind 0 xs)) (drop k vs) in (
      map (λ v. v.node.children) rest,
      ap (sizes_so_far kind) (sym (take-append-drop k vs)) ∙ ap (map (λ v. v.node.children)) (set_firsts-append kind 0 xs (drop k vs))
          ∙ map-append (λ v. v.node.children) (set_firsts kind 0 xs) rest,
    )

KeepFrom-front : (before xs ys : List Node) → KeepFrom before (xs ++ ys) → KeepFrom before xs
KeepFrom-front before [] ys keep = tt
KeepFrom-front before (x ∷ xs) ys keep = (keep.0, KeepFrom-front (before ++ x ∷ []) xs ys keep.1)

-- the sizes of the sets so far are known
pub known_so_far : (tree : Forest) (kind : Kind) → IsGameTree tree → is_leaf_kind kind ≡ false → (k : ℕ)
    → KnowsSizes kind (map visited_node (take k (visits tree))) (sizes_so_far kind (take k (visits tree)))
known_so_far tree kind game inner k =
    let all : List Visit = visits tree in
    let nodes : map visited_node (take k all) ++ map visited_node (drop k all) ≡ prefix tree = sym (map-append visited_node (take k all) (drop k all))
    ∙ ap (map visited_node) (take-append-drop k all) ∙ map-visits_from (λ _. []) 1 tree in
    let keep : KeepFrom [] (map visited_node (take k all)) =
    KeepFrom-front [] (map visited_node (take k all)) (map visited_node (drop k all))
    (subst (KeepFrom []) (sym nodes) (KeepFrom-append [] (prefix tree) game.rules)) in
    knows_all kind (take k all) [] [] 0 inner refl (λ i e there. absurd (omega arith)) keep
    (record { count = refl; each = λ x there is. absurd (nothing_in x there) })
  where
    nothing_in : (x : Node) → Contains [] x → ⊥
    nothing_in x there = let h : there.0 < 0 = there.1 in absurd (omega arith)

same_number : (kind : Kind) (before : List Visit) (done later : List ℕ) (own : List Choice)
    → KnowsSizes kind (map visited_node before) done →
    (own ≡ []) ⊎ ((at : Visit) × ((action : ℕ) × LastChoice kind before own at action)) → sequence_number done own ≡ sequence_number (done ++ later) own
same_number kind before done later own knows (inl none) = ap (sequence_number done) none ∙ sym (ap (sequence_number (done ++ later)) none)
same_number kind before done later own knows (inr last) =
    let at : Visit = last.0 in
    let held = knows.each at.node (Contains-map before at last.1.1.there) last.1.1.kinds in
    let known : at.node.set ≤ length done = held.1 in
    let front : take (at.node.set - 1) (done ++ later) ≡ take (at.node.set - 1) done = take-append-le (at.node.set - 1) done later (omega arith) in
    ap (sequence_number done) last.1.1.made ∙ ap (λ xs. 1 + sum xs + (last.1.0 - 1)) (sym front) ∙ sym (ap (sequence_number (done ++ later)) last.1.1.made)

-- a sequence's number is known once its node is reached: the sets of the nodes before it tell it
pub numbers_are_known_on_the_way : NumbersAreKnownOnTheWay
numbers_are_known_on_the_way tree game kind inner k d there =
    let all : List Visit = visits tree in
    let v : Visit = get_or all k d in
    let front = sizes_front kind k all in
    same_number kind (take k all) (sizes_so_far kind (take k all)) front.0 (own_choices kind v.path) (known_so_far tree kind game inner k)
    (last_choice kind (take k all) v.path (parents_come_before tree game.tree k d there))
    ∙ ap (λ sizes. sequence_number sizes (own_choices kind v.path)) (sym front.1)

-- Breaks of recall by numbers.

same_test : (xs ys : List Choice) (m n : ℕ) → (xs ≡ ys → m ≡ n) → (m ≡ n → xs ≡ ys) → nat_eq m n ≡ is_same_choices xs ys
same_test xs ys m n there back =
    elim (is_same_choices xs ys) as (λ b. is_same_choices xs ys ≡ b → nat_eq m n ≡ b) [
      | true ↦ λ same. eq-eqb m n (there (same_choices xs ys same))
      | false ↦ λ differs. ne_eqb m n (λ e.
          let yes : is_same_choices xs ys ≡ true = ap (is_same_choices xs) (sym (back e)) ∙ is_same_choices_refl xs in
          apart (sym yes ∙ differs))
    ] refl
  where
    apart : true ≡ false → ⊥
    apart e = cc e

-- the first node of a node's set comes no later than any node of the set
pub not_behind : (all : List Visit) (node : Node) (d : Visit) (first : Numbered)
    (found : HasFirst 1 node all d (Some first)) (j : ℕ)
    → is_same_set (get_or all j d).node node ≡ true → found.0 ≤ j
not_behind all node d first found j same = elim (cases_lt j found.0) [
  | inl before ↦ absurd (apart (sym same ∙ found.1.before j before))
  | inr after ↦ after
]
  where
    apart : true ≡ false → ⊥
    apart e = cc e

module _ (tree : Forest) (game : IsGameTree tree) where
  -- where recall holds for the nodes before, the two tests of a node against an earlier one agree
  tests_agree : (i p : ℕ) (d : Visit) → p ≤ i → i < length (visits tree) → RecallsUpTo (visits tree) i
      → (get_or (visits tree) p d).node.kind ≡ (get_or (visits tree) i d).node.kind →
      is_personal (get_or (visits tree) i d).node.kind ≡ true → differ_in_number tree (get_or (visits tree) p d) (get_or (visits tree) i d)
      ≡ differ_in_past (get_or (visits tree) p d) (get_or (visits tree) i d)
  tests_agree i p d below there recall kinds personal =
      let w : Visit = get_or (visits tree) p d in
      let v : Visit = get_or (visits tree) i d in
      let number_w : sequence_at w.node.kind tree w ≡ sequence_at v.node.kind tree w = ap (λ k. sequence_at k tree w) kinds in
      let past_w : past w ≡ own_choices v.node.kind w.path = ap (λ k. own_choices k w.path) kinds in
      ap not (same_test (past w) (past v) (sequence_at w.node.kind tree w) (sequence_at v.node.kind tree v)
      (λ same. number_w ∙ ap (sequence_number (set_sizes v.node.kind tree)) (sym past_w ∙ same))
      (λ same. past_w ∙ choices_from_numbers tree v.node.kind i p i d game personal recall below (omega arith) (omega arith) there (sym number_w ∙ same)))

  against_agree : (i : ℕ) (d : Visit) (o : Option Numbered) → i < length (visits tree) → RecallsUpTo (visits tree) i
      → HasFirst 1 (get_or (visits tree) i d).node (visits tree) d o →
      break_against (differ_in_number tree) (1 + i) (get_or (visits tree) i d) o ≡ break_against differ_in_past (1 + i) (get_or (visits tree) i d) o
  against_agree i d None there recall found = refl
  against_agree i d (Some first) there recall found =
      let all : List Visit = visits tree in
      let v : Visit = get_or all i d in
      let broken : Option RecallBreak = Some (record { node = 1 + i; earlier = first.number }) in
      let early : found.0 ≤ i = not_behind all v.node d first found i (is_same_set_by v.node v.node refl refl) in
      let alike = same_set first.visit.node v.node found.1.same in
      let kinds : (get_or all found.0 d).node.kind ≡ v.node.kind = ap (λ x. x.node.kind) (sym found.1.visit) ∙ alike.0 in
      elim (is_personal v.node.kind) as (λ b. is_personal v.node.kind ≡ b → cond (b && differ_in_number tree first.visit v) broken None
      ≡ cond (b && differ_in_past first.visit v) broken None) [
        | true ↦ λ personal. ap (λ b. cond b broken None) (subst (λ w. differ_in_number tree w v ≡ differ_in_past w v) (sym found.1.visit)
            (tests_agree i found.0 d early there recall kinds personal))
        | false ↦ λ not_personal. refl
      ] refl

  -- where a node doesn't break recall, it holds up to the node
  one_more : (i : ℕ) (d : Visit) (o : Option Numbered) → i < length (visits tree) → RecallsUpTo (visits tree) i
      → HasFirst 1 (get_or (visits tree) i d).node (visits tree) d o →
      break_against differ_in_past (1 + i) (get_or (visits tree) i d) o ≡ None → (p : ℕ) → p < i
      → AgreeOnPast (get_or (visits tree) p d) (get_or (visits tree) i d)
  one_more i d None there recall found none p below personal kinds sets =
      let yes : is_same_set (get_or (visits tree) p d).node (get_or (visits tree) i d).node
      ≡ true = is_same_set_by (get_or (visits tree) p d).node (get_or (visits tree) i d).node kinds sets in
      absurd (apart (sym yes ∙ found p (omega arith)))
    where
      apart : true ≡ false → ⊥
      apart e = cc e
  one_more i d (Some first) there recall found none p below personal kinds sets =
      let all : List Visit = visits tree in
      let v : Visit = get_or all i d in
      let w : Visit = get_or all p d in
      let u : Visit = get_or all found.0 d in
      let early : found.0 ≤ p = not_behind all v.node d first found p (is_same_set_by w.node v.node kinds sets) in
      let alike = same_set first.visit.node v.node found.1.same in
      let kinds_u : u.node.kind ≡ w.node.kind = ap (λ x. x.node.kind) (sym found.1.visit) ∙ alike.0 ∙ sym kinds in
      let sets_u : u.node.set ≡ w.node.set = ap (λ x. x.node.set) (sym found.1.visit) ∙ alike.1 ∙ sym sets in
      let from_first : past u ≡ past v = ap past (sym found.1.visit) ∙ no_break_some (1 + i) v first none (ap is_personal (sym kinds) ∙ personal) in
      elim (cases_lt found.0 p) [
        | inl before ↦ sym (recall found.0 p d before below (omega arith) (ap is_personal kinds_u ∙ personal) kinds_u sets_u) ∙ from_first
        | inr not_before ↦
            let same : p ≡ found.0 = omega arith in
            ap (λ n. past (get_or all n d)) same ∙ from_first
      ]

  recalls_more : (i : ℕ) (d : Visit) (o : Option Numbered) → i < length (visits tree) → RecallsUpTo (visits tree) i
      → HasFirst 1 (get_or (visits tree) i d).node (visits tree) d o →
      break_against differ_in_past (1 + i) (get_or (visits tree) i d) o ≡ None → RecallsUpTo (visits tree) (suc i)
  recalls_more i d o there recall found none p q e less below inside =
      let all : List Visit = visits tree in
      elim (cases_lt q i) [
        | inl before ↦ recall p q e less before inside
        | inr not_before ↦
            let last : i ≡ q = omega arith in
            subst (λ n. AgreeOnPast (get_or all p e) (get_or all n e)) last
            (subst (λ w. AgreeOnPast w (get_or all i e)) (get_or_default all p d e (omega arith))
            (subst (AgreeOnPast (get_or all p d)) (get_or_default all i d e there) (one_more i d o there recall found none p (omega arith))))
      ]

  -- the two scans agree from a node on, where recall holds for the nodes before it
  scans_agree : (i : ℕ) (rest : List Visit) (d : Visit) → i + length rest ≡ length (visits tree)
      → ((j : ℕ) → j < length rest → get_or rest j d ≡ get_or (visits tree) (i + j) d) → RecallsUpTo (visits tree) i →
      first_break (differ_in_number tree) (visits tree) (1 + i) rest ≡ first_break differ_in_past (visits tree) (1 + i) rest
  scans_agree i [] d long at recall = refl
  scans_agree i (v ∷ rest) d long at recall =
      let all : List Visit = visits tree in
      let here : i + 0 ≡ i = omega arith in
      let is : get_or all i d ≡ v = ap (λ n. get_or all n d) (sym here) ∙ sym (at 0 (omega arith)) in
      let Agrees : Visit → Type 0 = λ w.
      (break_against (differ_in_number tree) (1 + i) w (first_of_set 1 w.node all) ≡ break_against differ_in_past (1 + i) w (first_of_set 1 w.node all))
      × (break_against differ_in_past (1 + i) w (first_of_set 1 w.node all) ≡ None → RecallsUpTo all (suc i)) in
      let found : HasFirst 1 (get_or all i d).node all d (first_of_set 1 (get_or all i d).node all) = first_found 1 (get_or all i d).node all d in
      let agrees : Agrees v =
      subst Agrees is (
        against_agree i d (first_of_set 1 (get_or all i d).node all) (omega arith) recall found,
        recalls_more i d (first_of_set 1 (get_or all i d).node all) (omega arith) recall found,
      ) in
      let next : 1 + i + 1 ≡ 1 + suc i = omega arith in
      ap (λ o. break_or o (first_break (differ_in_number tree) all (1 + i + 1) rest)) agrees.0
      ∙ elim (break_against differ_in_past (1 + i) v (first_of_set 1 v.node all)) as
      (λ o. break_against differ_in_past (1 + i) v (first_of_set 1 v.node all) ≡ o →
      break_or o (first_break (differ_in_number tree) all (1 + i + 1) rest) ≡ break_or o (first_break differ_in_past all (1 + i + 1) rest)) [
        | None ↦ λ none.
            ap (λ n. first_break (differ_in_number tree) all n rest) next
            ∙ scans_agree (suc i) rest d (omega arith) (λ j below. let far : i + suc j ≡ suc i + j = omega arith in at (suc j) (omega arith)
            ∙ ap (λ n. get_or all n d) far) (agrees.1 none)
            ∙ sym (ap (λ n. first_break differ_in_past all n rest) next)
        | Some broken ↦ λ is_broken. refl
      ] refl

-- comparing sequences by their numbers finds the same break of recall as comparing choices
pub numbers_find_the_break : NumbersFindTheBreak
numbers_find_the_break tree game =
    let d : Visit = record { path = []; node = record { kind = Leaf; set = 0; outcome = 0; children = 0 } } in
    scans_agree tree game 0 (visits tree) d (omega arith) (λ j below. let same : j ≡ 0 + j = omega arith in ap (λ n. get_or (visits tree) n d) same)
    (λ p q e less below inside. absurd (omega arith))
