-- Each set's first node and the next nodes after it are the nodes of the set.
use Rattle.std.proofs.Common.{◌≡◌, ℕ, zero, suc, ◌+◌, ◌-◌, ◌<◌, ◌≤◌, true, false, cond, List, [], ◌∷◌, length, get_or, map, refl, ap, sym, subst, ◌∙◌, arith}
use Rattle.std.proofs.Common.{Some, None, slice_get}
use Rattle.std.specs.Prelude.{All, AllPairs, Option, filter}
use Rattle.std.specs.List.{enumerate_from}
use Rattle.std.proofs.lemmas.List.{get_or-map, length-map}
use Rattle.std.proofs.lemmas.List.Kept.{AllPairs-cons}
use Rattle.std.proofs.lemmas.Option.{slice_get-get_or}
use Rattle.def_tree.specs.declared.Kind.{Kind}
use Rattle.def_tree.specs.declared.Kind.TheVariants.{One, Two}
use Rattle.def_tree.specs.declared.Node.{Node}
use Rattle.def_tree.specs.Tree.{Forest, is_leaf_kind, prefix}
use Rattle.def_tree.specs.Rules.{IsGameTree, set_count}
use Rattle.def_game_paths.specs.Paths.{Visit, visits}
use Rattle.def_game_paths.specs.Recall.{first_of_set, is_personal, is_same_set}
use Rattle.def_game_paths.specs.Sequences.{set_firsts}
use Rattle.def_game_paths.proofs.Breaks.{same_set}
use Rattle.def_game_paths.proofs.Coming.{length-visits}
use Rattle.def_game_paths.proofs.Counts.{sequences_are_few}
use Rattle.def_game_paths.proofs.Firsts.{firsts_are_first}
use Rattle.def_sequence_form.specs.Sets.{first_nodes, first_number, next_numbers, number_found, number_or_zero, sets_with_nodes}
use Rattle.def_sequence_form.specs.SetNodes.{PlayerSetsListNodes, SetsListTheirNodes, is_in_set, nodes_of_set}
use Rattle.def_sequence_form.proofs.Sets.{set_of_visit}

-- the numbers of a set's nodes among these, of which the first has this number
abbrev numbers_from : Kind → ℕ → ℕ → List Visit → List ℕ
numbers_from kind set k vs = map (λ n. n.0) (filter (λ n. is_in_set kind set n.1) (enumerate_from k vs))

-- what a search for the first node of a node's set finds is the first of the set's numbers
found_first : (k : ℕ) (x : Node) (vs : List Visit)
    → number_found (first_of_set k x vs) ≡ slice_get (numbers_from x.kind x.set k vs) 0
found_first k x [] = refl
found_first k x (v ∷ rest) =
    elim (is_same_set v.node x) as (λ b. number_found (cond b (Some (record { number = k; visit = v })) (first_of_set (k + 1) x rest))
    ≡ slice_get (map (λ n. n.0) (cond b ((k, v) ∷ filter (λ n. is_in_set x.kind x.set n.1) (enumerate_from (k + 1) rest))
    (filter (λ n. is_in_set x.kind x.set n.1) (enumerate_from (k + 1) rest)))) 0) [
      | true ↦ refl
      | false ↦ found_first (k + 1) x rest
    ]

module _ (kind : Kind) (set : ℕ) (personal : is_personal kind ≡ true) where
  abbrev numbers : ℕ → List Visit → List ℕ
  numbers k vs = numbers_from kind set k vs

  numbers_cons : (k : ℕ) (v : Visit) (rest : List Visit)
      → numbers k (v ∷ rest) ≡ cond (is_in_set kind set v) (k ∷ numbers (k + 1) rest) (numbers (k + 1) rest)
  numbers_cons k v rest =
      elim (is_in_set kind set v) as (λ b. map (λ n. n.0) (cond b ((k, v) ∷ filter (λ n. is_in_set kind set n.1) (enumerate_from (k + 1) rest))
      (filter (λ n. is_in_set kind set n.1) (enumerate_from (k + 1) rest)))
      ≡ cond b (k ∷ numbers (k + 1) rest) (numbers (k + 1) rest)) [
        | true ↦ refl
        | false ↦ refl
      ]

  below_all : (k : ℕ) (ns : List ℕ) → All (λ n. k + 1 ≤ n) ns → All (λ n. k ≤ n) (k ∷ ns)
  below_all k ns above zero d there = omega arith
  below_all k ns above (suc j) d there = let h = above j d (omega arith) in omega arith

  not_below : (k : ℕ) (vs : List Visit) → All (λ n. k ≤ n) (numbers k vs)
  not_below k [] = λ j d there. absurd (omega arith)
  not_below k (v ∷ rest) =
      subst (All (λ n. k ≤ n)) (sym (numbers_cons k v rest))
      (elim (is_in_set kind set v) as (λ b. All (λ n. k ≤ n) (cond b (k ∷ numbers (k + 1) rest) (numbers (k + 1) rest))) [
        | true ↦ below_all k (numbers (k + 1) rest) (not_below (k + 1) rest)
        | false ↦ λ j d there. let h = not_below (k + 1) rest j d there in omega arith
      ])

  rising : (k : ℕ) (vs : List Visit) → AllPairs (λ m n. m < n) (numbers k vs)
  rising k [] = λ i j d below there. absurd (omega arith)
  rising k (v ∷ rest) =
      subst (AllPairs (λ m n. m < n)) (sym (numbers_cons k v rest))
      (elim (is_in_set kind set v) as (λ b. AllPairs (λ m n. m < n) (cond b (k ∷ numbers (k + 1) rest) (numbers (k + 1) rest))) [
        | true ↦ AllPairs-cons (λ m n. m < n) k (numbers (k + 1) rest) (λ j d there. let h = not_below (k + 1) rest j d there in omega arith)
            (rising (k + 1) rest)
        | false ↦ rising (k + 1) rest
      ])

  -- after each of a set's nodes comes the next one
  abbrev NextAt : ℕ → List Visit → List ℕ → Type 0
  NextAt k vs ns = (j : ℕ) → j < length ns → (k ≤ get_or ns j 0) × (slice_get (next_numbers k vs) (get_or ns j 0 - k) ≡ Some (slice_get ns (j + 1)))

  next_later : (k : ℕ) (v : Visit) (rest : List Visit) (n : ℕ) (o : Option ℕ) → k + 1 ≤ n
      → slice_get (next_numbers (k + 1) rest) (n - (k + 1)) ≡ Some o
      → slice_get (next_numbers k (v ∷ rest)) (n - k) ≡ Some o
  next_later k v rest n o far h =
      let place : n - k ≡ suc (n - (k + 1)) = omega arith in
      ap (slice_get (next_numbers k (v ∷ rest))) place ∙ h

  with_head : (k : ℕ) (v : Visit) (rest : List Visit) → is_in_set kind set v ≡ true
      → NextAt (k + 1) rest (numbers (k + 1) rest)
      → NextAt k (v ∷ rest) (k ∷ numbers (k + 1) rest)
  with_head k v rest here later zero there =
      let alike = same_set v.node (record v.node { kind = kind; set = set }) here in
      let place : k - k ≡ 0 = omega arith in
      let is_personal_here : is_personal v.node.kind ≡ true = ap is_personal alike.0 ∙ personal in (
        omega arith,
        ap (slice_get (next_numbers k (v ∷ rest))) place
            ∙ ap (λ b. Some (cond b (number_found (first_of_set (k + 1) v.node rest)) None)) is_personal_here
            ∙ ap Some (found_first (k + 1) v.node rest)
            ∙ (λ i. Some (slice_get (numbers_from (alike.0 i) (alike.1 i) (k + 1) rest) 0)),
      )
  with_head k v rest here later (suc j) there =
      let h = later j (omega arith) in
      let on : suc (j + 1) ≡ suc j + 1 = omega arith in (
        omega arith,
        next_later k v rest (get_or (numbers (k + 1) rest) j 0) (slice_get (numbers (k + 1) rest) (j + 1)) h.0 h.1
            ∙ ap (λ i. Some (slice_get (k ∷ numbers (k + 1) rest) i)) on,
      )

  next_at : (k : ℕ) (vs : List Visit) → NextAt k vs (numbers k vs)
  next_at k [] = λ j there. absurd (omega arith)
  next_at k (v ∷ rest) =
      subst (NextAt k (v ∷ rest)) (sym (numbers_cons k v rest))
      (elim (is_in_set kind set v) as (λ b. is_in_set kind set v ≡ b → NextAt k (v ∷ rest) (cond b (k ∷ numbers (k + 1) rest) (numbers (k + 1) rest))) [
        | true ↦ λ here. with_head k v rest here (next_at (k + 1) rest)
        | false ↦ λ other j there.
            let h = next_at (k + 1) rest j there in
            (omega arith, next_later k v rest (get_or (numbers (k + 1) rest) j 0) (slice_get (numbers (k + 1) rest) (j + 1)) h.0 h.1)
      ] refl)

length-next_numbers : (k : ℕ) (vs : List Visit) → length (next_numbers k vs) ≡ length vs
length-next_numbers k [] = refl
length-next_numbers k (v ∷ rest) = ap suc (length-next_numbers (k + 1) rest)

none_at : (k : ℕ) (vs : List Visit) (i : ℕ) (d : Visit) → i < length vs
    → is_personal (get_or vs i d).node.kind ≡ false
    → slice_get (next_numbers k vs) i ≡ Some None
none_at k [] i d there other = absurd (omega arith)
none_at k (v ∷ rest) zero d there other = ap (λ b. Some (cond b (number_found (first_of_set (k + 1) v.node rest)) None)) other
none_at k (v ∷ rest) (suc i) d there other = none_at (k + 1) rest i d (omega arith) other

module _ (tree : Forest) (game : IsGameTree tree) (kind : Kind) (personal : is_personal kind ≡ true)
    (inner : is_leaf_kind kind ≡ false) where
  abbrev firsts : List Visit
  firsts = set_firsts kind 0 (visits tree)

  first_is : (set : ℕ) → 1 ≤ set → set ≤ length firsts
      → slice_get (first_nodes kind tree) (set - 1) ≡ slice_get (nodes_of_set kind set tree) 0
      × (1 ≤ length (nodes_of_set kind set tree))
  first_is set counts known =
      let few = sequences_are_few tree game kind inner in
      let d : Visit = record { path = []; node = record { kind = kind; set = 0; outcome = 0; children = 0 } } in
      let many : length firsts ≡ set_count kind (prefix tree) = sym (length-map firsts (λ (w : Visit). w.node.children)) ∙ few.sets in
      let first = firsts_are_first tree game kind inner (set - 1) d (omega arith) in
      let f : Visit = get_or firsts (set - 1) d in
      let number : set - 1 + 1 ≡ set = omega arith in
      let found : first_of_set 1 f.node (visits tree) ≡ Some (record { number = first.first.0; visit = f }) = first.first.1 in
      let sets : f.node.set ≡ set = first.sets ∙ number in
      let listed : slice_get (nodes_of_set kind set tree) 0 ≡ Some first.first.0 =
      (λ i. slice_get (numbers_from (sym first.kinds i) (sym sets i) 1 (visits tree)) 0) ∙ sym (found_first 1 f.node (visits tree)) ∙ ap number_found found in (
        slice_get-get_or (first_nodes kind tree) (set - 1) 0 (omega (arith, length-map firsts (first_number tree)))
            ∙ ap Some (get_or-map (first_number tree) firsts (set - 1) d 0 (omega arith) ∙ ap number_or_zero found) ∙ sym listed,
        is_some (nodes_of_set kind set tree) first.first.0 listed,
      )
    where
      is_some : (ns : List ℕ) (n : ℕ) → slice_get ns 0 ≡ Some n → 1 ≤ length ns
      is_some [] n e = cc
      is_some (m ∷ ns) n e = omega arith

  lists_nodes : PlayerSetsListNodes tree kind (sets_with_nodes kind tree)
  lists_nodes = record {
    count = length-map firsts (first_number tree) ∙ sym (length-map firsts (set_of_visit kind tree));
    lists = λ set counts known.
        let here : set ≤ length firsts = omega (arith, length-map firsts (set_of_visit kind tree)) in
        let first = first_is set counts here in
        record {
          some = first.1;
          rising = rising kind set personal 1 (visits tree);
          first = first.0;
          next = λ j there. (next_at kind set personal 1 (visits tree) j there).1;
        };
  }

-- a set's first node and the next nodes after it are exactly the set's nodes
pub sets_list_their_nodes : SetsListTheirNodes
sets_list_their_nodes = record {
  one = λ tree game. lists_nodes tree game One refl refl;
  two = λ tree game. lists_nodes tree game Two refl refl;
  count = λ tree. length-next_numbers 1 (visits tree) ∙ length-visits tree;
  others = λ tree k d there other. none_at 1 (visits tree) k d (omega (arith, length-visits tree)) other;
}
