-- A node is noted in its set's row, or begins the next set; and recall breaks there exactly where the row says so.
use Rattle.std.proofs.Common.{◌≡◌, ◌≢◌, ℕ, ◌+◌, ◌-◌, ◌^◌, ◌<◌, ◌≤◌, Bool, true, false, cond, not, ◌&&◌, List, [], ◌∷◌, ◌++◌, length, get_or, take, drop, map}
use Rattle.std.proofs.Common.{set, refl, ap, sym, subst, ◌∙◌, arith, inl, inr, Some, None, Ok, Err, append-nil, length-append, slice_get}
use Rattle.std.specs.Prelude.{Option, Result, nat_eq, sum}
use Rattle.std.proofs.lemmas.Bool.{cases_lt, eq-eqb, ne_eqb}
use Rattle.std.proofs.lemmas.List.{length-map, length-take, map-append, take-append-drop}
use Rattle.std.proofs.lemmas.List.Elements.{Contains-get_or}
use Rattle.std.proofs.lemmas.List.Sums.{sum_by-append, sum_by-cons}
use Rattle.std.proofs.lemmas.Option.{get_or_from_slice_get, slice_get-get_or, slice_get_past}
use Rattle.std.proofs.Math.ListN.{get_or-append}
use Rattle.std.proofs.Math.Seq.{get_or-append_seam, take-append_seam}
use Rattle.def_tree.specs.declared.Kind.{Kind}
use Rattle.def_tree.specs.declared.Kind.TheVariants.{Chance, One, Two, Leaf}
use Rattle.def_tree.specs.declared.Node.{Node}
use Rattle.def_tree.specs.Tree.{Forest, is_leaf_kind, node_count, prefix}
use Rattle.def_tree.specs.Rules.{FitsAs, IsGameTree, JoinsSet, is_same_kind, set_count}
use Rattle.def_tree.proofs.Sets.{children-le, is_same_kind-true, is_same_kind_self}
use Rattle.def_game_paths.specs.Coming.{visit_after}
use Rattle.def_game_paths.specs.Paths.{Visit, visits}
use Rattle.def_game_paths.specs.Recall.{Numbered, RecallBreak, break_against, break_or, first_break, first_of_set, is_personal, is_same_set}
use Rattle.def_game_paths.specs.Sequences.{differ_in_number, first_sequence, number_break, sequence_at, set_firsts, set_sizes, sizes_so_far}
use Rattle.def_game_paths.proofs.Ancestors.{Contains-map}
use Rattle.def_game_paths.proofs.Breaks.{is_same_set_by, same_set}
use Rattle.def_game_paths.proofs.Counts.{sequences_are_few}
use Rattle.def_game_paths.proofs.Firsts.{and_false, other_kind, other_number}
use Rattle.def_game_paths.proofs.Numbers.{known_so_far, set_firsts-append, sizes_front}
use Rattle.def_game_paths.proofs.Order.{KnowsSizes, joins_of, visited_node}
use Rattle.def_game_paths.proofs.Coming.{IsNext, next_node, next_visit}
use Rattle.def_sequence_form.specs.Sets.{first_number, next_numbers, number_or_zero}
use Rattle.def_sequence_form.specs.SetNodes.{is_in_set}
use Rattle.def_sequence_form.proofs.Sets.{set_of_visit}
use Rattle.xg_sets.specs.declared.building.RecallFault.{RecallFault}
use Rattle.xg_sets.specs.declared.building.RecallFault.TheVariants.{NotRecall, NoMemory}
use Rattle.xg_sets.specs.declared.movers.Sequences.{Sequences}
use Rattle.xg_sets.specs.declared.table.FoundSet.{FoundSet}
use Rattle.xg_sets.specs.Entered.{AreAt, AreAtFirstChild, AreTablesOf, FindsBreak, IsAtFirstChild, IsFirstNode, IsLastNode, IsRowOf, IsTableUpTo}
use Rattle.xg_sets.specs.Table.{BeginsSet, JoinsRow, LastIsThere, Notes, NotesIn, SetsUpTo, with_last, with_set}
use Rattle.xg_sets.specs.OfPlayer.{set_in_row}
use Rattle.xg_sets.proofs.NextNodeLemmas.{apart, each_row, first_after, joined_numbers, last_kept, last_new, length-next_numbers, map_kept, not_true, other_way}
use Rattle.xg_sets.proofs.NextNodeLemmas.{quiet_numbers}

abbrev pub put : SetsUpTo → ℕ → SetsUpTo
put table sequence = record table { at_nodes = table.at_nodes ++ sequence ∷ [] }

abbrev no_row : FoundSet
no_row = record { first = 0; before = 0; actions = 0; node = 0; last = 0 }

not_read : (rows : List FoundSet) (i : ℕ) → slice_get rows i ≡ None → length rows ≤ i
not_read rows i e = elim (cases_lt i (length rows)) [
  | inl below ↦ let no : Some (get_or rows i no_row) ≡ None = sym (slice_get-get_or rows i no_row below) ∙ e in cc no
  | inr past ↦ omega arith
]

is_read : (rows : List FoundSet) (i : ℕ) (row : FoundSet) → slice_get rows i ≡ Some row → i < length rows
is_read rows i row e = elim (cases_lt i (length rows)) [
  | inl below ↦ below
  | inr past ↦ let no : None ≡ Some row = sym (slice_get_past rows i (omega arith)) ∙ e in cc no
]

module _ (tree : Forest) (kind : Kind) (game : IsGameTree tree) (inner : is_leaf_kind kind ≡ false) (n : ℕ) (v : Visit)
    (next : IsNext tree n v) where
  abbrev all : List Visit
  all = visits tree

  abbrev done : List Visit
  done = take n all

  abbrev firsts : List Visit
  firsts = set_firsts kind 0 done

  abbrev sizes : List ℕ
  sizes = sizes_so_far kind done

  abbrev begins : Bool
  begins = is_same_kind kind v.node.kind && nat_eq v.node.set (length firsts + 1)

  firsts_more : set_firsts kind 0 (take (n + 1) all) ≡ firsts ++ cond begins (v ∷ []) []
  firsts_more =
      let from : 0 + length firsts ≡ length firsts = omega arith in
      ap (set_firsts kind 0) next.taken ∙ set_firsts-append kind 0 done (v ∷ []) ∙ ap (λ m. firsts ++ set_firsts kind m (v ∷ [])) from

  firsts_quiet : begins ≡ false → set_firsts kind 0 (take (n + 1) all) ≡ firsts
  firsts_quiet other = firsts_more ∙ ap (λ b. firsts ++ cond b (v ∷ []) []) other ∙ append-nil firsts

  firsts_new : begins ≡ true → set_firsts kind 0 (take (n + 1) all) ≡ firsts ++ v ∷ []
  firsts_new first = firsts_more ∙ ap (λ b. firsts ++ cond b (v ∷ []) []) first

  rows_count : (table : SetsUpTo) → IsTableUpTo tree kind n table → length table.rows ≡ length firsts
  rows_count table stands = sym (length-map table.rows set_in_row) ∙ ap length stands.sets ∙ length-map firsts (set_of_visit kind tree)

  sequences_more : map (sequence_at kind tree)
      (take (n + 1) all) ≡ map (sequence_at kind tree) done ++ sequence_at kind tree v ∷ []
  sequences_more = ap (map (sequence_at kind tree)) next.taken ∙ map-append (sequence_at kind tree) done (v ∷ [])

  put_more : (table : SetsUpTo) (s : ℕ) → table.at_nodes ≡ map (sequence_at kind tree) done → s ≡ sequence_at kind tree v
      → table.at_nodes ++ s ∷ [] ≡ map (sequence_at kind tree) (take (n + 1) all)
  put_more table s stands is = (λ i. stands i ++ is i ∷ []) ∙ sym sequences_more

  -- a node that begins no set of the kind
  quiet_stands : (table : SetsUpTo) (s : ℕ) → IsTableUpTo tree kind n table → begins ≡ false
      → s ≡ sequence_at kind tree v
      → ((i : ℕ) (d : FoundSet) → i < length table.rows → IsLastNode kind (i + 1) (done ++ v ∷ []) (get_or table.rows i d).last)
      → IsTableUpTo tree kind (n + 1) (put table s)
  quiet_stands table s stands other is lasts =
      let same : firsts ≡ set_firsts kind 0 (take (n + 1) all) = sym (firsts_quiet other) in
      record {
        sets = stands.sets ∙ ap (map (set_of_visit kind tree)) same;
        each = stands.each;
        nodes = stands.nodes ∙ ap (map (first_number tree)) same;
        lasts = λ i d there. subst (λ vs. IsLastNode kind (i + 1) vs (get_or table.rows i d).last) (sym next.taken) (lasts i d there);
        next = stands.next ∙ ap (λ vs. 1 + sum (map (λ (w : Visit). w.node.children) vs)) same;
        at_nodes = put_more table s stands.at_nodes is;
      }

  -- no node so far is in the next set
  others : (x : Node) → x.kind ≡ kind → x.set ≡ length sizes + 1
      → (i : ℕ) (d : Visit) → i < length done → is_same_set (get_or done i d).node x ≡ false
  others x kinds sets i d h =
      let knows : KnowsSizes kind (map visited_node done) sizes = known_so_far tree kind game inner n in
      let w : Visit = get_or done i d in
      elim (is_same_kind kind w.node.kind) as (λ b. is_same_kind kind w.node.kind ≡ b → is_same_set w.node x ≡ false) [
        | true ↦ λ same_kind.
            let held = knows.each w.node (Contains-map done w (Contains-get_or done i d h)) (is_same_kind-true kind w.node.kind same_kind) in
            let known : w.node.set ≤ length sizes = held.1 in
            other_number w.node x (λ e. absurd (omega arith))
        | false ↦ λ differs. other_kind kind w.node x kinds differs
      ] refl

  -- whether the node is in a set
  in_it : (set : ℕ) → v.node.kind ≡ kind → v.node.set ≡ set → is_in_set kind set v ≡ true
  in_it set is e = is_same_set_by v.node (record v.node { kind = kind; set = set }) is e

  not_in_it : (set : ℕ) → v.node.set ≢ set → is_in_set kind set v ≡ false
  not_in_it set ne = and_false (is_same_kind v.node.kind kind) (nat_eq v.node.set set) (ne_eqb v.node.set set ne)

  count_done : length done ≡ n
  count_done = let there : n < length all = next.there in omega (arith, length-take n all)

  -- the node begins the next set
  found_new : (x : Node) → x.kind ≡ kind → x.set ≡ length sizes + 1 → is_same_set v.node x ≡ true
      → first_of_set 1 x all ≡ Some (record { number = n + 1; visit = v })
  found_new x kinds sets same =
      let there : n < length all = next.there in
      let parts : all ≡ done ++ v ∷ drop (n + 1) all = sym (take-append-drop n all) ∙ ap (λ vs. done ++ vs) next.cons in
      let number : 1 + length done ≡ n + 1 = omega (arith, length-take n all) in
      ap (first_of_set 1 x) parts ∙ first_after 1 x done v (drop (n + 1) all) (others x kinds sets) same
      ∙ ap (λ m. Some (record { number = m; visit = v })) number

  row_stands : (table : SetsUpTo) (s : ℕ) → IsTableUpTo tree kind n table → v.node.kind ≡ kind
      → v.node.set ≡ length firsts + 1 → s ≡ sequence_at kind tree v →
      IsRowOf tree kind (length table.rows + 1) (record { first = table.next; before = s; actions = v.node.children; node = n + 1; last = n + 1 })
  row_stands table s stands is set sequence =
      let rows : length table.rows ≡ length firsts = rows_count table stands in
      let many : length sizes ≡ length firsts = length-map firsts (λ (w : Visit). w.node.children) in
      let front = sizes_front kind n all in
      let whole : take (length sizes) (set_sizes kind tree) ≡ sizes = ap (take (length sizes)) front.1 ∙ take-append_seam sizes front.0 in
      let index : length sizes ≡ length table.rows + 1 - 1 = omega arith in
      record {
        first = stands.next ∙ ap (λ xs. 1 + sum xs) (sym whole) ∙ ap (λ m. 1 + sum (take m (set_sizes kind tree))) index;
        node = λ x kinds sets. (
          v,
          record {
            found = found_new x kinds (omega arith) (is_same_set_by v.node x (is ∙ sym kinds) (omega arith));
            kinds = is;
            before = sym sequence;
          },
        );
      }

  new_stands : (table : SetsUpTo) (s : ℕ) → IsTableUpTo tree kind n table → v.node.kind ≡ kind
      → v.node.set ≡ length firsts + 1 → s ≡ sequence_at kind tree v
      → IsTableUpTo tree kind (n + 1) (put (with_set table (n + 1) v.node s) s)
  new_stands table s stands is set sequence =
      let first : begins ≡ true = ap (λ b. b && nat_eq v.node.set (length firsts + 1)) (is_same_kind_self kind v.node.kind is)
      ∙ eq-eqb v.node.set (length firsts + 1) set in
      let more : set_firsts kind 0 (take (n + 1) all) ≡ firsts ++ v ∷ [] = firsts_new first in
      let row : FoundSet = record { first = table.next; before = s; actions = v.node.children; node = n + 1; last = n + 1 } in
      let next_sizes : sizes_so_far kind (take (n + 1) all) ≡ sizes ++ v.node.children ∷ [] = ap (map (λ (w : Visit). w.node.children)) more
      ∙ map-append (λ (w : Visit). w.node.children) firsts (v ∷ []) in
      let next_is : table.next ≡ 1 + sum sizes = stands.next in
      let rows : length table.rows ≡ length firsts = rows_count table stands in
      let many : length sizes ≡ length firsts = length-map firsts (λ (w : Visit). w.node.children) in
      let number : n + 1 ≡ first_number tree v = ap number_or_zero (sym (found_new v.node is (omega arith) (is_same_set_by v.node v.node refl refl))) in
      record {
        nodes = map-append (λ (r : FoundSet). r.node) table.rows (row ∷ []) ∙ (λ i. stands.nodes i ++ number i ∷ [])
            ∙ sym (map-append (first_number tree) firsts (v ∷ [])) ∙ ap (map (first_number tree)) (sym more);
        lasts = λ i d there. elim (cases_lt i (length table.rows)) [
          | inl below ↦
              let ne : v.node.set ≢ i + 1 = λ e. absurd (omega arith) in
              subst (λ vs. IsLastNode kind (i + 1) vs (get_or (table.rows ++ row ∷ []) i d).last) (sym next.taken)
              (subst (λ (r : FoundSet). IsLastNode kind (i + 1) (done ++ v ∷ []) r.last) (sym (get_or-append table.rows (row ∷ []) d i below))
              (last_kept kind (i + 1) done v (get_or table.rows i d).last (stands.lasts i d below) (not_in_it (i + 1) ne)))
          | inr past ↦
              let at : length table.rows ≡ i = omega (arith, length-append table.rows (row ∷ [])) in
              let index : v.node.set ≡ i + 1 = omega arith in
              let long : length done + 1 ≡ n + 1 = omega (arith, count_done) in
              subst (λ vs. IsLastNode kind (i + 1) vs (get_or (table.rows ++ row ∷ []) i d).last) (sym next.taken)
              (subst (λ j. IsLastNode kind (i + 1) (done ++ v ∷ []) (get_or (table.rows ++ row ∷ []) j d).last) at
              (subst (λ (r : FoundSet). IsLastNode kind (i + 1) (done ++ v ∷ []) r.last) (sym (get_or-append_seam table.rows row [] d))
              (last_new kind (i + 1) done v (n + 1) long (in_it (i + 1) is index))))
        ];
        sets = map-append set_in_row table.rows (row ∷ []) ∙ (λ i. stands.sets i ++ record { before = sequence i; actions = v.node.children } ∷ [])
            ∙ sym (map-append (set_of_visit kind tree) firsts (v ∷ [])) ∙ ap (map (set_of_visit kind tree)) (sym more);
        each = λ i d there. elim (cases_lt i (length table.rows)) [
          | inl below ↦ subst (IsRowOf tree kind (i + 1)) (sym (get_or-append table.rows (row ∷ []) d i below)) (stands.each i d below)
          | inr past ↦
              let last : length table.rows ≡ i = omega (arith, length-append table.rows (row ∷ [])) in
              subst (λ j. IsRowOf tree kind (j + 1) (get_or (table.rows ++ row ∷ []) j d)) last
              (subst (IsRowOf tree kind (length table.rows + 1)) (sym (get_or-append_seam table.rows row [] d)) (row_stands table s stands is set sequence))
        ];
        next = omega (arith, ap sum next_sizes, sum_by-append (λ x. x) sizes (v.node.children ∷ []), sum_by-cons (λ x. x) v.node.children []);
        at_nodes = put_more table s stands.at_nodes sequence;
      }

  -- the numbers are compared
  abbrev against : Option RecallBreak
  against = break_against (differ_in_number tree) (n + 1) v (first_of_set 1 v.node all)

  same_numbers : (first : Numbered)
      → sequence_at first.visit.node.kind tree first.visit ≡ sequence_at v.node.kind tree v
      → break_against (differ_in_number tree) (n + 1) v (Some first) ≡ None
  same_numbers first e =
      let broken : Option RecallBreak = Some (record { node = n + 1; earlier = first.number }) in
      ap (λ b. cond (is_personal v.node.kind && not b) broken None) (eq-eqb (sequence_at first.visit.node.kind tree first.visit)
      (sequence_at v.node.kind tree v) e)
      ∙ ap (λ b. cond b broken None) (and_false (is_personal v.node.kind) false refl)

  other_numbers : (first : Numbered) → is_personal v.node.kind ≡ true
      → sequence_at first.visit.node.kind tree first.visit ≢ sequence_at v.node.kind tree v →
      break_against (differ_in_number tree) (n + 1) v (Some first) ≡ Some (record { node = n + 1; earlier = first.number })
  other_numbers first personal ne =
      let broken : Option RecallBreak = Some (record { node = n + 1; earlier = first.number }) in
      ap (λ p. cond (p && differ_in_number tree first.visit v) broken None) personal
      ∙ ap (λ b. cond (not b) broken None) (ne_eqb (sequence_at first.visit.node.kind tree first.visit) (sequence_at v.node.kind tree v) ne)

  -- what stands after a node of the kind was noted, where the sequence before it is s
  record IsNoted (new : SetsUpTo) (s first : ℕ) (new_next : List (Option ℕ)) : Type 0 where
    stands : IsTableUpTo tree kind (n + 1) (put new s)
    first_is : first ≡ first_sequence (set_sizes kind tree) v.node.set
    none : against ≡ None
    next_are : new_next ++ None ∷ [] ≡ next_numbers 1 (take (n + 1) all)

  abbrev AnswersNoting : SetsUpTo → ℕ → Result ℕ RecallFault → List (Option ℕ) → Type 0
  AnswersNoting new s (Ok first) new_next = IsNoted new s first new_next
  AnswersNoting new s (Err NoMemory) new_next = Unit {0}
  AnswersNoting new s (Err (NotRecall node earlier)) new_next = against ≡ Some (record { node = node; earlier = earlier })

  -- the node's set is one that came before, or the next one
  set_of_node : v.node.kind ≡ kind → (1 ≤ v.node.set) × (v.node.set ≤ length firsts + 1)
  set_of_node is =
      let knows : KnowsSizes kind (map visited_node done) sizes = known_so_far tree kind game inner n in
      let joins : JoinsSet (map visited_node done) v.node = joins_of kind (map visited_node done) v.node inner is
      (subst (λ k. FitsAs k (map visited_node done) v.node) is next.fits) in
      let known : v.node.set ≤ set_count kind (map visited_node done) + 1 = subst (λ k. v.node.set ≤ set_count k (map visited_node done) + 1) is joins.next in
      let count : length sizes ≡ set_count kind (map visited_node done) = knows.count in
      let many : length sizes ≡ length firsts = length-map firsts (λ (w : Visit). w.node.children) in
      (joins.counts, omega arith)

  begun : v.node.kind ≡ kind → (table : SetsUpTo) (s : ℕ) (new : SetsUpTo) (numbers new_next : List (Option ℕ))
      → IsTableUpTo tree kind n table
      → s ≡ sequence_at kind tree v → length table.rows ≤ v.node.set - 1 → numbers ≡ next_numbers 1 done
      → (result : Result ℕ RecallFault) → BeginsSet table (n + 1) v.node s new result → new_next ≡ numbers
      → AnswersNoting new s result new_next
  begun is table s new numbers new_next stands sequence past known_next (Ok first) (first_is, new_is) same =
      let rows : length table.rows ≡ length firsts = rows_count table stands in
      let many : length sizes ≡ length firsts = length-map firsts (λ (w : Visit). w.node.children) in
      let counts : 1 ≤ v.node.set = (set_of_node is).0 in
      let known : v.node.set ≤ length firsts + 1 = (set_of_node is).1 in
      let set : v.node.set ≡ length firsts + 1 = omega arith in
      let row = row_stands table s stands is set sequence in
      let index : length table.rows + 1 ≡ v.node.set = omega arith in
      record {
        stands = subst (λ t. IsTableUpTo tree kind (n + 1) (put t s)) (sym new_is) (new_stands table s stands is set sequence);
        first_is = first_is ∙ row.first ∙ ap (first_sequence (set_sizes kind tree)) index;
        none = ap (break_against (differ_in_number tree) (n + 1) v) (found_new v.node is (omega arith) (is_same_set_by v.node v.node refl refl))
            ∙ same_numbers (record { number = n + 1; visit = v }) refl;
        next_are = ap (λ xs. xs ++ None ∷ []) (same ∙ known_next)
            ∙ sym (quiet_numbers 1 done v (λ i d inside _. other_way (get_or done i d).node v.node (others v.node is (omega arith) i d inside)))
            ∙ ap (next_numbers 1) (sym next.taken);
      }
  begun is table s new numbers new_next stands sequence past known_next (Err NoMemory) h same = tt
  begun is table s new numbers new_next stands sequence past known_next (Err (NotRecall node earlier)) h same = absurd h

  record IsRow (row : FoundSet) : Type 0 where
    first : row.first ≡ first_sequence (set_sizes kind tree) v.node.set
    node : (w : Visit) × IsFirstNode tree kind row v.node w
    last : IsLastNode kind v.node.set done row.last

  its_row : v.node.kind ≡ kind → (table : SetsUpTo) (row : FoundSet) → IsTableUpTo tree kind n table
      → slice_get table.rows (v.node.set - 1) ≡ Some row → IsRow row
  its_row is table row stands read =
      let counts : 1 ≤ v.node.set = (set_of_node is).0 in
      let set : v.node.set ≡ v.node.set - 1 + 1 = omega arith in
      let stood : IsRowOf tree kind (v.node.set - 1 + 1) row =
      subst (IsRowOf tree kind (v.node.set - 1 + 1)) (get_or_from_slice_get table.rows (v.node.set - 1) row row read)
      (stands.each (v.node.set - 1) row (is_read table.rows (v.node.set - 1) row read)) in
      record {
        first = stood.first ∙ ap (first_sequence (set_sizes kind tree)) (sym set);
        node = stood.node v.node is set;
        last = subst (λ m. IsLastNode kind m done row.last) (sym set)
            (subst (λ (r : FoundSet). IsLastNode kind (v.node.set - 1 + 1) done r.last) (get_or_from_slice_get table.rows (v.node.set - 1) row row read)
            (stands.lasts (v.node.set - 1) row (is_read table.rows (v.node.set - 1) row read)));
      }

  -- the table in which the node is its set's last one
  joined_stands : (table : SetsUpTo) (s : ℕ) (row : FoundSet) → IsTableUpTo tree kind n table → v.node.kind ≡ kind
      → slice_get table.rows (v.node.set - 1) ≡ Some row → begins ≡ false → s ≡ sequence_at kind tree v
      → IsTableUpTo tree kind (n + 1) (put (with_last table (v.node.set - 1) row (n + 1)) s)
  joined_stands table s row stands is read other sequence =
      let place : ℕ = v.node.set - 1 in
      let new_row : FoundSet = record row { last = n + 1 } in
      let there : place < length table.rows = is_read table.rows place row read in
      let read_is : get_or table.rows place row ≡ row = get_or_from_slice_get table.rows place row row read in
      let same : firsts ≡ set_firsts kind 0 (take (n + 1) all) = sym (firsts_quiet other) in
      let counts : 1 ≤ v.node.set = (set_of_node is).0 in
      let index : v.node.set ≡ place + 1 = omega arith in
      let long : length done + 1 ≡ n + 1 = omega (arith, count_done) in
      let stood : IsRowOf tree kind (place + 1) row = subst (IsRowOf tree kind (place + 1)) read_is (stands.each place row there) in
      record {
        sets = map_kept set_in_row table.rows place new_row row (ap set_in_row (sym read_is)) ∙ stands.sets ∙ ap (map (set_of_visit kind tree)) same;
        each = each_row (λ j r. IsRowOf tree kind (j + 1) r) table.rows place new_row (with_other_last row stood) (λ j d inside _. stands.each j d inside);
        nodes = map_kept (λ (r : FoundSet). r.node) table.rows place new_row row (ap (λ (r : FoundSet). r.node) (sym read_is)) ∙ stands.nodes
            ∙ ap (map (first_number tree)) same;
        lasts = subst (λ vs. (i : ℕ) (d : FoundSet) → i < length (set table.rows place new_row)
            → IsLastNode kind (i + 1) vs (get_or (set table.rows place new_row) i d).last) (sym next.taken)
            (each_row (λ j r. IsLastNode kind (j + 1) (done ++ v ∷ []) r.last) table.rows place new_row
            (last_new kind (place + 1) done v (n + 1) long (in_it (place + 1) is index))
            (λ j d inside differs. last_kept kind (j + 1) done v (get_or table.rows j d).last (stands.lasts j d inside)
            (not_in_it (j + 1) (λ e. differs (omega arith)))));
        next = stands.next ∙ ap (λ vs. 1 + sum (map (λ (w : Visit). w.node.children) vs)) same;
        at_nodes = put_more table s stands.at_nodes sequence;
      }
    where
      with_other_last : (row : FoundSet) → IsRowOf tree kind (v.node.set - 1 + 1) row
          → IsRowOf tree kind (v.node.set - 1 + 1) (record row { last = n + 1 })
      with_other_last row stood = record {
        first = stood.first;
        node = λ x kinds sets. let held = stood.node x kinds sets in (held.0, record { found = held.1.found; kinds = held.1.kinds; before = held.1.before });
      }

  -- the set's last node so far has the node as its next one
  joined_next : (row : FoundSet) (numbers : List (Option ℕ)) → is_personal kind ≡ true → v.node.kind ≡ kind
      → IsLastNode kind v.node.set done row.last → numbers ≡ next_numbers 1 done
      → set numbers (row.last - 1) (Some (n + 1)) ++ None ∷ [] ≡ next_numbers 1 (take (n + 1) all)
  joined_next row numbers personal is last known =
      let from_one : 1 ≤ row.last = last.from_one in
      let there : row.last ≤ length done = last.there in
      let count : n + 1 ≡ 1 + length done = omega (arith, count_done) in
      let as_its_kind : (b : Bool) (w : Visit) → is_in_set kind v.node.set w ≡ b → is_same_set w.node v.node
      ≡ b = λ b w h. subst (λ k. is_in_set k v.node.set w ≡ b) (sym is) h in
      (λ i. set (known i) (row.last - 1) (Some (count i)) ++ None ∷ [])
      ∙ sym (joined_numbers 1 done v (row.last - 1) v (ap is_personal is ∙ personal) (omega arith)
      (as_its_kind true (get_or done (row.last - 1) v) (last.is_in v))
      (λ j e after inside. as_its_kind false (get_or done j e) (last.later j e (omega arith) inside)))
      ∙ ap (next_numbers 1) (sym next.taken)

  joined : is_personal kind ≡ true → v.node.kind ≡ kind → (table : SetsUpTo) (s : ℕ) (new : SetsUpTo) (row : FoundSet)
      (numbers new_next : List (Option ℕ))
      → IsTableUpTo tree kind n table → s ≡ sequence_at kind tree v → slice_get table.rows (v.node.set - 1) ≡ Some row
      → numbers ≡ next_numbers 1 done
      → (result : Result ℕ RecallFault) → JoinsRow (v.node.set - 1) row table (n + 1) s new result numbers new_next
      → AnswersNoting new s result new_next
  joined personal is table s new row numbers new_next stands sequence read known_next (Ok first) (same, first_is, new_is, next_is) =
      let rows : length table.rows ≡ length firsts = rows_count table stands in
      let counts : 1 ≤ v.node.set = (set_of_node is).0 in
      let there : v.node.set - 1 < length table.rows = is_read table.rows (v.node.set - 1) row read in
      let ne : v.node.set ≢ length firsts + 1 = λ e. absurd (omega arith) in
      let other : begins ≡ false = and_false (is_same_kind kind v.node.kind) (nat_eq v.node.set (length firsts + 1))
      (ne_eqb v.node.set (length firsts + 1) ne) in
      let held = its_row is table row stands read in
      let w : Visit = held.node.0 in
      let numbers_agree : sequence_at w.node.kind tree w ≡ sequence_at v.node.kind tree v =
      ap (λ k. sequence_at k tree w) held.node.1.kinds ∙ held.node.1.before ∙ same ∙ sequence ∙ ap (λ k. sequence_at k tree v) (sym is) in
      record {
        stands = subst (λ t. IsTableUpTo tree kind (n + 1) (put t s)) (sym new_is) (joined_stands table s row stands is read other sequence);
        first_is = first_is ∙ held.first;
        none = ap (break_against (differ_in_number tree) (n + 1) v) held.node.1.found ∙ same_numbers (record { number = row.node; visit = w }) numbers_agree;
        next_are = ap (λ xs. xs ++ None ∷ []) next_is ∙ joined_next row numbers personal is held.last known_next;
      }
  joined personal is table s new row numbers new_next stands sequence read known_next (Err NoMemory) h = absurd h
  joined personal is table s new row numbers new_next stands sequence read known_next (Err (NotRecall node earlier)) (differs, node_is, earlier_is) =
      let held = its_row is table row stands read in
      let w : Visit = held.node.0 in
      let of_first : sequence_at w.node.kind tree w ≡ row.before = ap (λ k. sequence_at k tree w) held.node.1.kinds ∙ held.node.1.before in
      let of_v : sequence_at v.node.kind tree v ≡ s = ap (λ k. sequence_at k tree v) is ∙ sym sequence in
      ap (break_against (differ_in_number tree) (n + 1) v) held.node.1.found
      ∙ other_numbers (record { number = row.node; visit = w }) (ap is_personal is ∙ personal) (λ e. differs (sym of_first ∙ e ∙ of_v))
      ∙ (λ i. Some (record { node = sym node_is i; earlier = sym earlier_is i }))

  after_note : is_personal kind ≡ true → v.node.kind ≡ kind
      → (table : SetsUpTo) (s : ℕ) (new : SetsUpTo) (result : Result ℕ RecallFault) (numbers new_next : List (Option ℕ))
      → IsTableUpTo tree kind n table → numbers ≡ next_numbers 1 done
      → s ≡ sequence_at kind tree v → Notes table (n + 1) v.node s new result numbers new_next
      → AnswersNoting new s result new_next
  after_note personal is table s new result numbers new_next stands known_next sequence notes =
      elim (slice_get table.rows (v.node.set - 1)) as (λ o. slice_get table.rows (v.node.set - 1) ≡ o
      → NotesIn o table (n + 1) v.node s new result numbers new_next → AnswersNoting new s result new_next) [
        | None ↦ λ past h. begun is table s new numbers new_next stands sequence (not_read table.rows (v.node.set - 1) past) known_next result h.0 h.1
        | Some row ↦ λ read h. joined personal is table s new row numbers new_next stands sequence read known_next result h
      ] refl notes

  -- the last node so far of the node's set is one of those before it
  last_there : v.node.kind ≡ kind → (table : SetsUpTo) (numbers : List (Option ℕ)) → IsTableUpTo tree kind n table
      → numbers ≡ next_numbers 1 done → LastIsThere (slice_get table.rows (v.node.set - 1)) numbers
  last_there is table numbers stands known =
      elim (slice_get table.rows (v.node.set - 1)) as (λ o. slice_get table.rows (v.node.set - 1) ≡ o → LastIsThere o numbers) [
        | None ↦ λ past. tt
        | Some row ↦ λ read.
            let last = (its_row is table row stands read).last in
            let there : row.last ≤ length done = last.there in
            (last.from_one, omega (arith, ap length known, length-next_numbers 1 done))
      ] refl

  -- the next set's sequences have small numbers
  room_for : (table : SetsUpTo) → IsTableUpTo tree kind n table → table.next + v.node.children < 2 ^ 32
  room_for table stands =
      let front = sizes_front kind n all in
      let few = sequences_are_few tree game kind inner in
      let few_sequences : 1 + sum (set_sizes kind tree) ≤ node_count tree = few.few_sequences in
      let limit : node_count tree ≤ 1048576 = game.limit in
      let next_is : table.next ≡ 1 + sum sizes = stands.next in
      omega (arith, ap sum front.1, sum_by-append (λ x. x) sizes front.0, children-le (map visited_node done) v.node next.fits)

abbrev rest_break : Forest → ℕ → Option RecallBreak
rest_break tree n = first_break (differ_in_number tree) (visits tree) (n + 1) (drop n (visits tree))

module _ (tree : Forest) (game : IsGameTree tree) (n : ℕ) (v : Visit) (next : IsNext tree n v) where
  abbrev here : Option RecallBreak
  here = break_against (differ_in_number tree) (n + 1) v (first_of_set 1 v.node (visits tree))

  break_more : number_break tree ≡ rest_break tree n → number_break tree ≡ break_or here (rest_break tree (n + 1))
  break_more so_far = so_far ∙ ap (first_break (differ_in_number tree) (visits tree) (n + 1)) next.cons

  none_here : number_break tree ≡ rest_break tree n → here ≡ None → number_break tree ≡ rest_break tree (n + 1)
  none_here so_far none = break_more so_far ∙ ap (λ o. break_or o (rest_break tree (n + 1))) none

  some_here : number_break tree ≡ rest_break tree n → (broken : RecallBreak) → here ≡ Some broken
      → number_break tree ≡ Some broken
  some_here so_far broken some = break_more so_far ∙ ap (λ o. break_or o (rest_break tree (n + 1))) some

  not_personal : is_personal v.node.kind ≡ false → (o : Option Numbered)
      → break_against (differ_in_number tree) (n + 1) v o ≡ None
  not_personal other None = refl
  not_personal other (Some first) = ap (λ p. cond (p && differ_in_number tree first.visit v) (Some (record { node = n + 1; earlier = first.number })) None)
      other

  -- a kind that doesn't move at the node
  quiet : (kind : Kind) → is_leaf_kind kind ≡ false → is_same_kind kind v.node.kind ≡ false → (table : SetsUpTo) (s : ℕ)
      → IsTableUpTo tree kind n table → s ≡ sequence_at kind tree v → IsTableUpTo tree kind (n + 1) (put table s)
  quiet kind inner other table s stands sequence =
      quiet_stands tree kind game inner n v next table s stands (ap (λ b. b && nat_eq v.node.set (length (set_firsts kind 0 (take n (visits tree))) + 1)) other)
      sequence
      (λ i d inside. last_kept kind (i + 1) (take n (visits tree)) v (get_or table.rows i d).last (stands.lasts i d inside)
      (other_kind kind v.node (record v.node { kind = kind; set = i + 1 }) refl other))

  -- no player's node is in a set with a node where no player moves
  quiet_next : is_personal v.node.kind ≡ false → (numbers : List (Option ℕ))
      → numbers ≡ next_numbers 1 (take n (visits tree))
      → numbers ++ None ∷ [] ≡ next_numbers 1 (take (n + 1) (visits tree))
  quiet_next other numbers known =
      ap (λ xs. xs ++ None ∷ []) known
      ∙ sym (quiet_numbers 1 (take n (visits tree)) v (λ i d inside personal. not_same (get_or (take n (visits tree)) i d).node personal))
      ∙ ap (next_numbers 1) (sym next.taken)
    where
      not_same : (x : Node) → is_personal x.kind ≡ true → is_same_set v.node x ≡ false
      not_same x personal = not_true (is_same_set v.node x) (λ same. apart (sym personal ∙ sym (ap is_personal (same_set v.node x same).0) ∙ other))

  other_below : (kind : Kind) (s : ℕ) → is_same_kind kind v.node.kind ≡ false → s ≡ sequence_at kind tree v
      → IsAtFirstChild tree kind v s
  other_below kind s other sequence = record { own = λ same. absurd (apart (sym same ∙ other)); other = λ _. sequence }
    where
      apart : true ≡ false → ⊥
      apart e = cc e

  own_below : (kind : Kind) (s : ℕ) → is_same_kind kind v.node.kind ≡ true
      → s ≡ first_sequence (set_sizes kind tree) v.node.set → IsAtFirstChild tree kind v s
  own_below kind s same first = record { own = λ _. first; other = λ other. absurd (apart (sym same ∙ other)) }
    where
      apart : true ≡ false → ⊥
      apart e = cc e

  quiet_node : is_personal v.node.kind ≡ false → is_same_kind One v.node.kind ≡ false
      → is_same_kind Two v.node.kind ≡ false → (one two : SetsUpTo) (at : Sequences) (numbers : List (Option ℕ))
      → AreTablesOf tree n one two numbers
      → AreAt tree v.path at →
      AreTablesOf tree (n + 1) (put one at.one) (put two at.two) (numbers ++ None ∷ []) × AreAtFirstChild tree v at
  quiet_node personal not_one not_two one two at numbers stand are = (
    record {
      table_one = quiet One refl not_one one at.one stand.table_one are.one;
      table_two = quiet Two refl not_two two at.two stand.table_two are.two;
      next_are = quiet_next personal numbers stand.next_are;
      no_break = none_here stand.no_break (not_personal personal (first_of_set 1 v.node (visits tree)));
    },
    record { one = other_below One at.one not_one are.one; two = other_below Two at.two not_two are.two },
  )

  noted_one : v.node.kind ≡ One → (one two new : SetsUpTo) (at : Sequences) (first : ℕ) (numbers new_next : List (Option ℕ))
      → AreTablesOf tree n one two numbers
      → AreAt tree v.path at → Notes one (n + 1) v.node at.one new (Ok first) numbers new_next →
      AreTablesOf tree (n + 1) (put new at.one) (put two at.two) (new_next ++ None ∷ []) × AreAtFirstChild tree v (record { one = first; two = at.two })
  noted_one is one two new at first numbers new_next stand are notes =
      let noted = after_note tree One game refl n v next refl is one at.one new (Ok first) numbers new_next stand.table_one stand.next_are are.one notes in
      let same : is_same_kind One v.node.kind ≡ true = ap (is_same_kind One) is in
      let other : is_same_kind Two v.node.kind ≡ false = ap (is_same_kind Two) is in (
        record {
          table_one = noted.stands;
          table_two = quiet Two refl other two at.two stand.table_two are.two;
          next_are = noted.next_are;
          no_break = none_here stand.no_break noted.none;
        },
        record { one = own_below One first same noted.first_is; two = other_below Two at.two other are.two },
      )

  noted_two : v.node.kind ≡ Two → (one two new : SetsUpTo) (at : Sequences) (first : ℕ) (numbers new_next : List (Option ℕ))
      → AreTablesOf tree n one two numbers
      → AreAt tree v.path at → Notes two (n + 1) v.node at.two new (Ok first) numbers new_next →
      AreTablesOf tree (n + 1) (put one at.one) (put new at.two) (new_next ++ None ∷ []) × AreAtFirstChild tree v (record { one = at.one; two = first })
  noted_two is one two new at first numbers new_next stand are notes =
      let noted = after_note tree Two game refl n v next refl is two at.two new (Ok first) numbers new_next stand.table_two stand.next_are are.two notes in
      let same : is_same_kind Two v.node.kind ≡ true = ap (is_same_kind Two) is in
      let other : is_same_kind One v.node.kind ≡ false = ap (is_same_kind One) is in (
        record {
          table_one = quiet One refl other one at.one stand.table_one are.one;
          table_two = noted.stands;
          next_are = noted.next_are;
          no_break = none_here stand.no_break noted.none;
        },
        record { one = other_below One at.one other are.one; two = own_below Two first same noted.first_is },
      )

  broken_at : (kind : Kind) → is_leaf_kind kind ≡ false → is_personal kind ≡ true → v.node.kind ≡ kind
      → (table new : SetsUpTo) (s : ℕ) (numbers new_next : List (Option ℕ)) → IsTableUpTo tree kind n table
      → numbers ≡ next_numbers 1 (take n (visits tree)) → number_break tree ≡ rest_break tree n
      → s ≡ sequence_at kind tree v →
      (fault : RecallFault) → Notes table (n + 1) v.node s new (Err fault) numbers new_next → FindsBreak tree fault
  broken_at kind inner personal is table new s numbers new_next stands known so_far sequence NoMemory notes = tt
  broken_at kind inner personal is table new s numbers new_next stands known so_far sequence (NotRecall node earlier) notes =
      some_here so_far (record { node = node; earlier = earlier })
      (after_note tree kind game inner n v next personal is table s new (Err (NotRecall node earlier)) numbers new_next stands known sequence notes)

  broken_one : v.node.kind ≡ One → (one two new : SetsUpTo) (at : Sequences) (fault : RecallFault)
      (numbers new_next : List (Option ℕ)) → AreTablesOf tree n one two numbers → AreAt tree v.path at
      → Notes one (n + 1) v.node at.one new (Err fault) numbers new_next
      → FindsBreak tree fault
  broken_one is one two new at fault numbers new_next stand are notes =
      broken_at One refl refl is one new at.one numbers new_next stand.table_one stand.next_are stand.no_break are.one fault notes

  broken_two : v.node.kind ≡ Two → (one two new : SetsUpTo) (at : Sequences) (fault : RecallFault)
      (numbers new_next : List (Option ℕ)) → AreTablesOf tree n one two numbers → AreAt tree v.path at
      → Notes two (n + 1) v.node at.two new (Err fault) numbers new_next
      → FindsBreak tree fault
  broken_two is one two new at fault numbers new_next stand are notes =
      broken_at Two refl refl is two new at.two numbers new_next stand.table_two stand.next_are stand.no_break are.two fault notes

-- the same of the node that the tree gives, as node number n + 1
module _ (tree : Forest) (game : IsGameTree tree) (n : ℕ) (there : n < node_count tree) (x : Node)
    (read : slice_get (prefix tree) (n + 1 - 1) ≡ Some x) where
  abbrev v : Visit
  v = visit_after tree n

  next : IsNext tree n v
  next = next_visit tree n game there

  is_node : v.node ≡ x
  is_node = next_node tree n (n + 1 - 1) x there (omega arith) read

  -- the set of a node that isn't a leaf has a number of 1 at least
  pub counts_at : (kind : Kind) → is_leaf_kind kind ≡ false → x.kind ≡ kind → 1 ≤ x.set
  counts_at kind inner is = subst (λ y. 1 ≤ y.set) is_node (set_of_node tree kind game inner n v next (ap (λ y. y.kind) is_node ∙ is)).0

  -- the last node so far of the node's set is one of those before it
  pub last_at : (kind : Kind) → is_leaf_kind kind ≡ false → x.kind ≡ kind → (table : SetsUpTo) (numbers : List (Option ℕ))
      → IsTableUpTo tree kind n table → numbers ≡ next_numbers 1 (take n (visits tree))
      → LastIsThere (slice_get table.rows (x.set - 1)) numbers
  last_at kind inner is table numbers stands known =
      subst (λ y. LastIsThere (slice_get table.rows (y.set - 1)) numbers) is_node
      (last_there tree kind game inner n v next (ap (λ y. y.kind) is_node ∙ is) table numbers stands known)

  -- the first sequence of a table's next set, with as many more as the node has children, is below 2 ^ 32
  pub room_at : (kind : Kind) → is_leaf_kind kind ≡ false → (table : SetsUpTo) → IsTableUpTo tree kind n table
      → table.next + x.children < 2 ^ 32
  room_at kind inner table stands = subst (λ y. table.next + y.children < 2 ^ 32) is_node (room_for tree kind game inner n v next table stands)

  -- with player one's node noted, the tables are those of one node more, and its first child has the answered sequence
  pub noted_one_at : x.kind ≡ One → (one two new : SetsUpTo) (at : Sequences) (first : ℕ) (numbers new_next : List (Option ℕ))
      → AreTablesOf tree n one two numbers
      → AreAt tree v.path at → Notes one (n + 1) x at.one new (Ok first) numbers new_next →
      AreTablesOf tree (n + 1) (put new at.one) (put two at.two) (new_next ++ None ∷ []) × AreAtFirstChild tree v (record { one = first; two = at.two })
  noted_one_at is one two new at first numbers new_next stand are notes =
      noted_one tree game n v next (ap (λ y. y.kind) is_node ∙ is) one two new at first numbers new_next stand are
      (subst (λ y. Notes one (n + 1) y at.one new (Ok first) numbers new_next) (sym is_node) notes)

  -- with player two's node noted, the tables are those of one node more, and its first child has the answered sequence
  pub noted_two_at : x.kind ≡ Two → (one two new : SetsUpTo) (at : Sequences) (first : ℕ) (numbers new_next : List (Option ℕ))
      → AreTablesOf tree n one two numbers
      → AreAt tree v.path at → Notes two (n + 1) x at.two new (Ok first) numbers new_next →
      AreTablesOf tree (n + 1) (put one at.one) (put new at.two) (new_next ++ None ∷ []) × AreAtFirstChild tree v (record { one = at.one; two = first })
  noted_two_at is one two new at first numbers new_next stand are notes =
      noted_two tree game n v next (ap (λ y. y.kind) is_node ∙ is) one two new at first numbers new_next stand are
      (subst (λ y. Notes two (n + 1) y at.two new (Ok first) numbers new_next) (sym is_node) notes)

  -- where no player moves, the tables with the sequences there are those of one node more, and its first child has them
  pub quiet_at : is_personal x.kind ≡ false → (one two : SetsUpTo) (at : Sequences) (numbers : List (Option ℕ))
      → AreTablesOf tree n one two numbers
      → AreAt tree v.path at →
      AreTablesOf tree (n + 1) (put one at.one) (put two at.two) (numbers ++ None ∷ []) × AreAtFirstChild tree v at
  quiet_at other one two at numbers stand are =
      let personal : is_personal v.node.kind ≡ false = ap (λ y. is_personal y.kind) is_node ∙ other in
      quiet_node tree game n v next personal (not_mover v.node.kind personal).0 (not_mover v.node.kind personal).1 one two at numbers stand are
    where
      not_mover : (kind : Kind) → is_personal kind ≡ false
          → (is_same_kind One kind ≡ false) × (is_same_kind Two kind ≡ false)
      not_mover Chance e = (refl, refl)
      not_mover One e = cc
      not_mover Two e = cc
      not_mover Leaf e = (refl, refl)

  -- where a node of player one can't be noted, a break of recall that is answered is the first, by numbers
  pub broken_one_at : x.kind ≡ One → (one two new : SetsUpTo) (at : Sequences) (fault : RecallFault)
      (numbers new_next : List (Option ℕ)) → AreTablesOf tree n one two numbers → AreAt tree v.path at
      → Notes one (n + 1) x at.one new (Err fault) numbers new_next
      → FindsBreak tree fault
  broken_one_at is one two new at fault numbers new_next stand are notes =
      broken_one tree game n v next (ap (λ y. y.kind) is_node ∙ is) one two new at fault numbers new_next stand are
      (subst (λ y. Notes one (n + 1) y at.one new (Err fault) numbers new_next) (sym is_node) notes)

  -- where a node of player two can't be noted, a break of recall that is answered is the first, by numbers
  pub broken_two_at : x.kind ≡ Two → (one two new : SetsUpTo) (at : Sequences) (fault : RecallFault)
      (numbers new_next : List (Option ℕ)) → AreTablesOf tree n one two numbers → AreAt tree v.path at
      → Notes two (n + 1) x at.two new (Err fault) numbers new_next
      → FindsBreak tree fault
  broken_two_at is one two new at fault numbers new_next stand are notes =
      broken_two tree game n v next (ap (λ y. y.kind) is_node ∙ is) one two new at fault numbers new_next stand are
      (subst (λ y. Notes two (n + 1) y at.two new (Err fault) numbers new_next) (sym is_node) notes)
