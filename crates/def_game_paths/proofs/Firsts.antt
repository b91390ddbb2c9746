-- The first nodes of the sets are those that a search for a set's first node finds.
use Rattle.std.proofs.Common.{◌≡◌, ◌≢◌, ℕ, ◌+◌, ◌<◌, ◌≤◌, Bool, true, false, cond, ◌&&◌, List, [], ◌∷◌, ◌++◌, length, get_or, map, refl, ap, sym, subst, ◌∙◌}
use Rattle.std.proofs.Common.{arith, length-append, Some}
use Rattle.std.specs.Prelude.{nat_eq, Contains}
use Rattle.std.proofs.lemmas.Bool.{and_parts, eqb-true, eqb-false, ne_eqb}
use Rattle.std.proofs.lemmas.List.{length-map}
use Rattle.def_tree.specs.declared.Kind.{Kind}
use Rattle.def_tree.specs.declared.Node.{Node}
use Rattle.def_tree.specs.Tree.{prefix, is_leaf_kind}
use Rattle.def_tree.specs.Rules.{is_same_kind, set_count, JoinsSet, Fits, FitsAs, KeepRules}
use Rattle.def_tree.proofs.Sets.{is_same_kind-true, is_same_kind_self, KeepRules-push}
use Rattle.def_game_paths.specs.Paths.{Visit, visits}
use Rattle.def_game_paths.specs.Recall.{is_same_set, first_of_set}
use Rattle.def_game_paths.specs.Sequences.{set_firsts, set_sizes, FirstsAreFirst}
use Rattle.def_game_paths.proofs.Visits.{map-visits_from}
use Rattle.def_game_paths.proofs.Order.{visited_node, joins_of, nat_cases, KeepFrom, KeepFrom-append, KnowsSizes, knows_new, knows_later}
use Rattle.def_game_paths.proofs.Breaks.{is_same_set_by}
use Rattle.def_game_paths.proofs.Ancestors.{sizes_known}

-- the i-th first node among nodes that count from k on, where `seen` sets came before
record FoundAt (kind : Kind) (seen k : ℕ) (vs : List Visit) (i : ℕ) (v : Visit) : Type 0 where
  kinds : v.node.kind ≡ kind
  sets : v.node.set ≡ seen + i + 1
  first : (number : ℕ) × (first_of_set k v.node vs ≡ Some (record { number = number; visit = v }))

-- what is false makes a conjunction false
pub and_false : (a b : Bool) → b ≡ false → a && b ≡ false
and_false true b e = e
and_false false b e = refl

-- nodes whose sets have other numbers are of other sets
pub other_number : (x y : Node) → x.set ≢ y.set → is_same_set x y ≡ false
other_number x y other = and_false (is_same_kind x.kind y.kind) (nat_eq x.set y.set) (ne_eqb x.set y.set other)

-- a node of another kind is of another set
pub other_kind : (kind : Kind) (x y : Node) → y.kind ≡ kind → is_same_kind kind x.kind ≡ false → is_same_set x y ≡ false
other_kind kind x y is other =
    elim (is_same_kind x.kind y.kind) as (λ b. is_same_kind x.kind y.kind ≡ b → b && nat_eq x.set y.set ≡ false) [
      | true ↦ λ same.
          let kinds : x.kind ≡ kind = sym (is_same_kind-true x.kind y.kind same) ∙ is in
          let no : true ≡ false = sym (is_same_kind_self kind x.kind kinds) ∙ other in
          absurd (apart no)
      | false ↦ λ differs. refl
    ] refl
  where
    apart : true ≡ false → ⊥
    apart e = cc e

-- a node that isn't the first of a set is in no set that comes later
not_later : (kind : Kind) (before : List Node) (done : List ℕ) (x y : Node) (i : ℕ) → is_leaf_kind kind ≡ false
    → Fits before x → KnowsSizes kind before done →
    is_same_kind kind x.kind && nat_eq x.set (length done + 1) ≡ false → y.kind ≡ kind → y.set ≡ length done + i + 1 → is_same_set x y ≡ false
not_later kind before done x y i inner fits knows other is number =
    elim (is_same_kind kind x.kind) as (λ b. is_same_kind kind x.kind ≡ b → b && nat_eq x.set (length done + 1) ≡ false → is_same_set x y ≡ false) [
      | true ↦ λ same not_next.
          let kinds : x.kind ≡ kind = is_same_kind-true kind x.kind same in
          let joins : JoinsSet before x = joins_of kind before x inner kinds (subst (λ k. FitsAs k before x) kinds fits) in
          let count : length done ≡ set_count kind before = knows.count in
          let next : x.set ≤ set_count kind before + 1 = subst (λ k. x.set ≤ set_count k before + 1) kinds joins.next in
          let not_it : x.set ≢ length done + 1 = eqb-false x.set (length done + 1) not_next in
          other_number x y (λ e. absurd (omega arith))
      | false ↦ λ differs not_next. other_kind kind x y is differs
    ] refl other

skip : (k : ℕ) (v w : Visit) (rest : List Visit) (number : ℕ) → is_same_set v.node w.node ≡ false
    → first_of_set (k + 1) w.node rest ≡ Some (record { number = number; visit = w }) →
    first_of_set k w.node (v ∷ rest) ≡ Some (record { number = number; visit = w })
skip k v w rest number other found = ap (λ b. cond b (Some (record { number = k; visit = v })) (first_of_set (k + 1) w.node rest)) other ∙ found

found_at : (kind : Kind) (vs : List Visit) (before : List Node) (done : List ℕ) (seen k : ℕ) (d : Visit)
    → is_leaf_kind kind ≡ false → seen ≡ length done → KeepRules before → KeepFrom before (map visited_node vs)
    → KnowsSizes kind before done →
    (i : ℕ) → i < length (set_firsts kind seen vs) → FoundAt kind seen k vs i (get_or (set_firsts kind seen vs) i d)
found_at kind [] before done seen k d inner many keep fits knows = λ i there. absurd (omega arith)
found_at kind (v ∷ rest) before done seen k d inner many keep fits knows =
    let more : List Node = before ++ v.node ∷ [] in
    let kept : KeepRules more = KeepRules-push before v.node keep fits.0 in
    elim (is_same_kind kind v.node.kind && nat_eq v.node.set (seen + 1)) as (λ b. is_same_kind kind v.node.kind && nat_eq v.node.set (seen + 1) ≡ b →
    (i : ℕ) → i < length (cond b (v ∷ set_firsts kind (seen + 1) rest) (set_firsts kind seen rest)) →
    FoundAt kind seen k (v ∷ rest) i (get_or (cond b (v ∷ set_firsts kind (seen + 1) rest) (set_firsts kind seen rest)) i d)) [
      | true ↦ λ first.
          let parts = and_parts (is_same_kind kind v.node.kind) (nat_eq v.node.set (seen + 1)) first in
          let is : v.node.kind ≡ kind = is_same_kind-true kind v.node.kind parts.0 in
          let number : v.node.set ≡ seen + 1 = eqb-true v.node.set (seen + 1) parts.1 in
          nat_cases (λ i. i < length (v ∷ set_firsts kind (seen + 1) rest)
          → FoundAt kind seen k (v ∷ rest) i (get_or (v ∷ set_firsts kind (seen + 1) rest) i d))
          (λ h. record {
            kinds = is;
            sets = omega arith;
            first = (k, ap (λ b. cond b (Some (record { number = k; visit = v })) (first_of_set (k + 1) v.node rest)) (is_same_set_by v.node v.node refl refl));
          })
          (λ i h.
          let long : seen + 1 ≡ length (done ++ v.node.children ∷ []) = omega (arith, length-append done (v.node.children ∷ [])) in
          let w : Visit = get_or (set_firsts kind (seen + 1) rest) i d in
          let found = found_at kind rest more (done ++ v.node.children ∷ []) (seen + 1) (k + 1) d inner long kept fits.1
          (knows_new kind before done v.node is (omega arith) knows) i (omega arith) in
          let sets : w.node.set ≡ seen + 1 + i + 1 = found.sets in
          record {
            kinds = found.kinds;
            sets = omega arith;
            first = (found.first.0, skip k v w rest found.first.0 (other_number v.node w.node (λ e. absurd (omega arith))) found.first.1);
          })
      | false ↦ λ other i h.
          let test : is_same_kind kind v.node.kind && nat_eq v.node.set (length done + 1)
          ≡ false = ap (λ n. is_same_kind kind v.node.kind && nat_eq v.node.set (n + 1)) (sym many) ∙ other in
          let w : Visit = get_or (set_firsts kind seen rest) i d in
          let found = found_at kind rest more done seen (k + 1) d inner many kept fits.1 (knows_later kind before done v.node inner keep fits.0 test knows) i
          h in
          let sets : w.node.set ≡ length done + i + 1 = found.sets ∙ ap (λ n. n + i + 1) many in
          record {
            kinds = found.kinds;
            sets = found.sets;
            first = (
              found.first.0,
              skip k v w rest found.first.0 (not_later kind before done v.node w.node i inner fits.0 knows test found.kinds sets) found.first.1,
            );
          }
    ] refl

-- in the list of first nodes each set of a kind has its first node at the place of its number
pub firsts_are_first : FirstsAreFirst
firsts_are_first tree game kind inner i d there =
    let firsts : List Visit = set_firsts kind 0 (visits tree) in
    let nodes : map visited_node (visits tree) ≡ prefix tree = map-visits_from (λ _. []) 1 tree in
    let keep : KeepFrom [] (map visited_node (visits tree)) = subst (KeepFrom []) (sym nodes) (KeepFrom-append [] (prefix tree) game.rules) in
    let count : length (set_sizes kind tree) ≡ set_count kind (prefix tree) = (sizes_known tree kind game inner).count ∙ ap (set_count kind) nodes in
    let long : length (set_sizes kind tree) ≡ length firsts = length-map firsts (λ v. v.node.children) in
    let knows : KnowsSizes kind [] [] = record { count = refl; each = λ x held is. absurd (nothing_in x held) } in
    let found = found_at kind (visits tree) [] [] 0 1 d inner refl (λ k e h. absurd (omega arith)) keep knows i (omega arith) in
    let sets : (get_or firsts i d).node.set ≡ 0 + i + 1 = found.sets in
    record { kinds = found.kinds; sets = omega arith; first = found.first }
  where
    nothing_in : (x : Node) → Contains [] x → ⊥
    nothing_in x held = let h : held.0 < 0 = held.1 in absurd (omega arith)
