-- Where perfect recall fails first.
use Rattle.std.proofs.Common.{◌≡◌, ◌≢◌, ℕ, zero, suc, ◌+◌, ◌-◌, ◌<◌, ◌≤◌, Bool, true, false, cond, not, ◌&&◌, List, [], ◌∷◌, length, get_or, refl, ap, sym}
use Rattle.std.proofs.Common.{subst, ◌∙◌, arith, Some, None, inl, inr, ◌⊎◌}
use Rattle.std.specs.Prelude.{Option, nat_eq}
use Rattle.std.proofs.lemmas.Bool.{and_from, and_parts, cases_lt, eqb-true, eq-eqb}
use Rattle.def_tree.specs.declared.Kind.TheVariants.{Leaf}
use Rattle.def_tree.specs.declared.Node.{Node}
use Rattle.def_tree.specs.Tree.{Forest}
use Rattle.def_tree.specs.Rules.{is_same_kind}
use Rattle.def_tree.proofs.Sets.{is_same_kind_refl, is_same_kind-true}
use Rattle.def_game_paths.specs.Paths.{Visit, visits, Choice}
use Rattle.def_game_paths.specs.Recall.{is_personal, past, HasPerfectRecall, is_same_set, is_same_choices, Numbered, first_of_set, RecallBreak, break_against}
use Rattle.def_game_paths.specs.Recall.{break_or, first_break, differ_in_past, recall_break, BreaksRecall, IsFirstBreak}

-- two lists of choices that pass the test of sameness are equal
pub same_choices : (xs ys : List Choice) → is_same_choices xs ys ≡ true → xs ≡ ys
same_choices [] [] e = refl
same_choices [] (y ∷ ys) e = cc
same_choices (x ∷ xs) [] e = cc
same_choices (x ∷ xs) (y ∷ ys) e =
    let first = and_parts (nat_eq x.set y.set) (nat_eq x.action y.action && is_same_choices xs ys) e in
    let second = and_parts (nat_eq x.action y.action) (is_same_choices xs ys) first.1 in
    let set : x.set ≡ y.set = eqb-true x.set y.set first.0 in
    let action : x.action ≡ y.action = eqb-true x.action y.action second.0 in
    λ i. record { set = set i; action = action i } ∷ same_choices xs ys second.1 i

-- a list of choices passes the test of sameness with itself
pub is_same_choices_refl : (xs : List Choice) → is_same_choices xs xs ≡ true
is_same_choices_refl [] = refl
is_same_choices_refl (x ∷ xs) =
    and_from (nat_eq x.set x.set) (nat_eq x.action x.action && is_same_choices xs xs) (eq-eqb x.set x.set refl)
    (and_from (nat_eq x.action x.action) (is_same_choices xs xs) (eq-eqb x.action x.action refl) (is_same_choices_refl xs))

-- two nodes that pass the test of one set have one kind and one set number
pub same_set : (x y : Node) → is_same_set x y ≡ true → (x.kind ≡ y.kind) × (x.set ≡ y.set)
same_set x y e =
    let parts = and_parts (is_same_kind x.kind y.kind) (nat_eq x.set y.set) e in
    (sym (is_same_kind-true x.kind y.kind parts.0), eqb-true x.set y.set parts.1)

-- two nodes with one kind and one set number pass the test of one set
pub is_same_set_by : (x y : Node) → x.kind ≡ y.kind → x.set ≡ y.set → is_same_set x y ≡ true
is_same_set_by x y kinds sets =
    and_from (is_same_kind x.kind y.kind) (nat_eq x.set y.set) (ap (is_same_kind x.kind) (sym kinds) ∙ is_same_kind_refl x.kind) (eq-eqb x.set y.set sets)

-- what a search for a set's first node finds
pub record IsFirstAt (k : ℕ) (node : Node) (vs : List Visit) (d : Visit) (found : Numbered) (place : ℕ) : Type 0 where
  pub number : found.number ≡ k + place
  pub there : place < length vs
  pub visit : found.visit ≡ get_or vs place d
  pub same : is_same_set found.visit.node node ≡ true
  pub before : (i : ℕ) → i < place → is_same_set (get_or vs i d).node node ≡ false

abbrev pub HasFirst : ℕ → Node → List Visit → Visit → Option Numbered → Type 0
HasFirst k node vs d None = (i : ℕ) → i < length vs → is_same_set (get_or vs i d).node node ≡ false
HasFirst k node vs d (Some found) = (place : ℕ) × IsFirstAt k node vs d found place

-- the search for a set's first node finds it, or none of the nodes is in the set
pub first_found : (k : ℕ) (node : Node) (vs : List Visit) (d : Visit) → HasFirst k node vs d (first_of_set k node vs)
first_found k node [] d = λ i h. absurd (omega arith)
first_found k node (v ∷ rest) d =
    elim (is_same_set v.node node) as (λ b. is_same_set v.node node ≡ b → HasFirst k node (v ∷ rest) d
    (cond b (Some (record { number = k; visit = v })) (first_of_set (k + 1) node rest))) [
      | true ↦ λ same. (0, record { number = omega arith; there = omega arith; visit = refl; same = same; before = λ i h. absurd (omega arith) })
      | false ↦ λ other.
          elim (first_of_set (k + 1) node rest) as (λ r. HasFirst (k + 1) node rest d r → HasFirst k node (v ∷ rest) d r) [
            | None ↦ λ none i h. later_none v rest d node other none i h
            | Some found ↦ λ later. (
              suc later.0,
              record {
                number = omega (arith, later.1.number);
                there = omega (arith, later.1.there);
                visit = later.1.visit;
                same = later.1.same;
                before = λ i h. earlier v rest d node later.0 other later.1.before i h;
              },
            )
          ] (first_found (k + 1) node rest d)
    ] refl
  where
    later_none : (v : Visit) (rest : List Visit) (d : Visit) (node : Node) → is_same_set v.node node ≡ false
        → ((i : ℕ) → i < length rest → is_same_set (get_or rest i d).node node ≡ false) →
        (i : ℕ) → i < length (v ∷ rest) → is_same_set (get_or (v ∷ rest) i d).node node ≡ false
    later_none v rest d node other none zero h = other
    later_none v rest d node other none (suc i) h = none i (omega arith)

    earlier : (v : Visit) (rest : List Visit) (d : Visit) (node : Node) (place : ℕ) → is_same_set v.node node ≡ false
        → ((i : ℕ) → i < place → is_same_set (get_or rest i d).node node ≡ false) →
        (i : ℕ) → i < suc place → is_same_set (get_or (v ∷ rest) i d).node node ≡ false
    earlier v rest d node place other before zero h = other
    earlier v rest d node place other before (suc i) h = before i (omega arith)

abbrev break_of : List Visit → ℕ → Visit → Option RecallBreak
break_of all k v = break_against differ_in_past k v (first_of_set 1 v.node all)

break_or_none : (a b : Option RecallBreak) → break_or a b ≡ None → (a ≡ None) × (b ≡ None)
break_or_none None b e = (refl, e)
break_or_none (Some broken) b e = cc

break_or_some : (a b : Option RecallBreak) (broken : RecallBreak) → break_or a b ≡ Some broken
    → (a ≡ Some broken) ⊎ ((a ≡ None) × (b ≡ Some broken))
break_or_some None b broken e = inr (refl, e)
break_or_some (Some first) b broken e = inl e

scan_none : (all : List Visit) (k : ℕ) (rest : List Visit) (d : Visit) → first_break differ_in_past all k rest ≡ None
    → (i : ℕ) → i < length rest → break_of all (k + i) (get_or rest i d) ≡ None
scan_none all k [] d e i h = absurd (omega arith)
scan_none all k (v ∷ rest) d e zero h = let here : k + 0 ≡ k = omega arith in ap (λ n. break_of all n v) here
    ∙ (break_or_none (break_of all k v) (first_break differ_in_past all (k + 1) rest) e).0
scan_none all k (v ∷ rest) d e (suc i) h =
    let there : k + suc i ≡ k + 1 + i = omega arith in
    ap (λ n. break_of all n (get_or rest i d)) there ∙ scan_none all (k + 1) rest d
    (break_or_none (break_of all k v) (first_break differ_in_past all (k + 1) rest) e).1 i (omega arith)

record Scan (all : List Visit) (k : ℕ) (rest : List Visit) (d : Visit) (broken : RecallBreak) (place : ℕ) : Type 0 where
  there : place < length rest
  is : break_of all (k + place) (get_or rest place d) ≡ Some broken
  before : (i : ℕ) → i < place → break_of all (k + i) (get_or rest i d) ≡ None

scan_some : (all : List Visit) (k : ℕ) (rest : List Visit) (d : Visit) (broken : RecallBreak)
    → first_break differ_in_past all k rest ≡ Some broken → (place : ℕ) × Scan all k rest d broken place
scan_some all k [] d broken e = cc
scan_some all k (v ∷ rest) d broken e =
    let here : k + 0 ≡ k = omega arith in
    elim (break_or_some (break_of all k v) (first_break differ_in_past all (k + 1) rest) broken e) [
      | inl this ↦ (0, record { there = omega arith; is = ap (λ n. break_of all n v) here ∙ this; before = λ i h. absurd (omega arith) })
      | inr later ↦
          let found = scan_some all (k + 1) rest d broken later.1 in
          let far : k + suc found.0 ≡ k + 1 + found.0 = omega arith in (
            suc found.0,
            record {
              there = omega (arith, found.1.there);
              is = ap (λ n. break_of all n (get_or rest found.0 d)) far ∙ found.1.is;
              before = λ i h. scan_before all k v rest d found.0 later.0 found.1.before i h;
            },
          )
    ]
  where
    scan_before : (all : List Visit) (k : ℕ) (v : Visit) (rest : List Visit) (d : Visit) (place : ℕ)
        → break_of all k v ≡ None → ((i : ℕ) → i < place → break_of all (k + 1 + i) (get_or rest i d) ≡ None) →
        (i : ℕ) → i < suc place → break_of all (k + i) (get_or (v ∷ rest) i d) ≡ None
    scan_before all k v rest d place none before zero h = let here : k + 0 ≡ k = omega arith in ap (λ n. break_of all n v) here ∙ none
    scan_before all k v rest d place none before (suc i) h = let far : k + suc i ≡ k + 1 + i = omega arith in ap (λ n. break_of all n (get_or rest i d)) far
        ∙ before i (omega arith)

-- where a player's node has no break with its set's first node, the player made the same choices before both
pub no_break_some : (k : ℕ) (v : Visit) (first : Numbered) → break_against differ_in_past k v (Some first) ≡ None
    → is_personal v.node.kind ≡ true → past first.visit ≡ past v
no_break_some k v first e personal =
    let broken : Option RecallBreak = Some (record { node = k; earlier = first.number }) in
    elim (is_same_choices (past first.visit) (past v)) as (λ b. is_same_choices (past first.visit) (past v) ≡ b
    → cond (is_personal v.node.kind && not b) broken None ≡ None → past first.visit ≡ past v) [
      | true ↦ λ same h. same_choices (past first.visit) (past v) same
      | false ↦ λ other h.
          let h' : broken ≡ None = subst (λ p. cond (p && true) broken None ≡ None) personal h in
          cc h'
    ] refl e

cond_some : (b : Bool) (x y : RecallBreak) → cond b (Some x) None ≡ Some y → (b ≡ true) × (x ≡ y)
cond_some true x y e = (refl, cc)
cond_some false x y e = cc

break_some : (k : ℕ) (v : Visit) (first : Numbered) (broken : RecallBreak)
    → break_against differ_in_past k v (Some first) ≡ Some broken →
    (record { node = k; earlier = first.number } ≡ broken) × (is_personal v.node.kind ≡ true) × (past first.visit ≢ past v)
break_some k v first broken e =
    let found = cond_some (is_personal v.node.kind && not (is_same_choices (past first.visit) (past v))) (record { node = k; earlier = first.number }) broken
    e in
    let parts = and_parts (is_personal v.node.kind) (not (is_same_choices (past first.visit) (past v))) found.0 in (
      found.1,
      parts.0,
      λ same.
          let yes : is_same_choices (past first.visit) (past v) ≡ true = ap (is_same_choices (past first.visit)) (sym same)
          ∙ is_same_choices_refl (past first.visit) in
          let no : not true ≡ true = ap not (sym yes) ∙ parts.1 in
          cc no,
    )

-- two nodes of one set have the same first node of their set
pub first_of_set_same : (k : ℕ) (x y : Node) (vs : List Visit) → x.kind ≡ y.kind → x.set ≡ y.set
    → first_of_set k x vs ≡ first_of_set k y vs
first_of_set_same k x y [] kinds sets = refl
first_of_set_same k x y (v ∷ rest) kinds sets =
    λ i. cond (is_same_kind v.node.kind (kinds i) && nat_eq v.node.set (sets i)) (Some (record { number = k; visit = v }))
    (first_of_set_same (k + 1) x y rest kinds sets i)

same_past : (k l : ℕ) (v w : Visit) (all : List Visit) (d : Visit) (i : ℕ) (o : Option Numbered) → i < length all
    → v ≡ get_or all i d → HasFirst 1 v.node all d o → is_personal v.node.kind ≡ true → is_personal w.node.kind ≡ true →
    break_against differ_in_past k v o ≡ None → break_against differ_in_past l w o ≡ None → past v ≡ past w
same_past k l v w all d i None there is none pv pw e f =
    let yes : is_same_set (get_or all i d).node v.node ≡ true = is_same_set_by (get_or all i d).node v.node (ap (λ x. x.node.kind) (sym is))
    (ap (λ x. x.node.set) (sym is)) in
    let no : true ≡ false = sym yes ∙ none i there in
    cc no
same_past k l v w all d i (Some first) there is found pv pw e f = sym (no_break_some k v first e pv) ∙ no_break_some l w first f pw

-- a tree in which no break is found has perfect recall
pub recall_of_none : (tree : Forest) → recall_break tree ≡ None → HasPerfectRecall tree
recall_of_none tree e i j d below there personal kinds sets =
    let all : List Visit = visits tree in
    let v : Visit = get_or all i d in
    let w : Visit = get_or all j d in
    let none_v : break_of all (1 + i) v ≡ None = scan_none all 1 all d e i (omega arith) in
    let none_w : break_of all (1 + j) w ≡ None = scan_none all 1 all d e j there in
    let same : first_of_set 1 v.node all ≡ first_of_set 1 w.node all = first_of_set_same 1 v.node w.node all kinds sets in
    same_past (1 + i) (1 + j) v w all d i (first_of_set 1 v.node all) (omega arith) refl (first_found 1 v.node all d) personal
    (ap is_personal (sym kinds) ∙ personal) none_v (ap (break_against differ_in_past (1 + j) w) same ∙ none_w)

-- a place of the scan breaks recall
breaks_at : (all : List Visit) (d : Visit) (broken : RecallBreak) (j : ℕ) (o : Option Numbered) → j < length all
    → HasFirst 1 (get_or all j d).node all d o → break_against differ_in_past (1 + j) (get_or all j d) o ≡ Some broken →
    BreaksRecall (λ k. get_or all (k - 1) d) (length all) broken
breaks_at all d broken j None there none e = cc
breaks_at all d broken j (Some first) there found e =
    let v : Visit = get_or all j d in
    let facts = break_some (1 + j) v first broken e in
    let p : ℕ = found.0 in
    let w : Visit = get_or all p d in
    let number : first.number ≡ 1 + p = found.1.number in
    let number_node : 1 + j ≡ broken.node = ap (λ f. f.node) facts.0 in
    let number_earlier : first.number ≡ broken.earlier = ap (λ f. f.earlier) facts.0 in
    let at_node : get_or all (broken.node - 1) d ≡ v = ap (λ n. get_or all n d) (omega arith) in
    let at_earlier : get_or all (broken.earlier - 1) d ≡ w = ap (λ n. get_or all n d) (omega arith) in
    let own : is_same_set v.node v.node ≡ true = is_same_set_by v.node v.node refl refl in
    let differs : past w ≢ past v = λ same. facts.2 (ap past found.1.visit ∙ same) in
    let before : p < j = elim (cases_lt p j) [
      | inl below ↦ below
      | inr above ↦ elim (cases_lt j p) [
        | inl beyond ↦ absurd (no_both (is_same_set v.node v.node) own (found.1.before j beyond))
        | inr equal ↦ absurd (differs (ap (λ n. past (get_or all n d)) (omega arith)))
      ]
    ] in
    record {
      in_range = (omega arith, omega arith, omega arith);
      personal = ap (λ x. is_personal x.node.kind) at_node ∙ facts.1;
      set = (λ i. is_same_set (at_earlier i).node (at_node i).node) ∙ ap (λ x. is_same_set x.node v.node) (sym found.1.visit) ∙ found.1.same;
      first = λ k low high. ap (λ x. is_same_set (get_or all (k - 1) d).node x.node) at_node ∙ found.1.before (k - 1) (omega arith);
      differs = λ same. differs (ap past (sym at_earlier) ∙ same ∙ ap past at_node);
    }
  where
    no_both : (b : Bool) → b ≡ true → b ≡ false → ⊥
    no_both b p q = let e : true ≡ false = sym p ∙ q in cc e

-- in a tree with perfect recall no break is found
pub none_of_recall : (tree : Forest) → HasPerfectRecall tree → recall_break tree ≡ None
none_of_recall tree recall =
    elim (recall_break tree) as (λ r. recall_break tree ≡ r → r ≡ None) [
      | None ↦ λ e. refl
      | Some broken ↦ λ e.
          let all : List Visit = visits tree in
          let d : Visit = record { path = []; node = record { kind = Leaf; set = 0; outcome = 0; children = 0 } } in
          let found = scan_some all 1 all d broken e in
          let breaks = breaks_at all d broken found.0 (first_of_set 1 (get_or all found.0 d).node all) found.1.there
          (first_found 1 (get_or all found.0 d).node all d) found.1.is in
          let alike = same_set (get_or all (broken.earlier - 1) d).node (get_or all (broken.node - 1) d).node breaks.set in
          let range = breaks.in_range in
          let low : 1 ≤ broken.earlier = range.0 in
          let below : broken.earlier < broken.node = range.1 in
          let high : broken.node ≤ length all = range.2 in
          absurd (breaks.differs (recall (broken.earlier - 1) (broken.node - 1) d (omega arith) (omega arith) (ap is_personal alike.0 ∙ breaks.personal) alike.0
          alike.1))
    ] refl

no_earlier : (all : List Visit) (d : Visit) (m : ℕ) (other : RecallBreak) (o : Option Numbered) → other.node ≡ 1 + m
    → BreaksRecall (λ k. get_or all (k - 1) d) (length all) other → HasFirst 1 (get_or all m d).node all d o
    → break_against differ_in_past (1 + m) (get_or all m d) o ≡ None → ⊥
no_earlier all d m other None number breaks none e =
    let at_node : get_or all (other.node - 1) d ≡ get_or all m d = ap (λ n. get_or all n d) (omega arith) in
    let range = breaks.in_range in
    let low : 1 ≤ other.earlier = range.0 in
    let below : other.earlier < other.node = range.1 in
    let high : other.node ≤ length all = range.2 in
    let no : true ≡ false = sym breaks.set ∙ ap (λ x. is_same_set (get_or all (other.earlier - 1) d).node x.node) at_node
    ∙ none (other.earlier - 1) (omega arith) in
    cc no
no_earlier all d m other (Some first) number breaks found e =
    let at_node : get_or all (other.node - 1) d ≡ get_or all m d = ap (λ n. get_or all n d) (omega arith) in
    let range = breaks.in_range in
    let low : 1 ≤ other.earlier = range.0 in
    let same : past first.visit ≡ past (get_or all m d) = no_break_some (1 + m) (get_or all m d) first e
    (ap (λ x. is_personal x.node.kind) (sym at_node) ∙ breaks.personal) in
    let p : ℕ = found.0 in
    let here : is_same_set (get_or all p d).node (get_or all m d).node ≡ true = ap (λ x. is_same_set x.node (get_or all m d).node) (sym found.1.visit)
    ∙ found.1.same in
    let there : is_same_set (get_or all (other.earlier - 1) d).node (get_or all m d).node
    ≡ true = ap (λ x. is_same_set (get_or all (other.earlier - 1) d).node x.node) (sym at_node) ∙ breaks.set in
    elim (cases_lt (other.earlier - 1) p) [
      | inl before ↦ let no : true ≡ false = sym there ∙ found.1.before (other.earlier - 1) before in cc no
      | inr past_it ↦ elim (cases_lt p (other.earlier - 1)) [
        | inl earlier ↦
            let none : is_same_set (get_or all (p + 1 - 1) d).node (get_or all (other.node - 1) d).node
            ≡ false = breaks.first (p + 1) (omega arith) (omega arith) in
            let index : p + 1 - 1 ≡ p = omega arith in
            let no : true ≡ false = sym here ∙ (λ i. is_same_set (get_or all (sym index i) d).node (sym at_node i).node) ∙ none in
            cc no
        | inr equal ↦
            let index : other.earlier - 1 ≡ p = omega arith in
            breaks.differs (ap (λ n. past (get_or all n d)) index ∙ ap past (sym found.1.visit) ∙ same ∙ ap past (sym at_node))
      ]
    ]

scan_number : (all : List Visit) (j : ℕ) (d : Visit) (broken : RecallBreak) (o : Option Numbered)
    → break_against differ_in_past (1 + j) (get_or all j d) o ≡ Some broken → broken.node ≡ 1 + j
scan_number all j d broken None e = cc
scan_number all j d broken (Some first) e = sym (ap (λ f. f.node) (break_some (1 + j) (get_or all j d) first broken e).0)

-- the break that is found is one, and no node before it has one
pub break_first : (tree : Forest) (d : Visit) (broken : RecallBreak) → recall_break tree ≡ Some broken
    → IsFirstBreak (λ k. get_or (visits tree) (k - 1) d) (length (visits tree)) broken
break_first tree d broken e =
    let all : List Visit = visits tree in
    let found = scan_some all 1 all d broken e in
    let breaks = breaks_at all d broken found.0 (first_of_set 1 (get_or all found.0 d).node all) found.1.there (first_found 1 (get_or all found.0 d).node all d)
    found.1.is in
    record {
      breaks = breaks;
      first = λ other it_breaks. elim (cases_lt other.node broken.node) [
        | inr after ↦ after
        | inl before ↦
            let number : broken.node ≡ 1 + found.0 = scan_number all found.0 d broken (first_of_set 1 (get_or all found.0 d).node all) found.1.is in
            let range = it_breaks.in_range in
            let low : 1 ≤ other.earlier = range.0 in
            let below : other.earlier < other.node = range.1 in
            let m : ℕ = other.node - 1 in
            absurd (no_earlier all d m other (first_of_set 1 (get_or all m d).node all) (omega arith) it_breaks (first_found 1 (get_or all m d).node all d)
            (found.1.before m (omega arith)))
      ];
    }
