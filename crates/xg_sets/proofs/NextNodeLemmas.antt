-- What a node more does to the next nodes of those before it, and to the last nodes of sets.
use Rattle.std.proofs.Common.{◌≡◌, ℕ, zero, suc, ◌+◌, ◌-◌, ◌<◌, ◌≤◌, Bool, true, false, cond, List, [], ◌∷◌, ◌++◌, length, get_or, map, set, refl, ap, sym}
use Rattle.std.proofs.Common.{subst, ◌∙◌, arith, inl, inr, Some, None, length-append}
use Rattle.std.specs.Prelude.{Option}
use Rattle.std.proofs.lemmas.Bool.{cases_lt}
use Rattle.std.proofs.Math.ListN.{get_or-append}
use Rattle.std.proofs.Math.Seq.{get_or-append_seam}
use Rattle.def_tree.specs.declared.Kind.{Kind}
use Rattle.def_tree.specs.declared.Node.{Node}
use Rattle.def_game_paths.specs.Paths.{Visit}
use Rattle.def_game_paths.specs.Recall.{first_of_set, is_personal, is_same_set}
use Rattle.def_game_paths.proofs.Breaks.{is_same_set_by, same_set}
use Rattle.def_sequence_form.specs.Sets.{next_number, next_numbers, number_found}
use Rattle.def_sequence_form.specs.SetNodes.{is_in_set}
use Rattle.xg_sets.specs.declared.table.FoundSet.{FoundSet}
use Rattle.xg_sets.specs.Entered.{IsLastNode}

-- behind nodes of other sets, a search for the first node of a set finds the next one
pub first_after : (k : ℕ) (x : Node) (before : List Visit) (v : Visit) (rest : List Visit)
    → ((i : ℕ) (d : Visit) → i < length before → is_same_set (get_or before i d).node x ≡ false)
    → is_same_set v.node x ≡ true →
    first_of_set k x (before ++ v ∷ rest) ≡ Some (record { number = k + length before; visit = v })
first_after k x [] v rest none same =
    let here : k ≡ k + 0 = omega arith in
    ap (λ b. cond b (Some (record { number = k; visit = v })) (first_of_set (k + 1) x rest)) same ∙ ap (λ m. Some (record { number = m; visit = v })) here
first_after k x (w ∷ ws) v rest none same =
    let far : k + 1 + length ws ≡ k + suc (length ws) = omega arith in
    ap (λ b. cond b (Some (record { number = k; visit = w })) (first_of_set (k + 1) x (ws ++ v ∷ rest))) (none 0 w (omega arith))
    ∙ first_after (k + 1) x ws v rest (λ i d h. none (suc i) d (omega arith)) same
    ∙ ap (λ m. Some (record { number = m; visit = v })) far

-- what isn't true is false
pub not_true : (b : Bool) → (b ≡ true → ⊥) → b ≡ false
not_true true other = absurd (other refl)
not_true false other = refl

-- true isn't false
pub apart : true ≡ false → ⊥
apart e = cc e

-- to be in one set goes both ways
pub other_way : (x y : Node) → is_same_set x y ≡ false → is_same_set y x ≡ false
other_way x y other = not_true (is_same_set y x) (λ alike_test.
    let alike = same_set y x alike_test in apart (sym (is_same_set_by x y (sym alike.0) (sym alike.1)) ∙ other))

-- a node that isn't in the set doesn't end the search
search_goes_on : (k : ℕ) (x : Node) (vs : List Visit) (v : Visit) → is_same_set v.node x ≡ false
    → first_of_set k x (vs ++ v ∷ []) ≡ first_of_set k x vs
search_goes_on k x [] v other = ap (λ b. cond b (Some (record { number = k; visit = v })) None) other
search_goes_on k x (w ∷ ws) v other =
    ap (λ o. cond (is_same_set w.node x) (Some (record { number = k; visit = w })) o) (search_goes_on (k + 1) x ws v other)

-- nor does a node behind the one that is found
search_ended : (k : ℕ) (x : Node) (vs : List Visit) (v : Visit) (p : ℕ) (d : Visit) → p < length vs
    → is_same_set (get_or vs p d).node x ≡ true
    → first_of_set k x (vs ++ v ∷ []) ≡ first_of_set k x vs
search_ended k x [] v p d there alike_test = absurd (omega arith)
search_ended k x (w ∷ ws) v zero d there alike_test =
    ap (λ b. cond b (Some (record { number = k; visit = w })) (first_of_set (k + 1) x (ws ++ v ∷ []))) alike_test
    ∙ sym (ap (λ b. cond b (Some (record { number = k; visit = w })) (first_of_set (k + 1) x ws)) alike_test)
search_ended k x (w ∷ ws) v (suc p) d there alike_test =
    ap (λ o. cond (is_same_set w.node x) (Some (record { number = k; visit = w })) o) (search_ended (k + 1) x ws v p d (omega arith) alike_test)

none_at_end : (k : ℕ) (v : Visit) → next_numbers k (v ∷ []) ≡ None ∷ []
none_at_end k v = ap (λ o. o ∷ []) (both (is_personal v.node.kind))
  where
    both : (b : Bool) → cond {A = Option ℕ} b None None ≡ None
    both true = refl
    both false = refl

-- where no player's node is in the set of the last node, the others keep their next ones
pub quiet_numbers : (k : ℕ) (vs : List Visit) (v : Visit)
    → ((i : ℕ) (d : Visit) → i < length vs → is_personal (get_or vs i d).node.kind ≡ true → is_same_set v.node (get_or vs i d).node ≡ false)
    → next_numbers k (vs ++ v ∷ []) ≡ next_numbers k vs ++ None ∷ []
quiet_numbers k [] v others = none_at_end k v
quiet_numbers k (w ∷ ws) v others =
    (λ i. same_next (others 0 w (omega arith)) i ∷ quiet_numbers (k + 1) ws v (λ j d there. others (suc j) d (omega arith)) i)
  where
    same_next : (is_personal w.node.kind ≡ true → is_same_set v.node w.node ≡ false)
        → next_number (k + 1) w (ws ++ v ∷ []) ≡ next_number (k + 1) w ws
    same_next other = elim (is_personal w.node.kind) as (λ b. (b ≡ true → is_same_set v.node w.node ≡ false)
        → cond b (number_found (first_of_set (k + 1) w.node (ws ++ v ∷ []))) None ≡ cond b (number_found (first_of_set (k + 1) w.node ws)) None) [
          | true ↦ λ h. ap number_found (search_goes_on (k + 1) w.node ws v (h refl))
          | false ↦ λ h. refl
        ] other

-- the last node comes next after the one of its set before it
pub joined_numbers : (k : ℕ) (vs : List Visit) (v : Visit) (p : ℕ) (d : Visit) → is_personal v.node.kind ≡ true
    → p < length vs
    → is_same_set (get_or vs p d).node v.node ≡ true
    → ((j : ℕ) (e : Visit) → p < j → j < length vs → is_same_set (get_or vs j e).node v.node ≡ false)
    → next_numbers k (vs ++ v ∷ []) ≡ set (next_numbers k vs) p (Some (k + length vs)) ++ None ∷ []
joined_numbers k [] v p d personal there same later = absurd (omega arith)
joined_numbers k (w ∷ ws) v zero d personal there same later =
    let alike = same_set w.node v.node same in
    let personal_w : is_personal w.node.kind ≡ true = ap is_personal alike.0 ∙ personal in
    let others : (i : ℕ) (e : Visit) → i < length ws → is_same_set (get_or ws i e).node v.node
    ≡ false = λ i e inside. later (suc i) e (omega arith) (omega arith) in
    let far : k + 1 + length ws ≡ k + suc (length ws) = omega arith in
    let found : next_number (k + 1) w (ws ++ v ∷ []) ≡ Some (k + suc (length ws)) =
    ap (λ b. cond b (number_found (first_of_set (k + 1) w.node (ws ++ v ∷ []))) None) personal_w
    ∙ ap number_found (first_after (k + 1) w.node ws v [] (λ i e inside. of_alike (get_or ws i e).node alike.0 alike.1 (others i e inside))
    (is_same_set_by v.node w.node (sym alike.0) (sym alike.1)))
    ∙ ap Some far in
    (λ i. found i ∷ quiet_numbers (k + 1) ws v (λ j e inside _. other_way (get_or ws j e).node v.node (others j e inside)) i)
  where
    of_alike : (x : Node) → w.node.kind ≡ v.node.kind → w.node.set ≡ v.node.set → is_same_set x v.node ≡ false
        → is_same_set x w.node ≡ false
    of_alike x kinds sets other = not_true (is_same_set x w.node) (λ alike_test.
        let alike = same_set x w.node alike_test in apart (sym (is_same_set_by x v.node (alike.0 ∙ kinds) (alike.1 ∙ sets)) ∙ other))
joined_numbers k (w ∷ ws) v (suc p) d personal there same later =
    let far : k + 1 + length ws ≡ k + suc (length ws) = omega arith in
    let rest = joined_numbers (k + 1) ws v p d personal (omega arith) same (λ j e after inside. later (suc j) e (omega arith) (omega arith)) in
    (λ i. ap (λ o. cond (is_personal w.node.kind) (number_found o) None) same_search i ∷ rest i)
    ∙ ap (λ n. next_number (k + 1) w ws ∷ (set (next_numbers (k + 1) ws) p (Some n) ++ None ∷ [])) far
  where
    same_search : first_of_set (k + 1) w.node (ws ++ v ∷ []) ≡ first_of_set (k + 1) w.node ws
    same_search = elim (is_same_set v.node w.node) as (λ b. is_same_set v.node w.node ≡ b → first_of_set (k + 1) w.node (ws ++ v ∷ [])
        ≡ first_of_set (k + 1) w.node ws) [
          | true ↦ λ alike_test.
              let alike = same_set v.node w.node alike_test in
              let of_p = same_set (get_or ws p d).node v.node same in
              search_ended (k + 1) w.node ws v p d (omega arith) (is_same_set_by (get_or ws p d).node w.node (of_p.0 ∙ alike.0) (of_p.1 ∙ alike.1))
          | false ↦ λ other. search_goes_on (k + 1) w.node ws v other
        ] refl

pub length-next_numbers : (k : ℕ) (vs : List Visit) → length (next_numbers k vs) ≡ length vs
length-next_numbers k [] = refl
length-next_numbers k (v ∷ rest) = ap suc (length-next_numbers (k + 1) rest)

module _ (kind : Kind) (number : ℕ) (done : List Visit) (v : Visit) (last : ℕ) where
  -- a set's last node stays so with a node of another set
  pub last_kept : IsLastNode kind number done last → is_in_set kind number v ≡ false
      → IsLastNode kind number (done ++ v ∷ []) last
  last_kept is other =
      let long : length (done ++ v ∷ []) ≡ length done + 1 = length-append done (v ∷ []) in
      let from_one : 1 ≤ last = is.from_one in
      let there : last ≤ length done = is.there in
      record {
        from_one = from_one;
        there = omega arith;
        is_in = λ d. ap (is_in_set kind number) (get_or-append done (v ∷ []) d (last - 1) (omega arith)) ∙ is.is_in d;
        later = λ j d after inside. elim (cases_lt j (length done)) [
          | inl below ↦ ap (is_in_set kind number) (get_or-append done (v ∷ []) d j below) ∙ is.later j d after below
          | inr past ↦
              let at : length done ≡ j = omega arith in
              subst (λ m. is_in_set kind number (get_or (done ++ v ∷ []) m d) ≡ false) at (ap (is_in_set kind number) (get_or-append_seam done v [] d) ∙ other)
        ];
      }

  -- a node of the set is its last one
  pub last_new : length done + 1 ≡ last → is_in_set kind number v ≡ true → IsLastNode kind number (done ++ v ∷ []) last
  last_new is own =
      let long : length (done ++ v ∷ []) ≡ length done + 1 = length-append done (v ∷ []) in
      let at : length done ≡ last - 1 = omega arith in
      record {
        from_one = omega arith;
        there = omega arith;
        is_in = λ d. subst (λ m. is_in_set kind number (get_or (done ++ v ∷ []) m d) ≡ true) at
            (ap (is_in_set kind number) (get_or-append_seam done v [] d) ∙ own);
        later = λ j d after inside. absurd (omega arith);
      }

-- what is the same of the new row stays the same for all
pub map_kept : {X : Type 0} (f : FoundSet → X) (rows : List FoundSet) (i : ℕ) (row d : FoundSet) → f row ≡ f (get_or rows i d)
    → map f (set rows i row) ≡ map f rows
map_kept f [] i row d same = refl
map_kept f (x ∷ rows) zero row d same = ap (λ a. a ∷ map f rows) same
map_kept f (x ∷ rows) (suc i) row d same = ap (λ later. f x ∷ later) (map_kept f rows i row d same)

-- each row has what the new one has, and what each other one has
pub each_row : (P : ℕ → FoundSet → Type 0) (rows : List FoundSet) (i : ℕ) (row : FoundSet) → P i row
    → ((j : ℕ) (d : FoundSet) → j < length rows → (j ≡ i → ⊥) → P j (get_or rows j d))
    → (j : ℕ) (d : FoundSet) → j < length (set rows i row) → P j (get_or (set rows i row) j d)
each_row P [] i row new others j d there = absurd (omega arith)
each_row P (x ∷ rows) zero row new others zero d there = new
each_row P (x ∷ rows) zero row new others (suc j) d there = others (suc j) d (omega arith) (λ e. absurd (omega arith))
each_row P (x ∷ rows) (suc i) row new others zero d there = others zero d (omega arith) (λ e. absurd (omega arith))
each_row P (x ∷ rows) (suc i) row new others (suc j) d there =
    each_row (λ n. P (suc n)) rows i row new (λ k e inside differs. others (suc k) e (omega arith) (λ same. differs (omega arith))) j d (omega arith)
