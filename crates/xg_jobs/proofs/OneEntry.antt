-- One entry for the leaves of a group that have the same sequence of the other player.
use Rattle.std.proofs.Common.{◌≡◌, ℕ, zero, suc, ◌+◌, ◌-◌, ◌^◌, ◌<◌, ◌≤◌, Bool, true, false, Some, cond, eqb, List, [], ◌∷◌, ◌++◌, length, get_or, slice_index}
use Rattle.std.proofs.Common.{set, take, drop, map, All, ℤ, pos, ◌+ℤ◌, unsigned_abs, FitsSigned, to_z, of_z, refl, sym, ap, subst, ◌∙◌, arith, ⊎_elim}
use Rattle.std.specs.Int.{w64}
use Rattle.std.proofs.lemmas.List.{drop_all, take_all, take_more, take-take, take-set-le, drop-set-add, drop-take, take-append-le, drop-append-le, drop-map}
use Rattle.std.proofs.lemmas.List.{map-append, length-set, length-map, length-append, length-drop, length-take-le, get_or-drop, get_or-set_same}
use Rattle.std.proofs.lemmas.List.{get_or-set_other}
use Rattle.std.proofs.lemmas.List.Elements.{All-pop, All-push, All-set}
use Rattle.std.proofs.lemmas.Bool.{cases_lt}
use Rattle.std.proofs.lemmas.Int.{fits_signed_from_abs, ints, to_z-of_z}
use Rattle.std.proofs.Math.ListN.{get_or-append}
use Rattle.std.proofs.Math.Seq.{get_or-append_seam, take-append_seam}
use Rattle.std.specs.List.{range_with_len}
use Rattle.def_sums.proofs.Ranges.{All-range, at_most_sum, map-range_same}
use Rattle.def_sums.proofs.RingLaws.{unsigned_abs-+ℤ, +ℤ-zero, +ℤ_assoc}
use Rattle.def_sums.proofs.SumLaws.{sum_over-append, nat_sum_over-append, nat_sum_over-mono}
use Rattle.def_tree.specs.Rules.{most_nodes}
use Rattle.xg_jobs.specs.Entries.{AreMergedGroups, KeepsGroups}
use Rattle.xg_jobs.specs.Groups.{GroupLeaf, HaveOwnSequences, group_at, group_mass, groups_mass, weight_with, weights_of}
use Rattle.xg_jobs.proofs.GroupSums.{leaf_at, mass_front, weight_within}
use Rattle.xg_jobs.specs.Merging.{MayReplace, TakesLeaf, TakesGroup, MergedUpto, AreMerged, CanMerge, TellPlaces}

-- an entry with more weight
abbrev pub more : GroupLeaf → ℤ → GroupLeaf
more x w = record { other = x.other; weight = x.weight +ℤ w }

weight_more : (xs : List GroupLeaf) (i : ℕ) (x : GroupLeaf) (w : ℤ) (b : ℕ) → i < length xs → get_or xs i x ≡ x
    → weight_with b (set xs i (more x w)) ≡ weight_with b xs +ℤ cond (eqb x.other b) w (pos 0)
weight_more [] i x w b low read = absurd (omega arith)
weight_more (y ∷ ys) zero x w b low read =
    by_test (eqb x.other b) ∙ ap (λ (z : GroupLeaf). (cond (eqb z.other b) z.weight (pos 0) +ℤ weight_with b ys) +ℤ cond (eqb x.other b) w (pos 0)) (sym read)
  where
    by_test : (t : Bool)
        → cond t (x.weight +ℤ w) (pos 0) +ℤ weight_with b ys
        ≡ (cond t x.weight (pos 0) +ℤ weight_with b ys) +ℤ cond t w (pos 0)
    by_test true = omega (arith, ints)
    by_test false = omega (arith, ints)
weight_more (y ∷ ys) (suc i) x w b low read =
    ap (λ n. cond (eqb y.other b) y.weight (pos 0) +ℤ n) (weight_more ys i x w b (omega arith) read)
    ∙ sym (+ℤ_assoc (cond (eqb y.other b) y.weight (pos 0)) (weight_with b ys) (cond (eqb x.other b) w (pos 0)))

mass_more : (xs : List GroupLeaf) (i : ℕ) (x : GroupLeaf) (w : ℤ) → i < length xs → get_or xs i x ≡ x
    → group_mass (set xs i (more x w)) ≤ group_mass xs + unsigned_abs w
mass_more [] i x w low read = absurd (omega arith)
mass_more (y ∷ ys) zero x w low read = omega (arith, unsigned_abs-+ℤ x.weight w, ap (λ (z : GroupLeaf). unsigned_abs z.weight) read)
mass_more (y ∷ ys) (suc i) x w low read = omega (arith, mass_more ys i x w (omega arith) read)

-- a leaf whose sequence has an entry already
pub leaf_added : (begin place : ℕ) (e x : GroupLeaf) (old : List GroupLeaf) → begin ≤ place → place < length old
    → get_or old place x ≡ x → x.other ≡ e.other → TakesLeaf begin e old (set old place (more x e.weight))
leaf_added begin place e x old from low read same =
    let j : ℕ = place - begin in
    let at : begin + j ≡ place = omega arith in
    let back : drop begin (set old place (more x e.weight)) ≡ set (drop begin old) j (more x e.weight) =
    ap (λ k. drop begin (set old k (more x e.weight))) (sym at) ∙ drop-set-add begin old j (more x e.weight) in
    let inside : j < length (drop begin old) = omega (arith, length-drop begin old) in
    let found : get_or (drop begin old) j x ≡ x = get_or-drop begin old j x ∙ ap (λ k. get_or old k x) at ∙ read in
    record {
      front = take-set-le begin old place (more x e.weight) from;
      longer = omega (arith, length-set old place (more x e.weight));
      shorter = omega (arith, length-set old place (more x e.weight));
      weights = λ b.
          ap (weight_with b) back ∙ weight_more (drop begin old) j x e.weight b inside found
          ∙ ap (λ k. weight_with b (drop begin old) +ℤ cond (eqb k b) e.weight (pos 0)) same;
      mass = omega (arith, ap group_mass back, mass_more (drop begin old) j x e.weight inside found);
      within = λ others all here.
          subst (All (λ y. y.other < others)) (sym back) (All-set (λ y. y.other < others) (drop begin old) j (more x e.weight) (omega (arith, same)) all);
    }

-- an entry's weight and a leaf's, added up in 64 bits: they hold the sum, which is within the mass of the entry's group
-- and the leaf
pub record AddUp (one other entry leaf : ℤ) (mass : ℕ) : Type 0 where
  pub fits : FitsSigned w64 (to_z w64 (of_z w64 one) +ℤ to_z w64 (of_z w64 other))
  pub sum_is : to_z w64 (of_z w64 (to_z w64 (of_z w64 one) +ℤ to_z w64 (of_z w64 other))) ≡ entry +ℤ leaf
  pub within : unsigned_abs (entry +ℤ leaf) ≤ mass

pub weights_add_up : {X : Type 0} (leaf : X → GroupLeaf) (items : List X) (begin place : ℕ) (x : X) (one other w : ℤ)
    → begin ≤ place → place < length items → x ≡ get_or items place x
    → FitsSigned w64 one → one ≡ (leaf x).weight → FitsSigned w64 other → other ≡ w
    → group_mass (drop begin (map leaf items)) + unsigned_abs w < 2 ^ 63
    → AddUp one other (leaf x).weight w (group_mass (drop begin (map leaf items)) + unsigned_abs w)
weights_add_up leaf items begin place x one other w from low is fits_one one_is fits_other other_is light =
    let gs : List GroupLeaf = map leaf items in
    let j : ℕ = place - begin in
    let at : begin + j ≡ place = omega arith in
    let inside : j < length (drop begin gs) = omega (arith, length-drop begin gs, length-map items leaf) in
    let read : get_or (drop begin gs) j (leaf x) ≡ leaf x = get_or-drop begin gs j (leaf x) ∙ ap (λ k. get_or gs k (leaf x)) at
    ∙ leaf_at leaf items place x low is in
    let within : unsigned_abs ((leaf x).weight +ℤ w) ≤ group_mass (drop begin gs) + unsigned_abs w =
    omega (arith, unsigned_abs-+ℤ (leaf x).weight w, weight_within (drop begin gs) j (leaf x) inside read) in
    let sum : ℤ = to_z w64 (of_z w64 one) +ℤ to_z w64 (of_z w64 other) in
    let sum_is : sum ≡ (leaf x).weight +ℤ w = λ i. (to_z-of_z w64 one fits_one ∙ one_is) i +ℤ (to_z-of_z w64 other fits_other ∙ other_is) i in
    let fits : FitsSigned w64 sum = fits_signed_from_abs w64 sum (omega (arith, ap unsigned_abs sum_is, within, light)) in
    record { fits = fits; sum_is = to_z-of_z w64 sum fits ∙ sum_is; within = within }

-- a leaf with an entry of its own
pub leaf_pushed : (begin : ℕ) (e : GroupLeaf) (old : List GroupLeaf) → begin ≤ length old
    → TakesLeaf begin e old (old ++ e ∷ [])
leaf_pushed begin e old from =
    let back : drop begin (old ++ e ∷ []) ≡ drop begin old ++ e ∷ [] = drop-append-le begin old (e ∷ []) from in
    record {
      front = take-append-le begin old (e ∷ []) from;
      longer = omega (arith, length-append old (e ∷ []));
      shorter = omega (arith, length-append old (e ∷ []));
      weights = λ b.
          ap (weight_with b) back ∙ sum_over-append (λ x. cond (eqb x.other b) x.weight (pos 0)) (drop begin old) (e ∷ [])
          ∙ ap (λ n. weight_with b (drop begin old) +ℤ n) (+ℤ-zero (cond (eqb e.other b) e.weight (pos 0)));
      mass = omega (arith, ap group_mass back, nat_sum_over-append (λ x. unsigned_abs x.weight) (drop begin old) (e ∷ []));
      within = λ others all here. subst (All (λ y. y.other < others)) (sym back) (All-push (λ y. y.other < others) (drop begin old) e all here);
    }

-- an entry with more weight has the same sequence
same_others : (xs : List GroupLeaf) (i : ℕ) (x : GroupLeaf) (w : ℤ) → get_or xs i x ≡ x
    → map (λ e. e.other) (set xs i (more x w)) ≡ map (λ e. e.other) xs
same_others [] i x w read = refl
same_others (y ∷ ys) zero x w read = ap (λ (z : GroupLeaf). z.other ∷ map (λ e. e.other) ys) (sym read)
same_others (y ∷ ys) (suc i) x w read = ap (λ os. y.other ∷ os) (same_others ys i x w read)

pub told_added : (begin place : ℕ) (places : List ℕ) (x : GroupLeaf) (w : ℤ) (old : List GroupLeaf) → get_or old place x ≡ x
    → TellPlaces begin places old → TellPlaces begin places (set old place (more x w))
told_added begin place places x w old read told i from low =
    ap (λ os. slice_index places (slice_index os i)) (same_others old place x w read)
    ∙ told i from (omega (arith, low, length-set old place (more x w)))

-- an entry of its own, where none has the same sequence
pub told_pushed : (begin : ℕ) (places : List ℕ) (e : GroupLeaf) (old : List GroupLeaf) → e.other < length places
    → TellPlaces begin places old
    → ((i : ℕ) → begin ≤ i → i < length old → slice_index (map (λ e. e.other) old) i ≡ e.other → ⊥)
    → TellPlaces begin (set places e.other (length old)) (old ++ e ∷ [])
told_pushed begin places e old inside told none i from low =
    let others : List GroupLeaf → List ℕ = λ es. map (λ (x : GroupLeaf). x.other) es in
    let there : List ℕ = set places e.other (length old) in
    let both : others (old ++ e ∷ []) ≡ others old ++ e.other ∷ [] = map-append (λ (x : GroupLeaf). x.other) old (e ∷ []) in
    let count : length (others old) ≡ length old = length-map old (λ (x : GroupLeaf). x.other) in
    ⊎_elim
    (λ less.
    let at : slice_index (others (old ++ e ∷ [])) i ≡ slice_index (others old) i =
    ap (λ os. slice_index os i) both ∙ get_or-append (others old) (e.other ∷ []) 0 i (omega (arith, less, count)) in
    ap (slice_index there) at
    ∙ get_or-set_other places e.other (slice_index (others old) i) (length old) 0 (none i from less) ∙ told i from less)
    (λ later.
    let last : i ≡ length (others old) = omega (arith, later, low, count, length-append old (e ∷ [])) in
    let at : slice_index (others (old ++ e ∷ [])) i ≡ e.other =
    (λ k. slice_index (both k) (last k)) ∙ get_or-append_seam (others old) e.other [] 0 in
    ap (slice_index there) at ∙ get_or-set_same places e.other (length old) 0 inside ∙ omega (arith, last, count))
    (cases_lt i (length old))

-- and so none has the sequence of another
pub told_once : (begin : ℕ) (places : List ℕ) (entries : List GroupLeaf) → TellPlaces begin places entries
    → HaveOwnSequences (drop begin entries)
told_once begin places entries told i j low_i low_j same =
    let others : List GroupLeaf → List ℕ = λ es. map (λ (x : GroupLeaf). x.other) es in
    let at : (k : ℕ) → slice_index (others (drop begin entries)) k ≡ slice_index (others entries) (begin + k) =
    λ k. ap (λ os. slice_index os k) (sym (drop-map (λ (x : GroupLeaf). x.other) begin entries)) ∙ get_or-drop begin (others entries) k 0 in
    let long = length-drop begin entries in
    let one = told (begin + i) (omega arith) (omega (arith, low_i, long)) in
    let two = told (begin + j) (omega arith) (omega (arith, low_j, long)) in
    omega (arith, sym one ∙ ap (slice_index places) (sym (at i) ∙ same ∙ at j) ∙ two)

-- no leaf yet
pub takes_none : (old : List GroupLeaf) → TakesGroup [] old old
takes_none old =
    let none : drop (length old) old ≡ [] = drop_all (length old) old (omega arith) in
    record {
      front = take_all (length old) old (omega arith);
      longer = omega arith;
      shorter = omega arith;
      stands = subst (λ xs. MayReplace xs []) (sym none) (record {
        weights = λ b. refl;
        mass = omega arith;
        within = λ others all. all;
        once = λ i j low. absurd (omega arith);
      });
    }

-- and one leaf more
pub takes_more : (leaves : List GroupLeaf) (e : GroupLeaf) (old now new : List GroupLeaf) → TakesGroup leaves old now
    → TakesLeaf (length old) e now new → HaveOwnSequences (drop (length old) new)
    → TakesGroup (leaves ++ e ∷ []) old new
takes_more leaves e old now new group leaf once = record {
  front = leaf.front ∙ group.front;
  longer = omega (arith, group.longer, leaf.longer);
  shorter = omega (arith, group.shorter, leaf.shorter, length-append leaves (e ∷ []));
  stands = record {
    weights = λ b.
        leaf.weights b ∙ ap (λ n. n +ℤ cond (eqb e.other b) e.weight (pos 0)) (group.stands.weights b)
        ∙ ap (λ n. weight_with b leaves +ℤ n) (sym (+ℤ-zero (cond (eqb e.other b) e.weight (pos 0))))
        ∙ sym (sum_over-append (λ x. cond (eqb x.other b) x.weight (pos 0)) leaves (e ∷ []));
    mass = omega (arith, leaf.mass, group.stands.mass, nat_sum_over-append (λ x. unsigned_abs x.weight) leaves (e ∷ []));
    within = λ others all.
        let parts = All-pop (λ x. x.other < others) (leaves ++ e ∷ []) leaves (Some e) refl all in
        leaf.within others (group.stands.within others parts.0) parts.1;
    once = once;
  };
}

-- the next leaf that is taken of a group
pub next_leaf : {X : Type 0} (leaf : X → GroupLeaf) (group : List X) (i : ℕ) (x : X) → i < length group
    → x ≡ get_or group i x
    → take (i + 1) (map leaf group) ≡ take i (map leaf group) ++ leaf x ∷ []
next_leaf leaf group i x low is =
    take_more (map leaf group) i (leaf x) (omega (arith, length-map group leaf))
    ∙ ap (λ y. take i (map leaf group) ++ y ∷ []) (leaf_at leaf group i x low is)

-- with what stands for those before it, it is within the group's mass
pub taken_mass : {X : Type 0} (leaf : X → GroupLeaf) (group entries : List X) (begin i : ℕ) (x : X)
    (now : List GroupLeaf) → i < length group → x ≡ get_or group i x → begin ≡ length entries
    → TakesGroup (take i (map leaf group)) (map leaf entries) now
    → group_mass (drop begin now) + unsigned_abs (leaf x).weight ≤ group_mass (map leaf group)
taken_mass leaf group entries begin i x now low is begins takes =
    let gs : List GroupLeaf = map leaf group in
    let begin_is : begin ≡ length (map leaf entries) = omega (arith, length-map entries leaf) in
    omega (
      arith,
      ap (λ k. group_mass (drop k now)) begin_is,
      takes.stands.mass,
      ap group_mass (next_leaf leaf group i x low is),
      nat_sum_over-append (λ (y : GroupLeaf). unsigned_abs y.weight) (take i gs) (leaf x ∷ []),
      mass_front gs (i + 1),
    )

-- what stands in front is as it was
front_same : (xs old : List GroupLeaf) (a b : ℕ) → take (length old) xs ≡ old → b ≤ length old → a ≤ b
    → take (b - a) (drop a xs) ≡ take (b - a) (drop a old)
front_same xs old a b front low order =
    let whole : a + (b - a) ≡ b = omega arith in
    sym (drop-take a (b - a) xs) ∙ ap (drop a) (
    ap (λ k. take k xs) whole ∙ sym (take-take b (length old) xs low) ∙ ap (take b) front ∙ ap (λ k. take k old) (sym whole)
    ) ∙ drop-take a (b - a) old

-- one group more
pub upto_more : (s : ℕ) (starts : List ℕ) (entries new : List GroupLeaf) (old_starts : List ℕ)
    (old_entries : List GroupLeaf) → s + 1 < length starts
    → slice_index old_starts s ≤ slice_index old_starts (s + 1) → slice_index old_starts (s + 1) ≤ length old_entries
    → MergedUpto s starts entries old_starts old_entries
    → TakesGroup (group_at old_starts old_entries s) entries new
    → MergedUpto (s + 1) (set starts (s + 1) (length new)) new old_starts old_entries
upto_more s starts entries new old_starts old_entries here order inside_old upto takes =
    let there : List ℕ = set starts (s + 1) (length new) in
    let end : get_or there (s + 1) 0 ≡ length new = get_or-set_same starts (s + 1) (length new) 0 here in
    let kept : (t : ℕ) → t < s + 1 → get_or there t 0 ≡ get_or starts t 0 = λ t low. get_or-set_other starts (s + 1) t (length new) 0 (λ e. omega arith) in
    let a : ℕ = slice_index old_starts s in
    let b : ℕ = slice_index old_starts (s + 1) in
    let size : length (group_at old_starts old_entries s) ≡ b - a = length-take-le (b - a) (drop a old_entries) (omega (arith, length-drop a old_entries)) in
    let begin : get_or there s 0 ≡ length entries = kept s (omega arith) ∙ upto.last in
    record {
      count = length-set starts (s + 1) (length new) ∙ upto.count;
      last = end;
      ordered = λ t low.
          ⊎_elim
          (λ less. omega (arith, kept t low, kept (t + 1) (omega arith), upto.ordered t less))
          (λ later. let t_is : t ≡ s = omega arith in rw t_is (omega (arith, begin, end, takes.longer)))
          (cases_lt t s);
      inside = λ t low.
          ⊎_elim
          (λ less. omega (arith, kept t less, upto.inside t (omega arith), takes.longer))
          (λ later. let t_is : t ≡ s + 1 = omega arith in rw t_is (omega (arith, end)))
          (cases_lt t (s + 1));
      each = λ t low.
          ⊎_elim
          (λ less.
          let same : group_at there new t ≡ group_at starts entries t =
          (λ i. take (kept (t + 1) (omega arith) i - kept t low i) (drop (kept t low i) new))
          ∙ front_same new entries (slice_index starts t) (slice_index starts (t + 1)) takes.front (upto.inside (t + 1) (omega arith)) (upto.ordered t less) in
          subst (λ g. MayReplace g (group_at old_starts old_entries t)) (sym same) (upto.each t less))
          (λ later.
          let t_is : t ≡ s = omega arith in
          let same : group_at there new s ≡ drop (length entries) new =
          (λ i. take (end i - begin i) (drop (begin i) new))
          ∙ take_all (length new - length entries) (drop (length entries) new) (omega (arith, length-drop (length entries) new)) in
          rw t_is (subst (λ g. MayReplace g (group_at old_starts old_entries s)) (sym same) takes.stands))
          (cases_lt t s);
      few = omega (arith, takes.shorter, upto.few, size);
    }

-- a group's mass is at most that of all
pub one_group : (starts : List ℕ) (entries : List GroupLeaf) (s : ℕ) → s < length starts - 1
    → group_mass (group_at starts entries s) ≤ groups_mass starts entries (length starts - 1)
one_group starts entries s low =
    at_most_sum (λ s. group_mass (group_at starts entries s)) 0 (length starts - 1) s (omega arith) (omega arith)

-- the groups of a table that is kept can be merged, where it has 1,048,576 leaves at most
pub can_merge : (starts : List ℕ) (entries : List GroupLeaf) (others mass : ℕ) → KeepsGroups starts entries others mass
    → length entries ≤ most_nodes → CanMerge starts entries others
can_merge starts entries others mass kept few = record {
  some = omega (arith, kept.some);
  ordered = kept.ordered;
  inside = kept.inside;
  within = kept.within;
  light = λ s low. omega (arith, one_group starts entries s (omega arith), kept.total, kept.light);
  limit = few;
}

-- groups that stand for those of a table that is kept are kept too, with the same mass
pub merged_kept : (starts : List ℕ) (entries : List GroupLeaf) (old_starts : List ℕ) (old_entries : List GroupLeaf)
    (others mass : ℕ) → AreMerged starts entries old_starts old_entries
    → KeepsGroups old_starts old_entries others mass → KeepsGroups starts entries others mass
merged_kept starts entries old_starts old_entries others mass are kept = record {
  some = omega (arith, are.count, kept.some);
  ordered = λ s low. are.ordered s (omega (arith, are.count));
  inside = λ s low. are.inside s (omega (arith, are.count));
  within = λ s low. (are.each s (omega (arith, are.count))).within others (kept.within s (omega (arith, are.count)));
  total =
      let n : ℕ = length starts - 1 in
      let count : n ≡ length old_starts - 1 = omega (arith, are.count) in
      omega (
        arith,
        nat_sum_over-mono (λ s. group_mass (group_at starts entries s)) (λ s. group_mass (group_at old_starts old_entries s)) (range_with_len 0 n)
            (All-range (λ s. group_mass (group_at starts entries s) ≤ group_mass (group_at old_starts old_entries s)) 0 n
            (λ s from low. (are.each s (omega (arith, count))).mass)),
        ap (groups_mass old_starts old_entries) count,
        kept.total,
      );
  light = kept.light;
}

-- and it has the same weights
pub merged_weights : (starts : List ℕ) (entries : List GroupLeaf) (old_starts : List ℕ) (old_entries : List GroupLeaf)
    (others : ℕ) → AreMerged starts entries old_starts old_entries
    → map (λ s. weights_of others (group_at starts entries s)) (range_with_len 0 (length starts - 1))
    ≡ map (λ s. weights_of others (group_at old_starts old_entries s)) (range_with_len 0 (length old_starts - 1))
merged_weights starts entries old_starts old_entries others are =
    let n : ℕ = length starts - 1 in
    map-range_same (λ s. weights_of others (group_at starts entries s)) (λ s. weights_of others (group_at old_starts old_entries s)) 0 n
    (λ s from low. map-range_same (λ b. weight_with b (group_at starts entries s)) (λ b. weight_with b (group_at old_starts old_entries s)) 0 others
    (λ b _ _. (are.each s (omega (arith, are.count))).weights b))
    ∙ ap (λ k. map (λ s. weights_of others (group_at old_starts old_entries s)) (range_with_len 0 (k - 1))) are.count

-- and its groups have each sequence once
pub merged_once : (starts : List ℕ) (entries : List GroupLeaf) (old_starts : List ℕ) (old_entries : List GroupLeaf)
    → AreMerged starts entries old_starts old_entries → AreMergedGroups starts entries
merged_once starts entries old_starts old_entries are s low = (are.each s (omega (arith, low, are.count))).once

-- a vector whose items were written over by as many
pub written_over : {A : Type 0} (n : ℕ) (new old : List A) → length new ≡ n → take n (new ++ drop (length new) old) ≡ new
written_over n new old e = ap (λ k. take k (new ++ drop (length new) old)) (sym e) ∙ take-append_seam new (drop (length new) old)
