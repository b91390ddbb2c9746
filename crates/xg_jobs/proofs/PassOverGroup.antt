-- A pass over the entries of a group: what the leaf that it has come to adds, and that there is room for it.
use Rattle.std.proofs.Common.{◌≡◌, ℕ, ◌+◌, ◌*◌, ◌<◌, ◌≤◌, List, All, map, length, get_or, slice_index, take, ℤ, pos, ◌+ℤ◌, ◌*ℤ◌, unsigned_abs}
use Rattle.std.proofs.Common.{FitsSigned, to_z, of_z, arith, ap, sym, ◌∙◌, ⊎_elim}
use Rattle.std.specs.Int.{w64}
use Rattle.std.proofs.lemmas.Bool.{cases_eq}
use Rattle.std.proofs.lemmas.Int.{to_z-of_z}
use Rattle.std.proofs.lemmas.List.{length-map}
use Rattle.def_plan.specs.FormRows.{amount_of}
use Rattle.def_sums.proofs.RingLaws.{+ℤ_assoc}
use Rattle.xg_jobs.specs.Groups.{GroupLeaf, group_mass, group_part, group_sum}
use Rattle.xg_jobs.proofs.GroupSums.{leaf_at, product_within, sum_more, sum_size, weight_within}
use Rattle.xg_jobs.proofs.Parts.{front_size, part_here, part_there, within_room}

-- this leaf is the next one
pub record ComesTo (group : List GroupLeaf) (i : ℕ) (e : GroupLeaf) : Type 0 where
  pub below : i < length group
  pub read : get_or group i e ≡ e

pub comes_to : {X : Type 0} (leaf : X → GroupLeaf) (xs : List X) (i : ℕ) (x : X) → i < length xs → x ≡ get_or xs i x
    → ComesTo (map leaf xs) i (leaf x)
comes_to leaf xs i x low is = record {
  below = omega (arith, length-map xs leaf);
  read = leaf_at leaf xs i x low is;
}

module _ {group : List GroupLeaf} {i : ℕ} {e : GroupLeaf} (at : ComesTo group i e) {b : ℕ} (other : b ≡ e.other) where
  pub listed : (count : ℕ) → All (λ x. x.other < count) group → b < count
  listed count within =
      let here : (get_or group i e).other < count = within i e at.below in
      omega (arith, here, ap (λ x. x.other) at.read, other)

  -- its weight, as it was read
  module _ {v : ℤ} (weight : v ≡ e.weight) (fits : FitsSigned w64 v) where
    w_is : to_z w64 (of_z w64 v) ≡ e.weight
    w_is = to_z-of_z w64 v fits ∙ weight

    pub product_fits : (n most limit : ℕ) → n ≤ most → group_mass group * most < limit
        → unsigned_abs (to_z w64 (of_z w64 v)) * n < limit
    product_fits n most limit small room =
        rw w_is (product_within e.weight n most (group_mass group) limit small (weight_within group i e at.below at.read) room)

    -- against the numbers y
    sum_next : (y : List ℕ) (sum : ℤ) → sum ≡ group_sum y (take i group)
        → sum +ℤ (to_z w64 (of_z w64 v) *ℤ pos (slice_index y b)) ≡ group_sum y (take (i + 1) group)
    sum_next y sum was = let more = sum_more y group i e at.below at.read in let is = w_is in cc

    pub sum_after : (y : List ℕ) (before after : ℤ) → before ≡ group_sum y (take i group)
        → after ≡ before +ℤ (to_z w64 (of_z w64 v) *ℤ pos (slice_index y b)) → after ≡ group_sum y (take (i + 1) group)
    sum_after y before after was adds = adds ∙ sum_next y before was

    pub sum_fits : (y : List ℕ) (sum : ℤ) (most limit : ℕ) → sum ≡ group_sum y (take i group)
        → ((k : ℕ) → slice_index y k ≤ most) → group_mass group * most < limit
        → unsigned_abs (sum +ℤ (to_z w64 (of_z w64 v) *ℤ pos (slice_index y b))) < limit
    sum_fits y sum most limit was small room =
        omega (arith, ap unsigned_abs (sum_next y sum was), sum_size y most group (i + 1) small, room)

    -- against the number x
    row_next : (x : ℕ) (old row : ℤ) → row ≡ old +ℤ group_part x (take i group) b
        → row +ℤ (to_z w64 (of_z w64 v) *ℤ pos x) ≡ old +ℤ group_part x (take (i + 1) group) b
    row_next x old row was =
        let part = part_here x group i e b at.below at.read other in
        let apart = +ℤ_assoc old (group_part x (take i group) b) (e.weight *ℤ pos x) in
        let is = w_is in
        cc

    pub row_fits : (x : ℕ) (old row : ℤ) (most limit : ℕ) → row ≡ old +ℤ group_part x (take i group) b → x ≤ most
        → unsigned_abs old + group_mass group * most < limit
        → unsigned_abs (row +ℤ (to_z w64 (of_z w64 v) *ℤ pos x)) < limit
    row_fits x old row most limit was small room =
        omega (
          arith,
          ap unsigned_abs (row_next x old row was),
          within_room old (group_part x (take (i + 1) group) b) (group_mass group * most) limit (front_size x most group (i + 1) b small) room,
        )

    pub rows_after : (x : ℕ) (old before after : List ℤ)
        → ((k : ℕ) → amount_of before k ≡ amount_of old k +ℤ group_part x (take i group) k)
        → amount_of after b ≡ amount_of before b +ℤ (to_z w64 (of_z w64 v) *ℤ pos x)
        → ((k : ℕ) → ¬ (k ≡ b) → amount_of after k ≡ amount_of before k)
        → (k : ℕ) → amount_of after k ≡ amount_of old k +ℤ group_part x (take (i + 1) group) k
    rows_after x old before after was here others k =
        ⊎_elim
        (λ same. rw same (here ∙ row_next x (amount_of old b) (amount_of before b) (was b)))
        (λ there.
        others k there ∙ was k
        ∙ ap (λ part. amount_of old k +ℤ part) (sym (part_there x group i e k at.below at.read (λ h. there (h ∙ sym other)))))
        (cases_eq k b)
