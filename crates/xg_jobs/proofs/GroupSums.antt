-- Sums over the entries of a group, one entry after the other, and how large they are.
use Rattle.std.proofs.Common.{subst, map, ◌≡◌, ℕ, zero, suc, ◌+◌, ◌-◌, ◌*◌, ◌<◌, ◌≤◌, List, [], ◌∷◌, length, get_or, slice_index, take, drop, ℤ, ◌+ℤ◌, ◌*ℤ◌}
use Rattle.std.proofs.Common.{pos, unsigned_abs, sym, ap, ◌∙◌, arith}
use Rattle.std.proofs.lemmas.List.{take_more, get_or-map, take-map, drop-map}
use Rattle.std.proofs.lemmas.Int.{unsigned_abs-mul}
use Rattle.std.proofs.Math.Nat.{mul-le-mul, mul-le-mul_left, mul-le-mul_right}
use Rattle.def_sums.specs.Sum.{sum_over}
use Rattle.def_sums.proofs.RingLaws.{+ℤ-zero}
use Rattle.def_sums.proofs.SumLaws.{sum_over-append, unsigned_abs-sum_over, nat_sum_over-mono, nat_sum_over-factor}
use Rattle.xg_jobs.specs.Groups.{GroupLeaf, group_at, group_sum, group_mass}

-- the sum over the entries up to one of them
pub one_more : (f : GroupLeaf → ℤ) (group : List GroupLeaf) (i : ℕ) (e : GroupLeaf) → i < length group
    → get_or group i e ≡ e
    → sum_over f (take (i + 1) group) ≡ sum_over f (take i group) +ℤ f e
one_more f group i e below read =
    ap (sum_over f) (take_more group i e below) ∙ sum_over-append f (take i group) (get_or group i e ∷ [])
    ∙ ap (λ n. sum_over f (take i group) +ℤ n) (+ℤ-zero (f (get_or group i e))) ∙ ap (λ x. sum_over f (take i group) +ℤ f x) read

-- one more entry adds its weight times the number at its sequence of the other player
pub sum_more : (y : List ℕ) (group : List GroupLeaf) (i : ℕ) (e : GroupLeaf) → i < length group → get_or group i e ≡ e
    → group_sum y (take (i + 1) group) ≡ group_sum y (take i group) +ℤ (e.weight *ℤ pos (slice_index y e.other))
sum_more y group i e below read = one_more (λ e. e.weight *ℤ pos (slice_index y e.other)) group i e below read

-- sizes
pub mass_front : (group : List GroupLeaf) (i : ℕ) → group_mass (take i group) ≤ group_mass group
mass_front group zero = omega arith
mass_front [] (suc i) = omega arith
mass_front (e ∷ es) (suc i) = omega (arith, mass_front es i)

weight_at : (group : List GroupLeaf) (i : ℕ) (d : GroupLeaf) → i < length group
    → unsigned_abs (get_or group i d).weight ≤ group_mass group
weight_at [] i d below = absurd (omega arith)
weight_at (e ∷ es) zero d below = omega arith
weight_at (e ∷ es) (suc i) d below = omega (arith, weight_at es i d (omega arith))

-- the size of an entry's weight is at most the mass of its group
pub weight_within : (group : List GroupLeaf) (i : ℕ) (e : GroupLeaf) → i < length group → get_or group i e ≡ e
    → unsigned_abs e.weight ≤ group_mass group
weight_within group i e below read = subst (λ (x : GroupLeaf). unsigned_abs x.weight ≤ group_mass group) read (weight_at group i e below)

-- the leaf of an entry
pub leaf_at : {X : Type 0} (leaf : X → GroupLeaf) (xs : List X) (i : ℕ) (x : X) → i < length xs → x ≡ get_or xs i x
    → get_or (map leaf xs) i (leaf x) ≡ leaf x
leaf_at leaf xs i x below read = get_or-map leaf xs i x (leaf x) below ∙ ap leaf (sym read)

pub sized : (f : GroupLeaf → ℤ) (most : ℕ) (group : List GroupLeaf)
    → ((e : GroupLeaf) → unsigned_abs (f e) ≤ unsigned_abs e.weight * most)
    → unsigned_abs (sum_over f group) ≤ group_mass group * most
sized f most group each =
    omega (
      arith,
      unsigned_abs-sum_over f group,
      nat_sum_over-mono (λ e. unsigned_abs (f e)) (λ e. unsigned_abs e.weight * most) group (λ k d low. each (get_or group k d)),
      nat_sum_over-factor most (λ e. unsigned_abs e.weight) group,
    )

-- the size of the sum over a group's first entries is at most the group's mass times a bound of the numbers
pub sum_size : (y : List ℕ) (most : ℕ) (group : List GroupLeaf) (i : ℕ) → ((b : ℕ) → slice_index y b ≤ most)
    → unsigned_abs (group_sum y (take i group)) ≤ group_mass group * most
sum_size y most group i small =
    let front : group_mass (take i group) ≤ group_mass group = mass_front group i in
    omega (
      arith,
      sized (λ e. e.weight *ℤ pos (slice_index y e.other)) most (take i group)
          (λ e. omega (arith, unsigned_abs-mul e.weight (pos (slice_index y e.other)), mul-le-mul_left (unsigned_abs e.weight) (small e.other))),
      mul-le-mul_right most front,
    )

-- the product of one entry
pub product_within : (w : ℤ) (n most mass bound : ℕ) → n ≤ most → unsigned_abs w ≤ mass → mass * most < bound
    → unsigned_abs w * n < bound
product_within w n most mass bound small light room = let h : unsigned_abs w * n ≤ mass * most = mul-le-mul light small in omega (arith, h)

-- a group's entries are those of the leaves
pub group_map : {X : Type 0} (leaf : X → GroupLeaf) (starts : List ℕ) (entries : List X) (n : ℕ)
    → map leaf (take (slice_index starts (n + 1) - slice_index starts n) (drop (slice_index starts n) entries))
    ≡ group_at starts (map leaf entries) n
group_map leaf starts entries n =
    sym (take-map leaf (slice_index starts (n + 1) - slice_index starts n) (drop (slice_index starts n) entries))
    ∙ ap (take (slice_index starts (n + 1) - slice_index starts n)) (sym (drop-map leaf (slice_index starts n) entries))
