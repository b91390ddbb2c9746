-- What the entries of a group, and the groups one after the other, add to a row of the other player.
use Rattle.std.proofs.Common.{◌≡◌, ℕ, zero, suc, ◌+◌, ◌-◌, ◌*◌, ◌<◌, ◌≤◌, Bool, true, false, cond, eqb, List, length, get_or, slice_index, take, ℤ, pos, ◌+ℤ◌}
use Rattle.std.proofs.Common.{◌*ℤ◌, unsigned_abs, refl, sym, ap, ◌∙◌, arith}
use Rattle.std.specs.List.{range_with_len}
use Rattle.std.proofs.lemmas.Bool.Decides.{nat_tests}
use Rattle.std.proofs.lemmas.Int.{unsigned_abs-mul}
use Rattle.std.proofs.Math.Nat.{add-mul, mul-le-mul_left, mul-le-mul_right}
use Rattle.def_sums.specs.Sum.{sum_over, nat_sum_over}
use Rattle.def_sums.proofs.Ranges.{range-append}
use Rattle.def_sums.proofs.RingLaws.{+ℤ-zero, +ℤ_assoc, *ℤ-zero, unsigned_abs-+ℤ}
use Rattle.def_sums.proofs.SumLaws.{sum_over-append, sum_over-ext, sum_over-zero, unsigned_abs-sum_over, nat_sum_over-append, nat_sum_over-mono}
use Rattle.def_sums.proofs.SumLaws.{nat_sum_over-factor}
use Rattle.xg_jobs.specs.Groups.{GroupLeaf, group_at, group_mass, group_part, groups_mass, parts_sum}
use Rattle.xg_jobs.proofs.GroupSums.{mass_front, one_more, sized}

-- one more entry adds to the row of its sequence, and to no other
pub part_here : (number : ℕ) (group : List GroupLeaf) (i : ℕ) (e : GroupLeaf) (b : ℕ) → i < length group → get_or group i e ≡ e
    → b ≡ e.other
    → group_part number (take (i + 1) group) b ≡ group_part number (take i group) b +ℤ (e.weight *ℤ pos number)
part_here number group i e b below read here =
    let test : eqb e.other b ≡ true = grind (arith, nat_tests) in
    one_more (λ x. cond (eqb x.other b) (x.weight *ℤ pos number) (pos 0)) group i e below read
    ∙ ap (λ t. group_part number (take i group) b +ℤ cond t (e.weight *ℤ pos number) (pos 0)) test

pub part_there : (number : ℕ) (group : List GroupLeaf) (i : ℕ) (e : GroupLeaf) (b : ℕ) → i < length group → get_or group i e ≡ e
    → ¬ (b ≡ e.other)
    → group_part number (take (i + 1) group) b ≡ group_part number (take i group) b
part_there number group i e b below read there =
    let test : eqb e.other b ≡ false = grind (arith, nat_tests) in
    one_more (λ x. cond (eqb x.other b) (x.weight *ℤ pos number) (pos 0)) group i e below read
    ∙ ap (λ t. group_part number (take i group) b +ℤ cond t (e.weight *ℤ pos number) (pos 0)) test
    ∙ +ℤ-zero (group_part number (take i group) b)

-- against the number 0 a group adds nothing
pub part_of_zero : (group : List GroupLeaf) (b : ℕ) → group_part 0 group b ≡ pos 0
part_of_zero group b =
    sum_over-ext (λ e. cond (eqb e.other b) (e.weight *ℤ pos 0) (pos 0)) (λ e. pos 0) group (λ e. by_test (eqb e.other b) e.weight)
    ∙ sum_over-zero group
  where
    by_test : (t : Bool) (w : ℤ) → cond t (w *ℤ pos 0) (pos 0) ≡ pos 0
    by_test true w = *ℤ-zero w
    by_test false w = refl

-- the size of what a group adds is at most its mass times a bound of the number
pub part_size : (number most : ℕ) (group : List GroupLeaf) (b : ℕ) → number ≤ most
    → unsigned_abs (group_part number group b) ≤ group_mass group * most
part_size number most group b small =
    sized (λ e. cond (eqb e.other b) (e.weight *ℤ pos number) (pos 0)) most group (λ e. by_test (eqb e.other b) e.weight)
  where
    by_test : (t : Bool) (w : ℤ) → unsigned_abs (cond t (w *ℤ pos number) (pos 0)) ≤ unsigned_abs w * most
    by_test true w = omega (arith, unsigned_abs-mul w (pos number), mul-le-mul_left (unsigned_abs w) small)
    by_test false w = omega arith

-- so is that of what its first entries add
pub front_size : (number most : ℕ) (group : List GroupLeaf) (i b : ℕ) → number ≤ most
    → unsigned_abs (group_part number (take i group) b) ≤ group_mass group * most
front_size number most group i b small =
    let front : group_mass (take i group) ≤ group_mass group = mass_front group i in
    omega (arith, part_size number most (take i group) b small, mul-le-mul_right most front)

-- a row's old amount and what is added are within the room that the old amount and all masses have
pub within_room : (old part : ℤ) (mass bound : ℕ) → unsigned_abs part ≤ mass → unsigned_abs old + mass < bound
    → unsigned_abs (old +ℤ part) < bound
within_room old part mass bound h room = omega (arith, unsigned_abs-+ℤ old part)

-- one more group
pub parts_more : (starts : List ℕ) (entries : List GroupLeaf) (x : List ℕ) (n b : ℕ)
    → parts_sum starts entries x (n + 1) b ≡ parts_sum starts entries x n b +ℤ group_part (slice_index x n) (group_at starts entries n) b
parts_more starts entries x n b = row_more (λ s. group_part (slice_index x s) (group_at starts entries s) b) n
  where
    row_more : (f : ℕ → ℤ) (n : ℕ) → sum_over f (range_with_len 0 (n + 1)) ≡ sum_over f (range_with_len 0 n) +ℤ f n
    row_more f n =
        ap (sum_over f) (range-append 0 n 1) ∙ sum_over-append f (range_with_len 0 n) (range_with_len (0 + n) 1)
        ∙ ap (λ t. sum_over f (range_with_len 0 n) +ℤ t) (+ℤ-zero (f (0 + n))) ∙ ap (λ k. sum_over f (range_with_len 0 n) +ℤ f k) (omega arith)

pub mass_more : (starts : List ℕ) (entries : List GroupLeaf) (n : ℕ)
    → groups_mass starts entries (n + 1) ≡ groups_mass starts entries n + group_mass (group_at starts entries n)
mass_more starts entries n = row_more (λ s. group_mass (group_at starts entries s)) n
  where
    row_more : (f : ℕ → ℕ) (n : ℕ) → nat_sum_over f (range_with_len 0 (n + 1)) ≡ nat_sum_over f (range_with_len 0 n) + f n
    row_more f n =
        let here : f (0 + n) ≡ f n = ap f (omega arith) in
        omega (arith, here, ap (nat_sum_over f) (range-append 0 n 1), nat_sum_over-append f (range_with_len 0 n) (range_with_len (0 + n) 1))

mass_later : (starts : List ℕ) (entries : List GroupLeaf) (n k : ℕ) → groups_mass starts entries n ≤ groups_mass starts entries (n + k)
mass_later starts entries n zero =
    let e : n ≡ n + 0 = omega arith in
    omega (arith, ap (groups_mass starts entries) e)
mass_later starts entries n (suc k) =
    let e : n + suc k ≡ n + k + 1 = omega arith in
    omega (arith, mass_later starts entries n k, mass_more starts entries (n + k), ap (groups_mass starts entries) e)

-- the mass of the first groups, and of one more, is at most that of all
pub mass_upto : (starts : List ℕ) (entries : List GroupLeaf) (n all : ℕ) → n < all
    → groups_mass starts entries n + group_mass (group_at starts entries n) ≤ groups_mass starts entries all
mass_upto starts entries n all low =
    let e : n + 1 + (all - (n + 1)) ≡ all = omega arith in
    omega (arith, mass_more starts entries n, mass_later starts entries (n + 1) (all - (n + 1)), ap (groups_mass starts entries) e)

pub parts_size : (starts : List ℕ) (entries : List GroupLeaf) (x : List ℕ) (most n b : ℕ) → ((s : ℕ) → slice_index x s ≤ most)
    → unsigned_abs (parts_sum starts entries x n b) ≤ groups_mass starts entries n * most
parts_size starts entries x most n b small =
    omega (
      arith,
      unsigned_abs-sum_over (λ s. group_part (slice_index x s) (group_at starts entries s) b) (range_with_len 0 n),
      nat_sum_over-mono (λ s. unsigned_abs (group_part (slice_index x s) (group_at starts entries s) b)) (λ s. group_mass (group_at starts entries s) * most)
          (range_with_len 0 n)
          (λ k d low. part_size (slice_index x (get_or (range_with_len 0 n) k d)) most (group_at starts entries (get_or (range_with_len 0 n) k d)) b
          (small (get_or (range_with_len 0 n) k d))),
      nat_sum_over-factor most (λ s. group_mass (group_at starts entries s)) (range_with_len 0 n),
    )

-- room for a group's parts behind those of the groups before it
pub room_left : (bound : ℕ) (starts : List ℕ) (entries : List GroupLeaf) (x : List ℕ) (n all most b : ℕ) (now old : ℤ)
    → n < all
    → now ≡ old +ℤ parts_sum starts entries x n b → ((s : ℕ) → slice_index x s ≤ most)
    → unsigned_abs old + groups_mass starts entries all * most < bound
    → unsigned_abs now + group_mass (group_at starts entries n) * most < bound
room_left bound starts entries x n all most b now old less is small room =
    let scaled = mul-le-mul_right most (mass_upto starts entries n all less) in
    omega (
      arith,
      scaled,
      ap unsigned_abs is,
      unsigned_abs-+ℤ old (parts_sum starts entries x n b),
      parts_size starts entries x most n b small,
      add-mul (groups_mass starts entries n) (group_mass (group_at starts entries n)) most,
    )

-- what a row has once a group more was added to it
pub row_after : (starts : List ℕ) (entries : List GroupLeaf) (x : List ℕ) (n b : ℕ) (group : List GroupLeaf) (after before old : ℤ)
    → group ≡ group_at starts entries n → before ≡ old +ℤ parts_sum starts entries x n b
    → after ≡ before +ℤ group_part (slice_index x n) group b
    → after ≡ old +ℤ parts_sum starts entries x (n + 1) b
row_after starts entries x n b group after before old is was adds =
    adds ∙ ap (λ v. v +ℤ group_part (slice_index x n) group b) was
    ∙ ap (λ xs. (old +ℤ parts_sum starts entries x n b) +ℤ group_part (slice_index x n) xs b) is
    ∙ +ℤ_assoc old (parts_sum starts entries x n b) (group_part (slice_index x n) (group_at starts entries n) b)
    ∙ ap (λ v. old +ℤ v) (sym (parts_more starts entries x n b))

-- a row to which a group adds nothing, since its number is 0
pub row_untouched : (number : ℕ) (group : List GroupLeaf) (b : ℕ) (row : ℤ) → number ≡ 0 → row ≡ row +ℤ group_part number group b
row_untouched number group b row is =
    sym (ap (λ n. row +ℤ group_part n group b) is ∙ ap (λ v. row +ℤ v) (part_of_zero group b) ∙ +ℤ-zero row)
