-- The sizes of what leaves bring to a sequence.
use Rattle.std.proofs.Common.{◌≡◌, ℕ, zero, suc, ◌-◌, ◌*◌, ◌^◌, ◌<◌, ◌≤◌, Bool, true, false, cond, eqb, List, [], ◌∷◌, get_or, take, drop, All, ap, arith}
use Rattle.std.specs.Prelude.{ℤ, pos, ◌+ℤ◌, ◌*ℤ◌, slice_index, unsigned_abs}
use Rattle.std.proofs.Math.Nat.{mul-le-mul_left}
use Rattle.std.proofs.lemmas.Int.{ints, unsigned_abs-mul}
use Rattle.def_sums.specs.Limits.{most_mass, most_root}
use Rattle.def_sums.proofs.SumLaws.{unsigned_abs-sum_over, nat_sum_over-mono, nat_sum_over-factor}
use Rattle.def_tree.specs.declared.Player.{Player}
use Rattle.def_tree.specs.Opponent.{opponent}
use Rattle.def_plan.specs.Form.{Leaf, leaf_sequence}
use Rattle.def_plan.specs.FormRows.{amount_at}
use Rattle.def_plan.specs.Payoff.{leaf_sum, mass_of}
use Rattle.def_plan.specs.Threads.{paid_at_leaf, sequence_of_leaf}
use Rattle.def_plan.proofs.Rows.{leaf_sums_add_amounts}
use Rattle.def_plan.proofs.SizeLaws.{slice_index-at_most}
use Rattle.xg_touched.specs.Threads.{leaf_numbered, leaves_after, thread_sum}
use Rattle.xg_touched.proofs.Following.{GoesOn}

mass_take : (k : ℕ) (leaves : List Leaf) → mass_of (take k leaves) ≤ mass_of leaves
mass_take zero leaves = omega arith
mass_take (suc k) [] = omega arith
mass_take (suc k) (x ∷ xs) = omega (arith, mass_take k xs)

mass_drop : (k : ℕ) (leaves : List Leaf) → mass_of (drop k leaves) ≤ mass_of leaves
mass_drop zero leaves = omega arith
mass_drop (suc k) [] = omega arith
mass_drop (suc k) (x ∷ xs) = omega (arith, mass_drop k xs)

mass_at : (leaves : List Leaf) (i : ℕ)
    → unsigned_abs (get_or leaves i (record { sequence_one = 0; sequence_two = 0; weight = pos 0 })).weight ≤ mass_of leaves
mass_at [] i = omega arith
mass_at (x ∷ xs) zero = omega arith
mass_at (x ∷ xs) (suc i) = omega (arith, mass_at xs i)

product_size : (w : ℤ) (against : List ℕ) (s : ℕ) → All (λ n. n ≤ most_root) against
    → unsigned_abs (w *ℤ pos (slice_index against s)) ≤ unsigned_abs w * most_root
product_size w against s small =
    omega (arith, unsigned_abs-mul w (pos (slice_index against s)), mul-le-mul_left (unsigned_abs w) (slice_index-at_most most_root against small s))

amount_size : (player : Player) (against : List ℕ) (z : Leaf) (s : ℕ) → All (λ n. n ≤ most_root) against
    → unsigned_abs (amount_at player against z s) ≤ unsigned_abs z.weight * most_root
amount_size player against z s small = by_test (eqb (leaf_sequence player z) s)
  where
    by_test : (b : Bool)
        → unsigned_abs (cond b (z.weight *ℤ pos (slice_index against (leaf_sequence (opponent player) z))) (pos 0))
        ≤ unsigned_abs z.weight * most_root
    by_test true = product_size z.weight against (leaf_sequence (opponent player) z) small
    by_test false = omega arith

leaf_sum_size : (player : Player) (xs : List Leaf) (against : List ℕ) (s : ℕ) → All (λ n. n ≤ most_root) against
    → unsigned_abs (leaf_sum player xs against s) ≤ mass_of xs * most_root
leaf_sum_size player xs against s small =
    let each = nat_sum_over-mono (λ z. unsigned_abs (amount_at player against z s)) (λ z. unsigned_abs z.weight * most_root) xs
    (λ i d inside. amount_size player against (get_or xs i d) s small) in
    omega (
      arith,
      ap unsigned_abs (leaf_sums_add_amounts player xs against s),
      unsigned_abs-sum_over (λ z. amount_at player against z s) xs,
      each,
      nat_sum_over-factor most_root (λ z. unsigned_abs z.weight) xs,
    )

-- what some later leaves of a thread bring has room
after_size : (player : Player) (leaves : List Leaf) (against : List ℕ) (s z last : ℕ)
    → All (λ n. n ≤ most_root) against → mass_of leaves ≤ most_mass
    → unsigned_abs (leaf_sum player (leaves_after leaves z last) against s) ≤ most_mass * most_root
after_size player leaves against s z last small light =
    omega (arith, leaf_sum_size player (leaves_after leaves z last) against s small, mass_take (last - z) (drop z leaves), mass_drop z leaves)

-- and so has a sum that they complete
part_fits : (player : Player) (leaves : List Leaf) (against : List ℕ) (leaf z last s : ℕ) (part : ℤ)
    → All (λ n. n ≤ most_root) against → mass_of leaves ≤ most_mass
    → part +ℤ leaf_sum player (leaves_after leaves z last) against s ≡ thread_sum player leaves against leaf last
    → unsigned_abs part < 2 ^ 127
part_fits player leaves against leaf z last s part small light whole =
    let head : ℤ = paid_at_leaf player against (leaf_numbered leaves leaf) in
    let own : ℤ = leaf_sum player (leaves_after leaves leaf last) against (sequence_of_leaf player leaf leaves) in
    let rest : ℤ = leaf_sum player (leaves_after leaves z last) against s in
    let at : Leaf = leaf_numbered leaves leaf in
    let size = product_size at.weight against (leaf_sequence (opponent player) at) small in
    let first : unsigned_abs head ≤ most_mass * most_root = omega (arith, size, mass_at leaves (leaf - 1)) in
    let mine : unsigned_abs own ≤ most_mass * most_root = after_size player leaves against (sequence_of_leaf player leaf leaves) leaf last small light in
    let theirs : unsigned_abs rest ≤ most_mass * most_root = after_size player leaves against s z last small light in
    sizes head own rest part first mine theirs whole
  where
    sizes : (head own rest part : ℤ) → unsigned_abs head ≤ most_mass * most_root → unsigned_abs own ≤ most_mass * most_root
        → unsigned_abs rest ≤ most_mass * most_root → part +ℤ rest ≡ head +ℤ own → unsigned_abs part < 2 ^ 127
    sizes head own rest part first mine theirs whole = omega (arith, ints)

one_more : (part read product rest before whole : ℤ) → read ≡ product → before ≡ product +ℤ rest
    → part +ℤ before ≡ whole → (part +ℤ read) +ℤ rest ≡ whole
one_more part read product rest before whole is split sum = omega (arith, ints)

-- with the next leaf of the thread added, the sum has room, and what is left completes it
pub next_added : (player : Player) (leaves : List Leaf) (against : List ℕ) (leaf z last n : ℕ) (sum read : ℤ)
    → GoesOn player leaves against (sequence_of_leaf player leaf leaves) z last n
    → All (λ number. number ≤ most_root) against → mass_of leaves ≤ most_mass
    → read ≡ paid_at_leaf player against (leaf_numbered leaves n)
    → sum +ℤ leaf_sum player (leaves_after leaves z last) against (sequence_of_leaf player leaf leaves)
    ≡ thread_sum player leaves against leaf last
    → (unsigned_abs (sum +ℤ read) < 2 ^ 127)
    × ((sum +ℤ read) +ℤ leaf_sum player (leaves_after leaves n last) against (sequence_of_leaf player leaf leaves)
    ≡ thread_sum player leaves against leaf last)
next_added player leaves against leaf z last n sum read step small light read_is before =
    let s : ℕ = sequence_of_leaf player leaf leaves in
    let whole = one_more sum read (paid_at_leaf player against (leaf_numbered leaves n))
    (leaf_sum player (leaves_after leaves n last) against s) (leaf_sum player (leaves_after leaves z last) against s)
    (thread_sum player leaves against leaf last) read_is step.sum before in
    (part_fits player leaves against leaf n last s (sum +ℤ read) small light whole, whole)
