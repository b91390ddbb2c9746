-- A whole number that is another one times a fraction.
use Rattle.std.proofs.Common.{◌≡◌, ℕ, ◌*◌, ◌≤◌, List, [], ◌∷◌, refl, ap, sym, subst, ◌∙◌, arith}
use Rattle.std.specs.Prelude.{◌↔◌, ℤ, pos, ◌+ℤ◌, ◌-ℤ◌, ◌*ℤ◌, ◌≤ℤ◌, neg_ℤ, All}
use Rattle.std.proofs.lemmas.List.Elements.{All-head, All-tail}
use Rattle.std.proofs.lemmas.Int.{ints}
use Rattle.std.proofs.Math.Nat.{one-le-mul}
use Rattle.def_sums.specs.Sum.{sum_over}
use Rattle.def_sums.proofs.RingLaws.{+ℤ_comm, *ℤ_assoc, *ℤ_comm, *ℤ-cancel_right, *ℤ-mono_right, +ℤ-*ℤ, neg-*ℤ, zero-*ℤ, ≤ℤ_same, ≤ℤ_antisym}
use Rattle.def_fraction.specs.Fraction.{Fraction, IsInLowestTerms, fraction_of, over, product_of, sum_of}
use Rattle.def_fraction.specs.Laws.{HasValue}
use Rattle.def_fraction.proofs.DivisorLemmas.{gcd-with_one}
use Rattle.def_fraction.proofs.FractionLemmas.{fraction_of-reduced, same_from_value}
use Rattle.def_game_scale.proofs.Expected.{lowest-sum}
use Rattle.def_constant_sum.specs.Expected.{fraction_sum}
use Rattle.def_constant_sum.proofs.Lowest.{product-lowest}
use Rattle.def_fraction.specs.Order.{IsAtMost, difference_of}

-- w is c times the fraction
abbrev pub IsTimes : ℤ → Fraction → ℤ → Type 0
IsTimes c f w = w *ℤ pos f.den ≡ f.num *ℤ c

-- a factor that isn't 0 can be taken away
pub same-without : (d : ℕ) (a b : ℤ) → 1 ≤ d → a *ℤ pos d ≡ b *ℤ pos d → a ≡ b
same-without d a b some e =
    ≤ℤ_antisym a b (*ℤ-cancel_right d a b some (≤ℤ_same (a *ℤ pos d) (b *ℤ pos d) e)) (*ℤ-cancel_right d b a some (≤ℤ_same (b *ℤ pos d) (a *ℤ pos d) (sym e)))

pub swap-last : (a b c : ℤ) → (a *ℤ b) *ℤ c ≡ (a *ℤ c) *ℤ b
swap-last a b c = simp (*ℤ_assoc, *ℤ_comm)

pub swap-first : (a b c : ℤ) → a *ℤ (b *ℤ c) ≡ b *ℤ (a *ℤ c)
swap-first a b c = sym (*ℤ_assoc a b c) ∙ ap (λ z. z *ℤ c) (*ℤ_comm a b) ∙ *ℤ_assoc b a c

-- times num / den, and times its lowest terms
pub times-reduced : (n : ℤ) (d : ℕ) (c w : ℤ) → 1 ≤ d → w *ℤ pos d ≡ n *ℤ c → IsTimes c (fraction_of n d) w
times-reduced n d c w some e =
    let f : Fraction = fraction_of n d in
    let exact : f.num *ℤ pos d ≡ n *ℤ pos f.den = (fraction_of-reduced n d some).exact in
    same-without d (w *ℤ pos f.den) (f.num *ℤ c) some
    (swap-last w (pos f.den) (pos d) ∙ ap (λ z. z *ℤ pos f.den) e ∙ swap-last n c (pos f.den) ∙ ap (λ z. z *ℤ c) (sym exact) ∙ swap-last f.num (pos d) c)

-- and the other way round
pub reduced-times : (n : ℤ) (d : ℕ) (c w : ℤ) → 1 ≤ d → IsTimes c (fraction_of n d) w → w *ℤ pos d ≡ n *ℤ c
reduced-times n d c w some e =
    let f : Fraction = fraction_of n d in
    let reduced = fraction_of-reduced n d some in
    let exact : f.num *ℤ pos d ≡ n *ℤ pos f.den = reduced.exact in
    same-without f.den (w *ℤ pos d) (n *ℤ c) reduced.lowest.positive
    (swap-last w (pos d) (pos f.den) ∙ ap (λ z. z *ℤ pos d) e ∙ swap-last f.num c (pos d) ∙ ap (λ z. z *ℤ c) exact ∙ swap-last n (pos f.den) c)

-- times a sum
pub times-sum : (c : ℤ) (a b : Fraction) (u v : ℤ) → 1 ≤ a.den → 1 ≤ b.den → IsTimes c a u → IsTimes c b v
    → IsTimes c (sum_of a b) (u +ℤ v)
times-sum c a b u v some_a some_b e f =
    times-reduced ((a.num *ℤ pos b.den) +ℤ (b.num *ℤ pos a.den)) (a.den * b.den) c (u +ℤ v) (one-le-mul some_a some_b)
    (+ℤ-*ℤ u v (pos a.den *ℤ pos b.den)
    ∙ ap (λ z. z +ℤ v *ℤ (pos a.den *ℤ pos b.den)) first
    ∙ ap (λ z. ((a.num *ℤ pos b.den) *ℤ c) +ℤ z) second
    ∙ sym (+ℤ-*ℤ (a.num *ℤ pos b.den) (b.num *ℤ pos a.den) c))
  where
    first : u *ℤ (pos a.den *ℤ pos b.den) ≡ (a.num *ℤ pos b.den) *ℤ c
    first = sym (*ℤ_assoc u (pos a.den) (pos b.den)) ∙ ap (λ z. z *ℤ pos b.den) e ∙ swap-last a.num c (pos b.den)

    second : v *ℤ (pos a.den *ℤ pos b.den) ≡ (b.num *ℤ pos a.den) *ℤ c
    second = sym (*ℤ_assoc v (pos a.den) (pos b.den)) ∙ swap-last v (pos a.den) (pos b.den) ∙ ap (λ z. z *ℤ pos a.den) f ∙ swap-last b.num c (pos a.den)

-- times a product, one factor after the other
pub times-product : (c : ℤ) (a b : Fraction) (u v : ℤ) → 1 ≤ a.den → 1 ≤ b.den → IsTimes c a u → IsTimes u b v
    → IsTimes c (product_of a b) v
times-product c a b u v some_a some_b e f =
    times-reduced (a.num *ℤ b.num) (a.den * b.den) c v (one-le-mul some_a some_b)
    (sym (*ℤ_assoc v (pos a.den) (pos b.den)) ∙ swap-last v (pos a.den) (pos b.den) ∙ ap (λ z. z *ℤ pos a.den) f ∙ *ℤ_assoc b.num u (pos a.den)
    ∙ ap (λ z. b.num *ℤ z) e ∙ swap-first b.num a.num c ∙ sym (*ℤ_assoc a.num b.num c))

-- the second of the two steps
pub product-times : (c : ℤ) (a b : Fraction) (u v : ℤ) → 1 ≤ a.den → 1 ≤ b.den → IsTimes c a u
    → IsTimes c (product_of a b) v → IsTimes u b v
product-times c a b u v some_a some_b e f =
    let whole : v *ℤ (pos a.den *ℤ pos b.den) ≡ (a.num *ℤ b.num) *ℤ c = reduced-times (a.num *ℤ b.num) (a.den * b.den) c v (one-le-mul some_a some_b) f in
    same-without a.den (v *ℤ pos b.den) (b.num *ℤ u) some_a
    (swap-last v (pos b.den) (pos a.den) ∙ *ℤ_assoc v (pos a.den) (pos b.den) ∙ whole ∙ *ℤ_assoc a.num b.num c ∙ swap-first a.num b.num c
    ∙ ap (λ z. b.num *ℤ z) (sym e) ∙ sym (*ℤ_assoc b.num u (pos a.den)))

-- a factor more on both sides
pub times-scaled : (k c : ℤ) (f : Fraction) (w : ℤ) → IsTimes c f w → IsTimes (k *ℤ c) f (k *ℤ w)
times-scaled k c f w e = *ℤ_assoc k w (pos f.den) ∙ ap (λ z. k *ℤ z) e ∙ swap-first k f.num c

-- fractions in lowest terms of which one multiple is the same are the same
pub times-same : (m : ℕ) (f g : Fraction) (w : ℤ) → 1 ≤ m → IsInLowestTerms f → IsInLowestTerms g → IsTimes (pos m) f w
    → IsTimes (pos m) g w → f ≡ g
times-same m f g w some low_f low_g e h =
    let value : HasValue f g.num g.den =
    same-without m (f.num *ℤ pos g.den) (g.num *ℤ pos f.den) some
    (swap-last f.num (pos g.den) (pos m) ∙ ap (λ z. z *ℤ pos g.den) (sym e) ∙ swap-last w (pos f.den) (pos g.den) ∙ ap (λ z. z *ℤ pos f.den) h
    ∙ swap-last g.num (pos m) (pos f.den)) in
    same_from_value f g low_f low_g value

-- sums of fractions are in lowest terms
pub sum-lowest : {A : Type 0} (f : A → Fraction) (xs : List A) → ((x : A) → 1 ≤ (f x).den)
    → IsInLowestTerms (fraction_sum f xs)
sum-lowest f [] some = record { positive = omega arith; coprime = gcd-with_one 0 }
sum-lowest f (x ∷ xs) some = lowest-sum (f x) (fraction_sum f xs) (some x) (sum-lowest f xs some).positive

-- times a sum over a list
pub times-sum_over : {A : Type 0} (c : ℤ) (f : A → Fraction) (w : A → ℤ) (xs : List A) → ((x : A) → 1 ≤ (f x).den)
    → All (λ x. IsTimes c (f x) (w x)) xs → IsTimes c (fraction_sum f xs) (sum_over w xs)
times-sum_over c f w [] some each = zero-*ℤ (pos 1) ∙ sym (zero-*ℤ c)
times-sum_over c f w (x ∷ xs) some each =
    times-sum c (f x) (fraction_sum f xs) (w x) (sum_over w xs) (some x) (sum-lowest f xs some).positive
    (All-head (λ y. IsTimes c (f y) (w y)) x xs each) (times-sum_over c f w xs some (All-tail (λ y. IsTimes c (f y) (w y)) x xs each))

-- a multiple of the denominator makes a fraction whole
pub times-multiple : (f : Fraction) (k : ℕ) → IsTimes (pos f.den *ℤ pos k) f (f.num *ℤ pos k)
times-multiple f k = *ℤ_assoc f.num (pos k) (pos f.den) ∙ ap (λ z. f.num *ℤ z) (*ℤ_comm (pos k) (pos f.den))

-- times a difference
pub times-difference : (c : ℤ) (a b : Fraction) (u v : ℤ) → 1 ≤ a.den → 1 ≤ b.den → IsTimes c a u → IsTimes c b v
    → IsTimes c (difference_of a b) (u -ℤ v)
times-difference c a b u v some_a some_b e f =
    let other : Fraction = over (neg_ℤ b.num) b.den in
    let negative : IsTimes c other (neg_ℤ v) = neg-*ℤ v (pos b.den) ∙ ap neg_ℤ f ∙ sym (neg-*ℤ b.num c) in
    subst (λ z. IsTimes c (difference_of a b) z) (omega (arith, ints)) (times-sum c a other u (neg_ℤ v) some_a some_b e negative)

pub difference-lowest : (a b : Fraction) → 1 ≤ a.den → 1 ≤ b.den → IsInLowestTerms (difference_of a b)
difference-lowest a b some_a some_b = lowest-sum a (over (neg_ℤ b.num) b.den) some_a some_b

-- the order of fractions is that of what both are times one number
pub times-order : (m : ℕ) (f g : Fraction) (u v : ℤ) → 1 ≤ m → 1 ≤ f.den → 1 ≤ g.den → IsTimes (pos m) f u
    → IsTimes (pos m) g v → IsAtMost f g ↔ (u ≤ℤ v)
times-order m f g u v some some_f some_g e h =
    let left : (f.num *ℤ pos g.den) *ℤ pos m ≡ u *ℤ pos (f.den * g.den) = swap-last f.num (pos g.den) (pos m) ∙ ap (λ z. z *ℤ pos g.den) (sym e)
    ∙ *ℤ_assoc u (pos f.den) (pos g.den) in
    let right : (g.num *ℤ pos f.den) *ℤ pos m ≡ v *ℤ pos (f.den * g.den) =
    swap-last g.num (pos f.den) (pos m) ∙ ap (λ z. z *ℤ pos f.den) (sym h) ∙ swap-last v (pos g.den) (pos f.den) ∙ *ℤ_assoc v (pos f.den) (pos g.den) in (
      λ most. *ℤ-cancel_right (f.den * g.den) u v (one-le-mul some_f some_g)
          (rw (sym right) (rw (sym left) (*ℤ-mono_right m (f.num *ℤ pos g.den) (g.num *ℤ pos f.den) most))),
      λ most. *ℤ-cancel_right m (f.num *ℤ pos g.den) (g.num *ℤ pos f.den) some (rw right (rw left (*ℤ-mono_right (f.den * g.den) u v most))),
    )

-- a bound of a fraction by what the fraction is times a number
pub least-times : (m : ℕ) (f g : Fraction) (v : ℤ) → 1 ≤ m → 1 ≤ g.den → IsTimes (pos m) g v
    → IsAtMost f g ↔ ((f.num *ℤ pos m) ≤ℤ (v *ℤ pos f.den))
least-times m f g v some some_g h =
    let left : (f.num *ℤ pos g.den) *ℤ pos m ≡ (f.num *ℤ pos m) *ℤ pos g.den = swap-last f.num (pos g.den) (pos m) in
    let right : (g.num *ℤ pos f.den) *ℤ pos m ≡ (v *ℤ pos f.den) *ℤ pos g.den = swap-last g.num (pos f.den) (pos m) ∙ ap (λ z. z *ℤ pos f.den) (sym h)
    ∙ swap-last v (pos g.den) (pos f.den) in (
      λ most. *ℤ-cancel_right g.den (f.num *ℤ pos m) (v *ℤ pos f.den) some_g
          (rw (sym right) (rw (sym left) (*ℤ-mono_right m (f.num *ℤ pos g.den) (g.num *ℤ pos f.den) most))),
      λ most. *ℤ-cancel_right m (f.num *ℤ pos g.den) (g.num *ℤ pos f.den) some
          (rw right (rw left (*ℤ-mono_right g.den (f.num *ℤ pos m) (v *ℤ pos f.den) most))),
    )

pub most-times : (m : ℕ) (f g : Fraction) (v : ℤ) → 1 ≤ m → 1 ≤ g.den → IsTimes (pos m) g v
    → IsAtMost g f ↔ ((v *ℤ pos f.den) ≤ℤ (f.num *ℤ pos m))
most-times m f g v some some_g h =
    let left : (f.num *ℤ pos g.den) *ℤ pos m ≡ (f.num *ℤ pos m) *ℤ pos g.den = swap-last f.num (pos g.den) (pos m) in
    let right : (g.num *ℤ pos f.den) *ℤ pos m ≡ (v *ℤ pos f.den) *ℤ pos g.den = swap-last g.num (pos f.den) (pos m) ∙ ap (λ z. z *ℤ pos f.den) (sym h)
    ∙ swap-last v (pos g.den) (pos f.den) in (
      λ most. *ℤ-cancel_right g.den (v *ℤ pos f.den) (f.num *ℤ pos m) some_g
          (rw (sym left) (rw (sym right) (*ℤ-mono_right m (g.num *ℤ pos f.den) (f.num *ℤ pos g.den) most))),
      λ most. *ℤ-cancel_right m (g.num *ℤ pos f.den) (f.num *ℤ pos g.den) some
          (rw left (rw right (*ℤ-mono_right g.den (v *ℤ pos f.den) (f.num *ℤ pos m) most))),
    )

-- of three factors the last two can be swapped
pub product-swapped : (a b c : Fraction) → 1 ≤ a.den → 1 ≤ b.den → 1 ≤ c.den
    → product_of (product_of a b) c ≡ product_of (product_of a c) b
product-swapped a b c some_a some_b some_c =
    let whole : ℕ = a.den * (b.den * c.den) in
    let first : IsTimes (pos whole) a (a.num *ℤ pos (b.den * c.den)) = times-multiple a (b.den * c.den) in
    times-same whole (product_of (product_of a b) c) (product_of (product_of a c) b) (c.num *ℤ (b.num *ℤ a.num)) (one-le-mul some_a (one-le-mul some_b some_c))
    (product-lowest (product_of a b) c (product-lowest a b some_a some_b).positive some_c)
    (product-lowest (product_of a c) b (product-lowest a c some_a some_c).positive some_b)
    (times-product (pos whole) (product_of a b) c (b.num *ℤ (a.num *ℤ pos c.den)) (c.num *ℤ (b.num *ℤ a.num)) (product-lowest a b some_a some_b).positive some_c
    (times-product (pos whole) a b (a.num *ℤ pos (b.den * c.den)) (b.num *ℤ (a.num *ℤ pos c.den)) some_a some_b first
    (step b a.num c.den b.den c.den (*ℤ_comm (pos c.den) (pos b.den))))
    (*ℤ_assoc c.num (b.num *ℤ a.num) (pos c.den) ∙ ap (λ z. c.num *ℤ z) (*ℤ_assoc b.num a.num (pos c.den))))
    (times-product (pos whole) (product_of a c) b (c.num *ℤ (a.num *ℤ pos b.den)) (c.num *ℤ (b.num *ℤ a.num)) (product-lowest a c some_a some_c).positive some_b
    (times-product (pos whole) a c (a.num *ℤ pos (b.den * c.den)) (c.num *ℤ (a.num *ℤ pos b.den)) some_a some_c first (step c a.num b.den b.den c.den refl))
    (ap (λ z. z *ℤ pos b.den) (swap-first c.num b.num a.num) ∙ *ℤ_assoc b.num (c.num *ℤ a.num) (pos b.den)
    ∙ ap (λ z. b.num *ℤ z) (*ℤ_assoc c.num a.num (pos b.den))))
  where
    step : (f : Fraction) (n : ℤ) (k j l : ℕ) → pos k *ℤ pos f.den ≡ pos j *ℤ pos l → IsTimes (n *ℤ pos (j * l)) f (f.num *ℤ (n *ℤ pos k))
    step f n k j l e = *ℤ_assoc f.num (n *ℤ pos k) (pos f.den) ∙ ap (λ z. f.num *ℤ z) (*ℤ_assoc n (pos k) (pos f.den) ∙ ap (λ z. n *ℤ z) e)

-- fractions can be added in either order
pub sum-swapped : (a b : Fraction) → sum_of a b ≡ sum_of b a
sum-swapped a b =
    ap (λ n. fraction_of n (a.den * b.den)) (+ℤ_comm (a.num *ℤ pos b.den) (b.num *ℤ pos a.den))
    ∙ ap (λ d. fraction_of ((b.num *ℤ pos a.den) +ℤ (a.num *ℤ pos b.den)) d) (omega arith)

-- what is left of a sum
pub rest-of_sum : (a b k : Fraction) → 1 ≤ a.den → IsInLowestTerms b → 1 ≤ k.den → sum_of a b ≡ k → b ≡ difference_of k a
rest-of_sum a b k some_a low_b some_k e =
    let first : IsTimes (pos b.den *ℤ pos a.den) a (pos b.den *ℤ a.num) = times-scaled (pos b.den) (pos a.den) a a.num refl in
    let second : IsTimes (pos b.den *ℤ pos a.den) b (pos a.den *ℤ b.num) =
    subst (λ c. IsTimes c b (pos a.den *ℤ b.num)) (*ℤ_comm (pos a.den) (pos b.den)) (times-scaled (pos a.den) (pos b.den) b b.num refl) in
    let whole : IsTimes (pos b.den *ℤ pos a.den) k (pos b.den *ℤ a.num +ℤ pos a.den *ℤ b.num) =
    subst (λ f. IsTimes (pos b.den *ℤ pos a.den) f (pos b.den *ℤ a.num +ℤ pos a.den *ℤ b.num)) e
    (times-sum (pos b.den *ℤ pos a.den) a b _ _ some_a low_b.positive first second) in
    times-same (b.den * a.den) b (difference_of k a) (pos a.den *ℤ b.num) (one-le-mul low_b.positive some_a) low_b (difference-lowest k a some_k some_a) second
    (subst (λ z. IsTimes (pos b.den *ℤ pos a.den) (difference_of k a) z) (less (pos b.den *ℤ a.num) (pos a.den *ℤ b.num))
    (times-difference (pos b.den *ℤ pos a.den) k a _ _ some_k some_a whole first))
  where
    less : (u v : ℤ) → (u +ℤ v) -ℤ u ≡ v
    less u v = omega (arith, ints)

-- where two fractions have a sum, a bound of one is a bound of the other from the other side
pub record Turns (a b k c : Fraction) : Type 0 where
  pub least : IsAtMost c a ↔ IsAtMost b (difference_of k c)
  pub most : IsAtMost b c ↔ IsAtMost (difference_of k c) a

pub turned : (a b k c : Fraction) → 1 ≤ a.den → 1 ≤ b.den → 1 ≤ k.den → 1 ≤ c.den → sum_of a b ≡ k → Turns a b k c
turned a b k c some_a some_b some_k some_c e =
    let whole : ℤ = pos c.den *ℤ (pos b.den *ℤ pos a.den) in
    let u : ℤ = pos c.den *ℤ (pos b.den *ℤ a.num) in
    let v : ℤ = pos c.den *ℤ (pos a.den *ℤ b.num) in
    let w : ℤ = (pos b.den *ℤ pos a.den) *ℤ c.num in
    let some : 1 ≤ c.den * (b.den * a.den) = one-le-mul some_c (one-le-mul some_b some_a) in
    let times_a : IsTimes whole a u = times-scaled (pos c.den) (pos b.den *ℤ pos a.den) a (pos b.den *ℤ a.num)
    (times-scaled (pos b.den) (pos a.den) a a.num refl) in
    let times_b : IsTimes whole b v =
    subst (λ z. IsTimes (pos c.den *ℤ z) b v) (*ℤ_comm (pos a.den) (pos b.den))
    (times-scaled (pos c.den) (pos a.den *ℤ pos b.den) b (pos a.den *ℤ b.num) (times-scaled (pos a.den) (pos b.den) b b.num refl)) in
    let times_c : IsTimes whole c w =
    subst (λ z. IsTimes z c w) (*ℤ_comm (pos b.den *ℤ pos a.den) (pos c.den)) (times-scaled (pos b.den *ℤ pos a.den) (pos c.den) c c.num refl) in
    let times_k : IsTimes whole k (u +ℤ v) = subst (λ f. IsTimes whole f (u +ℤ v)) e (times-sum whole a b u v some_a some_b times_a times_b) in
    let rest : IsTimes whole (difference_of k c) ((u +ℤ v) -ℤ w) = times-difference whole k c (u +ℤ v) w some_k some_c times_k times_c in
    let some_rest : 1 ≤ (difference_of k c).den = (difference-lowest k c some_k some_c).positive in
    let c_a = times-order (c.den * (b.den * a.den)) c a w u some some_c some_a times_c times_a in
    let b_rest = times-order (c.den * (b.den * a.den)) b (difference_of k c) v ((u +ℤ v) -ℤ w) some some_b some_rest times_b rest in
    let b_c = times-order (c.den * (b.den * a.den)) b c v w some some_b some_c times_b times_c in
    let rest_a = times-order (c.den * (b.den * a.den)) (difference_of k c) a ((u +ℤ v) -ℤ w) u some some_rest some_a rest times_a in
    record {
      least = (λ low. b_rest.1 (over_there u v w (c_a.0 low)), λ high. c_a.1 (over_here u v w (b_rest.0 high)));
      most = (λ high. rest_a.1 (less_there u v w (b_c.0 high)), λ low. b_c.1 (less_here u v w (rest_a.0 low)));
    }
  where
    over_there : (u v w : ℤ) → w ≤ℤ u → v ≤ℤ ((u +ℤ v) -ℤ w)
    over_there u v w h = omega (arith, ints)

    over_here : (u v w : ℤ) → v ≤ℤ ((u +ℤ v) -ℤ w) → w ≤ℤ u
    over_here u v w h = omega (arith, ints)

    less_there : (u v w : ℤ) → v ≤ℤ w → ((u +ℤ v) -ℤ w) ≤ℤ u
    less_there u v w h = omega (arith, ints)

    less_here : (u v w : ℤ) → ((u +ℤ v) -ℤ w) ≤ℤ u → v ≤ℤ w
    less_here u v w h = omega (arith, ints)

-- fractions that are each at most the other are the same
pub same-both_ways : (f g : Fraction) → IsInLowestTerms f → IsInLowestTerms g → IsAtMost f g → IsAtMost g f → f ≡ g
same-both_ways f g low_f low_g below above = same_from_value f g low_f low_g (≤ℤ_antisym (f.num *ℤ pos g.den) (g.num *ℤ pos f.den) below above)
