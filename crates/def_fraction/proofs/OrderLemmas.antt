-- The order of fractions in lowest terms.
use Rattle.std.proofs.Common.{◌≡◌, ℕ, suc, ◌*◌, ◌<◌, ◌≤◌, ℤ, pos, negsuc, neg_ℤ, ◌*ℤ◌, ◌<ℤ◌, refl, sym, ap, ◌∙◌, subst, arith}
use Rattle.std.specs.Prelude.{◌↔◌}
use Rattle.std.specs.declared.cmp.Ordering.{Ordering}
use Rattle.std.specs.declared.cmp.Ordering.TheVariants.{Less, Equal, Greater}
use Rattle.std.specs.Ordering.{int_cmp, MatchOrdering}
use Rattle.std.specs.Cmp.{int_ranks, int_cmp_is}
use Rattle.std.proofs.lemmas.Cmp.{int_cmp_total, int_ranked}
use Rattle.std.proofs.lemmas.Int.{ints}
use Rattle.std.proofs.Math.Nat.{mul_assoc, mul_comm, mul-lt-mul_of_pos_right, mul-pos}
use Rattle.def_fraction.specs.Fraction.{Fraction, IsInLowestTerms, order_of}
use Rattle.def_fraction.specs.Laws.{OrdersValues}
use Rattle.def_fraction.proofs.FractionLemmas.{same_from_value, neg-times}

-- times one number and times another is times their product
pub times-times : (x : ℤ) (d k : ℕ) → (x *ℤ pos d) *ℤ pos k ≡ x *ℤ pos (d * k)
times-times (pos n) d k = ap pos (mul_assoc n d k)
times-times (negsuc n) d k = neg-times (suc n * d) k ∙ ap (λ m. neg_ℤ (pos m)) (mul_assoc (suc n) d k)

-- two factors change places
pub times_turned : (x : ℤ) (d k : ℕ) → (x *ℤ pos d) *ℤ pos k ≡ (x *ℤ pos k) *ℤ pos d
times_turned x d k = times-times x d k ∙ ap (λ m. x *ℤ pos m) (mul_comm d k) ∙ sym (times-times x k d)

never : (x : ℤ) → x <ℤ x → ⊥
never x h = omega (arith, ints)

not_both : (x y : ℤ) → x <ℤ y → y <ℤ x → ⊥
not_both x y p q = omega (arith, ints)

-- a positive factor keeps the order
less_times : (x y : ℤ) (k : ℕ) → 1 ≤ k → x <ℤ y → (x *ℤ pos k) <ℤ (y *ℤ pos k)
less_times (pos m) (pos n) k h p =
    let small : m < n = omega (arith, ints) in
    omega (arith, ints, mul-lt-mul_of_pos_right {m = m} {n = n} {k = k} small h)
less_times (pos m) (negsuc n) k h p = absurd (omega (arith, ints))
less_times (negsuc m) (pos n) k h p = omega (arith, ints, mul-pos {m = suc m} {n = k} (omega arith) h)
less_times (negsuc m) (negsuc n) k h p =
    let small : suc n < suc m = omega (arith, ints) in
    omega (arith, ints, mul-lt-mul_of_pos_right {m = suc n} {n = suc m} {k = k} small h)

less_from_times : (x y : ℤ) (k : ℕ) → 1 ≤ k → (x *ℤ pos k) <ℤ (y *ℤ pos k) → x <ℤ y
less_from_times x y k h p = by_rank (int_cmp x y) (int_ranks x y)
  where
    by_rank : (r : Ordering) → MatchOrdering r (x <ℤ y) (x ≡ y) (y <ℤ x) → x <ℤ y
    by_rank Less e = e
    by_rank Equal e = absurd (never (y *ℤ pos k) (subst (λ (z : ℤ). (z *ℤ pos k) <ℤ (y *ℤ pos k)) e p))
    by_rank Greater e = absurd (not_both (x *ℤ pos k) (y *ℤ pos k) p (less_times y x k h e))

-- the chain of the two products
chain : (a b c d x y : ℤ) → a <ℤ b → c <ℤ d → b ≡ c → a ≡ x → d ≡ y → x <ℤ y
chain a b c d x y p q e f g = rw (← f, ← g) (omega (arith, ints))

-- fractions in lowest terms are ordered: equal ones are one fraction, and less than less is less
pub orders_values : (f g h : Fraction) → IsInLowestTerms f → IsInLowestTerms g → IsInLowestTerms h → OrdersValues f g h
orders_values f g h p q r =
    let a = f.num *ℤ pos g.den in
    let b = g.num *ℤ pos f.den in
    let c = g.num *ℤ pos h.den in
    let d = h.num *ℤ pos g.den in
    record {
      same = λ e. same_from_value f g p q (int_ranked a b Equal (sym e));
      turned = int_cmp_total.antisymm a b;
      through = λ e i.
          let low = less_times a b h.den r.positive (int_ranked a b Less (sym e)) in
          let high = less_times c d f.den p.positive (int_ranked c d Less (sym i)) in
          let long = chain (a *ℤ pos h.den) (b *ℤ pos h.den) (c *ℤ pos f.den) (d *ℤ pos f.den) ((f.num *ℤ pos h.den) *ℤ pos g.den)
          ((h.num *ℤ pos f.den) *ℤ pos g.den)
          low high (times_turned g.num f.den h.den) (times_turned f.num g.den h.den) (times_turned h.num g.den f.den) in
          sym (int_cmp_is (f.num *ℤ pos h.den) (h.num *ℤ pos f.den) Less (less_from_times (f.num *ℤ pos h.den) (h.num *ℤ pos f.den) g.den q.positive long));
    }

-- two fractions in lowest terms compare as equal exactly where they are the same
pub order_of-same : (f g : Fraction) → IsInLowestTerms f → IsInLowestTerms g → (order_of f g ≡ Equal) ↔ (f ≡ g)
order_of-same f g p q = (
  λ e. same_from_value f g p q (int_ranked (f.num *ℤ pos g.den) (g.num *ℤ pos f.den) Equal (sym e)),
  λ e. let itself : order_of g g ≡ Equal = sym (int_cmp_is (g.num *ℤ pos g.den) (g.num *ℤ pos g.den) Equal refl) in
      ap (λ x. order_of x g) e ∙ itself,
)
