-- Fractions in lowest terms.
use Rattle.std.proofs.Common.{◌≡◌, ℕ, zero, suc, ◌*◌, ◌/◌, ◌≤◌, Bool, true, false, ℤ, pos, negsuc, neg_ℤ, ◌*ℤ◌, unsigned_abs, refl, sym, ap, ◌∙◌, arith}
use Rattle.std.proofs.Math.Nat.{mul-div_cancel', eq_of_mul-eq-mul_left, zero-mul, div-one, zero-div}
use Rattle.std.proofs.lemmas.Int.{unsigned_abs-mul}
use Rattle.def_fraction.specs.Divisors.{gcd}
use Rattle.def_fraction.specs.Fraction.{Fraction, IsInLowestTerms, fraction_of, without_factor, signed}
use Rattle.def_fraction.specs.Laws.{HasValue, ReducesExactly}
use Rattle.def_fraction.proofs.DivisorLemmas.{IsGcd-gcd, gcd-reduced, same_ratio}

pub unsigned_abs-neg : (m : ℕ) → unsigned_abs (neg_ℤ (pos m)) ≡ m
unsigned_abs-neg zero = refl
unsigned_abs-neg (suc m) = refl

-- the negative of a natural number times another is the negative of their product
pub neg-times : (m d : ℕ) → neg_ℤ (pos m) *ℤ pos d ≡ neg_ℤ (pos (m * d))
neg-times zero d = rw (zero-mul d) refl
neg-times (suc m) d = refl

-- a number without one of its factors has its size divided by this factor
pub unsigned_abs-without_factor : (n : ℤ) (g : ℕ) → unsigned_abs (without_factor n g) ≡ unsigned_abs n / g
unsigned_abs-without_factor (pos n) g = refl
unsigned_abs-without_factor (negsuc n) g = unsigned_abs-neg (suc n / g)

-- dividing both parts by one number keeps the value
exact_parts : (n : ℤ) (d g k : ℕ) → g * (unsigned_abs n / g) ≡ unsigned_abs n → g * k ≡ d
    → without_factor n g *ℤ pos d ≡ n *ℤ pos k
exact_parts (pos n) d g k above below = ap pos (omega (arith, ap (λ x. x * k) above, ap (λ x. n / g * x) below))
exact_parts (negsuc n) d g k above below =
    neg-times (suc n / g) d ∙ ap (λ x. neg_ℤ (pos x)) (omega (arith, ap (λ x. x * k) above, ap (λ x. suc n / g * x) below))

positive_factor : (g k : ℕ) → 1 ≤ g * k → 1 ≤ k
positive_factor g zero h = omega arith
positive_factor g (suc k) h = omega arith

-- where the denominator isn't 0, a fraction's lowest terms have its value
pub fraction_of-reduced : (n : ℤ) (d : ℕ) → 1 ≤ d → ReducesExactly n d
unfolding fraction_of
fraction_of-reduced n d h =
    let a = unsigned_abs n in
    let g = gcd a d in
    let divides = IsGcd-gcd a d in
    let above : g * (a / g) ≡ a = mul-div_cancel' g divides.0 in
    let below : g * (d / g) ≡ d = mul-div_cancel' g divides.1 in
    record {
      lowest = record {
        positive = positive_factor g (d / g) (omega arith);
        coprime = ap (λ x. gcd x (d / g)) (unsigned_abs-without_factor n g) ∙ gcd-reduced a d h;
      };
      exact = exact_parts n d g (d / g) above below;
    }

negative : (n m : ℕ) → 1 ≤ n → pos m ≡ neg_ℤ (pos n) → ⊥
negative zero m h e = omega arith
negative (suc n) m h e = cc

pos≢neg : (m n k : ℕ) → 1 ≤ k → 1 ≤ n → pos m ≡ neg_ℤ (pos (n * k)) → ⊥
pos≢neg m n zero h j e = omega arith
pos≢neg m zero (suc k) h j e = omega arith
pos≢neg m (suc n) (suc k) h j e = negative (suc n * suc k) m (omega arith) e

-- a sign and a size give the number back
same_signs : (a c : ℤ) (p q : ℕ) → 1 ≤ p → 1 ≤ q → unsigned_abs a ≡ unsigned_abs c → a *ℤ pos q ≡ c *ℤ pos p → a ≡ c
same_signs (pos a) (pos c) p q hp hq e value = ap pos e
same_signs (negsuc a) (negsuc c) p q hp hq e value = ap negsuc (omega arith)
same_signs (pos a) (negsuc c) p q hp hq e value = absurd (pos≢neg (a * q) (suc c) p hp (omega arith) value)
same_signs (negsuc a) (pos c) p q hp hq e value = absurd (pos≢neg (c * p) (suc a) q hq (omega arith) (sym value))

-- two fractions in lowest terms with one value are the same
pub same_from_value : (f g : Fraction) → IsInLowestTerms f → IsInLowestTerms g → HasValue f g.num g.den → f ≡ g
same_from_value f g p q value =
    let sizes : unsigned_abs f.num * g.den ≡ unsigned_abs g.num * f.den = sym (unsigned_abs-mul f.num (pos g.den)) ∙ ap unsigned_abs value
    ∙ unsigned_abs-mul g.num (pos f.den) in
    let same = same_ratio (unsigned_abs f.num) f.den (unsigned_abs g.num) g.den p.positive q.positive p.coprime q.coprime sizes in
    let nums : f.num ≡ g.num = same_signs f.num g.num f.den g.den p.positive q.positive same.0 value in
    let make : ℤ → ℕ → Fraction = λ n d. record { num = n; den = d } in
    ap (λ n. make n f.den) nums ∙ ap (make g.num) same.1

-- a fraction in lowest terms that has the value n / d is what n / d is in lowest terms
pub fraction_of-value : (f : Fraction) (n : ℤ) (d : ℕ) → IsInLowestTerms f → 1 ≤ d → HasValue f n d
    → fraction_of n d ≡ f
fraction_of-value f n d low positive value =
    let g : Fraction = fraction_of n d in
    let reduced = fraction_of-reduced n d positive in
    let size_f : unsigned_abs f.num * d ≡ unsigned_abs n * f.den = sym (unsigned_abs-mul f.num (pos d)) ∙ ap unsigned_abs value
    ∙ unsigned_abs-mul n (pos f.den) in
    let size_g : unsigned_abs g.num * d ≡ unsigned_abs n * g.den = sym (unsigned_abs-mul g.num (pos d)) ∙ ap unsigned_abs reduced.exact
    ∙ unsigned_abs-mul n (pos g.den) in
    let same = same_ratio (unsigned_abs g.num) g.den (unsigned_abs f.num) f.den reduced.lowest.positive low.positive reduced.lowest.coprime low.coprime
    (crosswise (unsigned_abs g.num) g.den (unsigned_abs f.num) f.den (unsigned_abs n) d positive size_g size_f) in
    let nums : g.num ≡ f.num = same_signs g.num f.num d d positive positive same.0 (reduced.exact ∙ ap (λ k. n *ℤ pos k) same.1 ∙ sym value) in
    let make : ℤ → ℕ → Fraction = λ n d. record { num = n; den = d } in
    ap (λ n. make n g.den) nums ∙ ap (make f.num) same.1
  where
    crosswise : (a b x y n d : ℕ) → 1 ≤ d → a * d ≡ n * b → x * d ≡ n * y → a * y ≡ x * b
    crosswise a b x y n d positive first second =
        let scaled : d * (a * y) ≡ d * (x * b) = omega (arith, ap (λ k. k * y) first, ap (λ k. k * b) second) in
        eq_of_mul-eq-mul_left d positive (a * y) (x * b) scaled

without_one : (n : ℤ) (g : ℕ) → g ≡ 1 → without_factor n g ≡ n
without_one (pos n) g e = ap (λ x. pos (n / x)) e ∙ ap pos (div-one n)
without_one (negsuc n) g e = ap (λ x. neg_ℤ (pos (suc n / x))) e ∙ ap (λ x. neg_ℤ (pos x)) (div-one (suc n))

-- what is in lowest terms stays as it is
pub fraction_of-lowest : (f : Fraction) → IsInLowestTerms f → fraction_of f.num f.den ≡ f
unfolding fraction_of
fraction_of-lowest f h =
    let make : ℤ → ℕ → Fraction = λ n d. record { num = n; den = d } in
    let common = gcd (unsigned_abs f.num) f.den in
    let den : f.den / common ≡ f.den = ap (λ x. f.den / x) h.coprime ∙ div-one f.den in
    ap (λ n. make n (f.den / common)) (without_one f.num common h.coprime) ∙ ap (make f.num) den

-- a sign before a number leaves its size as it is
pub unsigned_abs-signed : (negative : Bool) (n : ℕ) → unsigned_abs (signed negative n) ≡ n
unsigned_abs-signed true n = unsigned_abs-neg n
unsigned_abs-signed false n = refl

without_factor-signed : (negative : Bool) (n g : ℕ) → without_factor (signed negative n) g ≡ signed negative (n / g)
without_factor-signed true zero g = ap pos (zero-div g) ∙ ap (λ m. neg_ℤ (pos m)) (sym (zero-div g))
without_factor-signed true (suc n) g = refl
without_factor-signed false n g = refl

-- the fraction of a sign and two sizes
pub fraction_of-signed : (negative : Bool) (n d : ℕ)
    → fraction_of (signed negative n) d ≡ record { num = signed negative (n / gcd n d); den = d / gcd n d }
unfolding fraction_of
fraction_of-signed negative n d =
    let make : ℤ → ℕ → Fraction = λ m k. record { num = m; den = k } in
    let size = unsigned_abs-signed negative n in
    ap (λ k. make (without_factor (signed negative n) (gcd k d)) (d / gcd k d)) size
    ∙ ap (λ m. make m (d / gcd n d)) (without_factor-signed negative n (gcd n d))
