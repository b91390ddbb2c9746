-- Euclid's algorithm gives the greatest common divisor, and what follows for coprime numbers.
use Rattle.std.proofs.Common.{◌≡◌, ℕ, zero, suc, ◌+◌, ◌*◌, ◌/◌, ◌%◌, ◌<◌, ◌≤◌, refl, sym, ap, ◌∙◌, subst, ⊎_elim, arith, eq-zero-or-pos}
use Prim.Native.Nat.{◌∣◌}
use Rattle.std.specs.Int.{IsGcd}
use Rattle.std.proofs.lemmas.Nat.Gcd.{IsGcd-from_zero, IsGcd-from_mod, same_from_IsGcd, dvd_antisymm}
use Rattle.std.proofs.lemmas.Nat.{mod-mul-add}
use Rattle.std.proofs.Math.Nat.{mod-lt, zero-mod, mul_comm, mul-one, mul-lt-mul_of_pos_left, div-add-mod', mul-div_cancel', dvd-mul_left, dvd-mul_right}
use Rattle.std.proofs.Math.Nat.{dvd_of_mul-dvd-mul_left, eq-one_of_dvd-one, mul-dvd-mul_left, zero-mul, eq-zero_of_zero-dvd, eq_of_mul-eq-mul_left}
use Rattle.std.proofs.Math.Nat.{eq_of_mul-eq-mul_right}
use Rattle.def_fraction.specs.Divisors.{gcd_within, gcd, lcm, IsLcm}

IsGcd-gcd_within : (turns a b : ℕ) → b ≤ turns → IsGcd a b (gcd_within turns a b)
IsGcd-gcd_within zero a b h = IsGcd-from_zero a b (omega arith)
IsGcd-gcd_within (suc turns) a zero h = IsGcd-from_zero a 0 refl
IsGcd-gcd_within (suc turns) a (suc b) h =
    let small : a % suc b < suc b = mod-lt a (omega arith) in
    IsGcd-from_mod a (suc b) _ (IsGcd-gcd_within turns (suc b) (a % suc b) (omega arith))

-- the divisor that is computed is the greatest common one
pub IsGcd-gcd : (a b : ℕ) → IsGcd a b (gcd a b)
unfolding gcd
IsGcd-gcd a b = IsGcd-gcd_within b a b (omega arith)

-- a remainder grows with its two numbers
mod_scaled : (k a b : ℕ) → 0 < b → (k * a) % (k * b) ≡ k * (a % b)
mod_scaled zero a b h = rw (zero-mul a, zero-mul b, zero-mul (a % b)) (zero-mod 0)
mod_scaled (suc k) a b h =
    let r : a % b < b = mod-lt a h in
    let small : suc k * (a % b) < suc k * b = mul-lt-mul_of_pos_left r (omega arith) in
    let whole : a / b * b + a % b ≡ a = div-add-mod' a b in
    let e : suc k * a ≡ a / b * (suc k * b) + suc k * (a % b) = omega (arith, ap (λ x. suc k * x) whole) in
    rw e (mod-mul-add (a / b) (suc k * b) (suc k * (a % b)) small)

-- the greatest common divisor too
IsGcd-gcd_within_scaled : (turns k a b : ℕ) → b ≤ turns → IsGcd (k * a) (k * b) (k * gcd_within turns a b)
IsGcd-gcd_within_scaled zero k a b h =
    let none : b ≡ 0 = omega arith in
    IsGcd-from_zero (k * a) (k * b) (ap (λ x. k * x) none ∙ omega arith)
IsGcd-gcd_within_scaled (suc turns) k a zero h = IsGcd-from_zero (k * a) (k * 0) (omega arith)
IsGcd-gcd_within_scaled (suc turns) k a (suc b) h =
    let small : a % suc b < suc b = mod-lt a (omega arith) in
    let rest = IsGcd-gcd_within_scaled turns k (suc b) (a % suc b) (omega arith) in
    IsGcd-from_mod (k * a) (k * suc b) _ (let P : ℕ → Type 0 = λ x. IsGcd (k * suc b) x (k * gcd_within turns (suc b) (a % suc b)) in subst P
    (sym (mod_scaled k a (suc b) (omega arith))) rest)

pub IsGcd-gcd_scaled : (k a b : ℕ) → IsGcd (k * a) (k * b) (k * gcd a b)
unfolding gcd
IsGcd-gcd_scaled k a b = IsGcd-gcd_within_scaled b k a b (omega arith)

pub gcd-scaled : (k a b : ℕ) → gcd (k * a) (k * b) ≡ k * gcd a b
gcd-scaled k a b = same_from_IsGcd (k * a) (k * b) _ _ (IsGcd-gcd (k * a) (k * b)) (IsGcd-gcd_scaled k a b)

-- what divides a product and is coprime to one factor divides the other
pub divides_other : (a b c : ℕ) → gcd a b ≡ 1 → b ∣ a * c → b ∣ c
divides_other a b c coprime h =
    let all = IsGcd-gcd_scaled c a b in
    let first : b ∣ c * a = (let P : ℕ → Type 0 = λ x. b ∣ x in subst P (mul_comm a c) h) in
    let both : b ∣ c * gcd a b = all.2 b first (dvd-mul_left b c) in
    let e : c * gcd a b ≡ c = rw coprime (mul-one c) in
    let P : ℕ → Type 0 = λ x. b ∣ x in
    subst P e both

-- where the second number isn't 0, neither is the greatest common divisor
pub gcd-positive : (a b : ℕ) → 1 ≤ b → 1 ≤ gcd a b
gcd-positive a b h =
    ⊎_elim (λ z. let none : gcd a b ∣ b = (IsGcd-gcd a b).1 in
    let P : ℕ → Type 0 = λ x. x ∣ b in
    let zero_divides : 0 ∣ b = subst P z none in
    absurd (omega (arith, eq-zero_of_zero-dvd zero_divides))) (λ p. omega arith) (eq-zero-or-pos (gcd a b))

-- without their greatest common divisor two numbers are coprime
pub gcd-reduced : (a b : ℕ) → 1 ≤ b → gcd (a / gcd a b) (b / gcd a b) ≡ 1
gcd-reduced a b h =
    let divides = IsGcd-gcd a b in
    let g = gcd a b in
    let above : g * (a / g) ≡ a = mul-div_cancel' g divides.0 in
    let below : g * (b / g) ≡ b = mul-div_cancel' g divides.1 in
    let scaled : g ≡ g * gcd (a / g) (b / g) = ap (λ x. gcd x b) (sym above) ∙ ap (λ x. gcd (g * (a / g)) x) (sym below) ∙ gcd-scaled g (a / g) (b / g) in
    let pos_g : 1 ≤ g = gcd-positive a b h in
    eq_of_mul-eq-mul_left g pos_g _ _ (sym scaled ∙ sym (mul-one g))

-- a fraction in lowest terms follows from its value
pub same_ratio : (a b c d : ℕ) → 1 ≤ b → 1 ≤ d → gcd a b ≡ 1 → gcd c d ≡ 1 → a * d ≡ c * b → (a ≡ c) × (b ≡ d)
same_ratio a b c d hb hd p q e =
    let into_product : b ∣ a * d = (let P : ℕ → Type 0 = λ x. b ∣ x in subst P (sym e) (dvd-mul_left b c)) in
    let into_other : d ∣ c * b = (let P : ℕ → Type 0 = λ x. d ∣ x in subst P e (dvd-mul_left d a)) in
    let same : b ≡ d = dvd_antisymm (divides_other a b d p into_product) (divides_other c d b q into_other) in
    (eq_of_mul-eq-mul_right d hd a c (e ∙ ap (λ x. c * x) same), same)

-- the multiple that is computed of two numbers that aren't 0 is the least common one
pub IsLcm-lcm : (a b : ℕ) → 1 ≤ a → 1 ≤ b → IsLcm a b (lcm a b)
IsLcm-lcm a b ha hb =
    let divides = IsGcd-gcd a b in
    let g = gcd a b in
    let x = a / g in
    let y = b / g in
    let above : g * x ≡ a = mul-div_cancel' g divides.0 in
    let below : g * y ≡ b = mul-div_cancel' g divides.1 in
    let g_positive : 1 ≤ g = gcd-positive a b hb in
    let turned : a * y ≡ x * b = omega (arith, ap (λ z. z * y) above, ap (λ z. x * z) below) in
    let P : ℕ → Type 0 = λ z. a ∣ z in
    record {
      first_divides = subst P turned (dvd-mul_right a y);
      second_divides = dvd-mul_left b x;
      least = λ k p q.
          let u = k / a in
          let whole : a * u ≡ k = mul-div_cancel' a p in
          let product : g * (x * u) ≡ k = omega (arith, ap (λ z. z * u) above) in
          let Q : ℕ → Type 0 = λ z. b ∣ z in
          let R : ℕ → Type 0 = λ z. z ∣ g * (x * u) in
          let split : g * y ∣ g * (x * u) = subst R (sym below) (subst Q (sym product) q) in
          let inner : y ∣ u = divides_other x y u (gcd-reduced a b hb) (dvd_of_mul-dvd-mul_left y g_positive split) in
          let S : ℕ → Type 0 = λ z. z ∣ k in
          let T : ℕ → Type 0 = λ z. a * y ∣ z in
          subst S turned (subst T whole (mul-dvd-mul_left y a inner));
    }

-- one turn of Euclid's algorithm
pub gcd-turn : (a b : ℕ) → gcd b (a % b) ≡ gcd a b
gcd-turn a b = same_from_IsGcd a b _ _ (IsGcd-from_mod a b _ (IsGcd-gcd b (a % b))) (IsGcd-gcd a b)

-- a number's greatest common divisor with 0 is the number
pub gcd-zero : (a : ℕ) → gcd a 0 ≡ a
unfolding gcd
gcd-zero a = refl

-- the greatest common divisor of 1 and a number is 1
pub gcd-one : (b : ℕ) → gcd 1 b ≡ 1
gcd-one b = eq-one_of_dvd-one (IsGcd-gcd 1 b).0

-- the greatest common divisor of a number and 1 is 1
pub gcd-with_one : (a : ℕ) → gcd a 1 ≡ 1
gcd-with_one a = eq-one_of_dvd-one (IsGcd-gcd a 1).1
