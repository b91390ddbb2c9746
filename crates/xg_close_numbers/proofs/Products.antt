-- Products compared by quotients and remainders.
use Rattle.std.proofs.Common.{◌≡◌, ◌≢◌, ℕ, ◌+◌, ◌*◌, ◌/◌, ◌%◌, ◌≤◌, ◌<◌, true, false, nat_lt, refl, sym, ap, ◌∙◌, ⊎_elim, arith}
use Rattle.std.specs.Prelude.{◌↔◌, IsTrue}
use Rattle.std.proofs.lemmas.Bool.{ltb-true, lt-ltb, cases_lt}
use Rattle.std.proofs.Math.Nat.{mul_assoc, mul_comm, add-mul, mul-zero}
use Rattle.std.proofs.lemmas.Nat.{mul-le, div-add-mod'}

-- q * d * b, whichever factor comes first
turned : (q d b : ℕ) → (q * d) * b ≡ (q * b) * d
turned q d b = mul_assoc q d b ∙ ap (λ n. q * n) (mul_comm d b) ∙ sym (mul_assoc q b d)

-- (q * d + l) * b
spread : (q d l b : ℕ) → (q * d + l) * b ≡ (q * d) * b + l * b
spread q d l b = add-mul (q * d) l b

-- with one quotient the remainders decide
pub by_remainders : (a b c d : ℕ) → a / d ≡ c / b → (a * b ≤ c * d) ↔ (b * (a % d) ≤ d * (c % b))
by_remainders a b c d same =
    let q : ℕ = a / d in
    let first : a * b ≡ (q * d) * b + (a % d) * b = ap (λ n. n * b) (sym (div-add-mod' a d)) ∙ spread q d (a % d) b in
    let second : c * d ≡ (q * b) * d + (c % b) * d =
    ap (λ n. n * d) (sym (div-add-mod' c b) ∙ ap (λ n. n * b + c % b) (sym same)) ∙ spread q b (c % b) d in
    let same_part = turned q d b in
    let left = mul_comm (a % d) b in
    let right = mul_comm (c % b) d in
    (λ is. omega arith, λ is. omega arith)

-- the smaller quotient has the smaller product
pub by_quotients : (a b c d : ℕ) → 1 ≤ d → a / d < c / b → a * b ≤ c * d
by_quotients a b c d some less =
    let up : a ≤ (c / b) * d = omega (arith, div-add-mod' a d, mul-le (a / d + 1) d (c / b) d (omega arith) (omega arith), add-mul (a / d) 1 d) in
    let first = mul-le a b ((c / b) * d) b up (omega arith) in
    let second = mul-le ((c / b) * b) d c d (omega (arith, div-add-mod' c b)) (omega arith) in
    omega (arith, first, second, turned (c / b) d b)

pub by_quotients_not : (a b c d : ℕ) → 1 ≤ b → 1 ≤ d → c / b < a / d → a * b ≤ c * d → ⊥
by_quotients_not a b c d some other less is =
    let up : c + 1 ≤ (a / d) * b = omega (arith, div-add-mod' c b, mul-le (c / b + 1) b (a / d) b (omega arith) (omega arith), add-mul (c / b) 1 b) in
    let first = mul-le (c + 1) d ((a / d) * b) d up (omega arith) in
    let second = mul-le ((a / d) * d) b a b (omega (arith, div-add-mod' a d)) (omega arith) in
    omega (arith, first, second, turned (a / d) b d, add-mul c 1 d)

-- where the quotients differ they decide
pub by_first : (a b c d : ℕ) → 1 ≤ b → 1 ≤ d → a / d ≢ c / b → IsTrue (nat_lt (a / d) (c / b)) ↔ (a * b ≤ c * d)
by_first a b c d some other apart = (
  λ is. by_quotients a b c d other (omega (arith, ltb-true (a / d) (c / b) is)),
  λ is. lt-ltb (a / d) (c / b) (⊎_elim (λ less. less) (λ not. absurd (by_quotients_not a b c d some other (omega arith) is)) (cases_lt (a / d) (c / b))),
)

-- nothing is left of the first, or something of the first alone
pub none_left : (a b c d : ℕ) → a / d ≡ c / b → a % d ≡ 0 → IsTrue true ↔ (a * b ≤ c * d)
none_left a b c d same none =
    let nothing : b * (a % d) ≡ 0 = ap (λ n. b * n) none ∙ mul-zero b in
    (λ _. (by_remainders a b c d same).1 (omega arith), λ _. refl)

pub some_left : (a b c d : ℕ) → 1 ≤ b → a / d ≡ c / b → 1 ≤ a % d → c % b ≡ 0 → IsTrue false ↔ (a * b ≤ c * d)
some_left a b c d some same left none =
    let nothing : d * (c % b) ≡ 0 = ap (λ n. d * n) none ∙ mul-zero d in
    let product = mul-le 1 1 b (a % d) some left in
    (λ is. absurd cc, λ is. absurd (omega (arith, (by_remainders a b c d same).0 is)))
