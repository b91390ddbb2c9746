-- The number that digits write.
use Rattle.std.proofs.Common.{◌≡◌, ℕ, ◌+◌, ◌-◌, ◌*◌, ◌^◌, List, [], ◌∷◌, ◌++◌, length, sym, ap, ◌∙◌, arith}
use Rattle.std.proofs.lemmas.List.{length-append}
use Rattle.std.proofs.lemmas.Nat.{pow-add}
use Rattle.std.proofs.Math.Nat.{mul_assoc}
use Rattle.def_fraction.specs.Digits.{number_of}

-- digits that stand before others count ten times as much for each digit that follows
pub number_of-append : (xs ys : List ℕ) → number_of (xs ++ ys) ≡ number_of xs * 10 ^ length ys + number_of ys
number_of-append [] ys = omega arith
number_of-append (x ∷ xs) ys =
    let d = x - 48 in
    let power : 10 ^ length (xs ++ ys) ≡ 10 ^ length xs * 10 ^ length ys = ap (λ n. 10 ^ n) (length-append xs ys) ∙ pow-add 10 (length xs) (length ys) in
    let first : d * 10 ^ length (xs ++ ys) ≡ d * 10 ^ length xs * 10 ^ length ys = ap (λ n. d * n) power
    ∙ sym (mul_assoc d (10 ^ length xs) (10 ^ length ys)) in
    omega (arith, first, number_of-append xs ys)
