-- Which rights are held.
use Rattle.std.proofs.Common.{◌≡◌, ◌≢◌, ℕ, zero, suc, ◌+◌, ◌-◌, ◌<◌, ◌≤◌, ◌||◌, Bool, true, false, ltb, leb, List, [], ◌∷◌, ℤ, pos, negsuc, refl, ap, subst}
use Rattle.std.proofs.Common.{inl, inr, arith}
use Rattle.std.specs.List.{range_with_len}
use Rattle.std.proofs.lemmas.Bool.{cases_lt}
use Rattle.std.proofs.lemmas.Bool.Decides.{nat_tests}
use Rattle.def_history.specs.Core.{rights_of}
use Rattle.def_words.specs.Amounts.{LastIsComplete}
use Rattle.def_words.specs.CoreSteps.{is_some_amount, has_left, rights_held, unclaimed}

pub none_left : (amount : ℕ → ℕ → ℤ) (reached job rows : ℕ) → ((row : ℕ) → reached ≤ row → row < rows → amount job row ≡ pos 0)
    → has_left amount reached job rows ≡ false
none_left amount reached job zero none = refl
none_left amount reached job (suc rows) none =
    let rest = none_left amount reached job rows (λ row above below. none row above (omega (arith, below))) in
    elim (cases_lt rows reached) [
      | inl before ↦ (let no : leb reached rows ≡ false = grind (arith, nat_tests, before) in rw (no, rest) refl)
      | inr above ↦ (let zero_here : is_some_amount (amount job rows) ≡ false = ap is_some_amount (none rows above (omega arith)) in let yes : leb reached rows
          ≡ true = grind (arith, nat_tests, above) in rw (zero_here, rest, yes) refl)
    ]

some_here : (a : ℤ) → a ≢ pos 0 → is_some_amount a ≡ true
some_here (pos zero) apart = absurd (apart refl)
some_here (pos (suc n)) apart = refl
some_here (negsuc n) apart = refl

or_true : (b : Bool) → (b || true) ≡ true
or_true true = refl
or_true false = refl

pub some_left : (amount : ℕ → ℕ → ℤ) (reached job rows row : ℕ) → reached ≤ row → row < rows → amount job row ≢ pos 0 → has_left amount reached job rows ≡ true
some_left amount reached job zero row above below apart = absurd (omega (arith, below))
some_left amount reached job (suc rows) row above below apart =
    elim (cases_lt row rows) [
      | inl before ↦ (let rest = some_left amount reached job rows row above before apart in rw rest (or_true _))
      | inr from ↦
          (let same : row ≡ rows = omega (arith, from, below) in
          let here : is_some_amount (amount job rows) ≡ true = some_here (amount job rows) (subst (λ r. amount job r ≢ pos 0) same apart) in
          let yes : leb reached rows ≡ true = grind (arith, nat_tests, above, same) in
          rw (here, yes) refl)
    ]

pub held_none : (jobs rows : ℕ) (amount : ℕ → ℕ → ℤ) (reached : ℕ) (numbers : List ℕ) → LastIsComplete jobs rows amount reached numbers
    → rights_held jobs rows amount reached numbers ≡ []
held_none jobs rows amount reached [] complete = refl
held_none jobs rows amount reached (n ∷ ns) complete =
    elim (cases_lt n jobs) [
      | inl is_job ↦ (let none = none_left amount reached n rows (λ row above below. complete n ns refl is_job row above below) in let yes : ltb n jobs
          ≡ true = grind (arith, nat_tests, is_job) in rw (none, yes) refl)
      | inr past ↦ (let no : ltb n jobs ≡ false = grind (arith, nat_tests, past) in rw no refl)
    ]

pub held_some : (jobs rows : ℕ) (amount : ℕ → ℕ → ℤ) (reached row n : ℕ) (ns : List ℕ) → n < jobs → reached ≤ row → row < rows → amount n row ≢ pos 0
    → rights_held jobs rows amount reached (n ∷ ns) ≡ rights_of n 1
held_some jobs rows amount reached row n ns is_job above below apart =
    let some = some_left amount reached n rows row above below apart in
    let yes : ltb n jobs ≡ true = grind (arith, nat_tests, is_job) in
    rw (some, yes) refl

pub unclaimed_more : (jobs n : ℕ) → n < jobs → unclaimed jobs n ≡ n ∷ unclaimed jobs (n + 1)
unclaimed_more jobs n is_job =
    let count : jobs - n ≡ suc (jobs - (n + 1)) = omega (arith, is_job) in
    ap (range_with_len n) count

pub unclaimed_none : (jobs n : ℕ) → jobs ≤ n → unclaimed jobs n ≡ []
unclaimed_none jobs n past = let count : jobs - n ≡ 0 = omega (arith, past) in ap (range_with_len n) count
