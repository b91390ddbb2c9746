-- The number of a sequence names the set and the action at which it ends.
use Rattle.std.proofs.Common.{◌≡◌, ℕ, zero, suc, ◌+◌, ◌-◌, ◌<◌, ◌≤◌, true, false, cond, List, [], ◌∷◌, length, get_or, take, refl, ap, sym, subst, ◌∙◌, arith}
use Rattle.std.proofs.Common.{Some}
use Rattle.std.specs.Prelude.{IsSome, nat_lt, sum}
use Rattle.std.proofs.lemmas.Bool.{lt-ltb, le-ltb, ltb-true, ltb-false}
use Rattle.std.proofs.lemmas.List.Sums.{sum_by-cons}
use Rattle.def_game_paths.specs.Paths.{Choice}
use Rattle.def_game_paths.specs.Sequences.{choice_from, choice_of, sequence_number, IsChoiceOf, SequencesNameChoices}

-- a choice is known by its number among the sequences that end at these sets
named_from : (sizes : List ℕ) (base i : ℕ) (choice : Choice) → i < length sizes → choice.set ≡ base + i
    → 1 ≤ choice.action → choice.action ≤ get_or sizes i 0 →
    choice_from base sizes (sum (take i sizes) + (choice.action - 1)) ≡ Some choice
named_from [] base i choice there set some limit = absurd (omega arith)
named_from (size ∷ rest) base zero choice there set some limit =
    let number : 0 + (choice.action - 1) + 1 ≡ choice.action = omega arith in
    let same : base ≡ choice.set = omega arith in
    ap (λ b. cond b (Some (record { set = base; action = 0 + (choice.action - 1) + 1 })) (choice_from (base + 1) rest (0 + (choice.action - 1) - size)))
    (lt-ltb (0 + (choice.action - 1)) size (omega arith))
    ∙ (λ i. Some (record { set = same i; action = number i }))
named_from (size ∷ rest) base (suc i) choice there set some limit =
    let n : ℕ = sum (take (suc i) (size ∷ rest)) + (choice.action - 1) in
    let many : sum (take (suc i) (size ∷ rest)) ≡ size + sum (take i rest) = sum_by-cons (λ x. x) size (take i rest) in
    let left : n - size ≡ sum (take i rest) + (choice.action - 1) = omega arith in
    ap (λ b. cond b (Some (record { set = base; action = n + 1 })) (choice_from (base + 1) rest (n - size))) (le-ltb n size (omega arith))
    ∙ ap (choice_from (base + 1) rest) left ∙ named_from rest (base + 1) i choice (omega arith) (omega arith) some limit

-- what a number names
record Named (sizes : List ℕ) (base n : ℕ) (choice : Choice) (i : ℕ) : Type 0 where
  there : i < length sizes
  set : choice.set ≡ base + i
  some : 1 ≤ choice.action
  limit : choice.action ≤ get_or sizes i 0
  number : sum (take i sizes) + (choice.action - 1) ≡ n

names_from : (sizes : List ℕ) (base n : ℕ) (choice : Choice) → choice_from base sizes n ≡ Some choice
    → (i : ℕ) × Named sizes base n choice i
names_from [] base n choice e = cc
names_from (size ∷ rest) base n choice e =
    elim (nat_lt n size) as (λ b. nat_lt n size ≡ b → cond b (Some (record { set = base; action = n + 1 })) (choice_from (base + 1) rest (n - size))
    ≡ Some choice → (i : ℕ) × Named (size ∷ rest) base n choice i) [
      | true ↦ λ below shown.
          let set : base ≡ choice.set = cc in
          let action : n + 1 ≡ choice.action = cc in
          let small : n < size = ltb-true n size below in
          (0, record { there = omega arith; set = omega arith; some = omega arith; limit = omega arith; number = omega arith })
      | false ↦ λ above shown.
          let large : size ≤ n = ltb-false n size above in
          let found = names_from rest (base + 1) (n - size) choice shown in
          let there : found.0 < length rest = found.1.there in
          let set : choice.set ≡ base + 1 + found.0 = found.1.set in
          let number : sum (take found.0 rest) + (choice.action - 1) ≡ n - size = found.1.number in
          let many : sum (take (suc found.0) (size ∷ rest)) ≡ size + sum (take found.0 rest) = sum_by-cons (λ x. x) size (take found.0 rest) in
          (suc found.0, record { there = omega arith; set = omega arith; some = found.1.some; limit = found.1.limit; number = omega arith })
    ] refl e

some_from : (sizes : List ℕ) (base n : ℕ) → n < sum sizes → IsSome (choice_from base sizes n)
some_from [] base n below = absurd (omega arith)
some_from (size ∷ rest) base n below =
    elim (nat_lt n size) as (λ b. nat_lt n size ≡ b → IsSome (cond b (Some (record { set = base; action = n + 1 })) (choice_from (base + 1) rest (n - size)))) [
      | true ↦ λ small. refl
      | false ↦ λ large.
          let over : size ≤ n = ltb-false n size large in
          let many : sum (size ∷ rest) ≡ size + sum rest = sum_by-cons (λ x. x) size rest in
          some_from rest (base + 1) (n - size) (omega arith)
    ] refl

of_number : (sizes : List ℕ) (sequence : ℕ) (choice : Choice) → choice_of sizes sequence ≡ Some choice
    → IsChoiceOf sizes choice × (sequence_number sizes (choice ∷ []) ≡ sequence)
of_number sizes zero choice e = cc
of_number sizes (suc n) choice e =
    let found = names_from sizes 1 n choice e in
    let there : found.0 < length sizes = found.1.there in
    let set : choice.set ≡ 1 + found.0 = found.1.set in
    let index : choice.set - 1 ≡ found.0 = omega arith in
    let number : sum (take found.0 sizes) + (choice.action - 1) ≡ n = found.1.number in
    let same : sum (take (choice.set - 1) sizes) ≡ sum (take found.0 sizes) = ap (λ i. sum (take i sizes)) index in (
      record {
        counts = omega arith;
        known = omega arith;
        some = found.1.some;
        limit = subst (λ i. choice.action ≤ get_or sizes i 0) (sym index) found.1.limit;
      },
      omega arith,
    )

some_of : (sizes : List ℕ) (sequence : ℕ) → 1 ≤ sequence → sequence ≤ sum sizes → IsSome (choice_of sizes sequence)
some_of sizes zero low high = absurd (omega arith)
some_of sizes (suc n) low high = some_from sizes 1 n (omega arith)

-- the number of a sequence that ends with a choice names this choice
pub of_choice : (sizes : List ℕ) (choice : Choice) (rest : List Choice) → IsChoiceOf sizes choice
    → choice_of sizes (sequence_number sizes (choice ∷ rest)) ≡ Some choice
of_choice sizes choice rest is =
    let counts : 1 ≤ choice.set = is.counts in
    let known : choice.set ≤ length sizes = is.known in
    let number : sequence_number sizes (choice ∷ rest) ≡ suc (sum (take (choice.set - 1) sizes) + (choice.action - 1)) = omega arith in
    ap (choice_of sizes) number ∙ named_from sizes 1 (choice.set - 1) choice (omega arith) (omega arith) is.some is.limit

-- a sequence's number names the choice it ends with, and each choice the sequence that ends with it
pub sequences_name_choices : SequencesNameChoices
sequences_name_choices = record { of_choice = of_choice; of_number = of_number; each = some_of; none = λ sizes. refl }
