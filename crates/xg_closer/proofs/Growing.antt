-- Regrets that grow, one sequence of a set after the other.
use Rattle.std.proofs.Common.{◌≡◌, ◌≢◌, ℕ, ◌+◌, ◌<◌, ◌≤◌, List, ℤ, ◌+ℤ◌, ◌-ℤ◌, FitsSigned, to_z, of_z, refl, ap, ◌∙◌, arith, ⊎_elim}
use mir.Syntax.{w128}
use Rattle.std.proofs.lemmas.Bool.{cases_eq}
use Rattle.std.proofs.lemmas.Int.{to_z-of_z}
use Rattle.def_plan.specs.FormRows.{amount_of}
use Rattle.def_round.specs.Play.{regret_of}

-- the regrets of the n sequences from `first` on are larger by what each is worth more than the value, and all others are
-- what they were
pub record GrewFirst (first n : ℕ) (worths : List ℤ) (value : ℤ) (before after : List ℤ) : Type 0 where
  pub grown : (s : ℕ) → first ≤ s → s < first + n
      → regret_of after s ≡ regret_of before s +ℤ (amount_of worths s -ℤ value)
  pub earlier : (s : ℕ) → s < first → regret_of after s ≡ regret_of before s
  pub later : (s : ℕ) → first + n ≤ s → regret_of after s ≡ regret_of before s

pub grew_none : (first : ℕ) (worths : List ℤ) (value : ℤ) (before : List ℤ) → GrewFirst first 0 worths value before before
grew_none first worths value before = record {
  grown = λ s from to. absurd (omega arith);
  earlier = λ s below. refl;
  later = λ s above. refl;
}

-- with the next one n + 1 are
pub grew_more : (first n next : ℕ) (worths : List ℤ) (value : ℤ) (before middle after : List ℤ) → next ≡ first + n
    → GrewFirst first n worths value before middle
    → regret_of after next ≡ regret_of middle next +ℤ (amount_of worths next -ℤ value)
    → ((t : ℕ) → t ≢ next → regret_of after t ≡ regret_of middle t)
    → GrewFirst first (n + 1) worths value before after
grew_more first n next worths value before middle after next_is so_far here others = record {
  grown = λ s from to.
      ⊎_elim
      (λ same. rw same (here ∙ ap (λ r. r +ℤ (amount_of worths next -ℤ value)) (so_far.later next (omega arith))))
      (λ there. others s there ∙ so_far.grown s from (omega arith))
      (cases_eq s next);
  earlier = λ s below. let apart : s ≢ next = omega arith in others s apart ∙ so_far.earlier s below;
  later = λ s above. let apart : s ≢ next = omega arith in others s apart ∙ so_far.later s (omega arith);
}

-- what has room in 128 bits is read from them as it is
pub read_back : (x value : ℤ) → FitsSigned w128 x → x ≡ value → to_z w128 (of_z w128 x) ≡ value
read_back x value fits is = to_z-of_z w128 x fits ∙ is
