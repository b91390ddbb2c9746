-- The fractions of a game are in lowest terms.
use Rattle.std.proofs.Common.{◌≡◌, ℕ, zero, suc, ◌-◌, ◌*◌, ◌≤◌, true, false, cond, List, [], ◌∷◌, refl, sym, subst, arith}
use Rattle.std.specs.Prelude.{All}
use Rattle.std.proofs.lemmas.List.Elements.{All-nil, All-weaker}
use Rattle.std.proofs.Math.Nat.{one-le-mul}
use Rattle.def_tree.specs.declared.Kind.TheVariants.{Chance}
use Rattle.def_tree.specs.declared.Player.{Player}
use Rattle.def_tree.specs.declared.Player.TheVariants.{One, Two}
use Rattle.def_tree.specs.Rules.{is_same_kind}
use Rattle.def_fraction.specs.Fraction.{Fraction, IsInLowestTerms, product_of, zero_fraction}
use Rattle.def_fraction.proofs.DivisorLemmas.{gcd-with_one}
use Rattle.def_fraction.proofs.FractionLemmas.{fraction_of-reduced}
use Rattle.def_game_paths.specs.Paths.{Move, Visit}
use Rattle.def_game_scale.specs.Tables.{AreFractions, PayoffPair, Tables, certain, path_payoff, payoff, payoffs_of, probabilities, probability, reach}
use Rattle.def_game_scale.proofs.Expected.{at-or, lowest-sum}
use Rattle.def_constant_sum.specs.Expected.{payoff_of}

pub certain-lowest : IsInLowestTerms certain
certain-lowest = record { positive = omega arith; coprime = gcd-with_one 1 }

-- a product is in lowest terms
pub product-lowest : (a b : Fraction) → 1 ≤ a.den → 1 ≤ b.den → IsInLowestTerms (product_of a b)
product-lowest a b some_a some_b = (fraction_of-reduced _ (a.den * b.den) (one-le-mul some_a some_b)).lowest

module _ (tables : Tables) (h : AreFractions tables) where
  -- no probability of a set has the denominator 0
  pub probabilities-some : (set : ℕ) → All (λ (f : Fraction). 1 ≤ f.den) (probabilities tables set)
  probabilities-some set =
      let Low : Fraction → Type 0 = IsInLowestTerms in
      All-weaker Low (λ f. 1 ≤ f.den) (λ f low. low.positive) (probabilities tables set)
      (at-or (λ row. All Low row) tables.chance (set - 1) [] h.chance (All-nil Low))

  probability-some : (set action : ℕ) → 1 ≤ (probability tables set action).den
  probability-some set action = at-or (λ (f : Fraction). 1 ≤ f.den) (probabilities tables set) (action - 1) zero_fraction (probabilities-some set) (omega arith)

  -- each reach is in lowest terms
  pub reach-lowest : (path : List Move) → IsInLowestTerms (reach tables path)
  reach-lowest [] = certain-lowest
  reach-lowest (step ∷ rest) =
      elim (is_same_kind Chance step.node.kind) as (λ b. IsInLowestTerms (cond b (product_of (reach tables rest) (probability tables step.node.set step.action))
      (reach tables rest))) [
        | true ↦ product-lowest (reach tables rest) (probability tables step.node.set step.action) (reach-lowest rest).positive
            (probability-some step.node.set step.action)
        | false ↦ reach-lowest rest
      ]

  -- and so is each payoff
  given-some : (of : PayoffPair → Fraction) → of (record { one = zero_fraction; two = zero_fraction }) ≡ zero_fraction
      → All (λ payoffs. IsInLowestTerms (of payoffs)) tables.outcomes → (outcome : ℕ) → 1 ≤ (of (payoffs_of tables outcome)).den
  given-some of none all zero = subst (λ (f : Fraction). 1 ≤ f.den) (sym none) (omega arith)
  given-some of none all (suc outcome) =
      at-or (λ payoffs. 1 ≤ (of payoffs).den) tables.outcomes outcome (record { one = zero_fraction; two = zero_fraction })
      (λ k d there. (all k d there).positive)
      (subst (λ (f : Fraction). 1 ≤ f.den) (sym none) (omega arith))

  payoff-lowest : (of : PayoffPair → Fraction) → ((outcome : ℕ) → 1 ≤ (of (payoffs_of tables outcome)).den) → (v : Visit)
      → IsInLowestTerms (payoff of tables v)
  payoff-lowest of some v = lowest-sum (path_payoff of tables v.path) (of (payoffs_of tables v.node.outcome)) (on_path v.path) (some v.node.outcome)
    where
      on_path : (path : List Move) → 1 ≤ (path_payoff of tables path).den
      on_path [] = omega arith
      on_path (step ∷ rest) = (lowest-sum (path_payoff of tables rest) (of (payoffs_of tables step.node.outcome)) (on_path rest)
          (some step.node.outcome)).positive

  pub payoff_of-lowest : (player : Player) (v : Visit) → IsInLowestTerms (payoff_of player tables v)
  payoff_of-lowest One v = payoff-lowest (λ payoffs. payoffs.one) (given-some (λ payoffs. payoffs.one) refl (λ k d there. (h.outcomes k d there).0)) v
  payoff_of-lowest Two v = payoff-lowest (λ payoffs. payoffs.two) (given-some (λ payoffs. payoffs.two) refl (λ k d there. (h.outcomes k d there).1)) v
