-- Each number of an outcome is that of a node's.
use Rattle.std.proofs.Common.{◌≡◌, ℕ, zero, suc, ◌+◌, ◌<◌, ◌≤◌, max, List, [], ◌∷◌, ◌++◌, length, get_or, take, refl, ap, sym, subst, ◌∙◌, arith, inl, inr}
use Rattle.std.specs.Prelude.{Contains}
use Rattle.std.proofs.lemmas.Bool.{cases_lt}
use Rattle.std.proofs.lemmas.List.Elements.{Contains-get_or}
use Rattle.std.proofs.Math.Seq.{take-length, take-suc}
use Rattle.def_tree.specs.declared.Kind.TheVariants.{Leaf}
use Rattle.def_tree.specs.declared.Node.{Node}
use Rattle.def_tree.specs.Outcomes.{outcome_count, CountOutcomes, EachOutcomeAppears}

outcome_count-push : (nodes : List Node) (node : Node)
    → outcome_count (nodes ++ node ∷ []) ≡ max node.outcome (outcome_count nodes)
outcome_count-push [] node = refl
outcome_count-push (x ∷ xs) node = let rest : outcome_count (xs ++ node ∷ []) ≡ max node.outcome (outcome_count xs) = outcome_count-push xs node in omega arith

appears_before : (nodes : List Node) (n : ℕ) (d : Node) → CountOutcomes nodes → n ≤ length nodes → (i : ℕ) → 1 ≤ i
    → i ≤ outcome_count (take n nodes) → (node : Node) × (Contains nodes node × (node.outcome ≡ i))
appears_before nodes zero d counts short i low high = absurd (omega arith)
appears_before nodes (suc n) d counts short i low high =
    let there : n < length nodes = omega arith in
    let node : Node = get_or nodes n d in
    let more : outcome_count (take (suc n) nodes) ≡ max node.outcome (outcome_count (take n nodes)) = ap outcome_count (take-suc nodes n d there)
    ∙ outcome_count-push (take n nodes) node in
    let next : node.outcome ≤ outcome_count (take n nodes) + 1 = counts n d there in
    elim (cases_lt (outcome_count (take n nodes)) i) [
      | inl beyond ↦ (node, (Contains-get_or nodes n d there, omega arith))
      | inr within ↦ appears_before nodes n d counts (omega arith) i low within
    ]

-- where each node's outcome came before or is the next, each number is that of a node's outcome
pub each_outcome_appears : EachOutcomeAppears
each_outcome_appears nodes counts i low high =
    appears_before nodes (length nodes) (record { kind = Leaf; set = 0; outcome = 0; children = 0 }) counts (omega arith) i low
    (subst (λ xs. i ≤ outcome_count xs) (sym (take-length nodes)) high)
