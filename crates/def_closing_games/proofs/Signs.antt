-- No reach is below 0.
use Rattle.std.proofs.Common.{◌≡◌, ℕ, ◌-◌, ◌*◌, true, false, cond, List, [], ◌∷◌, get_or, take, refl, subst, arith}
use Rattle.std.specs.Prelude.{ℤ, pos, negsuc, ◌*ℤ◌, ◌≤ℤ◌, All, Contains}
use Rattle.std.proofs.lemmas.Int.{ints}
use Rattle.std.proofs.lemmas.List.Elements.{All-take}
use Rattle.def_tree.specs.declared.Kind.TheVariants.{Chance}
use Rattle.def_tree.specs.declared.Kind.TheVariants as kinds
use Rattle.def_tree.specs.declared.Kind.{Kind}
use Rattle.def_tree.specs.Tree.{Forest, IsTree}
use Rattle.def_tree.specs.Rules.{is_same_kind}
use Rattle.def_fraction.specs.Fraction.{Fraction, fraction_of, product_of, zero_fraction}
use Rattle.def_game_paths.specs.Paths.{GoesThrough, Move, Visit, visits}
use Rattle.def_game_paths.proofs.Ancestors.{parents_come_before}
use Rattle.def_game_scale.specs.Tables.{Tables, probabilities, probability, reach}
use Rattle.def_game_scale.proofs.Expected.{at-or}
use Rattle.def_closing_games.specs.Range.{HasNoNegativeChance}

positive-fraction : (n d : ℕ) → pos 0 ≤ℤ (fraction_of (pos n) d).num
unfolding fraction_of
positive-fraction n d = omega (arith, ints)

positive-product : (a b : Fraction) → pos 0 ≤ℤ a.num → pos 0 ≤ℤ b.num → pos 0 ≤ℤ (product_of a b).num
positive-product a b le more = of_parts a.num b.num (a.den * b.den) le more
  where
    of_parts : (m n : ℤ) (d : ℕ) → pos 0 ≤ℤ m → pos 0 ≤ℤ n → pos 0 ≤ℤ (fraction_of (m *ℤ n) d).num
    of_parts (pos m) (pos n) d le more = positive-fraction (m * n) d
    of_parts (pos m) (negsuc n) d le more = absurd (omega (arith, ints))
    of_parts (negsuc m) n d le more = absurd (omega (arith, ints))

abbrev ChancePasses : Tables → Visit → Type 0
ChancePasses tables v = v.node.kind ≡ Chance → All (λ p. pos 0 ≤ℤ p.num) (probabilities tables v.node.set)

held : (P : Visit → Type 0) (vs : List Visit) (v : Visit) → All P vs → Contains vs v → P v
held P vs v all is = subst P is.2 (all is.0 v is.1)

is_chance : (kind : Kind) → is_same_kind Chance kind ≡ true → kind ≡ Chance
is_chance kinds.Chance e = refl
is_chance kinds.One e = cc
is_chance kinds.Two e = cc
is_chance kinds.Leaf e = cc

reach_positive : (tables : Tables) (before : List Visit) (path : List Move) → All (ChancePasses tables) before → GoesThrough before path
    → pos 0 ≤ℤ (reach tables path).num
reach_positive tables before [] all goes = omega (arith, ints)
reach_positive tables before (step ∷ rest) all goes =
    let later = reach_positive tables before rest all goes.1 in
    elim (is_same_kind Chance step.node.kind) as
    (λ b. is_same_kind Chance step.node.kind ≡ b
    → pos 0 ≤ℤ (cond b (product_of (reach tables rest) (probability tables step.node.set step.action)) (reach tables rest)).num) [
      | true ↦ λ chance.
          let each = held (ChancePasses tables) before (record { path = rest; node = step.node }) all (goes.0).0 (is_chance step.node.kind chance) in
          positive-product (reach tables rest) (probability tables step.node.set step.action) later
          (at-or (λ (p : Fraction). pos 0 ≤ℤ p.num) (probabilities tables step.node.set) (step.action - 1) zero_fraction each (omega (arith, ints)))
      | false ↦ λ other. later
    ] refl

-- so it is at each node
pub reaches_are_positive : (tables : Tables) (tree : Forest) → IsTree tree → HasNoNegativeChance tables tree
    → All (λ v. pos 0 ≤ℤ (reach tables v.path).num) (visits tree)
reaches_are_positive tables tree is all k d there =
    reach_positive tables (take k (visits tree)) (get_or (visits tree) k d).path (All-take (ChancePasses tables) k (visits tree) all)
    (parents_come_before tree is k d there)
