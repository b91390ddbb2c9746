-- The probabilities of the leaves under two plans, in whole numbers, and their sum.
use Rattle.std.proofs.Common.{◌≡◌, ℕ, ◌*◌, ◌≤◌, List, slice_index, refl, ap, subst, ◌∙◌, arith}
use Rattle.std.specs.Prelude.{ℤ, pos, ◌*ℤ◌, All}
use Rattle.std.proofs.lemmas.List.Elements.{All-filter, All-weaker}
use Rattle.std.proofs.Math.Nat.{one-le-mul}
use Rattle.def_sums.specs.Sum.{sum_over}
use Rattle.def_sums.proofs.RingLaws.{*ℤ_comm}
use Rattle.def_tree.specs.Tree.{Forest}
use Rattle.def_fraction.specs.Fraction.{Fraction, IsInLowestTerms, fraction_of}
use Rattle.def_fraction.proofs.FractionLemmas.{fraction_of-reduced}
use Rattle.def_game_paths.specs.Paths.{Visit, is_leaf, leaf_visits, visits}
use Rattle.def_game_scale.specs.Tables.{Tables, certain, reach}
use Rattle.def_game_scale.proofs.Units.{whole-weight}
use Rattle.def_constant_sum.specs.Expected.{IsCompleteGame, fraction_sum, leaf_probability, numbers_at, roots_of}
use Rattle.def_constant_sum.specs.Expected.{ArePlans}
use Rattle.def_constant_sum.proofs.Times.{IsTimes, sum-lowest, times-product, times-reduced, times-same, times-scaled, times-sum_over}
use Rattle.def_constant_sum.proofs.Lowest.{certain-lowest, product-lowest, reach-lowest}
use Rattle.def_constant_sum.proofs.Reaches.{IsWhole, common, common_some, dealt_in_all, dealt_to, share, whole_everywhere}

module _ (tables : Tables) (tree : Forest) (game : IsCompleteGame tables tree) (root_one root_two : ℕ) (x y : List ℕ)
    (are : ArePlans tables tree root_one root_two x y) where
  abbrev pub roots : ℕ
  roots = root_one * root_two

  pub roots_are : roots_of x y ≡ roots
  roots_are = ap (λ n. n * slice_index y 0) are.one.root_weight ∙ ap (λ n. root_one * n) are.two.root_weight

  pub roots_some : 1 ≤ roots
  roots_some = one-le-mul are.one.some_root are.two.some_root

  -- both plans' numbers at a leaf over their roots
  abbrev pub part : Visit → Fraction
  part v = fraction_of (pos (numbers_at tree x y v)) (roots_of x y)

  roots_of_some : 1 ≤ roots_of x y
  roots_of_some = omega (arith, roots_are, roots_some)

  pub part-lowest : (v : Visit) → IsInLowestTerms (part v)
  part-lowest v = (fraction_of-reduced (pos (numbers_at tree x y v)) (roots_of x y) roots_of_some).lowest

  pub part-times : (v : Visit) → IsTimes (pos roots) (part v) (pos (numbers_at tree x y v))
  part-times v =
      subst (λ n. IsTimes (pos n) (part v) (pos (numbers_at tree x y v))) roots_are
      (times-reduced (pos (numbers_at tree x y v)) (roots_of x y) (pos (roots_of x y)) (pos (numbers_at tree x y v)) roots_of_some refl)

  pub probability-lowest : (v : Visit) → IsInLowestTerms (leaf_probability tables tree x y v)
  probability-lowest v = product-lowest (reach tables v.path) (part v) (reach-lowest tables game.fractions v.path).positive (part-lowest v).positive

  -- what makes the probabilities whole
  abbrev pub all_units : ℕ
  all_units = roots * common tables tree game

  pub all_units_some : 1 ≤ all_units
  all_units_some = one-le-mul roots_some (common_some tables tree game)

  abbrev pub dealt_at : Visit → ℤ
  dealt_at v = dealt_to tables tree game root_one root_two x y are.one are.two v.path

  probability-times : (v : Visit) → IsWhole tables tree game v.path
      → IsTimes (pos all_units) (leaf_probability tables tree x y v) (dealt_at v)
  probability-times v whole =
      let here : ℤ = share tables tree game v.path in
      let numbers : ℤ = pos (numbers_at tree x y v) in
      let chance : IsTimes (pos roots *ℤ pos (common tables tree game)) (reach tables v.path) (pos roots *ℤ here) =
      times-scaled (pos roots) (pos (common tables tree game)) (reach tables v.path) here
      (whole-weight (common tables tree game) (reach tables v.path) whole) in
      let plans : IsTimes (pos roots *ℤ here) (part v) (here *ℤ numbers) =
      subst (λ z. IsTimes z (part v) (here *ℤ numbers)) (*ℤ_comm here (pos roots)) (times-scaled here (pos roots) (part v) numbers (part-times v)) in
      times-product (pos all_units) (reach tables v.path) (part v) (pos roots *ℤ here) (here *ℤ numbers) (reach-lowest tables game.fractions v.path).positive
      (part-lowest v).positive chance plans

  pub probabilities-times : All (λ v. IsTimes (pos all_units) (leaf_probability tables tree x y v) (dealt_at v)) (leaf_visits tree)
  probabilities-times =
      All-filter is_leaf (λ v. IsTimes (pos all_units) (leaf_probability tables tree x y v) (dealt_at v)) (visits tree)
      (All-weaker (λ v. IsWhole tables tree game v.path) (λ v. IsTimes (pos all_units) (leaf_probability tables tree x y v) (dealt_at v)) probability-times
      (visits tree) (whole_everywhere tables tree game))

  pub dealt_sum : sum_over dealt_at (leaf_visits tree) ≡ pos all_units
  dealt_sum = dealt_in_all tables tree game root_one root_two x y are.one are.two ∙ *ℤ_comm (pos (common tables tree game)) (pos roots)

  -- the probabilities of the leaves add up to 1
  pub one_in_all : fraction_sum (leaf_probability tables tree x y) (leaf_visits tree) ≡ certain
  one_in_all =
      let some : (v : Visit) → 1 ≤ (leaf_probability tables tree x y v).den = λ v. (probability-lowest v).positive in
      let sum : IsTimes (pos all_units) (fraction_sum (leaf_probability tables tree x y) (leaf_visits tree)) (sum_over dealt_at (leaf_visits tree)) =
      times-sum_over (pos all_units) (leaf_probability tables tree x y) dealt_at (leaf_visits tree) some probabilities-times in
      times-same all_units (fraction_sum (leaf_probability tables tree x y) (leaf_visits tree)) certain (pos all_units) all_units_some
      (sum-lowest (leaf_probability tables tree x y) (leaf_visits tree) some) certain-lowest
      (rw dealt_sum at sum) (*ℤ_comm (pos all_units) (pos 1))
