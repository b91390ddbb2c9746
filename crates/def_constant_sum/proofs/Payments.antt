-- What two plans are expected to pay, in weights, and both players together.
use Rattle.std.proofs.Common.{◌≡◌, ℕ, ◌*◌, ◌≤◌, List, [], ◌∷◌, ◌++◌, get_or, map, refl, ap, sym, subst, ◌∙◌, arith}
use Rattle.std.specs.Prelude.{ℤ, pos, ◌+ℤ◌, ◌-ℤ◌, ◌*ℤ◌, All}
use Prim.Native.Nat.{◌∣◌}
use Rattle.std.proofs.lemmas.List.{get_or-map, length-map}
use Rattle.std.proofs.lemmas.List.Elements.{All-append, All-map, All-tail}
use Rattle.std.proofs.Math.Nat.{one-le-mul}
use Rattle.def_sums.specs.Sum.{sum_over}
use Rattle.def_sums.proofs.RingLaws.{*ℤ_assoc, *ℤ_comm, *ℤ-+ℤ}
use Rattle.def_sums.proofs.SumLaws.{sum_over-+ℤ, sum_over-factor, sum_over-same}
use Rattle.def_tree.specs.declared.Player.{Player}
use Rattle.def_tree.specs.declared.Player.TheVariants.{One, Two}
use Rattle.def_tree.specs.Tree.{Forest}
use Rattle.def_fraction.specs.Fraction.{Fraction, IsInLowestTerms, fraction_of, product_of, sum_of}
use Rattle.def_fraction.proofs.FractionLemmas.{fraction_of-value}
use Rattle.def_game_paths.specs.Paths.{Visit, leaf_visits}
use Rattle.def_game_scale.specs.Tables.{IsConstantSum, Tables, game_sum, paid_together, payoff_one, reach}
use Rattle.def_game_scale.specs.Scale.{all_expected, all_fractions, expected, game_unit, unit_of, weight_of, whole_sum}
use Rattle.def_game_scale.proofs.Expected.{first-lowest, fractions-lowest, lowest-sum}
use Rattle.def_game_scale.proofs.Units.{den-divides, unit-positive, whole-weight}
use Rattle.def_game_scale.proofs.Weights.{whole-sum}
use Rattle.def_plan.specs.Payoff.{pay}
use Rattle.def_sequence_form.specs.Form.{form_of_game, leaves_with}
use Rattle.def_constant_sum.specs.Expected.{ArePlans, IsCompleteGame, expected_payoff, leaf_probability, numbers_at, payoff_of}
use Rattle.def_fraction.specs.Order.{difference_of}
use Rattle.def_constant_sum.specs.Laws.{PayTheSum}
use Rattle.def_constant_sum.proofs.Lowest.{payoff_of-lowest, product-lowest, reach-lowest}
use Rattle.def_constant_sum.proofs.Times.{IsTimes, product-swapped, rest-of_sum, sum-lowest, times-difference, times-product, times-same, times-scaled}
use Rattle.def_constant_sum.proofs.Times.{times-sum, times-sum_over}
use Rattle.def_tree.proofs.Fronts.{All-behind, All-front}
use Rattle.def_constant_sum.proofs.Probabilities.{all_units, all_units_some, dealt_at, dealt_sum, part, part-lowest, part-times, probabilities-times}
use Rattle.def_constant_sum.proofs.Probabilities.{probability-lowest, roots_some}

pub unit_some : (tables : Tables) (tree : Forest) → IsCompleteGame tables tree → 1 ≤ game_unit tables tree
unit_some tables tree game = unit-positive (all_fractions tables tree) (fractions-lowest tables tree game.fractions)

-- what is paid in weights, leaf by leaf
pub pay_along : (tables : Tables) (tree : Forest) (x y : List ℕ) (unit : ℕ) (vs : List Visit)
    → pay (leaves_with tree vs (map (weight_of unit) (map (expected tables) vs))) x y
    ≡ sum_over (λ v. weight_of unit (expected tables v) *ℤ pos (numbers_at tree x y v)) vs
pay_along tables tree x y unit [] = refl
pay_along tables tree x y unit (v ∷ vs) = ap (λ z. weight_of unit (expected tables v) *ℤ pos (numbers_at tree x y v) +ℤ z) (pay_along tables tree x y unit vs)

module _ (tables : Tables) (tree : Forest) (game : IsCompleteGame tables tree) (root_one root_two : ℕ) (x y : List ℕ)
    (are : ArePlans tables tree root_one root_two x y) where
  abbrev paid_at : Player → Visit → Fraction
  paid_at player v = product_of (leaf_probability tables tree x y v) (payoff_of player tables v)

  paid_at-lowest : (player : Player) (v : Visit) → IsInLowestTerms (paid_at player v)
  paid_at-lowest player v =
      product-lowest (leaf_probability tables tree x y v) (payoff_of player tables v) (probability-lowest tables tree game root_one root_two x y are v).positive
      (payoff_of-lowest tables game.fractions player v).positive

  pub expected_payoff-lowest : (player : Player) → IsInLowestTerms (expected_payoff player tables tree x y)
  expected_payoff-lowest player = sum-lowest (paid_at player) (leaf_visits tree) (λ v. (paid_at-lowest player v).positive)

  -- the unit and both roots
  abbrev pub scale : ℕ
  scale = game_unit tables tree * (root_one * root_two)

  pub scale_some : 1 ≤ scale
  scale_some = one-le-mul (unit_some tables tree game) (roots_some tables tree game root_one root_two x y are)

  units_divide : All (λ v. (expected tables v).den ∣ game_unit tables tree) (leaf_visits tree)
  units_divide k d there =
      let Divides : Fraction → Type 0 = λ f. f.den ∣ game_unit tables tree in
      let all : All Divides (all_expected tables tree) = All-tail Divides (game_sum tables tree) (all_expected tables tree)
      (den-divides (all_fractions tables tree) (fractions-lowest tables tree game.fractions)) in
      let here = all k (expected tables d) (omega (arith, length-map (leaf_visits tree) (expected tables))) in
      rw (get_or-map (expected tables) (leaf_visits tree) k d (expected tables d) there) at here

  abbrev weighed_at : Visit → ℤ
  weighed_at v = weight_of (game_unit tables tree) (expected tables v) *ℤ pos (numbers_at tree x y v)

  paid_at-times : (v : Visit) → (expected tables v).den ∣ game_unit tables tree → IsTimes (pos scale) (paid_at One v) (weighed_at v)
  paid_at-times v divides =
      let unit : ℕ = game_unit tables tree in
      let chance : Fraction = reach tables v.path in
      let plans : Fraction = part tables tree game root_one root_two x y are v in
      let payoff : Fraction = payoff_one tables v in
      let w : ℤ = weight_of unit (expected tables v) in
      let n : ℤ = pos (numbers_at tree x y v) in
      let some_chance : 1 ≤ chance.den = (reach-lowest tables game.fractions v.path).positive in
      let some_plans : 1 ≤ plans.den = (part-lowest tables tree game root_one root_two x y are v).positive in
      let some_payoff : 1 ≤ payoff.den = (payoff_of-lowest tables game.fractions One v).positive in
      let weighed : IsTimes (pos (root_one * root_two) *ℤ pos unit) (expected tables v) (pos (root_one * root_two) *ℤ w) =
      times-scaled (pos (root_one * root_two)) (pos unit) (expected tables v) w (whole-weight unit (expected tables v) divides) in
      let dealt : IsTimes (w *ℤ pos (root_one * root_two)) plans (w *ℤ n) = times-scaled w (pos (root_one * root_two)) plans n
      (part-times tables tree game root_one root_two x y are v) in
      let both : IsTimes (pos (root_one * root_two) *ℤ pos unit) (product_of (expected tables v) plans) (w *ℤ n) =
      times-product (pos (root_one * root_two) *ℤ pos unit) (expected tables v) plans (pos (root_one * root_two) *ℤ w) (w *ℤ n)
      (product-lowest chance payoff some_chance some_payoff).positive some_plans weighed
      (subst (λ z. IsTimes z plans (w *ℤ n)) (*ℤ_comm w (pos (root_one * root_two))) dealt) in
      subst (λ f. IsTimes (pos scale) f (w *ℤ n)) (product-swapped chance payoff plans some_chance some_payoff some_plans)
      (subst (λ c. IsTimes c (product_of (expected tables v) plans) (w *ℤ n)) (*ℤ_comm (pos (root_one * root_two)) (pos unit)) both)

  -- what the plans pay in weights is the scale times what player one is expected to get
  pub paid-times : IsTimes (pos scale) (expected_payoff One tables tree x y) (pay (form_of_game tables tree).leaves x y)
  paid-times =
      rw (pay_along tables tree x y (game_unit tables tree) (leaf_visits tree))
      (times-sum_over (pos scale) (paid_at One) weighed_at (leaf_visits tree) (λ v. (paid_at-lowest One v).positive)
      (λ k d there. paid_at-times (get_or (leaf_visits tree) k d) (units_divide k d there)))

  pub in_weights : expected_payoff One tables tree x y ≡ fraction_of (pay (form_of_game tables tree).leaves x y) scale
  in_weights = sym (fraction_of-value (expected_payoff One tables tree x y) (pay (form_of_game tables tree).leaves x y) scale (expected_payoff-lowest One)
      scale_some (sym paid-times))

  -- a number that makes the leaves' payoffs whole
  abbrev all_payoffs : List Fraction
  all_payoffs = map (payoff_of One tables) (leaf_visits tree) ++ map (payoff_of Two tables) (leaf_visits tree)

  abbrev payoff_unit : ℕ
  payoff_unit = unit_of all_payoffs

  payoffs_lowest : All IsInLowestTerms all_payoffs
  payoffs_lowest =
      let each : (player : Player) → All IsInLowestTerms (map (payoff_of player tables) (leaf_visits tree)) =
      λ player. All-map IsInLowestTerms (payoff_of player tables) (leaf_visits tree)
      (λ k d there. payoff_of-lowest tables game.fractions player (get_or (leaf_visits tree) k d)) in
      All-append IsInLowestTerms (map (payoff_of One tables) (leaf_visits tree)) (map (payoff_of Two tables) (leaf_visits tree)) (each One) (each Two)

  payoffs_divide : (player : Player) → All (λ f. f.den ∣ payoff_unit) (map (payoff_of player tables) (leaf_visits tree))
  payoffs_divide One = All-front (λ (f : Fraction). f.den ∣ payoff_unit) (map (payoff_of One tables) (leaf_visits tree))
      (map (payoff_of Two tables) (leaf_visits tree)) (den-divides all_payoffs payoffs_lowest)
  payoffs_divide Two = All-behind (λ (f : Fraction). f.den ∣ payoff_unit) (map (payoff_of One tables) (leaf_visits tree))
      (map (payoff_of Two tables) (leaf_visits tree)) (den-divides all_payoffs payoffs_lowest)

  abbrev whole_payoff : Player → Visit → ℤ
  whole_payoff player v = weight_of payoff_unit (payoff_of player tables v)

  payoff-times : (player : Player) → All (λ v. IsTimes (pos payoff_unit) (payoff_of player tables v) (whole_payoff player v)) (leaf_visits tree)
  payoff-times player k d there =
      let divides = payoffs_divide player k (payoff_of player tables d) (omega (arith, length-map (leaf_visits tree) (payoff_of player tables))) in
      whole-weight payoff_unit (payoff_of player tables (get_or (leaf_visits tree) k d))
      (rw (get_or-map (payoff_of player tables) (leaf_visits tree) k d (payoff_of player tables d) there) at divides)

  abbrev dealt : Visit → ℤ
  dealt v = dealt_at tables tree game root_one root_two x y are v

  abbrev whole_units : ℕ
  whole_units = payoff_unit * all_units tables tree game root_one root_two x y are

  whole_some : 1 ≤ whole_units
  whole_some = one-le-mul (unit-positive all_payoffs payoffs_lowest) (all_units_some tables tree game root_one root_two x y are)

  expected-times : (player : Player)
      → IsTimes (pos whole_units) (expected_payoff player tables tree x y) (sum_over (λ v. dealt v *ℤ whole_payoff player v) (leaf_visits tree))
  expected-times player =
      times-sum_over (pos whole_units) (paid_at player) (λ v. dealt v *ℤ whole_payoff player v) (leaf_visits tree) (λ v. (paid_at-lowest player v).positive)
      (λ k d there.
      let v : Visit = get_or (leaf_visits tree) k d in
      let chance : Fraction = leaf_probability tables tree x y v in
      times-product (pos whole_units) chance (payoff_of player tables v) (pos payoff_unit *ℤ dealt v) (dealt v *ℤ whole_payoff player v)
      (probability-lowest tables tree game root_one root_two x y are v).positive
      (payoff_of-lowest tables game.fractions player v).positive
      (times-scaled (pos payoff_unit) (pos (all_units tables tree game root_one root_two x y are)) chance (dealt v)
      (probabilities-times tables tree game root_one root_two x y are k d there))
      (subst (λ z. IsTimes z (payoff_of player tables v) (dealt v *ℤ whole_payoff player v)) (*ℤ_comm (dealt v) (pos payoff_unit))
      (times-scaled (dealt v) (pos payoff_unit) (payoff_of player tables v) (whole_payoff player v) (payoff-times player k d there))))

  module _ (constant : IsConstantSum tables tree) where
    abbrev given : Fraction
    given = game_sum tables tree

    pub given-lowest : IsInLowestTerms given
    given-lowest = first-lowest tables (leaf_visits tree) game.fractions

    abbrev together_at : Visit → ℤ
    together_at v = dealt v *ℤ whole_payoff One v +ℤ dealt v *ℤ whole_payoff Two v

    leaf-given : All (λ v. pos given.den *ℤ together_at v ≡ (given.num *ℤ pos payoff_unit) *ℤ dealt v) (leaf_visits tree)
    leaf-given k d there =
        let v : Visit = get_or (leaf_visits tree) k d in
        let one : ℤ = whole_payoff One v in
        let two : ℤ = whole_payoff Two v in
        let sum : IsTimes (pos payoff_unit) (paid_together tables v) (one +ℤ two) =
        times-sum (pos payoff_unit) (payoff_of One tables v) (payoff_of Two tables v) one two (payoff_of-lowest tables game.fractions One v).positive
        (payoff_of-lowest tables game.fractions Two v).positive
        (payoff-times One k d there) (payoff-times Two k d there) in
        let is : IsTimes (pos payoff_unit) given (one +ℤ two) = rw (constant k d there) at sum in
        ap (λ z. pos given.den *ℤ z) (sym (*ℤ-+ℤ (dealt v) one two)) ∙ *ℤ_comm (pos given.den) (dealt v *ℤ (one +ℤ two))
        ∙ *ℤ_assoc (dealt v) (one +ℤ two) (pos given.den)
        ∙ ap (λ z. dealt v *ℤ z) is ∙ *ℤ_comm (dealt v) (given.num *ℤ pos payoff_unit)

    given-times : IsTimes (pos whole_units) given (sum_over together_at (leaf_visits tree))
    given-times =
        *ℤ_comm (sum_over together_at (leaf_visits tree)) (pos given.den)
        ∙ sym (sum_over-factor (pos given.den) together_at (leaf_visits tree))
        ∙ sum_over-same (λ v. pos given.den *ℤ together_at v) (λ v. (given.num *ℤ pos payoff_unit) *ℤ dealt v) (leaf_visits tree) leaf-given
        ∙ sum_over-factor (given.num *ℤ pos payoff_unit) dealt (leaf_visits tree)
        ∙ ap (λ z. (given.num *ℤ pos payoff_unit) *ℤ z) (dealt_sum tables tree game root_one root_two x y are)
        ∙ *ℤ_assoc given.num (pos payoff_unit) (pos (all_units tables tree game root_one root_two x y are))

    -- both players together are expected to get the game's sum
    pub together : sum_of (expected_payoff One tables tree x y) (expected_payoff Two tables tree x y) ≡ given
    together =
        let one : Fraction = expected_payoff One tables tree x y in
        let two : Fraction = expected_payoff Two tables tree x y in
        times-same whole_units (sum_of one two) given (sum_over together_at (leaf_visits tree)) whole_some
        (lowest-sum one two (expected_payoff-lowest One).positive (expected_payoff-lowest Two).positive) given-lowest
        (rw (sum_over-+ℤ (λ v. dealt v *ℤ whole_payoff One v) (λ v. dealt v *ℤ whole_payoff Two v) (leaf_visits tree))
        (times-sum (pos whole_units) one two _ _ (expected_payoff-lowest One).positive (expected_payoff-lowest Two).positive (expected-times One)
        (expected-times Two)))
        given-times

    pub given-scaled : IsTimes (pos scale) given (whole_sum tables tree *ℤ pos (root_one * root_two))
    given-scaled =
        let whole : IsTimes (pos (root_one * root_two) *ℤ pos (game_unit tables tree)) given (pos (root_one * root_two) *ℤ whole_sum tables tree) =
        times-scaled (pos (root_one * root_two)) (pos (game_unit tables tree)) given (whole_sum tables tree) (whole-sum tables tree game.fractions) in
        subst (λ c. IsTimes c given (whole_sum tables tree *ℤ pos (root_one * root_two))) (*ℤ_comm (pos (root_one * root_two)) (pos (game_unit tables tree)))
        (subst (λ z. IsTimes (pos (root_one * root_two) *ℤ pos (game_unit tables tree)) given z) (*ℤ_comm (pos (root_one * root_two)) (whole_sum tables tree))
        whole)

    -- player two gets what player one leaves
    pub two-left : expected_payoff Two tables tree x y ≡ difference_of given (expected_payoff One tables tree x y)
    two-left = rest-of_sum (expected_payoff One tables tree x y) (expected_payoff Two tables tree x y) given (expected_payoff-lowest One).positive
        (expected_payoff-lowest Two) given-lowest.positive together

    pub two-times : IsTimes (pos scale) (expected_payoff Two tables tree x y)
        ((whole_sum tables tree *ℤ pos (root_one * root_two)) -ℤ pay (form_of_game tables tree).leaves x y)
    two-times =
        rw two-left
        (times-difference (pos scale) given (expected_payoff One tables tree x y) (whole_sum tables tree *ℤ pos (root_one * root_two))
        (pay (form_of_game tables tree).leaves x y) given-lowest.positive
        (expected_payoff-lowest One).positive given-scaled paid-times)

    pub pay_the_sum : PayTheSum tables tree root_one root_two x y
    pay_the_sum = record {
      total = together;
      two = two-left;
      two_in_weights =
          sym (fraction_of-value (expected_payoff Two tables tree x y) ((whole_sum tables tree *ℤ pos (root_one * root_two))
          -ℤ pay (form_of_game tables tree).leaves x y) scale (expected_payoff-lowest Two) scale_some
          (sym two-times));
    }
