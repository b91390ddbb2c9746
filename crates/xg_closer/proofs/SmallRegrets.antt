-- Regrets and worths that are kept in 64 bits.
use Rattle.std.proofs.Common.{◌≡◌, ℕ, ◌+◌, ◌^◌, ◌<◌, ◌≤◌, List, length, map, ℤ, ◌+ℤ◌, unsigned_abs, FitsSigned, arith, ap}
use Rattle.std.specs.Int.{w64, w128}
use Rattle.std.proofs.lemmas.Int.{fits_signed_from_abs, ints}
use Rattle.def_tree.specs.declared.Player.{Player}
use Rattle.def_plan.specs.Form.{InformationSet, sequence_count, AreInOrder}
use Rattle.def_plan.specs.FormRows.{amount_of}
use Rattle.def_round.specs.Play.{GivesAllUnits, regret_of}
use Rattle.def_round.specs.Round.{regrets_after}
use Rattle.def_round.specs.Sizes.{size_of_sums}
use Rattle.def_round.proofs.Growth.{regrets_grow_by_the_sums}
use Rattle.xg_closer.specs.Rows.{AreTaken}
use Rattle.xg_closer.proofs.Closed.{same_amounts, worths_together}

grown_size : (regret v : ℤ) (before grown : ℕ) → unsigned_abs regret ≤ before → unsigned_abs v ≤ grown
    → unsigned_abs (regret +ℤ v) ≤ before + grown
grown_size regret v before grown small low = omega (arith, ints, small, low)

-- rows that were taken into worths of 64 bits, which begin with them
module _ (player : Player) (rows worths : List ℤ) (sets : List InformationSet) (sizes : ℕ)
    (count : length rows ≡ sequence_count sets) (taken : AreTaken player rows worths sizes) where
  pub sums_within : size_of_sums (amount_of (map (λ worth. worth) worths)) sets ≤ sizes
  sums_within = omega (
    arith,
    ap (λ ws. size_of_sums (amount_of ws) sets) (same_amounts worths),
    worths_together player rows sets count worths taken.each,
    taken.together,
  )

  -- each number that is no larger than the sums together has room in 64 bits, also where it is added to a regret that is
  -- small enough
  pub number_fits : (v : ℤ) → unsigned_abs v ≤ size_of_sums (amount_of (map (λ worth. worth) worths)) sets → FitsSigned w64 v
  number_fits v low = fits_signed_from_abs w64 v (omega (arith, low, sums_within, taken.small))

  pub regret_fits : (regret v : ℤ) (before more : ℕ) → unsigned_abs regret ≤ before → more ≡ before + sizes → more ≤ 2 ^ 62
      → unsigned_abs v ≤ size_of_sums (amount_of (map (λ worth. worth) worths)) sets → FitsSigned w64 (regret +ℤ v)
  regret_fits regret v before more small sum few low =
      fits_signed_from_abs w64 (regret +ℤ v) (omega (arith, grown_size regret v before sizes small (omega (arith, low, sums_within)), sum, few))

  -- and a regret is then no larger than both together
  pub regrets_within : (play : List ℕ) (before after : List ℤ) (most : ℕ) → AreInOrder sets → GivesAllUnits play sets
      → ((s : ℕ) → unsigned_abs (regret_of before s) ≤ most)
      → after ≡ regrets_after (amount_of (map (λ worth. worth) worths)) play sets before
      → (s : ℕ) → unsigned_abs (regret_of after s) ≤ most + sizes
  regrets_within play before after most order all_units small is s =
      omega (
        arith,
        ap (λ rs. unsigned_abs (regret_of rs s)) is,
        regrets_grow_by_the_sums (amount_of (map (λ worth. worth) worths)) play sets before most sizes
            order all_units sums_within small s,
      )

-- worths that are within 2 ^ 82 together: no larger numbers have room in 128 bits, also beside regrets within 2 ^ 126
module _ (worths : List ℤ) (sets : List InformationSet)
    (small : size_of_sums (amount_of (map (λ worth. worth) worths)) sets ≤ 2 ^ 82) where
  pub numbers_fit_wide : (v : ℤ) → unsigned_abs v ≤ size_of_sums (amount_of (map (λ worth. worth) worths)) sets → FitsSigned w128 v
  numbers_fit_wide v low = fits_signed_from_abs w128 v (omega (arith, low, small))

  pub regrets_fit_wide : (regrets : List ℤ) → ((s : ℕ) → unsigned_abs (regret_of regrets s) < 2 ^ 126)
      → (s : ℕ) (v : ℤ) → unsigned_abs v ≤ size_of_sums (amount_of (map (λ worth. worth) worths)) sets
      → FitsSigned w128 (regret_of (map (λ regret. regret) regrets) s +ℤ v)
  regrets_fit_wide regrets room s v low =
      rw (same_amounts regrets) (fits_signed_from_abs w128 (regret_of regrets s +ℤ v)
      (omega (arith, grown_size (regret_of regrets s) v (2 ^ 126) (2 ^ 82) (omega (arith, room s)) (omega (arith, low, small)))))
