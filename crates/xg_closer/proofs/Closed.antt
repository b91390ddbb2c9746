-- A closed round leaves the regrets of the player's own sums, which are kept.
use Rattle.std.proofs.Common.{Option, Some, None, ◌≡◌, ℕ, ◌+◌, ◌*◌, ◌^◌, ◌<◌, ◌≤◌, List, [], ◌∷◌, ◌++◌, map, length, take, drop, ℤ, unsigned_abs, arith, refl}
use Rattle.std.proofs.Common.{sym, subst, ap, ◌∙◌}
use Rattle.std.proofs.Math.Seq.{take-append_seam}
use Rattle.def_sums.specs.Limits.{most_rounds}
use Rattle.def_sums.specs.Sum.{nat_sum_over}
use Rattle.def_tree.specs.declared.Player.{Player}
use Rattle.def_plan.specs.Form.{InformationSet, sequence_count, AreInOrder}
use Rattle.def_round.specs.Play.{GivesAllUnits, regret_of}
use Rattle.def_round.specs.Round.{regrets_after}
use Rattle.def_round.specs.Sizes.{size_of_sums}
use Rattle.def_round.proofs.Growth.{regrets_stay_small}
use Rattle.xg_closer.specs.Regrets.{AreWithin, KeepsRegrets, kept_regrets}
use Rattle.xg_closer.specs.Rows.{own_amount}
use Rattle.xg_closer.proofs.RowSums.{own_sizes}
use Rattle.def_plan.specs.FormRows.{amount_of}

-- a whole list that is written back
pub written : (xs items : List ℤ) (n : ℕ) → length xs ≡ n → take n (xs ++ drop (length xs) items) ≡ xs
written xs items n count = ap (λ k. take k (xs ++ drop (length xs) items)) (sym count) ∙ take-append_seam xs (drop (length xs) items)

-- there are as many regrets, whichever are kept
pub length-kept : (most : Option ℕ) (small wide : List ℤ) → length small ≡ length wide
    → length (kept_regrets most small wide) ≡ length wide
length-kept (Some most) small wide same = same
length-kept None small wide same = refl

-- worths that begin with the own sums are as large together as the rows
pub worths_together : (player : Player) (rows : List ℤ) (sets : List InformationSet) → length rows ≡ sequence_count sets
    → (worths : List ℤ) → ((s : ℕ) → amount_of worths s ≡ own_amount player rows s)
    → size_of_sums (amount_of worths) sets ≡ nat_sum_over unsigned_abs rows
worths_together player rows sets count worths each =
    let same : amount_of worths ≡ own_amount player rows = λ i s. each s i in
    ap (λ sums. size_of_sums sums sets) same ∙ own_sizes player rows sets count

-- each worth is its own amount
pub same_amounts : (worths : List ℤ) → map (λ worth. worth) worths ≡ worths
same_amounts [] = refl
same_amounts (worth ∷ worths) = ap (λ ws. worth ∷ ws) (same_amounts worths)

module _ (player : Player) (rows : List ℤ) (sets : List InformationSet) (count : length rows ≡ sequence_count sets)
    (small : nat_sum_over unsigned_abs rows ≤ 2 ^ 82) where
  own_small : size_of_sums (own_amount player rows) sets ≤ 2 ^ 82
  own_small = omega (arith, own_sizes player rows sets count, small)

  -- worths that begin with the own sums are as small
  pub worths_small : (worths : List ℤ) → ((s : ℕ) → amount_of worths s ≡ own_amount player rows s)
      → size_of_sums (amount_of worths) sets ≤ 2 ^ 82
  worths_small worths each =
      let same : amount_of worths ≡ own_amount player rows = λ i s. each s i in
      subst (λ sums. size_of_sums sums sets ≤ 2 ^ 82) (sym same) own_small

  -- also by the amounts of worths that are their own
  pub own_worths_small : (worths : List ℤ) → ((s : ℕ) → amount_of worths s ≡ own_amount player rows s)
      → size_of_sums (amount_of (map (λ worth. worth) worths)) sets ≤ 2 ^ 82
  own_worths_small worths each =
      subst (λ ws. size_of_sums (amount_of ws) sets ≤ 2 ^ 82) (sym (same_amounts worths)) (worths_small worths each)

  -- and give the same regrets
  pub own_regrets : (worths : List ℤ) (play : List ℕ) (before after : List ℤ)
      → ((s : ℕ) → amount_of worths s ≡ own_amount player rows s)
      → after ≡ regrets_after (amount_of worths) play sets before
      → after ≡ regrets_after (own_amount player rows) play sets before
  own_regrets worths play before after each is =
      let same : amount_of worths ≡ own_amount player rows = λ i s. each s i in
      is ∙ ap (λ sums. regrets_after sums play sets before) same

  pub own_worths_regrets : (worths : List ℤ) (play : List ℕ) (before after : List ℤ)
      → ((s : ℕ) → amount_of worths s ≡ own_amount player rows s)
      → map (λ regret. regret) after ≡ regrets_after (amount_of (map (λ worth. worth) worths)) play sets (map (λ regret. regret) before)
      → after ≡ regrets_after (own_amount player rows) play sets before
  own_worths_regrets worths play before after each is =
      own_regrets worths play before after each
      (sym (same_amounts after) ∙ is ∙ (λ i. regrets_after (amount_of (same_amounts worths i)) play sets (same_amounts before i)))

  -- after one round more there is room for all regrets, and none is larger than 2 ^ 82 for each round
  pub keeps_regrets : (play : List ℕ) (before : List ℤ) (most : Option ℕ) (small_regrets wide worths small_worths : List ℤ)
      (rounds : ℕ) → AreInOrder sets → GivesAllUnits play sets → rounds < most_rounds
      → ((s : ℕ) → unsigned_abs (regret_of before s) ≤ rounds * 2 ^ 82)
      → kept_regrets most small_regrets wide ≡ regrets_after (own_amount player rows) play sets before
      → length worths ≡ sequence_count sets → length small_worths ≡ sequence_count sets
      → length small_regrets ≡ sequence_count sets → length wide ≡ sequence_count sets → AreWithin most small_regrets
      → KeepsRegrets most small_regrets wide worths small_worths (rounds + 1)
  keeps_regrets play before most small_regrets wide worths small_worths rounds order all_units few sizes is room small_room small_count wide_count within =
      let stay = regrets_stay_small (own_amount player rows) play sets before rounds order all_units own_small few sizes in
      record {
        room = room ∙ sym wide_count;
        small_room = small_room ∙ sym wide_count;
        small_count = small_count ∙ sym wide_count;
        none_of_empty = ap (λ xs. regret_of xs 0) is;
        few_rounds = omega arith;
        sizes = λ s. omega (arith, ap (λ xs. unsigned_abs (regret_of xs s)) is, stay.by_rounds s);
        within = within;
      }
