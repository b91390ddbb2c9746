-- The payoffs of a game lie within its range.
use Rattle.std.proofs.Common.{◌≡◌, ℕ, ◌≤◌, ◌<◌, List, [], ◌∷◌, length, get_or, map, refl, subst, arith}
use Rattle.std.specs.Prelude.{ℤ, pos, negsuc, ◌+ℤ◌, ◌-ℤ◌, ◌*ℤ◌, ◌≤ℤ◌, neg_ℤ}
use Rattle.std.proofs.lemmas.Int.{ints}
use Rattle.std.proofs.lemmas.List.{get_or-map, length-map}
use Rattle.def_sums.specs.Floor.{floor_div}
use Rattle.def_sums.proofs.FloorLaws.{floor_div-is_floor}
use Rattle.def_sums.proofs.RingLaws.{*ℤ-cancel_right, *ℤ-mono_right, neg-*ℤ, ≤ℤ_refl, ≤ℤ_trans}
use Rattle.def_tree.specs.declared.Player.TheVariants.{One, Two}
use Rattle.def_tree.specs.Tree.{Forest}
use Rattle.def_game_paths.specs.Paths.{Visit, leaf_visits}
use Rattle.def_game_scale.specs.Tables.{Tables, payoff_one}
use Rattle.def_game_scale.specs.Scale.{game_unit}
use Rattle.def_reply.specs.Reply.{best_of}
use Rattle.def_reply.proofs.Bests.{none-better}
use Rattle.def_round.specs.Play.{positive_part}
use Rattle.def_constant_sum.specs.Expected.{IsCompleteGame}
use Rattle.def_constant_sum.proofs.Lowest.{payoff_of-lowest}
use Rattle.def_closing_games.specs.Range.{IsFrom, IsUpTo, payoff_floor, payoff_ceiling, least_payoff, greatest_payoff}
use Rattle.def_closing_games.specs.Laws.{PayoffsAreInRange}

-- how far a number is above another one that it isn't below
above_by : (low high : ℤ) → low ≤ℤ high → high ≡ low +ℤ pos (positive_part (high -ℤ low))
above_by low high le = let is = natural (high -ℤ low) (omega (arith, ints)) in omega (arith, ints, is)
  where
    natural : (z : ℤ) → pos 0 ≤ℤ z → z ≡ pos (positive_part z)
    natural (pos n) le = refl
    natural (negsuc n) le = absurd (omega (arith, ints))

module _ (tables : Tables) (tree : Forest) (game : IsCompleteGame tables tree) where
  abbrev unit : ℕ
  unit = game_unit tables tree

  some_den : (leaf : Visit) → 1 ≤ (payoff_one tables leaf).den
  some_den leaf = (payoff_of-lowest tables game.fractions One leaf).positive

  from_floor : (leaf : Visit) → IsFrom unit (payoff_floor tables tree leaf) (payoff_one tables leaf)
  from_floor leaf =
      let f = payoff_one tables leaf in (floor_div-is_floor (f.num *ℤ pos unit) f.den (some_den leaf)).at_most

  to_ceiling : (leaf : Visit) → IsUpTo unit (payoff_ceiling tables tree leaf) (payoff_one tables leaf)
  to_ceiling leaf =
      let f = payoff_one tables leaf in
      let n : ℤ = f.num *ℤ pos unit in
      let q : ℤ = floor_div (neg_ℤ n) f.den in
      turned n (q *ℤ pos f.den) (neg_ℤ q *ℤ pos f.den) (floor_div-is_floor (neg_ℤ n) f.den (some_den leaf)).at_most
      (neg-*ℤ q (pos f.den))
    where
      turned : (n p m : ℤ) → p ≤ℤ neg_ℤ n → m ≡ neg_ℤ p → n ≤ℤ m
      turned n p m le is = omega (arith, ints)

  floor_below : (leaf : Visit) → payoff_floor tables tree leaf ≤ℤ payoff_ceiling tables tree leaf
  floor_below leaf =
      let f = payoff_one tables leaf in
      let low : ℤ = payoff_floor tables tree leaf in
      let high : ℤ = payoff_ceiling tables tree leaf in
      *ℤ-cancel_right f.den low high (some_den leaf)
      (≤ℤ_trans (low *ℤ pos f.den) (f.num *ℤ pos unit) (high *ℤ pos f.den) (from_floor leaf) (to_ceiling leaf))

  module _ (k : ℕ) (d : Visit) (there : k < length (leaf_visits tree)) where
    least : least_payoff tables tree ≤ℤ payoff_floor tables tree (get_or (leaf_visits tree) k d)
    least =
        subst (λ (z : ℤ). least_payoff tables tree ≤ℤ z)
        (get_or-map (payoff_floor tables tree) (leaf_visits tree) k d (pos 0) there)
        (none-better Two (map (payoff_floor tables tree) (leaf_visits tree)) k (pos 0)
        (omega (arith, length-map (leaf_visits tree) (payoff_floor tables tree))))

    greatest : payoff_ceiling tables tree (get_or (leaf_visits tree) k d) ≤ℤ greatest_payoff tables tree
    greatest =
        subst (λ (z : ℤ). z ≤ℤ greatest_payoff tables tree)
        (get_or-map (payoff_ceiling tables tree) (leaf_visits tree) k d (pos 0) there)
        (none-better One (map (payoff_ceiling tables tree) (leaf_visits tree)) k (pos 0)
        (omega (arith, length-map (leaf_visits tree) (payoff_ceiling tables tree))))

  from_least : (k : ℕ) (d : Visit) → k < length (leaf_visits tree)
      → IsFrom unit (least_payoff tables tree) (payoff_one tables (get_or (leaf_visits tree) k d))
  from_least k d there =
      let v : Visit = get_or (leaf_visits tree) k d in
      let f = payoff_one tables v in
      let low : ℤ = payoff_floor tables tree v in
      ≤ℤ_trans (least_payoff tables tree *ℤ pos f.den) (low *ℤ pos f.den) (f.num *ℤ pos unit)
      (*ℤ-mono_right f.den (least_payoff tables tree) low (least k d there)) (from_floor v)

  to_greatest : (k : ℕ) (d : Visit) → k < length (leaf_visits tree)
      → IsUpTo unit (greatest_payoff tables tree) (payoff_one tables (get_or (leaf_visits tree) k d))
  to_greatest k d there =
      let v : Visit = get_or (leaf_visits tree) k d in
      let f = payoff_one tables v in
      let high : ℤ = payoff_ceiling tables tree v in
      ≤ℤ_trans (f.num *ℤ pos unit) (high *ℤ pos f.den) (greatest_payoff tables tree *ℤ pos f.den) (to_ceiling v)
      (*ℤ-mono_right f.den high (greatest_payoff tables tree) (greatest k d there))

  in_order : (vs : List Visit) → best_of Two (map (payoff_floor tables tree) vs) ≤ℤ best_of One (map (payoff_ceiling tables tree) vs)
  in_order [] = ≤ℤ_refl (pos 0)
  in_order (v ∷ vs) =
      let low : ℤ = best_of Two (map (payoff_floor tables tree) (v ∷ vs)) in
      let high : ℤ = best_of One (map (payoff_ceiling tables tree) (v ∷ vs)) in
      let least : low ≤ℤ payoff_floor tables tree v =
      none-better Two (map (payoff_floor tables tree) (v ∷ vs)) 0 (pos 0) (omega arith) in
      let greatest : payoff_ceiling tables tree v ≤ℤ high =
      none-better One (map (payoff_ceiling tables tree) (v ∷ vs)) 0 (pos 0) (omega arith) in
      ≤ℤ_trans low (payoff_floor tables tree v) high least
      (≤ℤ_trans (payoff_floor tables tree v) (payoff_ceiling tables tree v) high (floor_below v) greatest)

pub payoffs_are_in_range : PayoffsAreInRange
payoffs_are_in_range tables tree game = (
  record { at_least = from_least tables tree game; at_most = to_greatest tables tree game },
  above_by (least_payoff tables tree) (greatest_payoff tables tree) (in_order tables tree game (leaf_visits tree)),
)
