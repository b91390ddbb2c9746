-- The total exploitability of two plans is what both players could gain.
use Rattle.std.proofs.Common.{◌≡◌, ℕ, ◌*◌, ◌≤◌, List, refl, ap, sym, subst, ◌∙◌, arith}
use Rattle.std.specs.Prelude.{ℤ, pos, ◌+ℤ◌, ◌-ℤ◌, ◌*ℤ◌}
use Rattle.std.proofs.lemmas.Int.{ints}
use Rattle.std.proofs.Math.Nat.{one-le-mul}
use Rattle.def_sums.proofs.RingLaws.{*ℤ_comm, one-*ℤ}
use Rattle.def_tree.specs.declared.Player.{Player}
use Rattle.def_tree.specs.declared.Player.TheVariants.{One, Two}
use Rattle.def_tree.specs.Opponent.{opponent}
use Rattle.def_tree.specs.Tree.{Forest}
use Rattle.def_fraction.specs.Fraction.{Fraction, IsInLowestTerms, fraction_of, sum_of}
use Rattle.def_fraction.proofs.FractionLemmas.{fraction_of-reduced, fraction_of-value}
use Rattle.def_game_scale.specs.Tables.{IsConstantSum, Tables, game_sum}
use Rattle.def_game_scale.specs.Scale.{game_unit, whole_sum}
use Rattle.def_game_scale.proofs.Expected.{lowest-sum}
use Rattle.def_plan.specs.Payoff.{pay}
use Rattle.def_sequence_form.specs.Form.{form_of_game}
use Rattle.def_reply.specs.Bounds.{IsBestAgainst, IsExploitability, IsLeft}
use Rattle.def_constant_sum.specs.Expected.{ArePlans, IsCompleteGame, expected_payoff}
use Rattle.def_fraction.specs.Order.{IsAtMost, difference_of}
use Rattle.def_constant_sum.specs.Bounds.{IsBestPayoff, IsGainOfBoth, IsPlanFor, IsSureOf}
use Rattle.def_constant_sum.specs.Laws.{BestPayoffsInWeights, ExploitabilityIsGained, IsConstantGame}
use Rattle.def_constant_sum.proofs.Times.{IsTimes, difference-lowest, same-both_ways, swap-first, times-difference, times-order, times-reduced, times-same}
use Rattle.def_constant_sum.proofs.Times.{times-scaled, times-sum}
use Rattle.def_constant_sum.proofs.Payments.{expected_payoff-lowest, given-lowest, given-scaled, paid-times, scale, scale_some, two-left, two-times, unit_some}
use Rattle.def_constant_sum.proofs.Turning.{each_bounds_the_other}

-- a player has one best payoff against a plan
one_best : (tables : Tables) (tree : Forest) → IsCompleteGame tables tree → (player : Player) (root : ℕ) (against : List ℕ) (best other : Fraction)
    → IsPlanFor (opponent player) tables tree root against → IsBestPayoff player tables tree against best
    → IsBestPayoff player tables tree against other → best ≡ other
one_best tables tree game One root against best other q is it =
    let low : (f : Fraction) → IsBestPayoff One tables tree against f → IsInLowestTerms f =
    λ f h. subst IsInLowestTerms h.attained (expected_payoff-lowest tables tree game h.root root h.reply against (record { one = h.is_plan; two = q }) One) in
    same-both_ways best other (low best is) (low other it) (subst (λ f. IsAtMost f other) is.attained (it.most is.root is.reply is.is_plan))
    (subst (λ f. IsAtMost f best) it.attained (is.most it.root it.reply it.is_plan))
one_best tables tree game Two root against best other p is it =
    let low : (f : Fraction) → IsBestPayoff Two tables tree against f → IsInLowestTerms f =
    λ f h. subst IsInLowestTerms h.attained (expected_payoff-lowest tables tree game root h.root against h.reply (record { one = p; two = h.is_plan }) Two) in
    same-both_ways best other (low best is) (low other it) (subst (λ f. IsAtMost f other) is.attained (it.most is.root is.reply is.is_plan))
    (subst (λ f. IsAtMost f best) it.attained (is.most it.root it.reply it.is_plan))

-- player one's best payoff against a plan of player two, in weights
module _ (tables : Tables) (tree : Forest) (game : IsCompleteGame tables tree) (root_two : ℕ) (y : List ℕ)
    (q : IsPlanFor Two tables tree root_two y) (best : ℤ) where
  abbrev pub best_of : Fraction
  best_of = fraction_of best (game_unit tables tree * root_two)

  best_some : 1 ≤ game_unit tables tree * root_two
  best_some = one-le-mul (unit_some tables tree game) q.some_root

  pub best-lowest : IsInLowestTerms best_of
  best-lowest = (fraction_of-reduced best (game_unit tables tree * root_two) best_some).lowest

  pub best-times : (root : ℕ) → IsTimes (pos (game_unit tables tree * (root * root_two))) best_of (pos root *ℤ best)
  best-times root =
      subst (λ c. IsTimes c best_of (pos root *ℤ best)) (swap-first (pos root) (pos (game_unit tables tree)) (pos root_two))
      (times-scaled (pos root) (pos (game_unit tables tree * root_two)) best_of best
      (times-reduced best (game_unit tables tree * root_two) (pos (game_unit tables tree * root_two)) best best_some refl))

  pub best_payoff : IsBestAgainst (form_of_game tables tree) y best → IsBestPayoff One tables tree y best_of
  best_payoff is =
      let reply : List ℕ = is.reply in
      let plans : ArePlans tables tree 1 root_two reply y = record { one = is.attained.is_plan; two = q } in
      let one : Fraction = expected_payoff One tables tree reply y in
      let Is : ℤ → Fraction → Type 0 = λ w f. IsTimes (pos (game_unit tables tree * (1 * root_two))) f w in
      record {
        root = 1;
        reply = reply;
        is_plan = is.attained.is_plan;
        attained =
            times-same (scale tables tree game 1 root_two reply y plans) one best_of best (scale_some tables tree game 1 root_two reply y plans)
            (expected_payoff-lowest tables tree game 1 root_two reply y plans One) best-lowest
            (subst (λ w. Is w one) is.attained.pays (paid-times tables tree game 1 root_two reply y plans))
            (subst (λ w. Is w best_of) (one-*ℤ best) (best-times 1));
        most = λ root x p.
            let those : ArePlans tables tree root root_two x y = record { one = p; two = q } in
            (times-order (scale tables tree game root root_two x y those) (expected_payoff One tables tree x y) best_of
            (pay (form_of_game tables tree).leaves x y) (pos root *ℤ best)
            (scale_some tables tree game root root_two x y those) (expected_payoff-lowest tables tree game root root_two x y those One).positive
            best-lowest.positive
            (paid-times tables tree game root root_two x y those) (best-times root)).1 (is.ceiling root x p);
      }

-- what player two's best replies leave a plan of player one, in weights, and so player two's best payoff
module _ (tables : Tables) (tree : Forest) (game : IsCompleteGame tables tree) (root_one : ℕ) (x : List ℕ)
    (p : IsPlanFor One tables tree root_one x) (left : ℤ) where
  abbrev pub left_of : Fraction
  left_of = fraction_of left (game_unit tables tree * root_one)

  left_some : 1 ≤ game_unit tables tree * root_one
  left_some = one-le-mul (unit_some tables tree game) p.some_root

  pub left-lowest : IsInLowestTerms left_of
  left-lowest = (fraction_of-reduced left (game_unit tables tree * root_one) left_some).lowest

  pub left-times : (root : ℕ) → IsTimes (pos (game_unit tables tree * (root_one * root))) left_of (pos root *ℤ left)
  left-times root =
      subst (λ c. IsTimes c left_of (pos root *ℤ left))
      (swap-first (pos root) (pos (game_unit tables tree)) (pos root_one) ∙ ap (λ z. pos (game_unit tables tree) *ℤ z) (*ℤ_comm (pos root) (pos root_one)))
      (times-scaled (pos root) (pos (game_unit tables tree * root_one)) left_of left
      (times-reduced left (game_unit tables tree * root_one) (pos (game_unit tables tree * root_one)) left left_some refl))

  sure_of_left : IsLeft (form_of_game tables tree) x left → IsSureOf One tables tree x left_of
  sure_of_left is root y q =
      let those : ArePlans tables tree root_one root x y = record { one = p; two = q } in
      (times-order (scale tables tree game root_one root x y those) left_of (expected_payoff One tables tree x y) (pos root *ℤ left)
      (pay (form_of_game tables tree).leaves x y)
      (scale_some tables tree game root_one root x y those) left-lowest.positive (expected_payoff-lowest tables tree game root_one root x y those One).positive
      (left-times root)
      (paid-times tables tree game root_one root x y those)).1 (is.floor root y q)

  pub rest_payoff : IsConstantSum tables tree → IsLeft (form_of_game tables tree) x left
      → IsBestPayoff Two tables tree x (difference_of (game_sum tables tree) left_of)
  rest_payoff constant is =
      let reply : List ℕ = is.reply in
      let plans : ArePlans tables tree root_one 1 x reply = record { one = p; two = is.attained.is_plan } in
      let one : Fraction = expected_payoff One tables tree x reply in
      let Is : ℤ → Fraction → Type 0 = λ w f. IsTimes (pos (game_unit tables tree * (root_one * 1))) f w in
      let same : one ≡ left_of =
      times-same (scale tables tree game root_one 1 x reply plans) one left_of left (scale_some tables tree game root_one 1 x reply plans)
      (expected_payoff-lowest tables tree game root_one 1 x reply plans One) left-lowest
      (subst (λ w. Is w one) is.attained.pays (paid-times tables tree game root_one 1 x reply plans))
      (subst (λ w. Is w left_of) (one-*ℤ left) (left-times 1)) in
      record {
        root = 1;
        reply = reply;
        is_plan = is.attained.is_plan;
        attained = two-left tables tree game root_one 1 x reply plans constant ∙ ap (difference_of (game_sum tables tree)) same;
        most = (each_bounds_the_other tables tree (record { complete = game; constant_sum = constant }) One root_one x p left_of left-lowest.positive).sure.0
            (sure_of_left is);
      }

pub best_payoffs : BestPayoffsInWeights
best_payoffs = record {
  one = λ tables tree game root y q best is. best_payoff tables tree game root y q best is;
  two = λ tables tree game root x p left is. rest_payoff tables tree game.complete root x p left game.constant_sum is;
}

module _ (tables : Tables) (tree : Forest) (game : IsConstantGame tables tree) (root_one root_two : ℕ) (x y : List ℕ)
    (are : ArePlans tables tree root_one root_two x y) (gap : ℤ)
    (is : IsExploitability (form_of_game tables tree) root_one root_two x y gap) where
  abbrev given : Fraction
  given = game_sum tables tree

  -- the best payoff of player one, and what is left to player one's plan
  abbrev best : Fraction
  best = best_of tables tree game.complete root_two y are.two is.best

  abbrev left : Fraction
  left = left_of tables tree game.complete root_one x are.one is.left

  low_best : IsInLowestTerms best
  low_best = best-lowest tables tree game.complete root_two y are.two is.best

  low_left : IsInLowestTerms left
  low_left = left-lowest tables tree game.complete root_one x are.one is.left

  times_best : IsTimes (pos (game_unit tables tree * (root_one * root_two))) best (pos root_one *ℤ is.best)
  times_best = best-times tables tree game.complete root_two y are.two is.best root_one

  times_left : IsTimes (pos (game_unit tables tree * (root_one * root_two))) left (pos root_two *ℤ is.left)
  times_left = left-times tables tree game.complete root_one x are.one is.left root_two

  abbrev all : ℕ
  all = game_unit tables tree * (root_one * root_two)

  abbrev sum : ℤ
  sum = whole_sum tables tree *ℤ pos (root_one * root_two)

  abbrev paid_one : ℤ
  paid_one = pay (form_of_game tables tree).leaves x y

  some_all : 1 ≤ all
  some_all = scale_some tables tree game.complete root_one root_two x y are

  some_given : 1 ≤ given.den
  some_given = (given-lowest tables tree game.complete root_one root_two x y are game.constant_sum).positive

  some_expected : (player : Player) → 1 ≤ (expected_payoff player tables tree x y).den
  some_expected player = (expected_payoff-lowest tables tree game.complete root_one root_two x y are player).positive

  sum-times : IsTimes (pos all) given sum
  sum-times = given-scaled tables tree game.complete root_one root_two x y are game.constant_sum

  two_best-lowest : IsInLowestTerms (difference_of given left)
  two_best-lowest = difference-lowest given left some_given low_left.positive

  two_best-times : IsTimes (pos all) (difference_of given left) (sum -ℤ pos root_two *ℤ is.left)
  two_best-times = times-difference (pos all) given left sum (pos root_two *ℤ is.left) some_given low_left.positive sum-times times_left

  gains : sum_of (difference_of best (expected_payoff One tables tree x y)) (difference_of (difference_of given left) (expected_payoff Two tables tree x y))
      ≡ fraction_of gap all
  gains =
      let one : Fraction = difference_of best (expected_payoff One tables tree x y) in
      let two : Fraction = difference_of (difference_of given left) (expected_payoff Two tables tree x y) in
      let some_one : 1 ≤ one.den = (difference-lowest best (expected_payoff One tables tree x y) low_best.positive (some_expected One)).positive in
      let some_two : 1 ≤ two.den = (difference-lowest (difference_of given left) (expected_payoff Two tables tree x y) two_best-lowest.positive
      (some_expected Two)).positive in
      let one_gains : IsTimes (pos all) one (pos root_one *ℤ is.best -ℤ paid_one) =
      times-difference (pos all) best (expected_payoff One tables tree x y) (pos root_one *ℤ is.best) paid_one low_best.positive (some_expected One) times_best
      (paid-times tables tree game.complete root_one root_two x y are) in
      let two_gains : IsTimes (pos all) two ((sum -ℤ pos root_two *ℤ is.left) -ℤ (sum -ℤ paid_one)) =
      times-difference (pos all) (difference_of given left) (expected_payoff Two tables tree x y) (sum -ℤ pos root_two *ℤ is.left) (sum -ℤ paid_one)
      two_best-lowest.positive (some_expected Two) two_best-times
      (two-times tables tree game.complete root_one root_two x y are game.constant_sum) in
      let both : IsTimes (pos all) (sum_of one two) gap =
      subst (IsTimes (pos all) (sum_of one two)) (cancel (pos root_one *ℤ is.best) (pos root_two *ℤ is.left) sum paid_one ∙ sym is.is)
      (times-sum (pos all) one two _ _ some_one some_two one_gains two_gains) in
      sym (fraction_of-value (sum_of one two) gap all (lowest-sum one two some_one some_two) some_all (sym both))
    where
      cancel : (u v k p : ℤ) → (u -ℤ p) +ℤ ((k -ℤ v) -ℤ (k -ℤ p)) ≡ u -ℤ v
      cancel u v k p = omega (arith, ints)

  bests : difference_of (sum_of best (difference_of given left)) given ≡ fraction_of gap all
  bests =
      let both : Fraction = sum_of best (difference_of given left) in
      let some_both : 1 ≤ both.den = (lowest-sum best (difference_of given left) low_best.positive two_best-lowest.positive).positive in
      let both-times : IsTimes (pos all) both (pos root_one *ℤ is.best +ℤ (sum -ℤ pos root_two *ℤ is.left)) =
      times-sum (pos all) best (difference_of given left) (pos root_one *ℤ is.best) (sum -ℤ pos root_two *ℤ is.left) low_best.positive two_best-lowest.positive
      times_best two_best-times in
      let less : IsTimes (pos all) (difference_of both given) gap =
      subst (IsTimes (pos all) (difference_of both given)) (cancel (pos root_one *ℤ is.best) (pos root_two *ℤ is.left) sum ∙ sym is.is)
      (times-difference (pos all) both given _ sum some_both some_given both-times sum-times) in
      sym (fraction_of-value (difference_of both given) gap all (difference-lowest both given some_both some_given) some_all (sym less))
    where
      cancel : (u v k : ℤ) → (u +ℤ (k -ℤ v)) -ℤ k ≡ u -ℤ v
      cancel u v k = omega (arith, ints)

  gain_of_both : IsGainOfBoth tables tree root_one root_two x y gap
  gain_of_both = record {
    best_one = best;
    best_two = difference_of given left;
    is_best_one = best_payoff tables tree game.complete root_two y are.two is.best is.is_best;
    is_best_two = rest_payoff tables tree game.complete root_one x are.one is.left game.constant_sum is.is_left;
    gains = gains;
    bests = bests;
  }

pub exploitability_is_gained : ExploitabilityIsGained
exploitability_is_gained = record { gained = gain_of_both; only = one_best }
