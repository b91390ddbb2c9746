-- What printed bounds of an accepted file's game say of both players.
use Rattle.std.proofs.Common.{◌≡◌, ℕ, ◌*◌, ◌≤◌, List, ap, sym, subst, ◌∙◌, arith}
use Rattle.std.specs.Prelude.{ℤ, pos, ◌+ℤ◌, ◌-ℤ◌, ◌*ℤ◌, neg_ℤ}
use Rattle.std.proofs.lemmas.Int.{ints}
use Rattle.std.proofs.Math.Nat.{one-le-mul}
use Rattle.def_sums.proofs.RingLaws.{neg-*ℤ}
use Rattle.def_tree.specs.declared.Player.TheVariants.{One, Two}
use Rattle.def_tree.specs.Tree.{Forest}
use Rattle.def_fraction.specs.Fraction.{Fraction, fraction_of}
use Rattle.def_fraction.proofs.FractionLemmas.{fraction_of-value}
use Rattle.def_file.specs.Content.{GameFile}
use Rattle.def_game_scale.specs.Tables.{Tables, game_sum}
use Rattle.def_game_scale.specs.Scale.{game_unit}
use Rattle.def_sequence_form.specs.Form.{form_of_game}
use Rattle.def_reply.specs.Bounds.{IsBestAgainst, IsLeft}
use Rattle.def_game_numbers.specs.Numbers.{tables_of}
use Rattle.def_game_numbers.specs.Weighed.{weighed_game}
use Rattle.def_constant_sum.specs.Expected.{ArePlans, expected_payoff}
use Rattle.def_fraction.specs.Order.{IsAtMost, difference_of}
use Rattle.def_constant_sum.specs.Bounds.{IsBestPayoff, IsPlanFor, IsSureOf, KeepsTo}
use Rattle.def_constant_sum.specs.Laws.{IsConstantGame}
use Rattle.def_constant_sum.proofs.Faultless.{faultless}
use Rattle.def_constant_sum.proofs.Gains.{best_payoffs, exploitability_is_gained}
use Rattle.def_constant_sum.proofs.Payments.{expected_payoff-lowest, scale_some, unit_some}
use Rattle.def_constant_sum.proofs.Times.{difference-lowest, times-reduced}
use Rattle.def_constant_sum.proofs.Turning.{bounds_in_weights, each_bounds_the_other}
use Rattle.def_cert_verdict.specs.Certificate.{PrintedBounds, printed_numbers}
use Rattle.def_cert_text.specs.Laws.{with_second}
use Rattle.def_cert_versions.specs.Verdict.{versioned_verdict}
use Rattle.def_cert_versions.proofs.PlayerTwo.{at_most-through, bounds_player_two}
use Rattle.def_check.specs.Accepted.{IsAccepted}
use Rattle.def_check.proofs.Checked.{test_first, tested_ok}
use Rattle.def_check.proofs.InNumbers.{faultless_game}
use Rattle.def_plus.specs.declared.Variant.{Variant}
use Rattle.def_cert_accepted.specs.Bounds.{BoundsHold}
use Rattle.def_program_laws.specs.Bounds.{AcceptedSecondsBoundPlayerTwo, BoundsHoldForBothPlayers, HoldForBothPlayers}

-- an accepted file's game is complete and of constant sum
constant_game : (bytes : List ℕ) (game : GameFile) → IsAccepted bytes game → IsConstantGame (tables_of game) game.tree
constant_game bytes game is =
    let it = faultless_game bytes game is in faultless game it.whole it.fractions it.no_fault

-- f less g in lowest terms, where it is the gap over the units
less_in_units : (f g : Fraction) (gap : ℤ) (units : ℕ) → 1 ≤ f.den → 1 ≤ g.den → 1 ≤ units
    → ((f.num *ℤ pos g.den) -ℤ (g.num *ℤ pos f.den)) *ℤ pos units ≡ gap *ℤ pos (f.den * g.den)
    → difference_of f g ≡ fraction_of gap units
less_in_units f g gap units some_f some_g some value =
    let num : ℤ = (f.num *ℤ pos g.den) +ℤ (neg_ℤ g.num *ℤ pos f.den) in
    let same : (f.num *ℤ pos g.den) -ℤ (g.num *ℤ pos f.den) ≡ num =
    less (f.num *ℤ pos g.den) (g.num *ℤ pos f.den) (neg_ℤ g.num *ℤ pos f.den) (neg-*ℤ g.num (pos f.den)) in
    let times = times-reduced num (f.den * g.den) (pos units) gap (one-le-mul some_f some_g)
    (sym value ∙ ap (λ (z : ℤ). z *ℤ pos units) same) in
    sym (fraction_of-value (difference_of f g) gap units (difference-lowest f g some_f some_g) some (sym times))
  where
    less : (a b c : ℤ) → c ≡ neg_ℤ b → a -ℤ b ≡ a +ℤ c
    less a b c e = omega (arith, ints, e)

module _ (game : GameFile) (constant : IsConstantGame (tables_of game) game.tree) (variant : Variant) (scale : ℕ)
    (b : PrintedBounds) (holds : BoundsHold (weighed_game game) variant scale b) where
  abbrev tables : Tables
  tables = tables_of game

  abbrev tree : Forest
  tree = game.tree

  abbrev x : List ℕ
  x = printed_numbers b.plan_one

  abbrev y : List ℕ
  y = printed_numbers b.plan_two

  are : ArePlans tables tree b.plan_one.root b.plan_two.root x y
  are = record { one = holds.lower.is_plan; two = holds.upper.is_plan }

  -- what LOW leaves of the game's sum, and what HIGH does
  abbrev above_low : Fraction
  above_low = difference_of (game_sum tables tree) b.low

  abbrev above_high : Fraction
  above_high = difference_of (game_sum tables tree) b.high

  one_gets : IsSureOf One tables tree x b.low
  one_gets = (bounds_in_weights.gets tables tree constant.complete b.plan_one.root x holds.lower.is_plan b.low).0 holds.lower.gets

  one_gets_at_most : KeepsTo Two tables tree y b.high
  one_gets_at_most =
      (bounds_in_weights.concedes tables tree constant.complete b.plan_two.root y holds.upper.is_plan b.high).0 holds.upper.concedes

  two_gets_at_most : KeepsTo One tables tree x above_low
  two_gets_at_most =
      (each_bounds_the_other tables tree constant One b.plan_one.root x holds.lower.is_plan b.low holds.attained.low.lowest.positive).sure.0
      one_gets

  two_gets : IsSureOf Two tables tree y above_high
  two_gets =
      (each_bounds_the_other tables tree constant Two b.plan_two.root y holds.upper.is_plan b.high holds.attained.high.lowest.positive).keeps.0
      one_gets_at_most

  -- the unit and both roots
  some_units : 1 ≤ game_unit tables tree * (b.plan_one.root * b.plan_two.root)
  some_units = scale_some tables tree constant.complete b.plan_one.root b.plan_two.root x y are

  some_unit : 1 ≤ game_unit tables tree
  some_unit = unit_some tables tree constant.complete

  best_of_one : IsBestPayoff One tables tree y b.high
  best_of_one =
      let best : IsBestAgainst (form_of_game tables tree) y b.reply_one.total =
      record { reply = _; ceiling = holds.attained.ceiling; attained = holds.attained.ceiling_attained } in
      subst (IsBestPayoff One tables tree y)
      (fraction_of-value b.high b.reply_one.total (game_unit tables tree * b.plan_two.root) holds.attained.high.lowest
      (one-le-mul some_unit holds.upper.is_plan.some_root) holds.attained.high.value)
      (best_payoffs.one tables tree constant.complete b.plan_two.root y holds.upper.is_plan b.reply_one.total best)

  best_of_two : IsBestPayoff Two tables tree x above_low
  best_of_two =
      let left : IsLeft (form_of_game tables tree) x b.reply_two.total =
      record { reply = _; floor = holds.attained.floor; attained = holds.attained.floor_attained } in
      subst (λ f. IsBestPayoff Two tables tree x (difference_of (game_sum tables tree) f))
      (fraction_of-value b.low b.reply_two.total (game_unit tables tree * b.plan_one.root) holds.attained.low.lowest
      (one-le-mul some_unit holds.lower.is_plan.some_root) holds.attained.low.value)
      (best_payoffs.two tables tree constant b.plan_one.root x holds.lower.is_plan b.reply_two.total left)

  plans_of_one : (root : ℕ) (plan : List ℕ) (bound : Fraction) → IsPlanFor One tables tree root plan
      → IsSureOf One tables tree plan bound → IsAtMost bound b.high
  plans_of_one root plan bound p sure =
      let those : ArePlans tables tree root b.plan_two.root plan y = record { one = p; two = holds.upper.is_plan } in
      at_most-through bound (expected_payoff One tables tree plan y) b.high
      (expected_payoff-lowest tables tree constant.complete root b.plan_two.root plan y those One).positive
      (sure b.plan_two.root y holds.upper.is_plan) (one_gets_at_most root plan p)

  plans_of_two : (root : ℕ) (plan : List ℕ) (bound : Fraction) → IsPlanFor Two tables tree root plan
      → IsSureOf Two tables tree plan bound → IsAtMost bound above_low
  plans_of_two root plan bound q sure =
      let those : ArePlans tables tree b.plan_one.root root x plan = record { one = holds.lower.is_plan; two = q } in
      at_most-through bound (expected_payoff Two tables tree x plan) above_low
      (expected_payoff-lowest tables tree constant.complete b.plan_one.root root x plan those Two).positive
      (sure b.plan_one.root x holds.lower.is_plan) (two_gets_at_most root plan q)

  hold_for_both : HoldForBothPlayers tables tree b
  hold_for_both = record {
    one_gets = one_gets;
    two_gets_at_most = two_gets_at_most;
    best_of_two = best_of_two;
    two_gets = two_gets;
    one_gets_at_most = one_gets_at_most;
    best_of_one = best_of_one;
    plans_of_one = plans_of_one;
    plans_of_two = plans_of_two;
    gap = holds.gap.gap;
    exploitability = holds.gap.exploitability;
    apart =
        less_in_units b.high b.low holds.gap.gap (game_unit tables tree * (b.plan_one.root * b.plan_two.root)) holds.attained.high.lowest.positive
        holds.attained.low.lowest.positive some_units holds.gap.in_units;
    gained =
        exploitability_is_gained.gained tables tree constant b.plan_one.root b.plan_two.root x y are holds.gap.gap holds.gap.exploitability;
  }

-- bounds that hold of an accepted file's game bound both players
pub for_both : BoundsHoldForBothPlayers
for_both bytes game variant scale b is holds = hold_for_both game (constant_game bytes game is) variant scale b holds

-- the second bracket of an accepted text bounds player two
pub seconds_bound : AcceptedSecondsBoundPlayerTwo
seconds_bound file bytes game head b second shown is text accepted =
    let c = with_second head b second in
    let first = test_first file bytes is.readable.length_within game c (record { accepted = is; text = text }) in
    bounds_player_two game head b second shown (faultless_game file game is)
    (tested_ok (versioned_verdict (weighed_game game) c) shown (sym first ∙ accepted))
