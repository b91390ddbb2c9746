-- Kuhn poker (Kuhn 1950): cards 1 to 3, one each, both put in 1.
-- Either may bet 1 more, which the other folds to or calls.
use Rattle.std.specs.Prelude.{ℕ, ◌+◌, ◌-◌, ◌*◌, List, [], ◌∷◌, ◌++◌, ℤ, pos, neg_ℤ, nat_lt, if◌then◌else◌, ◌==◌}
use Rattle.def_plan.specs.Form.{InformationSet, Leaf, SequenceForm}

-- player one opens with each card, and answers a bet after a check
abbrev pub sets_of_one : List InformationSet
sets_of_one =
    record { before = 0; actions = 2 } ∷ record { before = 1; actions = 2 }
    ∷ record { before = 0; actions = 2 } ∷ record { before = 5; actions = 2 }
    ∷ record { before = 0; actions = 2 } ∷ record { before = 9; actions = 2 } ∷ []

-- player two answers a check and a bet with each card, in the order 2, 3, 1
abbrev pub sets_of_two : List InformationSet
sets_of_two =
    record { before = 0; actions = 2 } ∷ record { before = 0; actions = 2 }
    ∷ record { before = 0; actions = 2 } ∷ record { before = 0; actions = 2 }
    ∷ record { before = 0; actions = 2 } ∷ record { before = 0; actions = 2 } ∷ []

-- the first sequence of each player's sets with a card
abbrev pub first_of_one : ℕ → ℕ
first_of_one card = 4 * card - 3

abbrev pub first_of_two : ℕ → ℕ
first_of_two card = if card == 1 then 9 else 4 * card - 7

abbrev pub won : ℕ → ℕ → ℕ → ℤ
won card_one card_two stake = if nat_lt card_two card_one then pos stake else neg_ℤ (pos stake)

-- both check; check, bet, fold; check, bet, call; bet, fold; bet, call. Each deal has the chance 1/6, and the unit is 6
abbrev pub leaves_of_deal : ℕ → ℕ → List Leaf
leaves_of_deal card_one card_two =
    let a = first_of_one card_one in
    let b = first_of_two card_two in
    record { sequence_one = a; sequence_two = b; weight = won card_one card_two 1 }
    ∷ record { sequence_one = a + 2; sequence_two = b + 1; weight = neg_ℤ (pos 1) }
    ∷ record { sequence_one = a + 3; sequence_two = b + 1; weight = won card_one card_two 2 }
    ∷ record { sequence_one = a + 1; sequence_two = b + 2; weight = pos 1 }
    ∷ record { sequence_one = a + 1; sequence_two = b + 3; weight = won card_one card_two 2 }
    ∷ []

abbrev pub kuhn : SequenceForm
kuhn = record {
  sets_one = sets_of_one;
  sets_two = sets_of_two;
  leaves = leaves_of_deal 1 2 ++ (leaves_of_deal 1 3 ++ (leaves_of_deal 2 1
      ++ (leaves_of_deal 2 3 ++ (leaves_of_deal 3 1 ++ leaves_of_deal 3 2))));
}

-- the plans of the first round, which deal 2 ^ 20 evenly
abbrev pub even_one : List ℕ
even_one = 1048576 ∷ 524288 ∷ 524288 ∷ 262144 ∷ 262144 ∷ 524288 ∷ 524288 ∷ 262144 ∷ 262144 ∷ 524288 ∷ 524288 ∷ 262144
    ∷ 262144 ∷ []

abbrev pub even_two : List ℕ
even_two = 1048576 ∷ 524288 ∷ 524288 ∷ 524288 ∷ 524288 ∷ 524288 ∷ 524288 ∷ 524288 ∷ 524288 ∷ 524288 ∷ 524288 ∷ 524288
    ∷ 524288 ∷ []
