-- Matching pennies: each player has one set of two actions, and player two doesn't see player one's.
use Rattle.std.specs.Prelude.{List, [], ◌∷◌, pos, negsuc}
use Rattle.def_plan.specs.Form.{InformationSet, SequenceForm}

abbrev pub one_set : List InformationSet
one_set = record { before = 0; actions = 2 } ∷ []

abbrev pub pennies : SequenceForm
pennies = record {
  sets_one = one_set;
  sets_two = one_set;
  leaves = record { sequence_one = 1; sequence_two = 1; weight = pos 1 }
      ∷ record { sequence_one = 1; sequence_two = 2; weight = negsuc 0 }
      ∷ record { sequence_one = 2; sequence_two = 1; weight = negsuc 0 }
      ∷ record { sequence_one = 2; sequence_two = 2; weight = pos 1 }
      ∷ [];
}
