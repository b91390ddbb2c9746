-- The certificate of one round of matching pennies.
use Rattle.std.specs.Prelude.{List, [], ◌∷◌, pos, Result}
use Rattle.def_plan.specs.Pennies.{pennies}
use Rattle.def_reply.specs.Outcome.{Head}
use Rattle.def_cert_verdict.specs.declared.fault.TestFault.{TestFault}
use Rattle.def_cert_verdict.specs.Certificate.{PrintedBounds}
use Rattle.def_plan.specs.Weighed.{WeighedGame}
use Rattle.def_cert_verdict.specs.Verdict.{Verdict, verdict}
use Rattle.def_cert_verdict.specs.Laws.{with_bounds}
use Rattle.def_fraction.specs.Fraction.{over, negative_of, zero_fraction}
use Rattle.def_cert_verdict.specs.Changes.{Change, changed, said, traced}

abbrev pub pennies_game : WeighedGame
pennies_game = record { nodes = 7; sum = zero_fraction; unit = 1; form = pennies }

abbrev pub pennies_head : Head
pennies_head = record {
  nodes = 7;
  leaves = 4;
  sets_one = 1;
  sets_two = 1;
  sequences_one = 3;
  sequences_two = 3;
  unit = 1;
  sum = zero_fraction;
  mass = 4;
  rounds = 1;
  every = 1;
  scale = 1048576;
}

abbrev pub pennies_bounds : PrintedBounds
pennies_bounds = record {
  trace = traced 1 1 (pos 0) 1 (pos 0) ∷ [];
  plan_one = record { root = 1048576; weights = (524288 ∷ 524288 ∷ []) ∷ [] };
  reply_two = record { total = pos 0; sets = said (pos 0) 1 ∷ [] };
  plan_two = record { root = 1048576; weights = (524288 ∷ 524288 ∷ []) ∷ [] };
  reply_one = record { total = pos 0; sets = said (pos 0) 1 ∷ [] };
  low = over (pos 0) 1;
  high = over (pos 0) 1;
}

abbrev pub pennies_verdict : List Change → Result Verdict TestFault
pennies_verdict changes = verdict pennies_game (with_bounds pennies_head (changed pennies_bounds changes))

-- the same of other heads
abbrev pub head_verdict : Head → Result Verdict TestFault
head_verdict head = verdict pennies_game (with_bounds head pennies_bounds)

-- two rounds with scale 1, whose ends come from different rounds
abbrev pub scale_one_head : Head
scale_one_head = record pennies_head { rounds = 2; scale = 1 }

abbrev pub scale_one_bounds : PrintedBounds
scale_one_bounds = record {
  trace = traced 1 1 (negative_of 1) 1 (pos 1) ∷ traced 2 1 (negative_of 1) 2 (pos 0) ∷ [];
  plan_one = record { root = 1; weights = (0 ∷ 1 ∷ []) ∷ [] };
  reply_two = record { total = negative_of 1; sets = said (negative_of 1) 1 ∷ [] };
  plan_two = record { root = 2; weights = (1 ∷ 1 ∷ []) ∷ [] };
  reply_one = record { total = pos 0; sets = said (pos 0) 1 ∷ [] };
  low = over (negative_of 1) 1;
  high = over (pos 0) 1;
}
