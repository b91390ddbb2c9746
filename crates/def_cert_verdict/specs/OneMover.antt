-- The certificate of two rounds of a game in which player two has no set.
use Rattle.std.specs.Prelude.{List, [], ◌∷◌, pos, Result}
use Rattle.def_plan.specs.SmallForms.{one_mover}
use Rattle.def_reply.specs.Outcome.{Head}
use Rattle.def_cert_verdict.specs.declared.fault.TestFault.{TestFault}
use Rattle.def_cert_verdict.specs.Certificate.{PrintedBounds}
use Rattle.def_plan.specs.Weighed.{WeighedGame}
use Rattle.def_cert_verdict.specs.Verdict.{Verdict, verdict}
use Rattle.def_cert_verdict.specs.Laws.{with_bounds}
use Rattle.def_fraction.specs.Fraction.{over, zero_fraction}
use Rattle.def_cert_verdict.specs.Changes.{Change, changed, said, traced}

abbrev pub one_mover_game : WeighedGame
one_mover_game = record { nodes = 3; sum = zero_fraction; unit = 1; form = one_mover }

abbrev pub one_mover_head : Head
one_mover_head = record {
  nodes = 3;
  leaves = 2;
  sets_one = 1;
  sets_two = 0;
  sequences_one = 3;
  sequences_two = 1;
  unit = 1;
  sum = zero_fraction;
  mass = 1;
  rounds = 2;
  every = 1;
  scale = 1048576;
}

abbrev pub one_mover_bounds : PrintedBounds
one_mover_bounds = record {
  trace = traced 1 1 (pos 524288) 1 (pos 1048576) ∷ traced 2 2 (pos 1572864) 1 (pos 1048576) ∷ [];
  plan_one = record { root = 2097152; weights = (1572864 ∷ 524288 ∷ []) ∷ [] };
  reply_two = record { total = pos 1572864; sets = [] };
  plan_two = record { root = 1048576; weights = [] };
  reply_one = record { total = pos 1048576; sets = said (pos 1048576) 1 ∷ [] };
  low = over (pos 3) 4;
  high = over (pos 1) 1;
}

abbrev pub one_mover_verdict : List Change → Result Verdict TestFault
one_mover_verdict changes = verdict one_mover_game (with_bounds one_mover_head (changed one_mover_bounds changes))
