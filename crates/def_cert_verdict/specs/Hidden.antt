-- The certificate of four rounds with scale 10 of the small game with sets one below the other.
use Rattle.std.specs.Prelude.{List, [], ◌∷◌, pos, Result}
use Rattle.def_plan.specs.Hidden.{hidden}
use Rattle.def_reply.specs.Outcome.{Head}
use Rattle.def_cert_verdict.specs.declared.fault.TestFault.{TestFault}
use Rattle.def_cert_verdict.specs.Certificate.{PrintedBounds}
use Rattle.def_plan.specs.Weighed.{WeighedGame}
use Rattle.def_cert_verdict.specs.Verdict.{Verdict, verdict}
use Rattle.def_cert_verdict.specs.Laws.{with_bounds}
use Rattle.def_fraction.specs.Fraction.{over, negative_of, zero_fraction}
use Rattle.def_cert_verdict.specs.Changes.{Change, changed, said, traced}

abbrev pub hidden_game : WeighedGame
hidden_game = record { nodes = 39; sum = zero_fraction; unit = 3; form = hidden }

abbrev pub hidden_head : Head
hidden_head = record {
  nodes = 39;
  leaves = 24;
  sets_one = 3;
  sets_two = 3;
  sequences_one = 8;
  sequences_two = 8;
  unit = 3;
  sum = zero_fraction;
  mass = 94;
  rounds = 4;
  every = 1;
  scale = 10;
}

abbrev pub hidden_bounds : PrintedBounds
hidden_bounds = record {
  trace = traced 1 1 (negative_of 26) 1 (pos 7) ∷ traced 2 1 (negative_of 26) 2 (pos 8)
      ∷ traced 3 3 (negative_of 66) 2 (pos 8) ∷ traced 4 3 (negative_of 66) 2 (pos 8) ∷ [];
  plan_one = record { root = 30; weights = (12 ∷ 6 ∷ 12 ∷ []) ∷ (1 ∷ 11 ∷ []) ∷ (1 ∷ 5 ∷ []) ∷ [] };
  reply_two = record {
    total = negative_of 66;
    sets = said (negative_of 66) 1 ∷ said (negative_of 36) 2
        ∷ said (negative_of 30) 1 ∷ [];
  };
  plan_two = record { root = 20; weights = (3 ∷ 3 ∷ 14 ∷ []) ∷ (1 ∷ 2 ∷ []) ∷ (1 ∷ 2 ∷ []) ∷ [] };
  reply_one = record { total = pos 8; sets = said (pos 8) 3 ∷ said (negative_of 6) 2 ∷ said (negative_of 2) 2 ∷ [] };
  low = over (negative_of 11) 15;
  high = over (pos 2) 15;
}

-- the verdict on the certificate with some fields changed
abbrev pub hidden_verdict : List Change → Result Verdict TestFault
hidden_verdict changes = verdict hidden_game (with_bounds hidden_head (changed hidden_bounds changes))
