-- The certificate of one round of Kuhn poker with scale 2 ^ 20.
use Rattle.std.specs.Prelude.{ℕ, List, [], ◌∷◌, pos, Result}
use Rattle.def_plan.specs.Kuhn.{kuhn}
use Rattle.def_reply.specs.Outcome.{Head}
use Rattle.def_cert_verdict.specs.declared.fault.TestFault.{TestFault}
use Rattle.def_cert_verdict.specs.Certificate.{PrintedBounds}
use Rattle.def_plan.specs.Weighed.{WeighedGame}
use Rattle.def_cert_verdict.specs.Verdict.{Verdict, verdict}
use Rattle.def_cert_verdict.specs.Laws.{with_bounds}
use Rattle.def_fraction.specs.Fraction.{over, negative_of, zero_fraction}
use Rattle.def_cert_verdict.specs.Changes.{Change, changed, said, traced}

abbrev pub kuhn_game : WeighedGame
kuhn_game = record { nodes = 58; sum = zero_fraction; unit = 6; form = kuhn }

abbrev pub kuhn_head : Head
kuhn_head = record {
  nodes = 58;
  leaves = 30;
  sets_one = 6;
  sets_two = 6;
  sequences_one = 13;
  sequences_two = 13;
  unit = 6;
  sum = zero_fraction;
  mass = 42;
  rounds = 1;
  every = 1;
  scale = 1048576;
}

abbrev halves : List ℕ
halves = 524288 ∷ 524288 ∷ []

abbrev quarters : List ℕ
quarters = 262144 ∷ 262144 ∷ []

abbrev pub kuhn_bounds : PrintedBounds
kuhn_bounds = record {
  trace = traced 1 1 (negative_of 2621440) 1 (pos 3145728) ∷ [];
  plan_one = record { root = 1048576; weights = halves ∷ quarters ∷ halves ∷ quarters ∷ halves ∷ quarters ∷ [] };
  reply_two = record {
    total = negative_of 2621440;
    sets = said (negative_of 524288) 2 ∷ said (pos 0) 2 ∷ said (negative_of 1572864) 2 ∷ said (negative_of 2097152) 2
        ∷ said (pos 524288) 2 ∷ said (pos 1048576) 1 ∷ [];
  };
  plan_two = record { root = 1048576; weights = halves ∷ halves ∷ halves ∷ halves ∷ halves ∷ halves ∷ [] };
  reply_one = record {
    total = pos 3145728;
    sets = said (negative_of 1048576) 2 ∷ said (negative_of 1048576) 1 ∷ said (pos 1048576) 2 ∷ said (pos 0) 2
        ∷ said (pos 3145728) 1 ∷ said (pos 2097152) 2 ∷ [];
  };
  low = over (negative_of 5) 12;
  high = over (pos 1) 2;
}

abbrev pub kuhn_verdict : List Change → Result Verdict TestFault
kuhn_verdict changes = verdict kuhn_game (with_bounds kuhn_head (changed kuhn_bounds changes))
