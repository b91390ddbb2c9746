-- Small games, and certificates of both versions for them with some fields changed.
use Rattle.std.specs.Prelude.{List, [], ◌∷◌, pos, Result}
use Rattle.def_fraction.specs.Fraction.{Fraction, negative_of, over}
use Rattle.def_plan.specs.Form.{weighted}
use Rattle.def_plan.specs.Weighed.{WeighedGame}
use Rattle.def_reply.specs.Outcome.{Head}
use Rattle.def_cert_verdict.specs.declared.fault.TestFault.{TestFault}
use Rattle.def_cert_verdict.specs.Changes.{Change, changed}
use Rattle.def_cert_verdict.specs.Laws.{with_bounds}
use Rattle.def_cert_verdict.specs.Pennies.{scale_one_bounds, scale_one_head}
use Rattle.def_cert_verdict.specs.Verdict.{Verdict}
use Rattle.def_cert_text.specs.Laws.{with_second}
use Rattle.def_cert_text.specs.Versions.{VersionedCertificate, in_version_one}
use Rattle.def_cert_text.specs.VersionTexts.{bracket_of, shared_bounds, shared_head}
use Rattle.def_cert_versions.specs.Verdict.{versioned_verdict}

-- chance deals one of two cards, of which player two doesn't see any; all leaves pay both players together -5/6
abbrev pub shared_game : WeighedGame
shared_game = record {
  nodes = 13;
  sum = over (negative_of 5) 6;
  unit = 6;
  form = record {
    sets_one = record { before = 0; actions = 2 } ∷ record { before = 0; actions = 2 } ∷ [];
    sets_two = record { before = 0; actions = 2 } ∷ [];
    leaves = weighted 1 1 (pos 4) ∷ weighted 1 2 (negative_of 2) ∷ weighted 2 1 (negative_of 1) ∷ weighted 2 2 (pos 2) ∷
        weighted 3 1 (negative_of 12) ∷ weighted 3 2 (pos 8) ∷ weighted 4 0 (pos 0) ∷ [];
  };
}

abbrev pub shared_in_one : Head → List Change → VersionedCertificate
shared_in_one head changes = in_version_one (with_bounds head (changed shared_bounds changes))

abbrev pub shared_in_two : Head → List Change → Fraction → Fraction → VersionedCertificate
shared_in_two head changes low high = with_second head (changed shared_bounds changes) (bracket_of low high)

abbrev pub verdict_in_one : Head → List Change → Result Verdict TestFault
verdict_in_one head changes = versioned_verdict shared_game (shared_in_one head changes)

-- with the second bracket that the sum leaves of the unchanged bounds
abbrev pub verdict_in_two : Head → List Change → Result Verdict TestFault
verdict_in_two head changes = versioned_verdict shared_game
    (shared_in_two head changes (over (negative_of 1) 1) (over (negative_of 5) 6))

-- with another second bracket
abbrev pub verdict_on_second : Fraction → Fraction → Result Verdict TestFault
verdict_on_second low high = versioned_verdict shared_game (shared_in_two shared_head [] low high)

abbrev pub verdict_beside_other_second : Head → List Change → Result Verdict TestFault
verdict_beside_other_second head changes = versioned_verdict shared_game
    (shared_in_two head changes (over (negative_of 1) 1) (over (pos 37) 6))

-- two rounds of matching pennies, some fields changed
abbrev pub pennies_in_one : List Change → VersionedCertificate
pennies_in_one changes = in_version_one (with_bounds scale_one_head (changed scale_one_bounds changes))

abbrev pub pennies_in_two : List Change → Fraction → Fraction → VersionedCertificate
pennies_in_two changes low high = with_second scale_one_head (changed scale_one_bounds changes) (bracket_of low high)

-- a leaf alone, which pays both players together -1/3
abbrev pub leaf_game : WeighedGame
leaf_game = record {
  nodes = 1;
  sum = over (negative_of 1) 3;
  unit = 3;
  form = record { sets_one = []; sets_two = []; leaves = weighted 0 0 (pos 0) ∷ [] };
}

-- player one chooses between the smallest payoff that is read and nothing
abbrev pub finest_game : WeighedGame
finest_game = record {
  nodes = 4;
  sum = over (pos 1) 4611686018427387904;
  unit = 4611686018427387904;
  form = record {
    sets_one = record { before = 0; actions = 3 } ∷ [];
    sets_two = [];
    leaves = weighted 1 0 (pos 1) ∷ weighted 2 0 (pos 0) ∷ weighted 3 0 (pos 0) ∷ [];
  };
}
