use Rattle.std.proofs.Common.{rules, sym, subst, arith}
use Rattle.std.proofs.lemmas.Nat.Gcd.{dvd_refl}
use Rattle.def_fraction.specs.Fraction.{zero_fraction}
use Rattle.def_game_numbers.specs.WholeSums.{IsWholeIn}
use Rattle.def_reply.specs.Outcome.{Outcome}
use Rattle.xg_cert_tests.proofs.plus_writing.even_outcome.Goals as goal

-- nothing is whole in the unit 1
nothing_whole : IsWholeIn 1 zero_fraction
nothing_whole = record { whole = dvd_refl 1; small = omega arith }

pub returns : goal.returns
returns c = record {
  outcome = record {
    unit = search rules;
    sum = subst (λ (outcome : Outcome). IsWholeIn outcome.head.unit outcome.head.sum) (sym c.new.ensures)
        (subst (IsWholeIn 1) (sym c.zero.ensures) nothing_whole);
    ends = search rules;
  };
}
