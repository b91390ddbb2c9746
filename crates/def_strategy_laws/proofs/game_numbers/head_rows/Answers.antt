use Rattle.std.proofs.Common.{refl}
use Rattle.def_fraction.specs.Divisors.{gcd}
use Rattle.def_fraction.specs.Fraction.{fraction_of}
use Rattle.def_strategy_laws.proofs.game_numbers.head_rows.Goals as goal

pub returns : goal.returns
unfolding gcd fraction_of
returns c = record {
  thirds_of_one = record {
    nodes_are = refl;
    leaves_are = refl;
    sets_of_one = refl;
    sets_of_two = refl;
    sequences_of_one = refl;
    sequences_of_two = refl;
    form_is = refl;
  };
  biased_coin = record {
    nodes_are = refl;
    leaves_are = refl;
    sets_of_one = refl;
    sets_of_two = refl;
    sequences_of_one = refl;
    sequences_of_two = refl;
    form_is = refl;
  };
  mass_at_limit = record {
    nodes_are = refl;
    leaves_are = refl;
    sets_of_one = refl;
    sets_of_two = refl;
    sequences_of_one = refl;
    sequences_of_two = refl;
    form_is = refl;
  };
  coin_before_choice = record {
    nodes_are = refl;
    leaves_are = refl;
    sets_of_one = refl;
    sets_of_two = refl;
    sequences_of_one = refl;
    sequences_of_two = refl;
    form_is = refl;
  };
  other_before_choice = record {
    nodes_are = refl;
    leaves_are = refl;
    sets_of_one = refl;
    sets_of_two = refl;
    sequences_of_one = refl;
    sequences_of_two = refl;
    form_is = refl;
  };
}
