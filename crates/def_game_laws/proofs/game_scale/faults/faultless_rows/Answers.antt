use Rattle.std.proofs.Common.{refl}
use Rattle.def_fraction.specs.Divisors.{gcd}
use Rattle.def_fraction.specs.Fraction.{fraction_of}
use Rattle.def_game_laws.proofs.game_scale.faults.faultless_rows.Goals as goal

pub returns : goal.returns
unfolding gcd fraction_of
returns c = record {
  thirds_of_one = record { fault = refl; sum_is = refl; unit_is = refl; weights_are = refl; mass_is = refl };
  biased_coin = record { fault = refl; sum_is = refl; unit_is = refl; weights_are = refl; mass_is = refl };
  mass_at_limit = record { fault = refl; sum_is = refl; unit_is = refl; weights_are = refl; mass_is = refl };
  coin_before_choice = record { fault = refl; sum_is = refl; unit_is = refl; weights_are = refl; mass_is = refl };
  other_before_choice = record { fault = refl; sum_is = refl; unit_is = refl; weights_are = refl; mass_is = refl };
  unit_at_limit = record { fault = refl; sum_is = refl; unit_is = refl; weights_are = refl; mass_is = refl };
  same_sum_at_leaves = record { fault = refl; sum_is = refl; unit_is = refl; weights_are = refl; mass_is = refl };
  inner_sum_past_limit = record { fault = refl; sum_is = refl; unit_is = refl; weights_are = refl; mass_is = refl };
  pot_of_seven = record { fault = refl; sum_is = refl; unit_is = refl; weights_are = refl; mass_is = refl };
  third_for_two = record { fault = refl; sum_is = refl; unit_is = refl; weights_are = refl; mass_is = refl };
  fifth_together = record { fault = refl; sum_is = refl; unit_is = refl; weights_are = refl; mass_is = refl };
  thirds_under_halves = record { fault = refl; sum_is = refl; unit_is = refl; weights_are = refl; mass_is = refl };
  first_leaf_unreached = record { fault = refl; sum_is = refl; unit_is = refl; weights_are = refl; mass_is = refl };
  sum_at_limit = record { fault = refl; sum_is = refl; unit_is = refl; weights_are = refl; mass_is = refl };
  whole_sum_at_limit = record { fault = refl; sum_is = refl; unit_is = refl; weights_are = refl; mass_is = refl };
  halves_within_limit = record { fault = refl; sum_is = refl; unit_is = refl; weights_are = refl; mass_is = refl };
}
